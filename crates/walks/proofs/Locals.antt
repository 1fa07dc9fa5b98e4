-- Two rules for a function's locals, where entry n of the context is a local's cell. The local is read as an operand;
-- and at a return it is given up whatever it holds, where the entry after it says that its room may be freed.
-- Assumes `Logic`.
use mathlib.Core.Path.{◌≡◌, subst}
use Prim.Native.Nat.{ℕ, zero}
use mathlib.Core.List.{List, [], ◌∷◌}
use seplogic.Ra.Ura.{Ura}
use base.Fraction.{full_share}
use mir.Syntax.{Ty, copy, place}
use mir.Val.{Val}
use base.Logic.{ent, sep, via, assoc', mono∗, mono_r}
use base.Fml.{Share, fat, fdies}
use prog.Wp.{Env, spot_of}
use types.Logic.{Logic}
use types.Kit.{Goal, Item, Step, step, ‵, mean, ⋆, nth, del, pull, frees}
use types.Run.{Opd, look, stop, from, load}

module _ {M : Type 1} {𝓤 : Ura M} {𝓛 : Logic 𝓤} {K : Type 0} {Γ : List (Item 𝓤)}
    {E : Env 𝓤 𝓛.H} where
  open 𝓛 use {H}

  pub local_at : K → (n : ℕ) {i : ℕ} {q : Share} {v : Val}
      → nth 𝓛 n Γ ≡ ‵ (fat q (spot_of 𝓤 H E i).0 (spot_of 𝓤 H E i).1 zero v) → Opd K 𝓛 Γ E (copy (place i [])) v
  local_at t n cell = load t (from t (stop t)) (look t n cell)

  pub gone : K → (n : ℕ) {τ : Ty} {b : ℕ} {v : Val} {g : Goal 𝓤 H}
      → nth 𝓛 n Γ ≡ ‵ (fat full_share τ b zero v) → nth 𝓛 n (del 𝓛 n Γ) ≡ ‵ (fdies τ b)
      → Step K 𝓛 (del 𝓛 n (del 𝓛 n Γ)) (frees E g) Γ (frees ((τ, b) ∷ E) g)
  gone t n {τ} {b} {v} cell dies =
      let rest = del 𝓛 n Γ in
      let others = ⋆ 𝓛 (del 𝓛 n rest) in
      let room = H.room τ b zero in
      step (λ s. record {
        prf =
            via 𝓤 (sep 𝓤 (H.at full_share τ b zero v) (⋆ 𝓛 rest))
            (subst (λ (j : Item 𝓤). ent 𝓤 (⋆ 𝓛 Γ) (sep 𝓤 (mean 𝓛 j) (⋆ 𝓛 rest))) cell (pull 𝓛 n Γ))
            (via 𝓤 (sep 𝓤 room (sep 𝓤 (H.dies τ b) others))
            (mono∗ 𝓤 (𝓛.laws.at_room τ b zero v)
            (subst (λ (j : Item 𝓤). ent 𝓤 (⋆ 𝓛 rest) (sep 𝓤 (mean 𝓛 j) others)) dies (pull 𝓛 n rest)))
            (via 𝓤 (sep 𝓤 (sep 𝓤 room (H.dies τ b)) others) (assoc' 𝓤 room (H.dies τ b) others)
            (mono_r 𝓤 (sep 𝓤 room (H.dies τ b)) s.prf)));
      })
