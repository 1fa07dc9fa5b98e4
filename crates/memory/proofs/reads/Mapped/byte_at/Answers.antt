-- Above RAM and from the base on, the image's byte or none.
use mathlib.Core.Path.{◌≡◌, refl, sym, ap, ◌∙◌}
use mathlib.Core.List.{List}
use mathlib.Core.Logic.{◌⊎◌, ⊎_elim, inl, inr}
use Prim.Native.Nat.{ℕ, ◌<◌, ◌≤◌, ◌-◌}
use lib.ListN.{length, get_or}
use denote.Bor.{Bor}
use Rattle.std.specs.Prelude.{Option, Some, None}
use Rattle.std.specs.List.{HoldsAt}
use Rattle.std.specs.Option.{option_copied, MatchOption}
use Rattle.semantics.proofs.Memory.{byte_in_image, byte_past_image}
use Rattle.memory.proofs.reads.Mapped.byte_at.Goals as goal

looked : (o : Option (Bor ℕ)) (l : List ℕ) (i : ℕ)
    → MatchOption o (length l ≤ i) (λ x. (i < length l) × HoldsAt (λ y. x.now ≡ y) l i)
    → ((i < length l) × (option_copied o ≡ Some (get_or l i 0))) ⊎ ((length l ≤ i) × (option_copied o ≡ None))
looked (Some x) l i h = inl (h.0, ap Some (h.1 0))
looked None l i h = inr (h, refl)

pub returns : goal.returns
returns c =
    ⊎_elim
    (λ w. c.copied.ensures ∙ w.1 ∙ sym (byte_in_image _ _ _ _ c.if-address-self.false c.if-address-from.false w.0))
    (λ w. c.copied.ensures ∙ w.1 ∙ sym (byte_past_image _ _ _ _ c.if-address-self.false c.if-address-from.false w.0))
    (looked c.get.result c.args.self.now.image.now (c.args.address - c.args.self.now.base) c.get.ensures.lookup.3)
