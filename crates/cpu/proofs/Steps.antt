-- Statuses made one after another, each from the one before.
-- Assumes nothing.
use Rattle.std.proofs.Common.{◌≡◌, ℕ, ◌*◌, ◌/◌, Bool, false, refl, sym, ap, ◌∙◌, add-zero}
use Rattle.types.specs.declared.machine.Status.{Status}
use Rattle.anywidth.specs.AnyWidth.{is_past, shifted_left, shifted_right}
use Rattle.semantics.specs.Arithmetic.{with_carry, with_overflow}
use Rattle.cpu.specs.FileEffects.{worked}

-- what is made of a status is made of an equal one
pub through : {A : Type 0} (f : Status → A) {e : A} {s s' : Status} → e ≡ f s → s ≡ s' → e ≡ f s'
through f made same = made ∙ ap f same

-- a value worked out with C in, then its C put, then its V
module _ (value : Bool → ℕ) (overflows : Bool → Bool) (n : ℕ) (s : Status) where
  pub flagged : {carry past over : Bool} {v : ℕ} {carried made : Status} → carry ≡ s.carry → v ≡ value carry
      → past ≡ is_past n v → carried ≡ with_carry past s → over ≡ overflows carry → made ≡ with_overflow over carried
      → worked v made ≡ worked (value s.carry)
      (with_overflow (overflows s.carry) (with_carry (is_past n (value s.carry)) s))
  flagged taken worth passed put-c outside put-v = rw (put-v, put-c, outside, passed, worth, taken) refl

-- a shift where no bit comes in
pub none_below : (v : ℕ) (s : Status) → worked (2 * v) s ≡ worked (shifted_left v false) s
none_below v s = ap (λ k. worked k s) (sym (add-zero (2 * v)))

pub none_above : (n v : ℕ) (s : Status) → worked (v / 2) s ≡ worked (shifted_right n v false) s
none_above n v s = ap (λ k. worked k s) (sym (add-zero (v / 2)))
