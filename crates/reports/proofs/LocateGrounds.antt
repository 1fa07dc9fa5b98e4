-- The locator refuses by the first ground that holds: each of its tests is turned into its ground, and the law of
-- FirstGround.antt does the rest.
-- Assumes nothing.
use Rattle.std.specs.Prelude.{Ok}
use mathlib.Core.Logic.{◌⊎◌, inl, inr}
use mathlib.Core.Bool.{true≢false, ◌&&◌}
use mathlib.Core.List.{List, [], ◌∷◌}
use mathlib.Core.Path.{◌≡◌, refl}
use Prim.Native.Nat.{ℕ, zero, suc, ◌≤◌, ◌+◌, ◌<◌}
use native.Mathlib.Omega.{arith}
use lib.Dec.{ltb, leb}
use lib.ListN.{length}
use Rattle.types.specs.Answers.{refused_at}
use Rattle.reports.specs.LocateGrounds.{Unordered, HoldsOutside, WrongAddresses, locate_grounds, LocateAnswers}
use Rattle.reports.specs.Locate.{is_ascending, all_inside, address_count, addresses_fit, pass_over, locate_tests}
use Rattle.reports.specs.Locate.{located_by, located}
use Rattle.acceptance.proofs.Grounds.{FailsOn, either, not_below, above, of_three}
use Rattle.acceptance.proofs.Verdict.{accepts_exactly}
use Rattle.acceptance.proofs.FirstGround.{answers_by}
use Rattle.types.proofs.TestResults.{same_refused}

-- ---- 16

unordered : (addresses : List ℕ) → FailsOn (is_ascending addresses) (Unordered addresses)
unfolding is_ascending
unordered [] = (λ e. absurd (true≢false e), λ h. absurd (omega (arith, h.1)))
unordered (a ∷ []) = (λ e. absurd (true≢false e), λ h. absurd (omega (arith, h.1)))
unordered (a ∷ b ∷ rest) =
    let d = either (ltb a b) (is_ascending (b ∷ rest)) (not_below a b) (unordered (b ∷ rest)) in
    (λ e. later (d.0 e), λ h. d.1 (sooner h))
  where
    later : (b ≤ a) ⊎ Unordered (b ∷ rest) → Unordered (a ∷ b ∷ rest)
    later (inl low) = (0, omega arith, low)
    later (inr (k, inside, low)) = (suc k, omega arith, low)

    sooner : Unordered (a ∷ b ∷ rest) → (b ≤ a) ⊎ Unordered (b ∷ rest)
    sooner (zero, inside, low) = inl low
    sooner (suc k, inside, low) = inr (k, omega arith, low)

outside : (base size : ℕ) (addresses : List ℕ)
    → FailsOn (all_inside base size addresses) (HoldsOutside base size addresses)
unfolding all_inside
outside base size [] = (λ e. absurd (true≢false e), λ h. absurd (omega (arith, h.1)))
outside base size (a ∷ rest) =
    let here = either (leb base a) (ltb a (base + size)) (above base a) (not_below a (base + size)) in
    let d = either (leb base a && ltb a (base + size)) (all_inside base size rest) here (outside base size rest) in
    (λ e. later (d.0 e), λ h. d.1 (sooner h))
  where
    later : ((a < base) ⊎ (base + size ≤ a)) ⊎ HoldsOutside base size rest → HoldsOutside base size (a ∷ rest)
    later (inl wrong) = (0, omega arith, wrong)
    later (inr (k, inside, wrong)) = (suc k, omega arith, wrong)

    sooner : HoldsOutside base size (a ∷ rest) → ((a < base) ⊎ (base + size ≤ a)) ⊎ HoldsOutside base size rest
    sooner (zero, inside, wrong) = inl wrong
    sooner (suc k, inside, wrong) = inr (k, omega arith, wrong)

wrong_addresses : (base size : ℕ) (addresses : List ℕ)
    → FailsOn (addresses_fit base size addresses) (WrongAddresses base size addresses)
unfolding addresses_fit
wrong_addresses base size addresses =
    of_three (leb (length addresses) address_count) (is_ascending addresses) (all_inside base size addresses)
    (above (length addresses) address_count) (unordered addresses) (outside base size addresses)

-- 16, then 15
pub locate_answers : LocateAnswers
unfolding located located_by
locate_answers image marks base reset addresses places rules =
    rw ((accepts_exactly image marks base reset).1 rules)
    (answers_by (λ why. refused_at why 0) (Ok (pass_over image marks base addresses).read)
    (record {
      one = λ why other e. (same_refused e).0;
      none = λ why e. let z : ◌≡◌ {A = ℕ} 0 1 = cc in absurd (omega arith);
    })
    (locate_grounds base (length image) addresses (length places))
    (locate_tests base (length image) addresses (length places)) refl
    (wrong_addresses base (length image) addresses, λ _. (above (length addresses) (length places), λ _. tt)))
