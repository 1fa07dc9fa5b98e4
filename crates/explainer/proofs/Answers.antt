-- What the check's answer tells: what the tests before a refusal have shown, and that the explainer's answer fits its
-- packing.
-- Assumes nothing.
use Rattle.std.specs.Prelude.{Ok}
use Rattle.std.proofs.Common.{◌≡◌, ℕ, ◌+◌, ◌≤◌, ◌<◌, Bool, true, false, List, leb, length, arith}
use Rattle.types.specs.declared.refusals.Refusal.{Refusal}
use Rattle.types.specs.Answers.{refused_at}
use Rattle.types.specs.Addresses.{address_limit}
use Rattle.types.specs.Refusals.{refusal_number}
use Rattle.types.proofs.TestResults.{refusal_range, same_refusal}
use Rattle.prelude.specs.Choice.{pick}
use Rattle.packing.specs.Packed.{PrintedFits}
use Rattle.acceptance.specs.Image.{length_fits, base_fits}
use Rattle.acceptance.specs.Meaning.{Breaks}
use Rattle.acceptance.specs.Verdict.{verdict}
use Rattle.acceptance.proofs.Image.{right_length, base_whole}
use Rattle.acceptance.proofs.Meaning.{refused_means}
use Rattle.reports.specs.Explanation.{line_limit, explanation, explained}

-- from 3 on, 1 and 2 are passed: image and marks are of one length and end within the addresses; from 4 on there is a
-- place
pub record Shown (image marks : List ℕ) (base at : ℕ) (why : Refusal) : Type 0 where
  pub same : 3 ≤ refusal_number why → length marks ≡ length image
  pub low : 3 ≤ refusal_number why → base + length marks ≤ address_limit
  pub inside : 4 ≤ refusal_number why → at < length marks

module _ (image marks : List ℕ) (base reset : ℕ) where
  lengths : length_fits (length image) (length marks) ≡ true → length marks ≡ length image
  lengths l = (right_length (length image) (length marks) l).same

  ends_low : length_fits (length image) (length marks) ≡ true → base_fits base (length image) ≡ true
      → base + length marks ≤ address_limit
  ends_low l b = omega (arith, lengths l, base_whole base (length image) b)

  shown : (why : Refusal) (at : ℕ) → Breaks image marks base reset why at → Shown image marks base at why
  shown why at (Breaks.wrong_length l) =
      record { same = λ h. absurd (omega arith); low = λ h. absurd (omega arith); inside = λ h. absurd (omega arith) }
  shown why at (Breaks.wrong_base l b) =
      record { same = λ h. absurd (omega arith); low = λ h. absurd (omega arith); inside = λ h. absurd (omega arith) }
  shown why at (Breaks.wrong_mark l b at' inside f below) =
      record { same = λ h. lengths l; low = λ h. ends_low l b; inside = λ h. inside }
  shown why at (Breaks.wrong_reset l b f r) =
      record { same = λ h. lengths l; low = λ h. ends_low l b; inside = λ h. absurd (omega arith) }
  shown why at (Breaks.wrong_start l b f r at' why' inside s breaks below) =
      record { same = λ h. lengths l; low = λ h. ends_low l b; inside = λ h. inside }

  pub refused_shows : (why : Refusal) (at : ℕ) → verdict image marks base reset ≡ refused_at why at
      → Shown image marks base at why
  refused_shows why at e = shown why at (refused_means image marks base reset why at e)

-- a refusal that is none of the first three has a later number
pub past_three : (why : Refusal) → (why ≡ Refusal.Length → ⊥) → (why ≡ Refusal.Base → ⊥) → (why ≡ Refusal.Reset → ⊥)
    → 4 ≤ refusal_number why
past_three why not-length not-base not-reset =
    let one : refusal_number why ≡ 1 → ⊥ = λ e. not-length (same_refusal why Refusal.Length e) in
    let two : refusal_number why ≡ 2 → ⊥ = λ e. not-base (same_refusal why Refusal.Base e) in
    let three : refusal_number why ≡ 3 → ⊥ = λ e. not-reset (same_refusal why Refusal.Reset e) in
    omega (arith, refusal_range why)

-- ---- the answer, as numbers

pub explained_fits : (image marks : List ℕ) (base reset : ℕ) (page : List ℕ)
    → length (explanation image marks base reset) ≤ line_limit → PrintedFits (explained image marks base reset page)
unfolding explained
explained_fits image marks base reset page short =
    by (leb (length (explanation image marks base reset)) (length page))
  where
    by : (b : Bool) → PrintedFits
        (pick b (Ok (length (explanation image marks base reset))) (refused_at Refusal.Page 0))
    by true = omega arith
    by false = omega arith
