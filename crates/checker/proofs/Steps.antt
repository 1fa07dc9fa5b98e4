-- A place that breaks no rule lets the search go on behind its instruction: no start stands on the later bytes, and a
-- place without a start breaks no rule. A step has 1 to 6 bytes.
-- Assumes nothing.
use Rattle.types.specs.declared.code.Undecoded.{Undecoded}
use Rattle.std.specs.Prelude.{Ok, Err}
use Rattle.std.proofs.Common.{◌≡◌, ℕ, ◌+◌, ◌<◌, ◌≤◌, Bool, true, false, ltb, List, get_or, drop, refl, arith, ltb-false}
use Rattle.std.proofs.Common.{ltb-true}
use Rattle.types.specs.Answers.{Decoded, TestResult}
use Rattle.prelude.specs.Choice.{pick}
use Rattle.acceptance.specs.Image.{mark_m, mark_x}
use Rattle.acceptance.specs.Rules.{instruction_at, StartRules}
use Rattle.prelude.specs.First.{first_from}
use Rattle.acceptance.specs.Verdict.{start_at, decoded_result, start_result, broken_at, whole_tests}
use Rattle.instructions.proofs.Decode.{decodes}
use Rattle.prelude.proofs.First.{Passed, one_more_passed, passed_all}
use Rattle.acceptance.proofs.Verdict.{start_rules}
use Rattle.types.specs.declared.refusals.Refusal.{Refusal}
use Rattle.types.specs.declared.code.Instruction.{Instruction}
use Rattle.types.specs.Refusals.{first_refusal, undecoded_refusal}
use Rattle.checker.specs.Steps.{length_of, bytes_at, passed, step_at}

module _ (image marks : List ℕ) (at : ℕ) where
  abbrev decoded_here : Decoded
  decoded_here = instruction_at image marks at

  bytes_few : (1 ≤ length_of decoded_here) × (length_of decoded_here ≤ 6)
  bytes_few = by decoded_here refl
    where
      by : (d : Decoded) → decoded_here ≡ d → (1 ≤ length_of d) × (length_of d ≤ 6)
      by (Ok i) e =
          let d = decodes (drop at image) (mark_m (get_or marks at 0)) (mark_x (get_or marks at 0)) i e in (
            d.at_least,
            d.at_most,
          )
      by (Err Undecoded.NotCarried) e = (omega arith, omega arith)
      by (Err Undecoded.CutOff) e = (omega arith, omega arith)

  pub step_bytes : (1 ≤ bytes_at image marks at) × (bytes_at image marks at ≤ 6)
  unfolding bytes_at
  step_bytes = by (start_at marks at)
    where
      by : (b : Bool) → (1 ≤ pick b (length_of decoded_here) 1) × (pick b (length_of decoded_here) 1 ≤ 6)
      by true = bytes_few
      by false = (omega arith, omega arith)

module _ (image marks : List ℕ) (base at : ℕ) where
  abbrev broken : ℕ → Bool
  broken = broken_at image marks base

  not_broken : start_result image marks base at ≡ Ok tt → broken at ≡ false
  not_broken h = rw h refl

  at_no_start : (k : ℕ) → start_at marks k ≡ false → broken k ≡ false
  unfolding start_result
  at_no_start k h = rw h refl

  over : StartRules image marks base at → start_result image marks base at ≡ Ok tt → Passed broken 0 at
      → Passed broken 0 (at + length_of (decoded_here image marks at))
  over r h p = rw r.whole (omega arith, λ k low high. by k high (ltb k at) (ltb at k) refl refl)
    where
      by : (k : ℕ) → k < at + r.instruction.length → (a b : Bool) → ltb k at ≡ a → ltb at k ≡ b → broken k ≡ false
      by k high true b below above = p.1 k (omega arith) (ltb-true k at below)
      by k high false true below above = at_no_start k (r.no_overlap k (ltb-true at k above) high)
      by k high false false below above =
          let here : k ≡ at = omega (arith, ltb-false k at below, ltb-false at k above) in
          rw here (not_broken h)

  pub stepped : start_result image marks base at ≡ Ok tt
      → Passed broken 0 at → Passed broken 0 (at + bytes_at image marks at)
  unfolding bytes_at
  stepped h p = by (start_at marks at) refl
    where
      by : (b : Bool) → start_at marks at ≡ b → Passed broken 0
          (at + pick b (length_of (decoded_here image marks at)) 1)
      by true e = over (start_rules image marks base at e h) h p
      by false e = one_more_passed broken 0 at p (not_broken h)

-- a search that went past the end has found nothing
pub passed_past : (test : ℕ → Bool) (i n : ℕ) → Passed test 0 i → n ≤ i → n ≡ first_from test 0 n
passed_past test i n p past =
    passed_all test 0 n n (omega arith, λ k low high. p.1 k low (omega arith)) (omega arith) (omega arith)

-- what a step shows
module _ (image marks : List ℕ) (base at : ℕ) where
  -- a step that passes: no rule is broken, and the search goes on behind it
  pub step_passed : (bytes : ℕ) → Ok bytes ≡ step_at image marks base at
      → (start_result image marks base at ≡ Ok tt) × (bytes ≡ bytes_at image marks at)
  step_passed bytes = by (start_result image marks base at) refl
    where
      by : (so : TestResult) → start_result image marks base at ≡ so
          → Ok bytes ≡ passed so (bytes_at image marks at)
          → (start_result image marks base at ≡ Ok tt) × (bytes ≡ bytes_at image marks at)
      by (Ok _) e s = (e, cc)
      by (Err why) e s = let z : ◌≡◌ {A = ℕ} 0 1 = cc in absurd (omega arith)

  pub step_failed : (why : Refusal) → Err why ≡ step_at image marks base at
      → start_result image marks base at ≡ Err why
  step_failed why = by (start_result image marks base at) refl
    where
      by : (so : TestResult) → start_result image marks base at ≡ so
          → Err why ≡ passed so (bytes_at image marks at) → start_result image marks base at ≡ Err why
      by (Ok _) e s = let z : ◌≡◌ {A = ℕ} 0 1 = cc in absurd (omega arith)
      by (Err other) e s = cc

  pub few_bytes : (bytes : ℕ) → Ok bytes ≡ step_at image marks base at → (1 ≤ bytes) × (bytes ≤ 6)
  few_bytes bytes e = rw (step_passed bytes e).1 (step_bytes image marks at)

  pub goes_on : (bytes : ℕ) → Ok bytes ≡ step_at image marks base at → Passed (broken_at image marks base) 0 at
      → Passed (broken_at image marks base) 0 (at + bytes)
  goes_on bytes e p = rw (step_passed bytes e).1 (stepped image marks base at (step_passed bytes e).0 p)

-- a step, by what stands at its place
module _ (image marks : List ℕ) (base at : ℕ) where
  pub no_start_step : start_at marks at ≡ false → Ok 1 ≡ step_at image marks base at
  unfolding start_result bytes_at
  no_start_step h = rw h refl

  module _ (starts : start_at marks at ≡ true) where
    pub undecoded_step : (why : Undecoded) → Err why ≡ instruction_at image marks at
        → Err (undecoded_refusal why) ≡ step_at image marks base at
    unfolding start_result bytes_at decoded_result
    undecoded_step Undecoded.NotCarried e = rw (starts, ← e) refl
    undecoded_step Undecoded.CutOff e = rw (starts, ← e) refl

    module _ (i : Instruction) (e : Ok i ≡ instruction_at image marks at) where
      pub broken_step : (why : Refusal) → Err why ≡ first_refusal (whole_tests marks base at i)
          → Err why ≡ step_at image marks base at
      unfolding start_result bytes_at decoded_result
      broken_step why broken = rw (starts, ← e, ← broken) refl

      pub whole_step : (done : Unit {0}) → Ok done ≡ first_refusal (whole_tests marks base at i)
          → Ok i.length ≡ step_at image marks base at
      unfolding start_result bytes_at decoded_result
      whole_step done held = rw (starts, ← e, ← held) refl
