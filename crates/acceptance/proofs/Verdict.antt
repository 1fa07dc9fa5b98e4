-- The verdict is 'accepted' exactly when all rules of acceptance hold. Each test of the verdict is turned into the rule
-- that it tests, and no test refuses exactly when all of them hold, in whatever order they stand: what the order means
-- is said in Meaning.antt.
-- Assumes nothing.
use Rattle.types.specs.declared.code.Undecoded.{Undecoded}
use Rattle.std.specs.Prelude.{Ok, Err}
use mathlib.Core.Path.{◌≡◌, refl}
use mathlib.Core.Logic.{◌↔◌}
use mathlib.Core.Bool.{Bool, true, false}
use mathlib.Core.List.{List}
use Prim.Native.Nat.{ℕ, ◌+◌, ◌-◌, ◌%◌, ◌≤◌, ◌<◌}
use native.Mathlib.Omega.{arith}
use borrow.Author.Tests.{eqb-true, eq-eqb, ltb-true, ltb-false, not-false}
use lib.Dec.{ltb}
use lib.ListN.{length, get_or, get_or-eq_default}
use Rattle.prelude.proofs.Choice.{both_true}
use Rattle.types.specs.declared.code.Instruction.{Instruction}
use Rattle.types.specs.Answers.{Decoded, refused_at, Verdict}
use Rattle.types.specs.declared.refusals.Refusal.{Refusal}
use Rattle.types.specs.declared.rules.Requirement.{Requirement}
use Rattle.types.specs.declared.rules.Requirements.{Requirements}
use Rattle.prelude.specs.Choice.{pick}
use Rattle.acceptance.specs.Image.{is_formed, mark_at}
use Rattle.types.specs.Refusals.{first_refusal}
use Rattle.acceptance.specs.Rules.{owed_there, instruction_at, Met, AllMet, StartRules, Accepts}
use Rattle.prelude.specs.First.{first_from}
use Rattle.acceptance.specs.Verdict.{start_at, is_clear, is_start_at, all_starts, has_mark_at, all_marks, whole_tests}
use Rattle.acceptance.specs.Verdict.{decoded_result, start_result, broken_at, bad_start, starts_verdict, unformed_at}
use Rattle.acceptance.specs.Verdict.{bad_mark, all_formed, marks_tests, verdict}
use Rattle.prelude.proofs.First.{first_is, first_only, none_holds, found_none, none_found}
use Rattle.types.proofs.TestResults.{shown, none_fails, all_passed, failed_passed, not_failed}

-- ---- 7: no start on the later bytes

pub clear_all : (marks : List ℕ) (at n : ℕ) → is_clear marks at n ≡ true → (k : ℕ) → at < k → k < at + n → start_at
    marks k ≡ false
unfolding is_clear
clear_all marks at n h k low high =
    let f = first_is (start_at marks) (at + 1) (n - 1) in
    let e = eqb-true (first_from (start_at marks) (at + 1) (n - 1)) (at + 1 + (n - 1)) h in
    f.before k (omega arith) (omega arith)

all_clear : (marks : List ℕ) (at n : ℕ) → ((k : ℕ) → at < k → k < at + n → start_at marks k ≡ false) → is_clear marks
    at n ≡ true
unfolding is_clear
all_clear marks at n h =
    eq-eqb (first_from (start_at marks) (at + 1) (n - 1)) (at + 1 + (n - 1))
    (first_only (start_at marks) (at + 1) (n - 1) (first_from (start_at marks) (at + 1) (n - 1)) (at + 1 + (n - 1))
    (first_is (start_at marks) (at + 1) (n - 1))
    (record {
      at_most = omega arith;
      at_least = omega arith;
      before = λ k low high. h k (omega arith) (omega arith);
      found = λ inside. absurd (omega arith);
    }))

-- ---- 8 and 9: the requirements

met_tests : (marks : List ℕ) (base : ℕ) (w : Requirement) → is_start_at marks base w ≡ true
    → has_mark_at marks base w ≡ true
    → Met marks base w
unfolding is_start_at has_mark_at
met_tests marks base w s m = record {
  start_there = s;
  has_mark = eqb-true (mark_at marks base w.address) w.mark m;
}

met_start : (marks : List ℕ) (base : ℕ) (w : Requirement) → Met marks base w → is_start_at marks base w ≡ true
unfolding is_start_at
met_start marks base w m = m.start_there

met_mark : (marks : List ℕ) (base : ℕ) (w : Requirement) → Met marks base w → has_mark_at marks base w ≡ true
unfolding has_mark_at
met_mark marks base w m = eq-eqb (mark_at marks base w.address) w.mark m.has_mark

all_met : (marks : List ℕ) (base : ℕ) (o : Requirements) → all_starts marks base o ≡ true
    → all_marks marks base o ≡ true →
    AllMet marks base o
unfolding all_starts all_marks
all_met marks base Requirements.Nothing s m = tt
all_met marks base (Requirements.One w) s m = met_tests marks base w s m
all_met marks base (Requirements.Two v w) s m =
    let starts = both_true (is_start_at marks base v) (is_start_at marks base w) s in
    let same = both_true (has_mark_at marks base v) (has_mark_at marks base w) m in
    (met_tests marks base v starts.0 same.0, met_tests marks base w starts.1 same.1)

met_all : (marks : List ℕ) (base : ℕ) (o : Requirements) → AllMet marks base o
    → (all_starts marks base o ≡ true) × (all_marks marks base o ≡ true)
unfolding all_starts all_marks
met_all marks base Requirements.Nothing m = (refl, refl)
met_all marks base (Requirements.One w) m = (met_start marks base w m, met_mark marks base w m)
met_all marks base (Requirements.Two v w) m = (
  rw (met_start marks base v m.0) (met_start marks base w m.1),
  rw (met_mark marks base v m.0) (met_mark marks base w m.1),
)

-- ---- the rules at one start

module _ (image marks : List ℕ) (base at : ℕ) where
  whole_rules : (i : Instruction) → first_refusal (whole_tests marks base at i) ≡ Ok tt
      → instruction_at image marks at ≡ Ok i → StartRules image marks base at
  whole_rules i h whole =
      let t = shown (whole_tests marks base at i) h in
      record {
        instruction = i;
        whole = whole;
        no_overlap = clear_all marks at i.length t.0;
        returns = t.1.0;
        successors = all_met marks base (owed_there marks base at i) t.1.1.0 t.1.1.1.0;
      }

  rules_whole : (r : StartRules image marks base at)
      → first_refusal (whole_tests marks base at r.instruction) ≡ Ok tt
  rules_whole r =
      let met = met_all marks base (owed_there marks base at r.instruction) r.successors in
      none_fails (whole_tests marks base at r.instruction)
      (all_clear marks at r.instruction.length r.no_overlap, (r.returns, (met.0, (met.1, tt))))

  -- a start that breaks no rule keeps them all
  pub start_rules : start_at marks at ≡ true → start_result image marks base at ≡ Ok tt
      → StartRules image marks base at
  unfolding start_result decoded_result
  start_rules s h = by (instruction_at image marks at) refl (rw s at h)
    where
      by : (d : Decoded) → instruction_at image marks at ≡ d
          → decoded_result marks base at d ≡ Ok tt → StartRules image marks base at
      by (Err Undecoded.NotCarried) e p = absurd (failed_passed p)
      by (Err Undecoded.CutOff) e p = absurd (failed_passed p)
      by (Ok i) e p = whole_rules i p e

  pub rules_start : (start_at marks at ≡ true → StartRules image marks base at)
      → start_result image marks base at ≡ Ok tt
  unfolding start_result decoded_result
  rules_start rules = by (start_at marks at) refl
    where
      by : (b : Bool) → start_at marks at ≡ b
          → pick b (decoded_result marks base at (instruction_at image marks at)) (Ok tt) ≡ Ok tt
      by false e = refl
      by true e = let r = rules e in rw r.whole (rules_whole r)

-- ---- the verdict

pub formed_all : (marks : List ℕ) → all_formed marks ≡ true → (at : ℕ) → at < length marks
    → is_formed (get_or marks at 0) ≡ true
unfolding bad_mark
formed_all marks h at inside =
    not-false (is_formed (get_or marks at 0)) (none_found (unformed_at marks) (length marks) h at inside)

refused_accepts : (why : Refusal) (at : ℕ) → ◌≡◌ {A = Verdict} (refused_at why at) (Ok tt) → ⊥
refused_accepts why at e = let z : ◌≡◌ {A = ℕ} 0 1 = cc in absurd (omega arith)

-- no start stands past the marks
pub start_inside : (marks : List ℕ) (at : ℕ) → start_at marks at ≡ true → at < length marks
start_inside marks at s = by (ltb at (length marks)) refl
  where
    by : (b : Bool) → ltb at (length marks) ≡ b → at < length marks
    by true e = ltb-true at (length marks) e
    by false e =
        let none : get_or marks at 0 ≡ 0 = get_or-eq_default marks 0 (ltb-false at (length marks) e) in
        absurd (omega (arith, eqb-true (0 % 2) 1 (rw none at s)))

module _ (image marks : List ℕ) (base reset : ℕ) where
  -- accepted, and all rules hold
  pub accepted_rules : verdict image marks base reset ≡ Ok tt → Accepts image marks base reset
  unfolding verdict starts_verdict bad_start
  accepted_rules h =
      let tests = all_passed (first_refusal (marks_tests (length image) marks base reset)) _
      (λ why. refused_accepts why _) h in
      let held = shown (marks_tests (length image) marks base reset) tests.0 in
      let at-bad = (all_passed (start_result image marks base (bad_start image marks base)) _
      (λ why. refused_accepts why _) tests.1).0 in
      record {
        right_length = held.0;
        right_base = held.1.0;
        formed = formed_all marks held.1.1.0;
        at_reset = held.1.1.1.0;
        at_starts = λ at inside s. start_rules image marks base at s (not_failed (start_result image marks base at)
            (none_holds (broken_at image marks base) (length marks) (rw at-bad refl) at inside));
      }

  -- all rules hold, and accepted
  pub rules_accepted : Accepts image marks base reset → verdict image marks base reset ≡ Ok tt
  unfolding verdict starts_verdict bad_mark
  rules_accepted a =
      let formed = found_none (unformed_at marks) (length marks) (λ k inside. rw (a.formed k inside) refl) in
      rw (
        none_fails (marks_tests (length image) marks base reset)
            (a.right_length, (a.right_base, (formed, (a.at_reset, tt)))),
        rules_start image marks base (bad_start image marks base) (λ s. a.at_starts _ (start_inside marks _ s) s),
      )

  -- demand 2: 'The check accepts an image with its marks exactly when all rules of document 01 are met'
  pub accepts_exactly : (verdict image marks base reset ≡ Ok tt) ↔ Accepts image marks base reset
  accepts_exactly = (accepted_rules, rules_accepted)

-- ---- the search for a bad mark ends at the last mark at most

pub bad_mark_most : (marks : List ℕ) → bad_mark marks ≤ length marks
unfolding bad_mark
bad_mark_most marks = omega (arith, (first_is (unformed_at marks) 0 (length marks)).at_most)

-- ---- the verdict of a loop over the starts

module _ (image marks : List ℕ) (base : ℕ) where
  pub stopped_at : (i : ℕ) (why : Refusal) → i ≡ bad_start image marks base
      → start_result image marks base i ≡ Err why
      → refused_at why i ≡ starts_verdict image marks base
  unfolding starts_verdict
  stopped_at i why at e = rw (← at, e)

  pub passed_over : length marks ≡ bad_start image marks base → Ok tt ≡ starts_verdict image marks base
  unfolding starts_verdict
  passed_over at =
      rw (
        ← at,
        rules_start image marks base (length marks)
            (λ s. absurd (omega (arith, start_inside marks (length marks) s))),
      )
