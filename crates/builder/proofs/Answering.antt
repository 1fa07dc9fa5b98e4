-- From what is found to the answer: whether the routines fit, whether the marks that were closed up are admitted, and
-- what both say of the call.
-- Assumes nothing.
use Rattle.std.specs.Prelude.{Ok, Err}
use mathlib.Core.Path.{◌≡◌, refl, sym, ap, subst, ◌∙◌}
use mathlib.Core.Logic.{◌⊎◌, inl, inr}
use mathlib.Core.Bool.{Bool, true, false, true≢false, ◌&&◌}
use mathlib.Core.List.{List, ◌++◌, append-nil}
use Prim.Native.Nat.{ℕ, ◌+◌, ◌≤◌, ◌<◌}
use native.Mathlib.Omega.{arith}
use borrow.Author.Tests.{eq-eqb, ne_eqb, ltb-true, ltb-false}
use lib.Dec.{ltb, leb}
use lib.ListN.{length, get_or, drop, drop_of_length-le, get_or-eq_default}
use Rattle.types.specs.declared.refusals.Refusal.{Refusal}
use Rattle.types.specs.Answers.{TestResult, Verdict}
use Rattle.types.specs.Addresses.{address_limit}
use Rattle.types.specs.Refusals.{Tests, first_refusal}
use Rattle.prelude.proofs.First.{Passed, passed_to, passed_all}
use Rattle.packing.specs.Packed.{packed_verdict}
use Rattle.packing.proofs.Unpacked.{accepted_zero}
use Rattle.marklist.proofs.Reading.{nothing_left}
use Rattle.acceptance.specs.Image.{start_count}
use Rattle.acceptance.specs.Verdict.{start_at, verdict}
use Rattle.lists.specs.MarkList.{digits_by, first_address, marks_shown, lines_left}
use Rattle.lists.specs.Routines.{has_old_lines, routine_digits, first_routine, routine_marks, routines_inside}
use Rattle.lists.specs.Routines.{routine_limit}
use Rattle.lists.specs.Routines.{routines_fit, StandsIn, Plain, stands_in, stray_at, all_are_listed, accepted_by}
use Rattle.lists.specs.Routines.{is_admitted}
use Rattle.lists.specs.Routines.{form_tests, built, marks_built, WithinLimits}
use Rattle.acceptance.proofs.Image.{RightLength, right_length, base_whole}
use Rattle.lists.proofs.MarkList.{formed_mark, all_formed_lem, length_shown}
use Rattle.lists.proofs.ListAnswers.{list_base}
use Rattle.types.proofs.TestResults.{AllHold, shown, ends}
use Rattle.lists.proofs.LeastMarks.{tested_stands, routines_refuse, within_limits, refused_keeps, Complete}
use Rattle.lists.proofs.LeastMarks.{worked_delivered, worked_refused}
use Rattle.builder.specs.Order.{Closed}
use Rattle.builder.proofs.Worklist.{complete}

-- ---- 17: the routines

module _ (base n : ℕ) (text : List ℕ) (old : Bool) (is-old : old ≡ has_old_lines text) (first : ℕ)
    (is-first : first ≡ first_address (digits_by old) base) where
  pub is_table : (table : List ℕ) → table ≡ marks_shown (digits_by old) first n text → table ≡ routine_marks base n text
  unfolding routine_marks
  is_table table e = rw (is-first, is-old) at e

  module _ (end : ℕ) (inside : end ≤ length text) (left : drop end text ≡ lines_left (digits_by old) first n text)
    where
      is_left : drop end text ≡ lines_left (routine_digits text) (first_routine base text) n text
      is_left = rw (is-first, is-old) at left

      pub some_left : (end ≡ length text → ⊥) → false ≡ routines_fit base n text
      unfolding routines_fit routines_inside
      some_left other = rw (← is_left, ← nothing_left text end inside, ne_eqb end (length text) other)

      pub none_left : end ≡ length text → (count : ℕ) → count ≡ start_count (routine_marks base n text)
          → leb count routine_limit ≡ routines_fit base n text
      unfolding routines_fit routines_inside
      none_left same count e = rw (← is_left, ← nothing_left text end inside, eq-eqb end (length text) same, e)

-- ---- every call's target is on the list

module _ (image marks : List ℕ) (base : ℕ) (routines : List ℕ) (i : ℕ)
    (so : Passed (stray_at image marks base routines) 0 i) where
  pub one_stray : i < length marks → stray_at image marks base routines i ≡ true
      → false ≡ all_are_listed image marks base routines
  unfolding all_are_listed
  one_stray inside stray =
      rw (← passed_to (stray_at image marks base routines) 0 i (length marks) so (omega arith) stray)
      (sym (ne_eqb i (length marks) (λ e. omega arith)))

  pub none_stray : i ≤ length marks → length marks ≤ i → true ≡ all_are_listed image marks base routines
  unfolding all_are_listed
  none_stray most least =
      rw (← passed_all (stray_at image marks base routines) 0 i (length marks) so (omega arith) (omega arith))
      (sym (eq-eqb i (length marks) (omega arith)))

-- ---- the marks that were closed up

-- all bytes written over
pub copied : (bytes page after : List ℕ) → length page ≡ length bytes → after ≡ bytes ++ drop (length bytes) page
    → after ≡ bytes
copied bytes page after long e =
    e ∙ ap (bytes ++◌) (drop_of_length-le page {i = length bytes} (omega arith)) ∙ append-nil bytes

module _ (image : List ℕ) (base reset : ℕ) (routines marks : List ℕ) (result : ℕ)
    (is-result : result ≡ packed_verdict (verdict image marks base reset)) where
  pub not_accepted : (result ≡ 0 → ⊥) → false ≡ is_admitted image base reset routines marks
  unfolding is_admitted
  not_accepted other = by (verdict image marks base reset) refl
    where
      by : (v : Verdict) → verdict image marks base reset ≡ v
          → false ≡ (accepted_by v && stands_in routines marks && all_are_listed image marks base routines)
      by (Ok _) e = absurd (other (is-result ∙ ap packed_verdict e))
      by (Err r) e = refl

  pub accepted_then : result ≡ 0 → StandsIn routines marks → (listed : Bool)
      → listed ≡ all_are_listed image marks base routines → listed ≡ is_admitted image base reset routines marks
  unfolding is_admitted
  accepted_then zero stands listed e =
      rw (accepted_zero (verdict image marks base reset) (sym is-result ∙ zero), tested_stands routines marks stands) e

-- ---- the call

module _ (image : List ℕ) (base reset : ℕ) (text marks : List ℕ) where
  -- 14, 1, 2
  abbrev pub form : Tests
  form = form_tests text (length image) (length marks) base

  abbrev Answers : TestResult → List ℕ → Type 0
  Answers so after = (so ≡ built image base reset text marks) × (after ≡ marks_built image base reset text marks)

  refused_so : (why : Refusal) → built image base reset text marks ≡ Err why
      → Answers (Err why) marks
  refused_so why e = (sym e, sym (refused_keeps image base reset text marks why e))

  pub form_fails : (so : TestResult) (why : Refusal) → so ≡ first_refusal form → so ≡ Err why
      → Answers so marks
  unfolding built
  form_fails so why is-so failed =
      let e : so ≡ built image base reset text marks = ends form _ is-so failed in
      (e, sym (refused_keeps image base reset text marks why (sym e ∙ failed)))

  module _ (passed : first_refusal form ≡ Ok tt) where
    held : AllHold form
    held = shown form passed

    pub right : RightLength (length image) (length marks)
    right = right_length (length image) (length marks) held.1.0

    pub ends_low : base + length image ≤ address_limit
    ends_low = base_whole base (length image) (list_base (has_old_lines text) base (length image) held.1.1.0)

    pub not_fit : routines_fit base (length image) text ≡ false → Answers (Err Refusal.Routines) marks
    not_fit fit =
        refused_so Refusal.Routines (routines_refuse image base reset text marks passed fit)

    module _ (fit : routines_fit base (length image) text ≡ true) (routines made : List ℕ)
        (listed : routines ≡ routine_marks base (length image) text) (size : length made ≡ length image)
        (c : Closed image base reset routines made) where
      limits : WithinLimits image base text marks
      limits = within_limits image base reset text marks passed fit

      lacks_nothing : Complete image base reset (routine_marks base (length image) text) made
      lacks_nothing =
          complete image base reset (routine_marks base (length image) text) made size
          (subst (λ l. Closed image base reset l made) listed c)

      pub not_admitted : is_admitted image base reset routines made ≡ false
          → Answers (Err Refusal.Routines) marks
      not_admitted h =
          refused_so Refusal.Routines
          (worked_refused image base reset text marks made limits lacks_nothing (rw listed at h)).0

      pub admitted : is_admitted image base reset routines made ≡ true → Answers (Ok tt) made
      admitted h =
          let done = worked_delivered image base reset text marks made limits lacks_nothing (rw listed at h) in
          (sym done.0, sym done.1)

-- a byte of a table is a start, or 00
module _ (base n : ℕ) (text : List ℕ) where
  abbrev table : List ℕ
  table = marks_shown (routine_digits text) (first_routine base text) n text

  pub table_plain : Plain (routine_marks base n text)
  unfolding routine_marks
  table_plain at none = by (ltb at n) refl
    where
      formed : (get_or table at 0 ≡ 0) ⊎ ((start_at table at ≡ true) × (get_or table at 0 < 128)) → get_or table at 0 ≡
          0
      formed (inl e) = e
      formed (inr s) = absurd (true≢false (sym s.0 ∙ none))

      by : (b : Bool) → ltb at n ≡ b → get_or table at 0 ≡ 0
      by true e =
          formed (formed_mark _
          (all_formed_lem (routine_digits text) (first_routine base text) n text at (ltb-true at n e)))
      by false e =
          get_or-eq_default table 0
          (omega (arith, ltb-false at n e, length_shown (routine_digits text) (first_routine base text) n text))
