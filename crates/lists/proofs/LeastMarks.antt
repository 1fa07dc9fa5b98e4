-- The least admitted marking. The tests are what they test; what two admitted markings agree on is an admitted marking
-- too (`agreed_admitted`), so that of all of them, one after another, one is left that stands in each; and it is among
-- those that are tried. The answer and the marks delivered follow.
-- Assumes nothing.
use Rattle.types.specs.declared.code.Undecoded.{Undecoded}
use Rattle.std.specs.Prelude.{Ok, Err}
use mathlib.Core.Path.{◌≡◌, refl, sym, ap, ◌∙◌}
use mathlib.Core.Logic.{◌⊎◌, inl, inr}
use mathlib.Core.Bool.{Bool, true, false, true≢false, not, ◌&&◌}
use mathlib.Core.List.Memᴰ
use mathlib.Core.List.{List, [], ◌∷◌, head_d, Memᴰ}
use Prim.Native.Nat.{ℕ, zero, suc, ◌+◌, ◌-◌, ◌<◌}
use native.Mathlib.Omega.{arith}
use borrow.Author.Tests.{eqb-true, eq-eqb, ltb-true, ltb-false, lt-ltb, not-false}
use lib.Dec.{eqb, ltb, leb}
use lib.ListN.{length, get_or, get_or-eq_default}
use Rattle.types.specs.declared.code.Kind.{Kind}
use Rattle.types.specs.declared.code.Flow.{Flow}
use Rattle.types.specs.declared.code.Instruction.{Instruction}
use Rattle.types.specs.Answers.{Decoded, Verdict}
use Rattle.types.specs.declared.refusals.Refusal.{Refusal}
use Rattle.types.specs.declared.rules.Requirement.{Requirement}
use Rattle.types.specs.declared.rules.Requirements.{Requirements}
use Rattle.types.specs.Refusals.{Tests, first_refusal}
use Rattle.prelude.specs.Bytes.{AllBytes}
use Rattle.prelude.specs.Choice.{pick}
use Rattle.prelude.specs.Lists.{all_lists}
use Rattle.prelude.proofs.Choice.{both_true}
use Rattle.prelude.proofs.First.{none_found, found_none}
use Rattle.prelude.proofs.Lists.{passes_in, in_passes, all_passes, each_passes, first_in, some_in, all_in}
use Rattle.acceptance.specs.Image.{is_start, mark_at}
use Rattle.acceptance.specs.Rules.{instruction_at, Met, AllMet}
use Rattle.instructions.specs.Successors.{target_address}
use Rattle.acceptance.specs.Verdict.{start_at, is_start_at, all_starts, verdict}
use Rattle.lists.specs.Routines.{routine_marks, routines_fit, StandsIn, Plain, is_listed, Admitted, Least, missing_at}
use Rattle.lists.specs.Routines.{stands_in, flow_listed, target_listed, stray_at, all_are_listed, accepted_by}
use Rattle.lists.specs.Routines.{is_admitted}
use Rattle.lists.specs.Routines.{stands_in_all, admitted_markings, has_marking, least_of, form_tests, build_tests}
use Rattle.lists.specs.Routines.{built}
use Rattle.lists.specs.Routines.{marks_after, marks_built, WithinLimits, RefusedExactly, DeliversLeast}
use Rattle.types.proofs.TestResults.{shown, none_fails, failed_passed}
use Rattle.acceptance.proofs.Verdict.{start_inside}
use Rattle.lists.proofs.Routines.{stands_through, admitted_length, admitted_formed, admitted_plain, reset_met}
use Rattle.lists.proofs.Routines.{owed_met, CompleteIn, complete_admitted, least_only}

-- ---- the tests

pub stands_tested : (marks others : List ℕ) → stands_in marks others ≡ true → StandsIn marks others
unfolding stands_in
stands_tested marks others h at s =
    let found = none_found (missing_at marks others) (length marks) h at (start_inside marks at s) in
    eqb-true (get_or others at 0) (get_or marks at 0)
    (not-false (eqb (get_or others at 0) (get_or marks at 0)) (rw s at found))

pub tested_stands : (marks others : List ℕ) → StandsIn marks others → stands_in marks others ≡ true
unfolding stands_in
tested_stands marks others stands = found_none (missing_at marks others) (length marks) (λ at inside. here at)
  where
    here : (at : ℕ) → missing_at marks others at ≡ false
    here at = by (start_at marks at) refl
      where
        by : (b : Bool) → start_at marks at ≡ b → b && not (eqb (get_or others at 0) (get_or marks at 0)) ≡ false
        by true s = rw (eq-eqb (get_or others at 0) (get_or marks at 0) (stands at s)) refl
        by false s = refl

-- a call's target is on the list
abbrev CallsListed : List ℕ → List ℕ → ℕ → List ℕ → Type 0
CallsListed image marks base routines =
    (at : ℕ) (i : Instruction) (kind : Kind) → start_at marks at ≡ true
    → instruction_at image marks at ≡ Ok i → i.entry.flow ≡ Flow.Call kind
    → is_listed routines base (target_address i (base + at)) ≡ true

listed_tested : (image marks : List ℕ) (base : ℕ) (routines : List ℕ) → all_are_listed image marks base routines ≡ true
    → CallsListed image marks base routines
unfolding all_are_listed target_listed flow_listed
listed_tested image marks base routines h at i kind s whole call =
    let found = none_found (stray_at image marks base routines) (length marks) h at (start_inside marks at s) in
    not-false (is_listed routines base (target_address i (base + at))) (rw (s, whole, call) at found)

by_flow : (flow : Flow) (listed : Bool) → ((kind : Kind) → flow ≡ Flow.Call kind → listed ≡ true)
    → flow_listed flow listed ≡ true
unfolding flow_listed
by_flow Flow.Next listed h = refl
by_flow Flow.Branch listed h = refl
by_flow Flow.Jump listed h = refl
by_flow (Flow.Call kind) listed h = h kind refl
by_flow (Flow.Return kind) listed h = refl
by_flow Flow.Halt listed h = refl

tested_listed : (image marks : List ℕ) (base : ℕ) (routines : List ℕ) → CallsListed image marks base routines
    → all_are_listed image marks base routines ≡ true
unfolding all_are_listed target_listed
tested_listed image marks base routines calls =
    found_none (stray_at image marks base routines) (length marks) (λ at inside. here at)
  where
    here : (at : ℕ) → stray_at image marks base routines at ≡ false
    here at = by (start_at marks at) (instruction_at image marks at) refl refl
      where
        by : (b : Bool) (d : Decoded) → start_at marks at ≡ b → instruction_at image marks at ≡ d
            → b && not (target_listed routines base at d) ≡ false
        by false d s whole = refl
        by true (Err Undecoded.NotCarried) s whole = refl
        by true (Err Undecoded.CutOff) s whole = refl
        by true (Ok i) s whole =
            rw (by_flow i.entry.flow (is_listed routines base (target_address i (base + at)))
            (λ kind call. calls at i kind s whole call)) refl

accepted_by_lem : (v : Verdict) → accepted_by v ≡ true → v ≡ Ok tt
accepted_by_lem (Ok _) h = refl
accepted_by_lem (Err r) h = absurd (true≢false (sym h))

module _ (image : List ℕ) (base reset : ℕ) (routines : List ℕ) where
  pub admitted_tested : (marks : List ℕ) → is_admitted image base reset routines marks ≡ true
      → Admitted image base reset routines marks
  unfolding is_admitted
  admitted_tested marks h =
      let outer = both_true (accepted_by (verdict image marks base reset) && stands_in routines marks) _ h in
      let inner = both_true (accepted_by (verdict image marks base reset)) (stands_in routines marks) outer.0 in
      record {
        passes = accepted_by_lem (verdict image marks base reset) inner.0;
        as_listed = stands_tested routines marks inner.1;
        calls_listed = listed_tested image marks base routines outer.1;
      }

  pub tested_admitted : (marks : List ℕ) → Admitted image base reset routines marks
      → is_admitted image base reset routines marks ≡ true
  unfolding is_admitted
  tested_admitted marks v =
      rw (
        v.passes,
        tested_stands routines marks v.as_listed,
        tested_listed image marks base routines v.calls_listed,
      )

-- ---- what two markings agree on

abbrev agreed : List ℕ → List ℕ → List ℕ
agreed [] others = []
agreed (mark ∷ marks) [] = 0 ∷ agreed marks []
agreed (mark ∷ marks) (other ∷ others) = pick (eqb mark other) mark 0 ∷ agreed marks others

length_agreed : (marks others : List ℕ) → length (agreed marks others) ≡ length marks
length_agreed [] others = refl
length_agreed (mark ∷ marks) [] = ap suc (length_agreed marks [])
length_agreed (mark ∷ marks) (other ∷ others) = ap suc (length_agreed marks others)

-- past the end of either there is nothing to agree on
none_agreed : (mark : ℕ) → pick (eqb mark 0) mark 0 ≡ 0
none_agreed mark = by (eqb mark 0) refl
  where
    by : (b : Bool) → eqb mark 0 ≡ b → pick b mark 0 ≡ 0
    by true e = eqb-true mark 0 e
    by false e = refl

agreed_none : (b : Bool) → pick {A = ℕ} b 0 0 ≡ 0
agreed_none true = refl
agreed_none false = refl

agreed_at : (marks others : List ℕ) (at : ℕ)
    → get_or (agreed marks others) at 0 ≡ pick (eqb (get_or marks at 0) (get_or others at 0)) (get_or marks at 0) 0
agreed_at [] others at = sym (agreed_none (eqb 0 (get_or others at 0)))
agreed_at (mark ∷ marks) [] zero = sym (none_agreed mark)
agreed_at (mark ∷ marks) [] (suc at) = agreed_at marks [] at
agreed_at (mark ∷ marks) (other ∷ others) zero = refl
agreed_at (mark ∷ marks) (other ∷ others) (suc at) = agreed_at marks others at

module _ (marks others : List ℕ) where
  -- both have the mark that is agreed on
  abbrev Agree : ℕ → Type 0
  Agree at = (get_or marks at 0 ≡ get_or (agreed marks others) at 0) ×
      (get_or others at 0 ≡ get_or (agreed marks others) at 0)

  agreed_same : (at : ℕ) → get_or marks at 0 ≡ get_or others at 0 → get_or (agreed marks others) at 0 ≡ get_or marks at
      0
  agreed_same at same = agreed_at marks others at ∙ rw (eq-eqb (get_or marks at 0) (get_or others at 0) same) refl

  -- what is agreed on at a place is the mark of both, or there is none
  agreed_both : (at : ℕ)
      → Agree at ⊎ (get_or (agreed marks others) at 0 ≡ 0)
  agreed_both at = by (eqb (get_or marks at 0) (get_or others at 0)) refl
    where
      by : (b : Bool) → eqb (get_or marks at 0) (get_or others at 0) ≡ b
          → Agree at ⊎ (get_or (agreed marks others) at 0 ≡ 0)
      by true e =
          let same = eqb-true (get_or marks at 0) (get_or others at 0) e in
          let here = agreed_same at same in
          inl (sym here, sym same ∙ sym here)
      by false e = inr (agreed_at marks others at ∙ rw e refl)

  agreed_stands : StandsIn (agreed marks others) marks × StandsIn (agreed marks others) others
  agreed_stands = (λ at s. (by at s (agreed_both at)).0, λ at s. (by at s (agreed_both at)).1)
    where
      by : (at : ℕ) → start_at (agreed marks others) at ≡ true
          → Agree at ⊎ (get_or (agreed marks others) at 0 ≡ 0)
          → Agree at
      by at s (inl both) = both
      by at s (inr none) = absurd (true≢false (sym s ∙ rw none refl))

  agreed_plain : Plain marks → Plain (agreed marks others)
  agreed_plain plain at none = by (agreed_both at)
    where
      by : Agree at ⊎ (get_or (agreed marks others) at 0 ≡ 0)
          → get_or (agreed marks others) at 0 ≡ 0
      by (inl both) = sym both.0 ∙ plain at (rw both.0 none)
      by (inr e) = e

  -- where both have a start with one mark, it is agreed on
  agreed_met : (base : ℕ) (w : Requirement) → Met marks base w → Met others base w
      → is_start (mark_at (agreed marks others) base w.address) ≡ true
  unfolding mark_at
  agreed_met base w one two =
      by (leb base w.address) one.start_there (one.has_mark ∙ sym two.has_mark)
    where
      place : ℕ
      place = w.address - base

      by : (b : Bool) → is_start (pick b (get_or marks place 0) 0) ≡ true
          → pick b (get_or marks place 0) 0 ≡ pick b (get_or others place 0) 0
          → is_start (pick b (get_or (agreed marks others) place 0) 0) ≡ true
      by true s same = rw (agreed_same place same) s
      by false s same = s

  agreed_all : (base : ℕ) (o : Requirements) → AllMet marks base o → AllMet others base o
      → all_starts (agreed marks others) base o ≡ true
  unfolding all_starts is_start_at
  agreed_all base Requirements.Nothing one two = refl
  agreed_all base (Requirements.One w) one two = agreed_met base w one two
  agreed_all base (Requirements.Two v w) one two =
      rw (agreed_met base v one.0 two.0) (agreed_met base w one.1 two.1)

module _ (image : List ℕ) (base reset : ℕ) (routines : List ℕ) where
  agreed_listed : (marks others : List ℕ) → StandsIn routines marks → StandsIn routines others
      → StandsIn routines (agreed marks others)
  agreed_listed marks others one two at s =
      agreed_same marks others at (one at s ∙ sym (two at s)) ∙ one at s

  -- what two admitted markings agree on is admitted
  agreed_admitted : (marks others : List ℕ) → Admitted image base reset routines marks
      → Admitted image base reset routines others → Admitted image base reset routines (agreed marks others)
  agreed_admitted marks others v w =
      let stands = agreed_stands marks others in
      let listed = agreed_listed marks others v.as_listed w.as_listed in
      complete_admitted image base reset routines (agreed marks others) marks v (record {
        size = length_agreed marks others ∙ admitted_length image base reset routines marks v;
        plain = agreed_plain marks others (admitted_plain image base reset routines marks v);
        within = stands.0;
        listed = listed;
        at_reset = agreed_met marks others base _ (reset_met image base reset routines marks v) (reset_met image base
            reset routines others w);
        owed = λ at i s whole.
            let low = agreed marks others in
            let one = owed_met image base reset routines low marks v stands.0 at s i listed whole in
            let two = owed_met image base reset routines low others w stands.1 at s i listed whole in
            rw (← one.0) (agreed_all marks others base _ one.1 two.1);
      })

  -- so one stands in all of a list
  stands_in_each : (marks : List ℕ) → Admitted image base reset routines marks → (all : List (List ℕ))
      → ((others : List ℕ) → Memᴰ others all → Admitted image base reset routines others)
      → (low : List ℕ) × Admitted image base reset routines low × StandsIn low marks
      × ((others : List ℕ) → Memᴰ others all → StandsIn low others)
  stands_in_each marks v [] each = (marks, v, λ at s. refl, λ others m. absurd (Memᴰ.not-nil m))
  stands_in_each marks v (first ∷ rest) each =
      let stands = agreed_stands marks first in
      let low = stands_in_each (agreed marks first)
      (agreed_admitted marks first v (each first (Memᴰ.head refl))) rest (λ others m. each others
      (Memᴰ.tail m)) in (
        low.0,
        low.1,
        stands_through low.0 (agreed marks first) marks low.2 stands.0,
        λ others m. by low.0 others (stands_through low.0 (agreed marks first) first low.2 stands.1) (low.3
            others) (Memᴰ.cases_cons m),
      )
    where
      by : (low others : List ℕ) → StandsIn low first → (Memᴰ others rest → StandsIn low others)
          → (others ≡ first) ⊎ Memᴰ others rest → StandsIn low others
      by low others here later (inl e) = rw e here
      by low others here later (inr m) = later m

  -- ---- those that are tried

  abbrev all : List (List ℕ)
  all = admitted_markings image base reset routines

  -- every admitted marking is tried
  marks_in : (marks : List ℕ) → Admitted image base reset routines marks → Memᴰ marks all
  unfolding admitted_markings
  marks_in marks v =
      passes_in (is_admitted image base reset routines) marks (all_lists (length image))
      (tested_admitted image base reset routines marks v)
      (all_in (length image) marks (admitted_length image base reset routines marks v) bytes)
    where
      formed : (at : ℕ) → (get_or marks at 0 ≡ 0) ⊎ ((start_at marks at ≡ true) × (get_or marks at 0 < 128))
          → get_or marks at 0 < 256
      formed at (inl e) = omega arith
      formed at (inr s) = omega (arith, s.1)

      bytes : AllBytes marks
      bytes at = by (ltb at (length marks)) refl
        where
          by : (b : Bool) → ltb at (length marks) ≡ b → get_or marks at 0 < 256
          by true e =
              formed at (admitted_formed image base reset routines marks v at (ltb-true at (length marks) e))
          by false e = omega (arith, get_or-eq_default marks 0 (ltb-false at (length marks) e))

  in_admitted : (marks : List ℕ) → Memᴰ marks all → Admitted image base reset routines marks
  unfolding admitted_markings
  in_admitted marks m =
      admitted_tested image base reset routines marks
      (in_passes (is_admitted image base reset routines) marks (all_lists (length image)) m).0

  pub has_marking_lem : (marks : List ℕ) → Admitted image base reset routines marks
      → has_marking image base reset routines ≡ true
  unfolding has_marking
  has_marking_lem marks v = lt-ltb 0 (length all) (some_in marks all (marks_in marks v))

  pub marking_had : has_marking image base reset routines ≡ true
      → (marks : List ℕ) × Admitted image base reset routines marks
  unfolding has_marking
  marking_had h = by all refl
    where
      by : (l : List (List ℕ)) → l ≡ all → (marks : List ℕ) × Admitted image base reset routines marks
      by [] e = absurd (omega (arith, ap length e, ltb-true 0 (length all) h))
      by (marks ∷ rest) e = (marks, in_admitted marks (rw e at (first marks rest)))
        where
          first : (marks : List ℕ) (rest : List (List ℕ)) → Memᴰ marks (marks ∷ rest)
          first marks rest = Memᴰ.head refl

  pub none_had : ((others : List ℕ) → Admitted image base reset routines others → ⊥)
      → has_marking image base reset routines ≡ false
  none_had none = by (has_marking image base reset routines) refl
    where
      by : (b : Bool) → has_marking image base reset routines ≡ b → b ≡ false
      by true h = absurd (none (marking_had h).0 (marking_had h).1)
      by false h = refl

  -- ---- the least

  least_in : (marks : List ℕ) → Least image base reset routines marks → Memᴰ marks (least_of all)
  unfolding least_of stands_in_all
  least_in marks l =
      passes_in (stands_in_all all) marks all
      (all_passes (stands_in marks) all
      (λ others m. tested_stands marks others (l.least others (in_admitted others m))))
      (marks_in marks l.admitted)

  in_least : (marks : List ℕ) → Memᴰ marks (least_of all) → Least image base reset routines marks
  unfolding least_of stands_in_all
  in_least marks m =
      let passed = in_passes (stands_in_all all) marks all m in
      record {
        admitted = in_admitted marks passed.1;
        least = λ others v. stands_tested marks others (each_passes (stands_in marks) all passed.0 others (marks_in
            others v));
      }

  -- where there is a marking, there is a least one
  least_had : has_marking image base reset routines ≡ true → (marks : List ℕ) × Least image base reset routines marks
  least_had h =
      let some = marking_had h in
      let low = stands_in_each some.0 some.1 all in_admitted in
      (low.0, record { admitted = low.1; least = λ others v. low.3 others (marks_in others v) })

  first_least : (marks : List ℕ) → has_marking image base reset routines ≡ true
      → Least image base reset routines (head_d (least_of all) marks)
  first_least marks h =
      let l = least_had h in
      in_least _ (first_in l.0 marks (least_of all) (least_in l.0 l.1))

-- ---- the answer, and the marks delivered

module _ (image : List ℕ) (base reset : ℕ) (text marks : List ℕ) where
  abbrev routines : List ℕ
  routines = routine_marks base (length image) text

  passed_has : built image base reset text marks ≡ Ok tt → has_marking image base reset routines ≡ true
  unfolding built
  passed_has e =
      (both_true (routines_fit base (length image) text) _
      (shown (build_tests image base reset text (length marks)) e).1.1.1.0).1

  module _ (within : WithinLimits image base text marks) where
    has_passed : has_marking image base reset routines ≡ true → built image base reset text marks ≡ Ok tt
    unfolding built
    has_passed h =
        none_fails (build_tests image base reset text (length marks))
        (within.form, (within.right_length, (within.right_base, (rw within.all_fit h, tt))))

    none_failed : has_marking image base reset routines ≡ false
        → built image base reset text marks ≡ Err Refusal.Routines
    unfolding built first_refusal
    none_failed h = rw (within.form, within.right_length, within.right_base, within.all_fit, h) refl

  -- ---- tests made one after another

  abbrev form : Tests
  form = form_tests text (length image) (length marks) base

  pub within_limits : first_refusal form ≡ Ok tt → routines_fit base (length image) text ≡ true
      → WithinLimits image base text marks
  within_limits passed fit =
      let held = shown form passed in
      record { form = held.0; right_length = held.1.0; right_base = held.1.1.0; all_fit = fit }

  pub routines_refuse : first_refusal form ≡ Ok tt → routines_fit base (length image) text ≡ false
      → built image base reset text marks ≡ Err Refusal.Routines
  unfolding built first_refusal
  routines_refuse passed fit =
      let held = shown form passed in
      rw (held.0, held.1.0, held.1.1.0, fit) refl

  -- a refusal leaves the marks as given
  pub refused_keeps : (why : Refusal) → built image base reset text marks ≡ Err why
      → marks_built image base reset text marks ≡ marks
  unfolding marks_built marks_after
  refused_keeps why e = rw e refl

pub refused_exactly : RefusedExactly
refused_exactly image base reset text marks within = (
  λ failed others v. failed_passed (sym failed ∙ has_passed image base reset text marks within
      (has_marking_lem image base reset _ others v)),
  λ none. none_failed image base reset text marks within (none_had image base reset _ none),
)

pub delivers_least : DeliversLeast
unfolding marks_built marks_after
delivers_least image base reset text marks e =
    rw e (first_least image base reset (routine_marks base (length image) text) marks
    (passed_has image base reset text marks e))

-- ---- marks that were worked out

-- they lack nothing that any admitted marking has forced
abbrev pub Complete : List ℕ → ℕ → ℕ → List ℕ → List ℕ → Type 0
Complete image base reset routines marks =
    (others : List ℕ) → Admitted image base reset routines others
    → CompleteIn image base reset routines others marks

module _ (image : List ℕ) (base reset : ℕ) (routines marks : List ℕ)
    (complete : Complete image base reset routines marks) where
  -- admitted themselves, they are the least
  pub worked_least : is_admitted image base reset routines marks ≡ true → Least image base reset routines marks
  worked_least h = record {
    admitted = admitted_tested image base reset routines marks h;
    least = λ others v. (complete others v).within;
  }

  -- else there is no marking
  pub worked_none : is_admitted image base reset routines marks ≡ false → (others : List ℕ)
      → Admitted image base reset routines others → ⊥
  worked_none h others v =
      let admitted = complete_admitted image base reset routines marks others v (complete others v) in
      true≢false (sym (tested_admitted image base reset routines marks admitted) ∙ h)

-- what that says of the answer and the marks delivered
module _ (image : List ℕ) (base reset : ℕ) (text given marks : List ℕ)
    (within : WithinLimits image base text given)
    (complete : Complete image base reset (routine_marks base (length image) text) marks) where
  pub worked_delivered : is_admitted image base reset (routine_marks base (length image) text) marks ≡ true
      → (built image base reset text given ≡ Ok tt) × (marks_built image base reset text given ≡ marks)
  worked_delivered h =
      let l = worked_least image base reset (routine_marks base (length image) text) marks complete h in
      let has = has_marking_lem image base reset (routine_marks base (length image) text) marks l.admitted in
      let answer = has_passed image base reset text given within has in (
        answer,
        least_only image base reset (routine_marks base (length image) text) (marks_built image base reset text given)
            marks (delivers_least image base reset text given answer) l,
      )

  pub worked_refused : is_admitted image base reset (routine_marks base (length image) text) marks ≡ false
      → (built image base reset text given ≡ Err Refusal.Routines)
      × (marks_built image base reset text given ≡ given)
  worked_refused h =
      let none = worked_none image base reset (routine_marks base (length image) text) marks complete h in
      let answer = none_failed image base reset text given within (none_had image base reset _ none) in
      (answer, refused_keeps image base reset text given Refusal.Routines answer)
