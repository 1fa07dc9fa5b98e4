use Rattle.std.specs.Prelude.{Ok, Err, Result}
use mathlib.Core.Path.{◌≡◌, refl, sym, ◌∙◌, ap}
use mathlib.Core.Bool.{true, false, Bool, not}
use mathlib.Core.List.{[], ◌∷◌, ◌++◌, List}
use mathlib.Core.Logic.{◌⊎◌, inr, inl}
use Prim.Native.Nat.{ℕ, ◌<◌}
use native.Mathlib.Omega.{arith}
use lib.ListN.{get_or}
use borrow.Author.Tests.{not-true, not-false}
use Rattle.types.specs.declared.refusals.Refusal.{Refusal}
use Rattle.types.specs.declared.refusals.Refused.{Refused}
use Rattle.types.specs.declared.runs.Ended.{Ended}
use Rattle.types.specs.Answers.{TestResult, refused_at, End, ended_by}
use Rattle.types.specs.Refusals.{Tests, first_refusal, is_failed, answered, refusal_number}

pub failed_passed : {why : Refusal} → ◌≡◌ {A = TestResult} (Err why) (Ok tt) → ⊥
failed_passed e = cc

pub same_why : {why other : Refusal} → ◌≡◌ {A = TestResult} (Err why) (Err other) → why ≡ other
same_why e = cc

abbrev pub AllHold : Tests → Type 0
AllHold [] = Unit {0}
AllHold (test ∷ rest) = (test.0 ≡ true) × AllHold rest

abbrev pub FirstFails : Refusal → Tests → Type 0
FirstFails why [] = ⊥
FirstFails why (test ∷ rest) = ((test.0 ≡ false) × (test.1 ≡ why)) ⊎ ((test.0 ≡ true) × FirstFails why rest)

abbrev pub Says : Tests → TestResult → Type 0
Says tests (Ok _) = AllHold tests
Says tests (Err why) = FirstFails why tests

one_held : (why : Refusal) (rest : Tests) (so : TestResult) → Says rest so → Says ((true, why) ∷ rest) so
one_held why rest (Ok _) s = (refl, s)
one_held why rest (Err other) s = inr (refl, s)

says : (tests : Tests) → Says tests (first_refusal tests)
unfolding first_refusal
says [] = tt
says ((true, why) ∷ rest) = one_held why rest (first_refusal rest) (says rest)
says ((false, why) ∷ rest) = inl (refl, refl)

pub shown : {so : TestResult} (tests : Tests) → first_refusal tests ≡ so → Says tests so
shown tests e = rw e at (says tests)

pub none_fails : (tests : Tests) → AllHold tests → first_refusal tests ≡ Ok tt
unfolding first_refusal
none_fails [] h = refl
none_fails (test ∷ rest) h = rw h.0 (none_fails rest h.1)

pub passes : (Ok tt) ≡ first_refusal []
unfolding first_refusal
passes = refl

pub fails : {given test : Bool} (why : Refusal) (rest : Tests) → given ≡ test → not given ≡ true
    → Err why ≡ first_refusal ((test, why) ∷ rest)
unfolding first_refusal
fails {given} why rest e failed = rw (← e, not-true given failed)

pub holds : {given test : Bool} {so : TestResult} (why : Refusal) (rest : Tests) → given ≡ test → not given ≡ false
    → so ≡ first_refusal rest → so ≡ first_refusal ((test, why) ∷ rest)
unfolding first_refusal
holds {given} why rest e held more = rw (← e, not-false given held) more

-- where tests that were made before refuse, that stays; else the others decide
pub ends : {so : TestResult} {why : Refusal} (tests more : Tests) → so ≡ first_refusal tests → so ≡ Err
    why
    → so ≡ first_refusal (tests ++ more)
unfolding first_refusal
ends [] more e f = absurd (failed_passed (sym f ∙ e))
ends ((true, why) ∷ rest) more e f = ends rest more e f
ends ((false, why) ∷ rest) more e f = e

pub goes_on : {before so : TestResult} (tests more : Tests) → before ≡ first_refusal tests → before ≡ Ok tt
    → so ≡ first_refusal more → so ≡ first_refusal (tests ++ more)
unfolding first_refusal
goes_on [] more e p m = m
goes_on ((true, why) ∷ rest) more e p m = goes_on rest more e p m
goes_on ((false, why) ∷ rest) more e p m = absurd (failed_passed (sym e ∙ p))

pub not_failed : (so : TestResult) → is_failed so ≡ false → so ≡ Ok tt
not_failed (Ok _) e = refl
not_failed (Err why) e = let z : ◌≡◌ {A = ℕ} 0 1 = cc in absurd (omega arith)

-- an answer that is no refusal was given because all passed
pub all_passed : {A : Type 0} {a done : A} (so : TestResult) (refused : Refusal → A)
    → ((why : Refusal) → refused why ≡ a → ⊥)
    → answered so refused done ≡ a → (so ≡ Ok tt) × (done ≡ a)
all_passed (Ok _) refused never e = (refl, e)
all_passed (Err why) refused never e = absurd (never why e)

-- the refusals in the order of their numbers; at 0, which is no refusal's, stands the first
abbrev refusals : List Refusal
refusals =
    Refusal.Length ∷ Refusal.Length ∷ Refusal.Base ∷ Refusal.Reset ∷ Refusal.Mark ∷ Refusal.Code ∷ Refusal.CutOff
    ∷ Refusal.Overlap ∷ Refusal.Flow ∷ Refusal.Widths ∷ Refusal.Return ∷ Refusal.Ram ∷ Refusal.State ∷ Refusal.Steps
    ∷ Refusal.List ∷ Refusal.Page ∷ Refusal.Addresses ∷ Refusal.Routines ∷ []

abbrev refusal_at : ℕ → Refusal
refusal_at n = get_or refusals n Refusal.Length

numbered : (why : Refusal)
    → (0 < refusal_number why) × (refusal_number why < 256) × (refusal_at (refusal_number why) ≡ why)
numbered Refusal.Length = (omega arith, omega arith, refl)
numbered Refusal.Base = (omega arith, omega arith, refl)
numbered Refusal.Reset = (omega arith, omega arith, refl)
numbered Refusal.Mark = (omega arith, omega arith, refl)
numbered Refusal.Code = (omega arith, omega arith, refl)
numbered Refusal.CutOff = (omega arith, omega arith, refl)
numbered Refusal.Overlap = (omega arith, omega arith, refl)
numbered Refusal.Flow = (omega arith, omega arith, refl)
numbered Refusal.Widths = (omega arith, omega arith, refl)
numbered Refusal.Return = (omega arith, omega arith, refl)
numbered Refusal.Ram = (omega arith, omega arith, refl)
numbered Refusal.State = (omega arith, omega arith, refl)
numbered Refusal.Steps = (omega arith, omega arith, refl)
numbered Refusal.List = (omega arith, omega arith, refl)
numbered Refusal.Page = (omega arith, omega arith, refl)
numbered Refusal.Addresses = (omega arith, omega arith, refl)
numbered Refusal.Routines = (omega arith, omega arith, refl)

-- a refusal's number is one of a byte, not 0, and no other refusal's
pub refusal_range : (why : Refusal) → (0 < refusal_number why) × (refusal_number why < 256)
refusal_range why = ((numbered why).0, (numbered why).1)

pub same_refusal : (why other : Refusal) → refusal_number why ≡ refusal_number other → why ≡ other
same_refusal why other same = sym (numbered why).2 ∙ ap refusal_at same ∙ (numbered other).2

-- a refusal about an offset is the same as another where both parts are
pub same_refused : {A : Type 0} {why other : Refusal} {at place : ℕ}
    → ◌≡◌ {A = Result A Refused} (refused_at why at) (refused_at other place) → (why ≡ other) × (at ≡ place)
same_refused {why = why} {other = other} {at = at} {place = place} e =
    let same : ◌≡◌ {A = Refused} (record { why = why; offset = at }) (record { why = other; offset = place }) = cc in
    (ap (λ r. r.why) same, ap (λ r. r.offset) same)

-- so is what a run that was not refused answers
pub same_ended : {end other : End} {steps calls taken called : ℕ}
    → ended_by end steps calls ≡ ended_by other taken called → (end ≡ other) × (steps ≡ taken) × (calls ≡ called)
same_ended {end = end} {other = other} {steps = steps} {calls = calls} {taken = taken} {called = called} e =
    let same : ◌≡◌ {A = Ended} (record { end = end; steps = steps; calls = calls })
    (record { end = other; steps = taken; calls = called }) = cc in
    (ap (λ r. r.end) same, ap (λ r. r.steps) same, ap (λ r. r.calls) same)
