-- Tests in an order give the refusal of the first ground that holds, where each test fails exactly on its ground: one
-- law for the tests of any call. A ground may be decided with the help of the tests before it, which have passed.
-- Assumes nothing.
use Rattle.std.specs.Prelude.{Ok, Err}
use mathlib.Core.Path.{◌≡◌, refl, sym, ap, ◌∙◌}
use mathlib.Core.Logic.{◌↔◌, ◌⊎◌, inl, inr}
use mathlib.Core.Bool.{Bool, true, false, true≢false, not, ◌&&◌}
use mathlib.Core.List.{[], ◌∷◌}
use Prim.Native.Nat.{ℕ}
use native.Mathlib.Omega.{arith}
use lib.Dec.{eqb}
use borrow.Author.Tests.{eqb-true, eqb-false, not-true}
use Rattle.types.specs.declared.refusals.Refusal.{Refusal}
use Rattle.types.specs.Answers.{TestResult}
use Rattle.types.specs.Refusals.{refusal_number, Tests, first_refusal, answered}
use Rattle.acceptance.specs.Grounds.{Grounds, FirstGround, NoGround, AnswersBy}
use Rattle.types.proofs.TestResults.{failed_passed, same_why, passes, refusal_range, same_refusal}
use Rattle.prelude.proofs.Choice.{both_true}

-- ---- grounds and their tests

abbrev is_same : Refusal → Refusal → Bool
is_same one other = eqb (refusal_number one) (refusal_number other)

-- no test gives this refusal
abbrev not_given : Refusal → Tests → Bool
not_given why [] = true
not_given why (test ∷ rest) = not (is_same test.1 why) && not_given why rest

-- each test gives the refusal of its ground, and no later one does
abbrev pub agrees : Grounds → Tests → Bool
agrees [] [] = true
agrees [] (test ∷ tests) = false
agrees (ground ∷ grounds) [] = false
agrees (ground ∷ grounds) (test ∷ tests) =
    is_same test.1 ground.1 && not_given test.1 tests && agrees grounds tests

-- each test fails exactly where its ground holds
abbrev pub Decided : Grounds → Tests → Type 0
Decided (ground ∷ grounds) (test ∷ tests) =
    ((test.0 ≡ false) ↔ ground.0) × (test.0 ≡ true → Decided grounds tests)
Decided (ground ∷ grounds) [] = Unit {0}
Decided [] tests = Unit {0}

-- ---- one test before others

never_given : (why : Refusal) (tests : Tests) → not_given why tests ≡ true → first_refusal tests ≡ Err why
    → ⊥
unfolding first_refusal
never_given why [] apart e = failed_passed (sym e)
never_given why ((true, other) ∷ rest) apart e =
    never_given why rest (both_true (not (is_same other why)) (not_given why rest) apart).1 e
never_given why ((false, other) ∷ rest) apart e =
    eqb-false (refusal_number other) (refusal_number why)
    (not-true (is_same other why) (both_true (not (is_same other why)) (not_given why rest) apart).0)
    (ap refusal_number (same_why e))

module _ (Ground More : Type 0) (number why : Refusal) (rest : Tests) where
  same : is_same number why ≡ true → number ≡ why
  same e = same_refusal number why (eqb-true (refusal_number number) (refusal_number why) e)

  -- the first ground is this one or another, `More`
  abbrev First : Bool → Type 0
  First is = elim is [ true ↦ Ground | false ↦ (Ground → ⊥) × More ]

  one_first : (test is : Bool) → is_same number why ≡ is → not_given number rest ≡ true
      → (test ≡ false) ↔ Ground → (test ≡ true → (first_refusal rest ≡ Err why) ↔ More)
      → (first_refusal ((test, number) ∷ rest) ≡ Err why) ↔ First is
  unfolding first_refusal
  one_first true true e apart decided more = (
    λ f. absurd (never_given number rest apart (f ∙ ap Err (sym (same e)))),
    λ g. absurd (true≢false (decided.1 g)),
  )
  one_first true false e apart decided more = (
    λ f. (λ g. true≢false (decided.1 g), (more refl).0 f),
    λ first. (more refl).1 first.1,
  )
  one_first false true e apart decided more = (λ f. decided.0 refl, λ g. ap Err (same e))
  one_first false false e apart decided more = (
    λ f. absurd (eqb-false (refusal_number number) (refusal_number why) e (ap refusal_number (same_why f))),
    λ first. absurd (first.0 (decided.0 refl)),
  )

  one_none : (test : Bool) → (test ≡ false) ↔ Ground → (test ≡ true → (first_refusal rest ≡ Ok tt) ↔ More)
      → (first_refusal ((test, number) ∷ rest) ≡ Ok tt) ↔ ((Ground → ⊥) × More)
  unfolding first_refusal
  one_none true decided more = (
    λ p. (λ g. true≢false (decided.1 g), (more refl).0 p),
    λ none. (more refl).1 none.1,
  )
  one_none false decided more = (λ p. absurd (failed_passed p), λ none. absurd (none.0 (decided.0 refl)))

-- ---- the law

module _ (why : Refusal) where
  pub first_exactly : (grounds : Grounds) (tests : Tests) → agrees grounds tests ≡ true → Decided grounds tests
      → (first_refusal tests ≡ Err why) ↔ FirstGround grounds why
  first_exactly [] [] a decided = (λ e. failed_passed (sym e ∙ sym passes), λ none. absurd none)
  first_exactly [] (test ∷ tests) a decided = absurd (true≢false (sym a))
  first_exactly (ground ∷ grounds) [] a decided = absurd (true≢false (sym a))
  first_exactly ((Ground, number) ∷ grounds) ((test, given) ∷ tests) a decided =
      let outer = both_true (is_same given number && not_given given tests) (agrees grounds tests) a in
      let inner = both_true (is_same given number) (not_given given tests) outer.0 in
      let e = same_refusal given number (eqb-true (refusal_number given) (refusal_number number) inner.0) in
      rw e
      (one_first Ground (FirstGround grounds why) number why tests test (is_same number why) refl (rw e at inner.1)
      decided.0 (λ passed. first_exactly grounds tests outer.1 (decided.1 passed)))

pub none_exactly : (grounds : Grounds) (tests : Tests) → agrees grounds tests ≡ true → Decided grounds tests
    → (first_refusal tests ≡ Ok tt) ↔ NoGround grounds
none_exactly [] [] a decided = (λ e. tt, λ none. sym passes)
none_exactly [] (test ∷ tests) a decided = absurd (true≢false (sym a))
none_exactly (ground ∷ grounds) [] a decided = absurd (true≢false (sym a))
none_exactly ((Ground, number) ∷ grounds) ((test, given) ∷ tests) a decided =
    one_none Ground (NoGround grounds) given given tests test decided.0
    (λ passed. none_exactly grounds tests
    (both_true (is_same given number && not_given given tests) (agrees grounds tests) a).1 (decided.1 passed))

-- ---- an answer by its tests

module _ {A : Type 0} (refused : Refusal → A) (done : A) where
  -- refusals are told apart from one another and from what is done
  pub record Apart : Type 0 where
    pub one : (why other : Refusal) → refused why ≡ refused other → why ≡ other
    pub none : (why : Refusal) → refused why ≡ done → ⊥

  pub answers_by : Apart → (grounds : Grounds) (tests : Tests) → agrees grounds tests ≡ true → Decided grounds tests
      → AnswersBy grounds refused done (answered (first_refusal tests) refused done)
  answers_by apart grounds tests a decided = record {
    one_of = given (first_refusal tests);
    by_first =
        λ why. let exactly = first_exactly why grounds tests a decided in (
          λ e. exactly.0 (failed (first_refusal tests) why e),
          λ first. ap (λ so. answered so refused done) (exactly.1 first),
        );
    by_none =
        let exactly = none_exactly grounds tests a decided in (
          λ e. exactly.0 (passed (first_refusal tests) e),
          λ none. ap (λ so. answered so refused done) (exactly.1 none),
        );
  }
    where
      given : (so : TestResult)
          → (answered so refused done ≡ done) ⊎ ((why : Refusal) × (answered so refused done ≡ refused why))
      given (Ok _) = inl refl
      given (Err why) = inr (why, refl)

      failed : (so : TestResult) (why : Refusal) → answered so refused done ≡ refused why → so ≡ Err why
      failed (Ok _) why e = absurd (apart.none why (sym e))
      failed (Err other) why e = ap Err (apart.one other why e)

      passed : (so : TestResult) → answered so refused done ≡ done → so ≡ Ok tt
      passed (Ok _) e = refl
      passed (Err why) e = absurd (apart.none why e)

-- the same of the number in an answer, 0 where nothing is refused
pub numbers_by : {A : Type 0} {grounds : Grounds} {refused : Refusal → A} {done answer : A} (number : A → ℕ)
    → AnswersBy grounds refused done answer → ((why : Refusal) → number (refused why) ≡ refusal_number why)
    → number done ≡ 0 → AnswersBy grounds refusal_number 0 (number answer)
numbers_by {A} {grounds} {refused} {done} {answer} number by refusals zero = record {
  one_of = told by.one_of;
  by_first = λ why. (first by.one_of why, λ is. ap number ((by.by_first why).1 is) ∙ refusals why);
  by_none = (none by.one_of, λ is. ap number (by.by_none.1 is) ∙ zero);
}
  where
    told : (answer ≡ done) ⊎ ((why : Refusal) × (answer ≡ refused why))
        → (number answer ≡ 0) ⊎ ((why : Refusal) × (number answer ≡ refusal_number why))
    told (inl e) = inl (ap number e ∙ zero)
    told (inr (why, e)) = inr (why, ap number e ∙ refusals why)

    first : (answer ≡ done) ⊎ ((why : Refusal) × (answer ≡ refused why))
        → (why : Refusal) → number answer ≡ refusal_number why → FirstGround grounds why
    first (inl e) why n = absurd (omega (arith, n, ap number e ∙ zero, (refusal_range why).0))
    first (inr (other, e)) why n =
        let same = same_refusal other why (sym (ap number e ∙ refusals other) ∙ n) in
        (by.by_first why).0 (e ∙ ap refused same)

    none : (answer ≡ done) ⊎ ((why : Refusal) × (answer ≡ refused why))
        → number answer ≡ 0 → NoGround grounds
    none (inl e) n = by.by_none.0 e
    none (inr (why, e)) n = absurd (omega (arith, n, ap number e ∙ refusals why, (refusal_range why).0))
