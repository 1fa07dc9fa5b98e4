-- The tests for 1 to 4 fail exactly on their grounds. 3 is asked of marks in form, where a start with m=0, x=0 and
-- kind 0 is mark 01.
-- Assumes nothing.
use mathlib.Core.Path.{◌≡◌, refl, sym, ◌∙◌}
use mathlib.Core.Logic.{◌↔◌, ◌⊎◌, inl, inr, ⊎_elim}
use mathlib.Core.Bool.{Bool, true, false, true≢false, false≢true, not, ◌&&◌, ◌||◌}
use mathlib.Core.List.{List}
use Prim.Native.Nat.{ℕ, ◌+◌, ◌-◌, ◌*◌, ◌/◌, ◌%◌, ◌≤◌, ◌<◌}
use native.Mathlib.Nat.{mod-eq_of_lt}
use native.Mathlib.Omega.{arith}
use borrow.Author.Tests.{ltb-true, ltb-false, leb-false, eqb-true, eqb-false, not-true, not-false, lt-ltb, le-ltb}
use borrow.Author.Tests.{lt-leb, eq-eqb, ne_eqb}
use lib.Dec.{eqb, ltb, leb}
use lib.ListN.{length, get_or, get_or-eq_default}
use Rattle.prelude.specs.Choice.{pick}
use Rattle.types.specs.Addresses.{address_limit, image_limit}
use Rattle.acceptance.specs.Image.{is_start, mark_kind, return_m, return_x, mark_of, is_formed, length_fits, base_fits}
use Rattle.acceptance.specs.Image.{mark_at, reset_fits}
use Rattle.prelude.specs.First.{first_from}
use Rattle.acceptance.specs.Verdict.{bad_mark, all_formed}
use Rattle.acceptance.specs.Grounds.{WrongSize, WrongLength, WrongBase, IsResetStart, WrongReset, IsMark}
use Rattle.acceptance.specs.Grounds.{WrongMark}
use Rattle.prelude.proofs.Choice.{both_true}
use Rattle.prelude.proofs.First.{none_found}
use Rattle.acceptance.proofs.Verdict.{formed_all}
use Rattle.acceptance.proofs.Meaning.{found_at}
use Rattle.acceptance.proofs.Widths.{same_fields}

-- ---- tests and what they fail on

-- a test fails exactly where A holds
abbrev pub FailsOn : Bool → Type 0 → Type 0
FailsOn test A = (test ≡ false) ↔ A

unless : (test : Bool) → (test ≡ true → ⊥) → test ≡ false
unless true never = absurd (never refl)
unless false never = refl

pub not_holding : {A : Type 0} (test : Bool) → (test ≡ true) ↔ A → FailsOn test (A → ⊥)
not_holding test d = (λ e a. false≢true (sym e ∙ d.1 a), λ none. unless test (λ e. none (d.0 e)))

pub either : {A B : Type 0} (a b : Bool) → FailsOn a A → FailsOn b B → FailsOn (a && b) (A ⊎ B)
either true b one two = (λ e. inr (two.0 e), ⊎_elim (λ h. absurd (true≢false (one.1 h))) two.1)
either false b one two = (λ e. inl (one.0 refl), λ _. refl)

pub both : {A B : Type 0} (a b : Bool) → FailsOn a A → FailsOn b B → FailsOn (a || b) (A × B)
both true b one two = (λ e. absurd (true≢false e), λ h. absurd (true≢false (one.1 h.0)))
both false b one two = (λ e. (one.0 refl, two.0 e), λ h. two.1 h.1)

-- `&&` groups to the left, grounds to the right
pub of_three : {A B C : Type 0} (a b c : Bool) → FailsOn a A → FailsOn b B → FailsOn c C
    → FailsOn (a && b && c) (A ⊎ B ⊎ C)
of_three true b c one two three =
    let rest = either b c two three in (λ e. inr (rest.0 e), ⊎_elim (λ h. absurd (true≢false (one.1 h))) rest.1)
of_three false b c one two three = (λ e. inl (one.0 refl), λ _. refl)

pub none : (n : ℕ) → FailsOn (ltb 0 n) (n ≡ 0)
none n = (λ e. omega (arith, ltb-false 0 n e), λ e. le-ltb 0 n (omega arith))

pub not_below : (n limit : ℕ) → FailsOn (ltb n limit) (limit ≤ n)
not_below n limit = (ltb-false n limit, le-ltb n limit)

pub above : (n limit : ℕ) → FailsOn (leb n limit) (limit < n)
above n limit = (leb-false n limit, lt-leb n limit)

pub another : (a b : ℕ) → FailsOn (eqb a b) (a ≡ b → ⊥)
another a b = (eqb-false a b, ne_eqb a b)

-- a search for a place that does not fit
pub somewhere : {Wrong : ℕ → Type 0} (fits : ℕ → Bool) (n : ℕ) → ((k : ℕ) → FailsOn (fits k) (Wrong k))
    → FailsOn (eqb (first_from (λ k. not (fits k)) 0 n) n) ((k : ℕ) × (k < n) × Wrong k)
somewhere fits n each =
    let wrong : ℕ → Bool = λ k. not (fits k) in (
      λ e. let f = found_at wrong n e in
          (first_from wrong 0 n, f.0, (each (first_from wrong 0 n)).0 (not-true (fits (first_from wrong 0 n)) f.1)),
      λ h. unless (eqb (first_from wrong 0 n) n) (λ e. true≢false
          (sym (not-false (fits h.0) (none_found wrong n e h.0 h.1)) ∙ (each h.0).1 h.2)),
    )

-- ---- 1 and 2

wrong_size : (image : ℕ) → FailsOn (ltb 0 image && leb image image_limit) (WrongSize image)
wrong_size image = either (ltb 0 image) (leb image image_limit) (none image) (above image image_limit)

pub wrong_length : (image marks : ℕ) → FailsOn (length_fits image marks) (WrongLength image marks)
unfolding length_fits
wrong_length image marks =
    either (ltb 0 image && leb image image_limit) (eqb marks image) (wrong_size image) (another marks image)

-- where no marks are taken, or nothing but marks
pub wrong_alone : (image : ℕ) → FailsOn (length_fits image image) (WrongSize image)
wrong_alone image =
    let d = wrong_length image image in
    (λ e. ⊎_elim (λ w. w) (λ differs. absurd (differs refl)) (d.0 e), λ w. d.1 (inl w))

pub wrong_base : (base image : ℕ) → FailsOn (base_fits base image) (WrongBase base image)
unfolding base_fits
wrong_base base image =
    either (ltb base address_limit) (leb (base + image) address_limit) (not_below base address_limit)
    (above (base + image) address_limit)

-- ---- 4 and 3

-- the form of a mark
abbrev return_formed : ℕ → Bool
return_formed mark = not (eqb (mark_kind mark) 0) || (eqb (return_m mark) 0 && eqb (return_x mark) 0)

abbrev start_formed : ℕ → Bool
start_formed mark = is_start mark && ltb mark 128 && not (eqb (mark_kind mark) 3) && return_formed mark

unmarked : IsMark 0
unmarked = record {
  kind_used = λ three. absurd (omega arith);
  bit_7_clear = omega arith;
  no_start = λ _. refl;
  no_return = λ _. (refl, refl);
}

pub formed_is : (mark : ℕ) → is_formed mark ≡ true → IsMark mark
unfolding is_formed
formed_is mark = by (eqb mark 0) refl
  where
    by : (b : Bool) → eqb mark 0 ≡ b → b || start_formed mark ≡ true → IsMark mark
    by true e h = rw (eqb-true mark 0 e) unmarked
    by false e h =
        let kind = eqb (mark_kind mark) 3 in
        let three = both_true (is_start mark && ltb mark 128 && not kind) (return_formed mark) h in
        let two = both_true (is_start mark && ltb mark 128) (not kind) three.0 in
        let one = both_true (is_start mark) (ltb mark 128) two.0 in
        record {
          kind_used = eqb-false (mark_kind mark) 3 (not-true kind two.1);
          bit_7_clear = ltb-true mark 128 one.1;
          no_start = λ not. absurd (true≢false (sym one.0 ∙ not));
          no_return = λ zero.
              let clear = both_true (eqb (return_m mark) 0) (eqb (return_x mark) 0)
              (rw (eq-eqb (mark_kind mark) 0 zero) at three.1) in
              (eqb-true (return_m mark) 0 clear.0, eqb-true (return_x mark) 0 clear.1);
        }

is_formed_lem : (mark : ℕ) → IsMark mark → is_formed mark ≡ true
unfolding is_formed
is_formed_lem mark is = by (is_start mark) (eqb (mark_kind mark) 0) refl refl
  where
    or_true : (a b : Bool) → b ≡ true → a || b ≡ true
    or_true true b e = refl
    or_true false b e = e

    by : (started none : Bool) → is_start mark ≡ started → eqb (mark_kind mark) 0 ≡ none → is_formed mark ≡ true
    by false none e k = rw (is.no_start e)
    by true false e k =
        or_true (eqb mark 0) (start_formed mark)
        (rw (e, lt-ltb mark 128 is.bit_7_clear, ne_eqb (mark_kind mark) 3 is.kind_used, k) refl)
    by true true e k =
        let clear = is.no_return (eqb-true (mark_kind mark) 0 k) in
        or_true (eqb mark 0) (start_formed mark)
        (rw (
          e,
          lt-ltb mark 128 is.bit_7_clear,
          ne_eqb (mark_kind mark) 3 is.kind_used,
          k,
          eq-eqb (return_m mark) 0 clear.0,
          eq-eqb (return_x mark) 0 clear.1,
        ) refl)

pub wrong_mark : (marks : List ℕ) → FailsOn (all_formed marks) (WrongMark marks)
unfolding bad_mark
wrong_mark marks =
    somewhere (λ k. is_formed (get_or marks k 0)) (length marks)
    (λ k. not_holding (is_formed (get_or marks k 0)) (formed_is (get_or marks k 0), is_formed_lem (get_or marks k 0)))

-- the mark at any address is in form where all marks are
formed_at : (marks : List ℕ) (base address : ℕ) → all_formed marks ≡ true → IsMark (mark_at marks base address)
unfolding mark_at
formed_at marks base address formed = by (leb base address)
  where
    at : (k : ℕ) (b : Bool) → ltb k (length marks) ≡ b → IsMark (get_or marks k 0)
    at k true e = formed_is (get_or marks k 0) (formed_all marks formed k (ltb-true k (length marks) e))
    at k false e = rw (get_or-eq_default marks 0 (ltb-false k (length marks) e)) unmarked

    by : (b : Bool) → IsMark (pick b (get_or marks (address - base) 0) 0)
    by true = at (address - base) (ltb (address - base) (length marks)) refl
    by false = unmarked

-- the required start is mark 01
only_start : (mark : ℕ) → mark < 128 → mark % 2 ≡ 1 → mark / 2 % 64 * 2 + 1 ≡ 1 → mark ≡ 1
only_start mark small started fields =
    let below : mark / 2 < 64 = omega arith in
    let half : mark / 2 ≡ 0 = sym (mod-eq_of_lt below) ∙ omega arith in
    omega arith

reset_start : (mark : ℕ) → IsMark mark → (eqb mark (mark_of 0 0 0 0 0) ≡ true) ↔ IsResetStart mark
reset_start mark is = (
  λ e. rw (eqb-true mark (mark_of 0 0 0 0 0) e) (refl, refl, refl, refl),
  λ s. let clear = is.no_return s.3 in
      let fields : mark / 2 % 64 * 2 + 1 ≡ 1 =
      rw (s.1, s.2, s.3, clear.0, clear.1) at (same_fields mark (omega (arith, is.bit_7_clear))) in
      eq-eqb mark (mark_of 0 0 0 0 0)
      (only_start mark is.bit_7_clear (eqb-true (mark % 2) 1 s.0) fields),
)

pub wrong_reset : (marks : List ℕ) (base reset : ℕ) → all_formed marks ≡ true
    → FailsOn (reset_fits marks base reset) (WrongReset marks base reset)
unfolding reset_fits
wrong_reset marks base reset formed =
    let mark = mark_at marks base reset in
    not_holding (eqb mark (mark_of 0 0 0 0 0)) (reset_start mark (formed_at marks base reset formed))
