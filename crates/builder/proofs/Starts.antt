-- The starts of marks, put into an order from the lowest: those of the places before i stand in it.
-- Assumes nothing.
use mathlib.Core.Path.{◌≡◌, refl, sym, ◌∙◌}
use mathlib.Core.Bool.{Bool, true, false, true≢false}
use mathlib.Core.List.{List, []}
use Prim.Native.Nat.{ℕ, ◌+◌, ◌≤◌, ◌<◌}
use native.Mathlib.Numerals.{add-one}
use native.Mathlib.Omega.{arith}
use borrow.Author.Tests.{eqb-true, eqb-false}
use lib.Dec.{eqb}
use lib.ListN.{length, get_or, set, drop, drop_of_length-le}
use lib.Seq.{get_or-set_same, get_or-set_other, drop-cons}
use Rattle.prelude.specs.Choice.{pick}
use Rattle.acceptance.specs.Image.{start_count}
use Rattle.acceptance.specs.Verdict.{start_at}
use Rattle.lists.specs.Routines.{Plain}
use Rattle.acceptance.proofs.Verdict.{start_inside}
use Rattle.builder.specs.Order.{Queue}

-- ---- the places before i

pub record Listing (marks order : List ℕ) (count i : ℕ) : Type 0 where
  pub some : i ≤ length marks
  pub few : count ≤ i
  pub started : (k : ℕ) → k < count → start_at marks (get_or order k 0) ≡ true
  pub covered : (at : ℕ) → at < i → start_at marks at ≡ true → (k : ℕ) × (k < count) × (get_or order k 0 ≡ at)
  pub counted : count + start_count (drop i marks) ≡ start_count marks

module _ (marks order : List ℕ) (count i : ℕ) (l : Listing marks order count i) (inside : i < length marks) where
  count_here : (b : Bool) → start_at marks i ≡ b
      → start_count (drop i marks) ≡ pick b 1 0 + start_count (drop (i + 1) marks)
  unfolding start_count
  count_here b e = rw (add-one, drop-cons marks i 0 inside, e)

  pub listed_start : count < length order → start_at marks i ≡ true
      → Listing marks (set order count i) (count + 1) (i + 1)
  listed_start room s = record {
    some = omega arith;
    few = omega (arith, l.few);
    started = started;
    covered = covered;
    counted = omega (arith, l.counted, count_here true s);
  }
    where
      started : (k : ℕ) → k < count + 1 → start_at marks (get_or (set order count i) k 0) ≡ true
      started k low = by (eqb k count) refl
        where
          by : (b : Bool) → eqb k count ≡ b → start_at marks (get_or (set order count i) k 0) ≡ true
          by true e = let last = eqb-true k count e in rw (last, get_or-set_same order count i 0 room) s
          by false e =
              let other = eqb-false k count e in
              rw (get_or-set_other order count k i 0 other) (l.started k (omega (arith, other)))

      covered : (at : ℕ) → at < i + 1 → start_at marks at ≡ true
          → (k : ℕ) × (k < count + 1) × (get_or (set order count i) k 0 ≡ at)
      covered at low t = by (eqb at i) refl
        where
          by : (b : Bool) → eqb at i ≡ b → (k : ℕ) × (k < count + 1) × (get_or (set order count i) k 0 ≡ at)
          by true e = (count, omega arith, get_or-set_same order count i 0 room ∙ sym (eqb-true at i e))
          by false e =
              let other = eqb-false at i e in
              let old = l.covered at (omega (arith, other)) t in
              let before = old.1 in
              (old.0, omega arith, get_or-set_other order count old.0 i 0 (λ e. omega arith) ∙ old.2)

  pub passed_over : start_at marks i ≡ false → Listing marks order count (i + 1)
  passed_over none = record {
    some = omega arith;
    few = omega (arith, l.few);
    started = l.started;
    covered = covered;
    counted = omega (arith, l.counted, count_here false none);
  }
    where
      covered : (at : ℕ) → at < i + 1 → start_at marks at ≡ true → (k : ℕ) × (k < count) × (get_or order k 0 ≡ at)
      covered at low t = by (eqb at i) refl
        where
          by : (b : Bool) → eqb at i ≡ b → (k : ℕ) × (k < count) × (get_or order k 0 ≡ at)
          by true e = let here = eqb-true at i e in absurd (true≢false (sym (rw here at t) ∙ none))
          by false e = let other = eqb-false at i e in l.covered at (omega (arith, other)) t

pub all_listed : (marks order : List ℕ) (count i : ℕ) → Listing marks order count i → length marks ≤ i
    → length marks ≤ length order → Plain marks → Queue marks order count
unfolding start_count
all_listed marks order count i l past room plain =
    let none : drop i marks ≡ [] = drop_of_length-le marks past in
    let all = rw none at l.counted in
    record {
      started = l.started;
      covered = λ at s. l.covered at (omega (arith, start_inside marks at s)) s;
      counted = omega (arith, all);
      room = room;
      plain = plain;
    }
