-- A start is put: it stands in the marks then, and behind the others in the order. There is room for it, since the
-- order has as many places as the marks, and no more starts are counted than marks.
-- Assumes nothing.
use mathlib.Core.Path.{◌≡◌, refl, sym, ap, ◌∙◌}
use mathlib.Core.Bool.{Bool, true, false, true≢false}
use mathlib.Core.List.{List, [], ◌∷◌}
use Prim.Native.Nat.{ℕ, zero, suc, ◌+◌, ◌-◌, ◌≤◌, ◌<◌}
use native.Mathlib.Omega.{arith}
use borrow.Author.Tests.{eqb-true, eqb-false, leb-true, ltb-true, not-true}
use lib.Dec.{eqb, ltb, leb}
use lib.ListN.{length, get_or, set, length-set}
use lib.Seq.{get_or-set_same, get_or-set_other}
use Rattle.prelude.proofs.Choice.{both_true}
use Rattle.acceptance.specs.Image.{is_start, start_count}
use Rattle.acceptance.specs.Verdict.{start_at}
use Rattle.lists.specs.Routines.{Plain}
use Rattle.acceptance.proofs.Image.{starts_most}
use Rattle.builder.specs.Order.{is_free_at, put, Queue, Kept}

-- ---- a free address

pub record Free (marks : List ℕ) (base address : ℕ) : Type 0 where
  pub low : base ≤ address
  pub inside : address - base < length marks
  pub none : start_at marks (address - base) ≡ false

-- the same, by the place
pub record FreePlace (marks : List ℕ) (place : ℕ) : Type 0 where
  pub inside : place < length marks
  pub none : start_at marks place ≡ false

module _ (marks : List ℕ) (base address : ℕ) where
  pub is_free : is_free_at marks base address ≡ true → Free marks base address
  unfolding is_free_at
  is_free h =
      let outer = both_true (leb base address) _ h in
      let inner = both_true (ltb (address - base) (length marks)) _ outer.1 in
      record {
        low = leb-true base address outer.0;
        inside = ltb-true (address - base) (length marks) inner.0;
        none = not-true (start_at marks (address - base)) inner.1;
      }

  pub free_place : (place : ℕ) → (is_free_at marks base address ≡ true) × (place ≡ address - base)
      → FreePlace marks place
  free_place place h =
      let free = is_free h.0 in
      record { inside = rw h.1 free.inside; none = rw h.1 free.none }

  pub put_free : (mark : ℕ) → is_free_at marks base address ≡ true
      → put marks base address mark ≡ set marks (address - base) mark
  unfolding put
  put_free mark h = rw h

  pub put_taken : (mark : ℕ) → is_free_at marks base address ≡ false → put marks base address mark ≡ marks
  unfolding put
  put_taken mark h = rw h

-- ---- one start more

pub count_set : (marks : List ℕ) (place mark : ℕ) → place < length marks → start_at marks place ≡ false
    → is_start mark ≡ true → start_count (set marks place mark) ≡ suc (start_count marks)
unfolding start_count
count_set [] place mark inside none odd = absurd (omega arith)
count_set (m ∷ ms) zero mark inside none odd = rw (none, odd) (omega arith)
count_set (m ∷ ms) (suc place) mark inside none odd =
    rw (count_set ms place mark (omega arith) none odd) (omega arith)

pub kept_same : (order : List ℕ) (count : ℕ) → Kept order count order count
kept_same order count = (omega arith, λ k low. refl)

pub kept_through : (one two three : List ℕ) (a b c : ℕ) → Kept one a two b → Kept two b three c → Kept one a three c
kept_through one two three a b c first next =
    (omega (arith, first.0, next.0), λ k low. next.1 k (omega (arith, first.0)) ∙ first.1 k low)

pub kept_more : (order : List ℕ) (count place : ℕ) → Kept order count (set order count place) (count + 1)
kept_more order count place = (omega arith, λ k low. get_or-set_other order count k place 0 (λ e. omega arith))

module _ (marks order : List ℕ) (count place mark : ℕ) (q : Queue marks order count) (inside : place < length marks)
    (none : start_at marks place ≡ false) (odd : is_start mark ≡ true) where
  abbrev after : List ℕ
  after = set marks place mark

  pub fewer : count < length marks
  fewer =
      omega (
        arith,
        count_set marks place mark inside none odd,
        starts_most after,
        length-set marks place mark,
        q.counted,
      )

  pub has_room : count < length order
  has_room = omega (arith, fewer, q.room)

  there : start_at after place ≡ true
  there = rw (get_or-set_same marks place mark 0 inside) odd

  elsewhere : (at : ℕ) → (at ≡ place → ⊥) → get_or after at 0 ≡ get_or marks at 0
  elsewhere at other = get_or-set_other marks place at mark 0 other

  -- what stood stands
  kept_start : (at : ℕ) → start_at marks at ≡ true → start_at after at ≡ true
  kept_start at s = rw (elsewhere at (λ e. true≢false (sym s ∙ ap (start_at marks) e ∙ none))) s

  started_more : (k : ℕ) → k < count + 1 → start_at after (get_or (set order count place) k 0) ≡ true
  started_more k low = by (eqb k count) refl
    where
      by : (b : Bool) → eqb k count ≡ b → start_at after (get_or (set order count place) k 0) ≡ true
      by true e =
          let last = eqb-true k count e in
          rw (last, get_or-set_same order count place 0 has_room) there
      by false e =
          let other = eqb-false k count e in
          rw (get_or-set_other order count k place 0 other)
          (kept_start (get_or order k 0) (q.started k (omega (arith, other))))

  covered_more : (at : ℕ) → start_at after at ≡ true
      → (k : ℕ) × (k < count + 1) × (get_or (set order count place) k 0 ≡ at)
  covered_more at s = by (eqb at place) refl
    where
      by : (b : Bool) → eqb at place ≡ b
          → (k : ℕ) × (k < count + 1) × (get_or (set order count place) k 0 ≡ at)
      by true e =
          (count, omega arith, get_or-set_same order count place 0 has_room ∙ sym (eqb-true at place e))
      by false e =
          let old = q.covered at (rw (elsewhere at (eqb-false at place e)) at s) in
          let before = old.1 in
          (old.0, omega arith, get_or-set_other order count old.0 place 0 (λ e. omega arith) ∙ old.2)

  plain_more : Plain after
  plain_more at no_start = by (eqb at place) refl
    where
      by : (b : Bool) → eqb at place ≡ b → get_or after at 0 ≡ 0
      by true e = absurd (true≢false (sym there ∙ ap (start_at after) (sym (eqb-true at place e)) ∙ no_start))
      by false e =
          let same = elsewhere at (eqb-false at place e) in
          same ∙ q.plain at (rw same at no_start)

  pub queue_more : Queue after (set order count place) (count + 1)
  queue_more = record {
    started = started_more;
    covered = covered_more;
    counted = omega (arith, count_set marks place mark inside none odd, q.counted);
    room = rw (length-set marks place mark, length-set order count place) q.room;
    plain = plain_more;
  }

-- no more starts than marks, nor than places
pub queue_room : (marks order : List ℕ) (count : ℕ) → Queue marks order count
    → (count ≤ length marks) × (count ≤ length order)
queue_room marks order count q =
    (omega (arith, q.counted, starts_most marks), omega (arith, q.counted, starts_most marks, q.room))
