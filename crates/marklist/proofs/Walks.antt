-- The walks over addresses, in any digits: one more address of what is left, of the marks filled, of the lines measured
-- and written.
-- Assumes nothing.
use mathlib.Core.Path.{◌≡◌, refl, sym, ap, ◌∙◌}
use mathlib.Core.List.{List, [], ◌∷◌, ◌++◌, append-nil, append_assoc}
use Prim.Native.Nat.{ℕ, suc, ◌+◌, ◌-◌, ◌≤◌, ◌<◌}
use native.Mathlib.Nat.{add-zero}
use native.Mathlib.Numerals.{add-one}
use native.Mathlib.Omega.{arith}
use lib.ListN.{length, get_or, take, drop, set, length-append, length-drop, length-set, drop_of_length-le}
use lib.Seq.{drop-cons, drop-drop, take_at, take-suc-set, take_all, append_snoc}
use borrow.Rule.Slice.PartMut.{put_mid}
use Rattle.std.specs.List.{sum_by}
use Rattle.std.proofs.lemmas.List.Sums.{sum_by-cons}
use Rattle.lists.specs.MarkList.{line_of, lines, mark_shown, line_size, marks_shown, lines_left}
use Rattle.lists.proofs.MarkList.{length_line_of, shown_line}
use Rattle.text.proofs.Pages.{Front, front_next}

module _ (digits : ℕ) where
  -- a line that a text shows is within it
  pub shown_inside : (address : ℕ) (text : List ℕ) → line_size digits (mark_shown digits address text) ≤ length text
  shown_inside address text =
      let mark = mark_shown digits address text in
      omega (
        arith,
        length_line_of digits address mark,
        simp length-append at
            (ap length (shown_line digits address text)),
      )

  -- ---- what is left

  abbrev pub Left : List ℕ → ℕ → ℕ → ℕ → ℕ → ℕ → Type 0
  Left text at address count place i =
      (i ≤ count) × (place ≤ length text)
      × (lines_left digits (address + i) (count - i) (drop place text) ≡ lines_left digits address count (drop at text))

  pub none_walked : (text : List ℕ) (at address count : ℕ) → at ≤ length text → Left text at address count at 0
  none_walked text at address count inside =
      let all : count - 0 ≡ count = omega arith in
      (omega arith, inside, rw (add-zero address, all))

  left_step : (address n : ℕ) (text : List ℕ)
      → lines_left digits address (suc n) text ≡ lines_left digits (address + 1) n
      (drop (line_size digits (mark_shown digits address text)) text)
  unfolding lines_left
  left_step address n text = refl

  pub one_more_walked : (text : List ℕ) (at address count place i size : ℕ) → i < count
      → size ≡ line_size digits (mark_shown digits (address + i) (drop place text)) → Left text at address count place i
      → Left text at address count (place + size) (i + 1)
  one_more_walked text at address count place i size inside e l =
      let left : count - i ≡ suc (count - (i + 1)) = omega arith in
      let next : address + i + 1 ≡ address + (i + 1) = omega arith in
      let rest = drop place text in
      let within = shown_inside (address + i) rest in
      let same = rw (left, left_step (address + i) (count - (i + 1)) rest, next, ← e, drop-drop size place text) at
      l.2 in
      (omega arith, omega (arith, within, length-drop place text, l.1, e), same)

  pub all_walked : (text : List ℕ) (at address count place i : ℕ) → count ≤ i → Left text at address count place i
      → drop place text ≡ lines_left digits address count (drop at text)
  unfolding lines_left
  all_walked text at address count place i past l =
      let none : count - i ≡ 0 = omega arith in
      rw none at l.2

  -- ---- the marks filled

  abbrev pub Filled : List ℕ → ℕ → ℕ → List ℕ → List ℕ → ℕ → ℕ → Type 0
  Filled text at address given marks place i =
      (i ≤ length marks) × (place ≤ length text) × (length marks ≡ length given)
      × (take i marks ++ marks_shown digits (address + i) (length given - i) (drop place text)
      ≡ marks_shown digits address (length given) (drop at text))

  pub none_filled : (text : List ℕ) (at address : ℕ) (given : List ℕ) → at ≤ length text
      → Filled text at address given given at 0
  none_filled text at address given inside =
      let all : length given - 0 ≡ length given = omega arith in
      (omega arith, inside, refl, rw (add-zero address, all))

  marks_step : (address n : ℕ) (text : List ℕ) → marks_shown digits address (suc n) text
      ≡ mark_shown digits address text ∷ marks_shown digits (address + 1) n
      (drop (line_size digits (mark_shown digits address text)) text)
  unfolding marks_shown
  marks_step address n text = refl

  pub one_more_filled : (text : List ℕ) (at address : ℕ) (given marks : List ℕ) (place i mark size : ℕ) → i < length
      marks
      → mark ≡ mark_shown digits (address + i) (drop place text) → size ≡ line_size digits mark
      → Filled text at address given marks place i
      → Filled text at address given (set marks i mark) (place + size) (i + 1)
  one_more_filled text at address given marks place i mark size inside shown e f =
      let left : length given - i ≡ suc (length given - (i + 1)) = omega (arith, f.2) in
      let next : address + i + 1 ≡ address + (i + 1) = omega arith in
      let rest = drop place text in
      let within = shown_inside (address + i) rest in
      let sized : size ≡ line_size digits (mark_shown digits (address + i) rest) = rw shown at e in
      let step = rw (next, ← sized, drop-drop size place text, ← shown) at (marks_step (address + i) (length given - (i
      + 1)) rest) in
      let whole = rw (left, step) at f.3 in (
        rw (length-set marks i mark) (omega arith),
        omega (arith, within, length-drop place text, f.1, sized),
        rw (length-set marks i mark) f.2,
        rw (add-one i, take-suc-set marks i mark inside, append_snoc) (rw (add-one i) at whole),
      )

  pub all_filled : (text : List ℕ) (at address : ℕ) (given marks : List ℕ) (place i : ℕ) → length marks ≤ i
      → Filled text at address given marks place i → marks ≡ marks_shown digits address (length given) (drop at text)
  unfolding marks_shown
  all_filled text at address given marks place i past f =
      let none : length given - i ≡ 0 = omega (arith, f.2) in
      sym (take_all i marks past) ∙ sym (append-nil (take i marks)) ∙ (rw none at f.3)

  -- ---- the lines measured

  pub lines_measured : (address : ℕ) (marks : List ℕ)
      → length (lines digits address marks) ≡ sum_by (line_size digits) marks
  unfolding lines
  lines_measured address [] = refl
  lines_measured address (mark ∷ marks) =
      rw (
        length-append (line_of digits address mark) (lines digits (address + 1) marks),
        length_line_of digits address mark,
        lines_measured (address + 1) marks,
        sum_by-cons (line_size digits) mark marks,
      )

  -- ---- the lines written

  abbrev pub Put : List ℕ → ℕ → List ℕ → List ℕ → ℕ → ℕ → Type 0
  Put given address marks page at i =
      (i ≤ length marks) × Front given at (take at page) page
      × (take at page ++ lines digits (address + i) (drop i marks) ≡ lines digits address marks)

  pub none_put : (given : List ℕ) (address : ℕ) (marks : List ℕ) → Put given address marks given 0 0
  none_put given address marks =
      (omega arith, record { same = refl; long = refl; room = omega arith }, rw (add-zero address))

  front_take : {given : List ℕ} {n : ℕ} {written page : List ℕ} → Front given n written page → take n page ≡ written
  front_take {given} {n} {written} {page} f = ap (take n) f.same ∙ take_at written (drop n given) n f.long

  module _ (given : List ℕ) (address : ℕ) (marks page : List ℕ) (at i : ℕ)
      (room : length (lines digits address marks) ≤ length given)
      (inside : i < length marks) (p : Put given address marks page at i) where
    lines_next : lines digits (address + i) (drop i marks)
        ≡ line_of digits (address + i) (get_or marks i 0) ++ lines digits (address + (i + 1)) (drop (i + 1) marks)
    unfolding lines
    lines_next =
        let next : address + i + 1 ≡ address + suc i = omega arith in
        rw (drop-cons marks i 0 inside, add-one i, next)

    pub line_fits : at + line_size digits (get_or marks i 0) ≤ length given
    line_fits =
        let whole = simp length-append at (ap length (rw lines_next at p.2)) in
        omega (arith, p.1.long, length_line_of digits (address + i) (get_or marks i 0), whole)

    pub one_more_put : (size : ℕ) (part : List ℕ) → size ≡ line_size digits (get_or marks i 0)
        → part ≡ line_of digits (address + i) (get_or marks i 0) ++ drop size (take (length page - at) (drop at page))
        → Put given address marks (put_mid at (length page - at) page part) (at + size) (i + 1)
    one_more_put size part e got =
        let mark = get_or marks i 0 in
        let f = front_next size (line_of digits (address + i) mark) part p.1 got
        (length_line_of digits (address + i) mark ∙ sym e)
        (rw e line_fits) in
        let rest = lines digits (address + (i + 1)) (drop (i + 1) marks) in (
          omega arith,
          rw (front_take f) f,
          rw (front_take f)
              (append_assoc (take at page) (line_of digits (address + i) mark) rest
              ∙ ap (take at page ++◌) (sym lines_next) ∙ p.2),
        )

  pub all_put : (given : List ℕ) (address : ℕ) (marks page : List ℕ) (at i : ℕ) → length marks ≤ i
      → Put given address marks page at i
      → page ≡ lines digits address marks ++ drop (length (lines digits address marks)) given
  unfolding lines
  all_put given address marks page at i past p =
      let none : drop i marks ≡ [] = drop_of_length-le marks {i = i} past in
      let written : take at page ≡ lines digits address marks = sym (append-nil (take at page)) ∙ (rw none at p.2) in
      let size : at ≡ length (lines digits address marks) = sym p.1.long ∙ ap length written in
      p.1.same ∙ ap (◌++ drop at given) written ∙ ap (λ n. lines digits address marks ++ drop n given) size
