-- A routine list read from line to line: what the addresses from the next one on leave of the text from a place on is
-- what all of them leave of the whole.
-- Assumes nothing.
use mathlib.Core.Path.{◌≡◌, refl, sym, ap, ◌∙◌}
use mathlib.Core.Bool.{Bool, true, false}
use mathlib.Core.List.{List, [], ◌∷◌}
use Prim.Native.Nat.{ℕ, ◌+◌, ◌-◌, ◌*◌, ◌^◌, ◌≤◌, ◌<◌}
use native.Mathlib.Omega.{arith}
use borrow.Author.Tests.{ne_eqb}
use lib.ListN.{length, drop}
use Rattle.prelude.specs.Choice.{pick}
use Rattle.text.specs.Digits.{value}
use Rattle.lists.specs.MarkList.{digits_by, is_line, mark_shown, line_size, lines_left}
use Rattle.lists.specs.Routines.{routine_digits, is_routine_list}
use Rattle.lists.proofs.MarkList.{shown_start, line_at}
use Rattle.lists.proofs.RoutineList.{left_to, left_taken, left_all, left_empty, none_later, none_there}
use Rattle.marklist.proofs.Walks.{shown_inside}

-- how many addresses the digits of a text tell apart
abbrev span : List ℕ → ℕ
span text = 16 ^ routine_digits text

-- what all of them leave of it
abbrev left_over : List ℕ → List ℕ
left_over text = lines_left (routine_digits text) 0 (span text) text

-- from the next address on, the rest of a text leaves the same
abbrev pub Judged : List ℕ → List ℕ → ℕ → Type 0
Judged text rest next =
    (next ≤ span text) × (left_to (routine_digits text) (span text) next rest ≡ left_over text)

pub none_judged : (text : List ℕ) → Judged text text 0
none_judged text =
    let all : span text - 0 ≡ span text = omega arith in
    (omega arith, rw all refl)

-- a number of so many digits fits 32 bits, whatever bytes these are
pub number_fits : (old : Bool) (count : ℕ) → count ≡ digits_by old
    → (0 + count < 18_446_744_073_709_551_616) × (2 ≤ 16) × (255 * 16 ^ count ≤ 4_294_967_295)
number_fits true count e = rw e (omega arith, omega arith, omega arith)
number_fits false count e = rw e (omega arith, omega arith, omega arith)

size_shown : (count address : ℕ) (text : List ℕ) (b : Bool) → is_line count address text ≡ b
    → line_size count (mark_shown count address text) ≡ pick b (count + 11) 0
unfolding mark_shown line_size
size_shown count address text true e = rw (e, shown_start (drop count text))
size_shown count address text false e = rw e

module _ (text rest : List ℕ) (next address : ℕ) (some : 0 < length rest) (so : Judged text rest next)
    (is_Address : address ≡ value 16 (routine_digits text) rest) where
  abbrev count : ℕ
  count = routine_digits text

  -- where nothing is taken, something is left
  some_left : ((j : ℕ) → next ≤ j → is_line count j rest ≡ false) → false ≡ is_routine_list text
  unfolding is_routine_list
  some_left none =
      let all : left_over text ≡ rest = sym so.1 ∙ left_all count (span text) next rest none in
      sym (ne_eqb (length (left_over text)) 0 (λ e. omega (arith, sym (ap length all) ∙ e)))

  pub passed_address : address < next → false ≡ is_routine_list text
  passed_address low = some_left (none_later count next rest (rw is_Address at low))

  module _ (size : ℕ) (is-size : size ≡ line_size count (mark_shown count address rest)) where
    pub line_inside : size ≤ length rest
    line_inside = omega (arith, is-size, shown_inside count address rest)

    by_line : (b : Bool) → is_line count address rest ≡ b → size ≡ pick b (count + 11) 0
    by_line b e = is-size ∙ size_shown count address rest b e

    pub no_line : size ≡ 0 → false ≡ is_routine_list text
    no_line none = by (is_line count address rest) refl
      where
        by : (b : Bool) → is_line count address rest ≡ b → false ≡ is_routine_list text
        by true e = absurd (omega (arith, by_line true e))
        by false e = some_left (none_there count next rest (rw is_Address at e))

    pub line_judged : next ≤ address → (size ≡ 0 → ⊥) → Judged text (drop size rest) (address + 1)
    line_judged low other = by (is_line count address rest) refl
      where
        by : (b : Bool) → is_line count address rest ≡ b → Judged text (drop size rest) (address + 1)
        by true e =
            let inside = (line_at count address rest e).inside in
            let taken = left_taken count (span text) next rest (rw is_Address at low) (rw is_Address at inside)
            (rw is_Address at e) in (
              omega (arith, inside),
              ap (λ n. left_to count (span text) (address + 1) (drop n rest)) (by_line true e)
                  ∙ rw (← is_Address) at (sym taken) ∙ so.1,
            )
        by false e = absurd (other (by_line false e))

pub all_judged : (text rest : List ℕ) (next : ℕ) → length rest ≡ 0 → Judged text rest next
    → true ≡ is_routine_list text
unfolding is_routine_list
all_judged text [] next past so =
    let all : left_over text ≡ [] = sym so.1 ∙ left_empty (routine_digits text) (span text) next in
    rw all refl
all_judged text (b ∷ rest) next past so = absurd (omega arith)
