-- Lines of starts in four digits, or in six, do not go on with a line in the other ones: the byte behind four digits is
-- a tab in the one and a digit in the other.
-- Assumes nothing.
use mathlib.Core.Path.{◌≡◌, refl, sym, ap, ◌∙◌}
use mathlib.Core.Logic.{◌⊎◌, inl, inr}
use mathlib.Core.Bool.{Bool, true, false, not, true≢false}
use mathlib.Core.List.{List, [], ◌++◌, append_assoc}
use Prim.Native.Nat.{ℕ, ◌+◌}
use native.Mathlib.Omega.{arith}
use lib.ListN.{length, drop, length-append}
use lib.Seq.{drop_at}
use Rattle.types.specs.declared.lists.Header.{Header}
use Rattle.lists.specs.MarkList.{digits_by, header_text, line, length_digits_shown, decimal_digits}
use Rattle.lists.specs.ListForm.{StartLines, IsMarkList}
use Rattle.lists.specs.ListForm.StartLines.{none, start}
use Rattle.lists.specs.Routines.{IsRoutineList, has_old_lines}
use Rattle.lists.specs.Mixtures.{Mixed, MixturesFail}
use Rattle.lists.proofs.MarkList.{length_line, length_header, old_again, count_again}
use Rattle.lists.proofs.ListForm.{shows_old}
use Rattle.lists.proofs.RoutineList.{line_old, lines_old}

other : (b : Bool) → not b ≡ b → ⊥
other true e = true≢false (sym e)
other false e = true≢false e

-- no line is an empty text
no_line_empty : (count address mark : ℕ) (rest : List ℕ) → line count address mark ++ rest ≡ [] → ⊥
no_line_empty count address mark rest e =
    omega (arith, length_line count address mark, length-append (line count address mark) rest, ap length e)

-- what follows a line of so many digits
behind_line : (count address mark : ℕ) (rest : List ℕ) → drop (count + 11) (line count address mark ++ rest) ≡ rest
behind_line count address mark rest =
    drop_at (line count address mark) rest (count + 11) (length_line count address mark)

mixed_lines : (old : Bool) (end low end' low' address mark : ℕ) (before rest text : List ℕ)
    → text ≡ before ++ (line (digits_by (not old)) address mark ++ rest)
    → StartLines (digits_by old) end low before → StartLines (digits_by old) end' low' text → ⊥
mixed_lines old end low end' low' address mark before rest text e (none at) l = by (lines_old old end' low' text l)
  where
    by : (text ≡ []) ⊎ (has_old_lines text ≡ old) → ⊥
    by (inl empty) = no_line_empty (digits_by (not old)) address mark rest (sym e ∙ empty)
    by (inr same) = other old (sym (line_old (not old) address mark rest) ∙ ap has_old_lines (sym e) ∙ same)
mixed_lines old end low end' low' address mark before rest text e (start at a m r from below inside started formed more)
    (none at') =
    no_line_empty (digits_by old) a m (r ++ (line (digits_by (not old)) address mark ++ rest))
    (sym (append_assoc (line (digits_by old) a m) r (line (digits_by (not old)) address mark ++ rest)) ∙ sym e)
mixed_lines old end low end' low' address mark before rest text e (start at a m r from below inside started formed more)
    (start at' a' m' r' from' below' inside' started' formed' more') =
    let tail = line (digits_by (not old)) address mark ++ rest in
    let same : r' ≡ r ++ tail =
    sym (behind_line (digits_by old) a' m' r')
    ∙ ap (drop (digits_by old + 11)) (e ∙ append_assoc (line (digits_by old) a m) r tail)
    ∙ behind_line (digits_by old) a m (r ++ tail) in
    mixed_lines old end (a + 1) end' (a' + 1) address mark r rest r' same more more'

-- the lines behind two first lines of the same digits
behind_headers : (old : Bool) (h g : Header) (lines more : List ℕ)
    → header_text (digits_by old) h ++ lines ≡ header_text (digits_by old) g ++ more → lines ≡ more
behind_headers old h g lines more e =
    let count = digits_by old in
    let n = length (header_text count g) in
    let shown : decimal_digits h.length ≡ decimal_digits g.length =
    sym (count_again old h lines) ∙ ap length_digits_shown e ∙ count_again old g more in
    let long : length (header_text count h) ≡ n =
    omega (arith, length_header count h, length_header count g, shown) in
    sym (drop_at (header_text count h) lines n long) ∙ ap (drop n) e ∙ drop_at (header_text count g) more n refl

lists : (old : Bool) (h : Header) (lines : List ℕ) → Mixed old lines
    → IsMarkList (header_text (digits_by old) h ++ lines) → ⊥
lists old h lines m l =
    let same : l.old ≡ old = sym (shows_old _ l) ∙ old_again old h lines in
    let whole = rw same at l.whole in
    let starts = rw same at l.starts in
    mixed_lines old m.end m.low _ _ m.address m.mark m.before m.rest l.lines
    (sym (behind_headers old h l.header lines l.lines whole) ∙ m.whole) m.starts starts

routines : (old : Bool) (text : List ℕ) → Mixed old text → has_old_lines text ≡ old → IsRoutineList text → ⊥
routines old text m first l = by (lines_old l.old _ 0 text l.starts)
  where
    by : (text ≡ []) ⊎ (has_old_lines text ≡ l.old) → ⊥
    by (inl empty) = absurd (omega (
      arith,
      length-append m.before (line (digits_by (not old)) m.address m.mark ++ m.rest),
      length-append (line (digits_by (not old)) m.address m.mark) m.rest,
      length_line (digits_by (not old)) m.address m.mark,
      ap length (sym m.whole ∙ empty),
    ))
    by (inr shown) =
        let same : l.old ≡ old = sym shown ∙ first in
        let starts = rw same at l.starts in
        mixed_lines old m.end m.low _ 0 m.address m.mark m.before m.rest text m.whole m.starts
        starts

pub mixtures_fail : MixturesFail
mixtures_fail = record { lists = lists; routines = routines }
