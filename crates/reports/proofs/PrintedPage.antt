-- The columns of a row. Each part has its number of them, so that a row has 36 bytes and the fields of its mark stand
-- where they should.
-- Assumes nothing.
use mathlib.Core.Path.{◌≡◌, refl}
use mathlib.Core.Bool.{Bool, true, false}
use mathlib.Core.List.{List, ◌∷◌, ◌++◌, append_assoc}
use Prim.Native.Nat.{ℕ, ◌+◌, ◌-◌, ◌≤◌}
use native.Mathlib.Omega.{arith}
use lib.Dec.{ltb}
use lib.ListN.{length, get_or, replicate, length-append, length-replicate}
use lib.Seq.{drop_at, get_or-drop}
use Rattle.types.specs.declared.code.Entry.{Entry}
use Rattle.prelude.specs.Concat.{concat_from}
use Rattle.text.specs.Digits.{digits}
use Rattle.text.proofs.DigitLaws.{length_digits}
use Rattle.instructions.specs.Words.{syntax_word, blank, flush_left}
use Rattle.reports.specs.PrintedPage.{row_size, cell, cells, mark_columns, row}

pub length_cell : (bytes : List ℕ) (k : ℕ) → length (cell bytes k) ≡ 3
length_cell bytes k = by (ltb k (length bytes)) refl
  where
    by : (b : Bool) → ltb k (length bytes) ≡ b → length (cell bytes k) ≡ 3
    by true h = rw h (simp (length-append, length_digits))
    by false h = rw h

pub length_cells : (bytes : List ℕ) → length (cells bytes) ≡ 18
unfolding cells concat_from
length_cells bytes = simp (length-append, length_cell bytes)

pub length_flush : (columns : ℕ) (text : List ℕ) → length text ≤ columns → length (flush_left columns text) ≡ columns
unfolding flush_left
length_flush columns text short =
    let left = columns - length text in
    rw (length-append text (replicate left blank), length-replicate left blank) (omega arith)

module _ (address : ℕ) (bytes : List ℕ) (e : Entry) (mark : ℕ) (short : length (syntax_word e) ≤ 4) where
  -- the columns before those of the mark
  abbrev front : List ℕ
  front = digits 16 6 address ++ (blank ∷ (cells bytes ++ flush_left 4 (syntax_word e)))

  row_parts : row address bytes e mark ≡ front ++ mark_columns mark
  unfolding row
  row_parts = simp append_assoc

  length_front : length front ≡ 29
  length_front = simp (length-append, length_digits, length_cells bytes, length_flush 4 (syntax_word e) short)

  pub at_mark : (k : ℕ) → get_or (row address bytes e mark) (29 + k) 0 ≡ get_or (mark_columns mark) k 0
  at_mark k =
      rw (
        row_parts,
        ← get_or-drop 29 (front ++ mark_columns mark) k 0,
        drop_at front (mark_columns mark) 29
            length_front,
      )

  pub length_row : length (row address bytes e mark) ≡ row_size
  length_row = rw (row_parts, length-append front (mark_columns mark), length_front) refl
