-- The parts of a row, each of a size of its own, joined; the row of a place by what is read there.
-- Assumes nothing.
use Rattle.types.specs.declared.code.Undecoded.{Undecoded}
use Rattle.std.specs.Prelude.{Ok, Err}
use mathlib.Core.Path.{◌≡◌, refl, sym, ap, ◌∙◌}
use mathlib.Core.Bool.{true, false}
use mathlib.Core.List.{List, [], ◌∷◌, ◌++◌, append_assoc}
use Prim.Native.Nat.{ℕ, zero, suc, ◌+◌, ◌-◌, ◌*◌, ◌/◌, ◌%◌, ◌≤◌, ◌<◌}
use native.Mathlib.Omega.{arith}
use lib.ListN.{length, get_or, take, drop, length-append}
use borrow.Author.Tests.{lt-ltb, le-ltb}
use borrow.Rule.Slice.PartMut.{put_mid}
use Rattle.prelude.specs.Concat.{concat_from}
use Rattle.text.specs.Digits.{digit, digits}
use Rattle.text.proofs.DigitLaws.{length_field}
use Rattle.text.proofs.Pages.{Front, front_next}
use Rattle.acceptance.specs.Image.{is_start}
use Rattle.instructions.specs.Words.{blank, flush_left}
use Rattle.reports.specs.PrintedPage.{row_size, cell_count, cell, cells, mark_columns, row, row_of, row_at}
use Rattle.instructions.specs.Words.{syntax_word}
use Rattle.reports.proofs.PrintedPage.{length_cell, length_cells, length_flush, length_row}
use Rattle.codepages.specs.Packing.{unpacked}
use Rattle.entries.proofs.Words.{word_short}
use Rattle.decoder.specs.declared.Layout.{Layout}
use Rattle.decoder.specs.Layout.{instruction_of}
use Rattle.acceptance.specs.Rules.{instruction_at}
use Rattle.printer.proofs.Pieces.{Pieces, piece_fits, next_piece, all_pieces}

-- ---- cells

pub blank_cell : (bytes : List ℕ) (k : ℕ) → length bytes ≤ k → blank ∷ blank ∷ blank ∷ [] ≡ cell bytes k
blank_cell bytes k past = rw (le-ltb k (length bytes) past)

pub byte_cell : (bytes : List ℕ) (k high low : ℕ) → k < length bytes → get_or bytes k 0 < 256
    → high ≡ digit (get_or bytes k 0 / 16) → low ≡ digit (get_or bytes k 0 % 16)
    → high ∷ low ∷ blank ∷ [] ≡ cell bytes k
unfolding digits
byte_cell bytes k high low inside small e e' =
    let same : get_or bytes k 0 / 16 % 16 ≡ get_or bytes k 0 / 16 = omega arith in
    rw (lt-ltb k (length bytes) inside, same, e, e') refl

cells_from : (bytes : List ℕ) (i n : ℕ) → length (concat_from (cell bytes) i n) ≡ 3 * n
unfolding concat_from
cells_from bytes i zero = refl
cells_from bytes i (suc n) =
    rw (length-append (cell bytes i) (concat_from (cell bytes) (i + 1) n))
    (omega (arith, length_cell bytes i, cells_from bytes (i + 1) n))

-- the cells of the places before k are written
abbrev pub Cells : List ℕ → List ℕ → List ℕ → ℕ → Type 0
Cells bytes given page k = Pieces (cell bytes) cell_count given page (k * 3) k

module _ (bytes given page : List ℕ) (k : ℕ) (room : 18 ≤ length given) (inside : k < cell_count)
    (p : Cells bytes given page k)
  where
    room_for_all : length (concat_from (cell bytes) 0 cell_count) ≤ length given
    room_for_all = omega (arith, cells_from bytes 0 cell_count)

    pub cell_fits : k * 3 + 3 ≤ length given
    cell_fits =
        omega (
          arith,
          piece_fits (cell bytes) cell_count given page (k * 3) k room_for_all inside p,
          length_cell bytes k,
        )

    pub next_cell : (shown part : List ℕ) → shown ≡ cell bytes k
        → part ≡ shown ++ drop (length shown) (take (length page - k * 3) (drop (k * 3) page))
        → Cells bytes given (put_mid (k * 3) (length page - k * 3) page part) (k + 1)
    next_cell shown part e got =
        let place : (k + 1) * 3 ≡ k * 3 + 3 = omega arith in
        rw place
        (next_piece (cell bytes) cell_count given page (k * 3) k room_for_all inside p 3 part
        (sym (length_cell bytes k))
        (rw (e, length_cell bytes k) at got))

pub all_cells : (bytes given page : List ℕ) (k : ℕ) → cell_count ≤ k → Cells bytes given page k
    → page ≡ cells bytes ++ drop 18 given
unfolding cells
all_cells bytes given page k past p =
    rw (cells_from bytes 0 cell_count) at (all_pieces (cell bytes) cell_count given page (k * 3) k past p)

-- ---- a row

joined : (address bytes word ending : List ℕ)
    → (((address ++ (blank ∷ [])) ++ bytes) ++ word) ++ ending ≡ address ++ (blank ∷ (bytes ++ (word ++ ending)))
joined address bytes word ending = simp append_assoc

module _ (address number mark : ℕ) (bytes given : List ℕ) (room : row_size ≤ length given) where
  abbrev word : List ℕ
  word = flush_left 4 (syntax_word (unpacked number))

  word_size : length word ≡ 4
  word_size = length_flush 4 (syntax_word (unpacked number)) (word_short number)

  -- part behind part, each put into the rest of the page
  pub row_put : (page cells-part word-shown word-part end-shown end-part : List ℕ)
      → page ≡ (digits 16 6 address ++ (blank ∷ [])) ++ drop 7 given
      → cells-part ≡ cells bytes ++ drop 18 (take (length page - 7) (drop 7 page))
      → word-shown ≡ word → end-shown ≡ mark_columns mark
      → (let with-cells = put_mid 7 (length page - 7) page cells-part in
      let with-word = put_mid 25 (length with-cells - 25) with-cells word-part in
      word-part ≡ word-shown ++ drop (length word-shown) (take (length with-cells - 25) (drop 25 with-cells))
      → end-part ≡ end-shown ++ drop (length end-shown) (take (length with-word - 29) (drop 29 with-word))
      → put_mid 29 (length with-word - 29) with-word end-part
      ≡ row address bytes (unpacked number) mark ++ drop row_size given)
  unfolding row
  row_put page cells-part word-shown word-part end-shown end-part at_address at_cells e-word e-end at-word at-end =
      let first : Front given 7 (digits 16 6 address ++ (blank ∷ [])) page =
      record { same = at_address; long = length_field 16 6 address blank; room = omega arith } in
      let second = front_next 18 (cells bytes) cells-part first at_cells (length_cells bytes) (omega arith) in
      let third = front_next 4 word word-part second (rw (e-word, word_size) at at-word) (word_size)
      (omega arith) in
      let fourth = front_next 7 (mark_columns mark) end-part third (rw e-end at at-end) refl room in
      fourth.same ∙ ap (◌++ drop row_size given) (joined (digits 16 6 address) (cells bytes) word (mark_columns mark))

-- ---- the row of a place

module _ (image marks : List ℕ) (base at : ℕ) where
  abbrev mark : ℕ
  mark = get_or marks at 0

  pub no_row : is_start mark ≡ false → row_at image marks base at ≡ []
  unfolding row_at
  no_row e = rw e

  module _ (started : is_start mark ≡ true) where
    module _ (f : Layout) (whole : instruction_at image marks at ≡ Ok (instruction_of (drop at image) f)) where
      pub whole_row : row_at image marks base at ≡ row (base + at) (take f.length (drop at image)) (unpacked f.number) mark
      unfolding row_at row_of
      whole_row = rw (started, whole)

      -- its size, and the page where it was put
      pub whole_size : row_size ≡ length (row_at image marks base at)
      whole_size =
          rw whole_row (sym (length_row (base + at) (take f.length (drop at image)) (unpacked f.number) mark
          (word_short f.number)))

      pub whole_put : (page given : List ℕ)
          → page ≡ row (base + at) (take f.length (drop at image)) (unpacked f.number) mark ++ drop row_size given
          → page ≡ row_at image marks base at ++ drop row_size given
      whole_put page given got = rw whole_row got

    -- where no instruction is read there is none
    pub unread_row : (why : Undecoded) → instruction_at image marks at ≡ Err why → row_at image marks base at ≡ []
    unfolding row_at row_of
    unread_row Undecoded.NotCarried e = rw (started, e)
    unread_row Undecoded.CutOff e = rw (started, e)
