-- What a page's number keeps is the entry of the definition. antt computes the unpacked pages and the pages of entries,
-- and finds them the same list; a look-up then goes through the maps that made them.
-- Assumes nothing.
use mathlib.Core.Path.{◌≡◌, refl, sym, ap, ◌∙◌}
use mathlib.Core.List.{List, [], map}
use mathlib.Core.Bool.{true}
use Prim.Native.Nat.{ℕ, zero, suc, ◌/◌, ◌%◌}
use borrow.Author.Tests.{eqb-true}
use lib.Dec.{eqb}
use lib.ListN.{get_or, get_or-map}
use Rattle.types.specs.declared.code.WidthEffect.{WidthEffect}
use Rattle.instructions.specs.CodePages.{Form, none, plain, behind42, behind89, pages}
use Rattle.instructions.specs.CodeMap.{entry_of, entry_at}
use Rattle.codepages.specs.Packing.{unpacked, packed, packed_page, packed_pages, packed_at}

-- the cell of a table of rows
abbrev cell : {A : Type 0} → List (List A) → ℕ → ℕ → A → A
cell table row column d = get_or (get_or table row []) column d

cell_map : {A B : Type 0} (f : A → B) (table : List (List A)) (row column : ℕ) (d : A)
    → cell (map (map f) table) row column (f d) ≡ f (cell table row column d)
cell_map f table row column d =
    ap (λ l. get_or l column (f d)) (get_or-map (map f) table row []) ∙ get_or-map f (get_or table row []) column d

module _ (prefix : ℕ) (page : List (List Form)) where
  abbrev number_of : Form → ℕ
  number_of f = packed (entry_of prefix f)

  -- where a page unpacked is the page of its entries, each cell is
  cell_same : map (map unpacked) (packed_page prefix page) ≡ map (map (entry_of prefix)) page → number_of none ≡ 0 →
      unpacked 0 ≡ entry_of prefix none
      → (row column : ℕ) → unpacked (cell (packed_page prefix page) row column 0) ≡ entry_of prefix (cell page row
      column none)
  cell_same same zero-none none-same row column =
      sym (cell_map unpacked (packed_page prefix page) row column 0)
      ∙ ap (λ d. cell (map (map unpacked) (packed_page prefix page)) row column d) none-same
      ∙ ap (λ l. cell l row column (entry_of prefix none)) same
      ∙ cell_map (entry_of prefix) page row column none

pub unpacked_at : (page code : ℕ) → unpacked (packed_at packed_pages page code) ≡ entry_at page code
unfolding unpacked packed_pages entry_at pages plain behind42 behind89
unpacked_at zero code = cell_same 0 plain refl refl refl (code / 16) (code % 16)
unpacked_at (suc zero) code = cell_same 1 behind42 refl refl refl (code / 16) (code % 16)
unpacked_at (suc (suc zero)) code = cell_same 1 behind89 refl refl refl (code / 16) (code % 16)
unpacked_at (suc (suc (suc page))) code = refl

-- the first of the effects keeps the widths
pub kept_effect : (n : ℕ) → eqb (n / 2_097_152 % 8) 0 ≡ true → (unpacked n).effect ≡ WidthEffect.KeepWidths
unfolding unpacked
kept_effect n e = rw (eqb-true (n / 2_097_152 % 8) 0 e)
