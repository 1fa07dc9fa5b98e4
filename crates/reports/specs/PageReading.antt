-- 02, R-1: 'Joining the byte columns of all rows restores exactly the bytes covered by instructions.' What a page tells
-- a reader who knows its columns alone, and what an image and its marks have to be told.
-- Assumes nothing.
use Rattle.types.specs.declared.code.Undecoded.{Undecoded}
use Rattle.std.specs.Prelude.{◌≡◌, ℕ, zero, suc, ◌+◌, ◌*◌, ◌/◌, ◌<◌, Bool, true, ◌&&◌, List, [], ◌∷◌, eqb, ltb, leb}
use Rattle.std.specs.Prelude.{Ok, Err}
use Rattle.std.specs.Prelude.{length, get_or, take, drop}
use Rattle.types.specs.Answers.{Decoded}
use Rattle.prelude.specs.Bytes.{AllBytes}
use Rattle.prelude.specs.Choice.{pick}
use Rattle.prelude.specs.Concat.{concat_from}
use Rattle.prelude.specs.First.{first_from}
use Rattle.text.specs.Digits.{value}
use Rattle.acceptance.specs.Image.{mark_m, mark_x, mark_kind, start_count}
use Rattle.acceptance.specs.Rules.{instruction_at, Accepts}
use Rattle.acceptance.specs.Verdict.{start_at}
use Rattle.lists.specs.MarkList.{bit_shown, kind_shown, line_end}
use Rattle.instructions.specs.Words.{blank}
use Rattle.reports.specs.PrintedPage.{row_size, cell_count, row_at, page_text}

-- ---- what a page shows

-- the bytes in so many cells of three columns, up to one that is blank
unfoldable pub bytes_shown : ℕ → List ℕ → List ℕ
bytes_shown zero text = []
bytes_shown (suc n) text = pick (eqb (get_or text 0 0) blank) [] (value 16 2 text ∷ bytes_shown n (drop 3 text))

-- in the byte columns of a row, from column 8 on
abbrev pub row_bytes : List ℕ → List ℕ
row_bytes text = bytes_shown cell_count (drop 7 text)

-- a start as a row shows it: address, m, x and kind, in their columns
pub record StartShown : Type 0 where
  pub address : ℕ
  pub m : ℕ
  pub x : ℕ
  pub kind : ℕ

abbrev pub row_start : List ℕ → StartShown
row_start text = record {
  address = value 16 6 text;
  m = bit_shown (get_or text 30 0);
  x = bit_shown (get_or text 32 0);
  kind = kind_shown (get_or text 34 0);
}

-- what the rows of a page show, one behind the other
unfoldable pub page_shows : {A : Type 0} → (List ℕ → List A) → List ℕ → List A
page_shows shows page = concat_from (λ k. shows (take row_size (drop (k * row_size) page))) 0 (length page / row_size)

-- 'Joining the byte columns of all rows'
abbrev pub bytes_on_page : List ℕ → List ℕ
bytes_on_page = page_shows row_bytes

abbrev pub starts_on_page : List ℕ → List StartShown
starts_on_page = page_shows (λ text. row_start text ∷ [])

-- ---- what there is to show

-- how many bytes an instruction has
abbrev pub bytes_of : Decoded → ℕ
bytes_of (Ok i) = i.length
bytes_of (Err Undecoded.NotCarried) = 0
bytes_of (Err Undecoded.CutOff) = 0

-- the instruction that starts at a place covers another place
abbrev pub covers : List ℕ → List ℕ → ℕ → ℕ → Bool
covers image marks k at = start_at marks at && (leb at k && ltb k (at + bytes_of (instruction_at image marks at)))

-- one that starts at or before it does
unfoldable pub is_covered : List ℕ → List ℕ → ℕ → Bool
is_covered image marks k = ltb (first_from (covers image marks k) 0 (k + 1)) (k + 1)

-- 'exactly the bytes covered by instructions', in their order
unfoldable pub covered_bytes : List ℕ → List ℕ → List ℕ
covered_bytes image marks =
    concat_from (λ k. pick (is_covered image marks k) (get_or image k 0 ∷ []) []) 0 (length image)

-- the starts in their order, with what is shown of their marks
abbrev pub start_as : ℕ → ℕ → StartShown
start_as address mark =
    record { address = address; m = mark_m mark; x = mark_x mark; kind = mark_kind mark }

unfoldable pub starts_shown : List ℕ → ℕ → List StartShown
starts_shown marks base =
    concat_from (λ at. pick (start_at marks at) (start_as (base + at) (get_or marks at 0) ∷ []) []) 0 (length marks)

-- ---- the claims

-- of the page of an accepted image
pub record PageTells (image marks : List ℕ) (base : ℕ) : Type 0 where
  -- 'one 35-column row for each start .. closed by 0A'
  pub size_of_row : (at : ℕ) → at < length marks → start_at marks at ≡ true → length (row_at image marks base at) ≡
      row_size
  pub row_end : (at : ℕ) → at < length marks → start_at marks at ≡ true → get_or (row_at image marks base at) 35 0 ≡
      line_end
  pub page_size : length (page_text image marks base) ≡ row_size * start_count marks
  -- 'Joining the byte columns of all rows restores exactly the bytes covered by instructions.'
  pub bytes : AllBytes image → bytes_on_page (page_text image marks base) ≡ covered_bytes image marks
  -- the rows show the starts, ascending, with their addresses, widths and kinds
  pub starts : starts_on_page (page_text image marks base) ≡ starts_shown marks base

abbrev pub PagesTell : Type 0
PagesTell =
    (image marks : List ℕ) (base reset : ℕ) → Accepts image marks base reset → PageTells image marks base
