-- 02, R-1, 'A printed page of the image': the rows, the page and the answer.
-- Assumes nothing.
use Rattle.types.specs.declared.code.Undecoded.{Undecoded}
use Rattle.std.specs.Prelude.{ℕ, ◌+◌, List, [], ◌∷◌, ◌++◌, ltb, leb, length, get_or, take, drop, Ok, Err}
use Rattle.types.specs.Answers.{Decoded, refused_at, Verdict, Printed}
use Rattle.types.specs.declared.code.Entry.{Entry}
use Rattle.types.specs.declared.refusals.Refusal.{Refusal}
use Rattle.prelude.specs.Choice.{pick}
use Rattle.prelude.specs.Concat.{concat_from}
use Rattle.text.specs.Digits.{digit, digits}
use Rattle.instructions.specs.Words.{syntax_word, blank, flush_left}
use Rattle.acceptance.specs.Image.{mark_m, mark_x, mark_kind}
use Rattle.acceptance.specs.Rules.{instruction_at}
use Rattle.acceptance.specs.Verdict.{start_at, verdict}
use Rattle.lists.specs.MarkList.{kind_letter, line_end}

-- 'one 35-column row .. closed by 0A'
abbrev pub row_size : ℕ
row_size = 36

-- no instruction has more bytes
abbrev pub cell_count : ℕ
cell_count = 6

-- 'the bytes as capital hex pairs parted by blanks': cells of three columns, each with a byte's pair and a blank, or
-- blank where no byte is left
abbrev pub cell : List ℕ → ℕ → List ℕ
cell bytes k =
    pick (ltb k (length bytes)) (digits 16 2 (get_or bytes k 0) ++ (blank ∷ [])) (blank ∷ blank ∷ blank ∷ [])

unfoldable pub cells : List ℕ → List ℕ
cells bytes = concat_from (cell bytes) 0 cell_count

-- '31 m, 33 x, 35 the kind letter', as marked, in force before the instruction; 'closed by 0A'
abbrev pub mark_columns : ℕ → List ℕ
mark_columns mark =
    blank ∷ digit (mark_m mark) ∷ blank ∷ digit (mark_x mark) ∷ blank ∷ kind_letter (mark_kind mark) ∷ line_end ∷ []

-- 'Columns 1 to 6 hold the address in six capital hex digits, 8 to 24 the bytes .., 26 to 29 the first word of the
-- manual's syntax for the form'
unfoldable pub row : ℕ → List ℕ → Entry → ℕ → List ℕ
row address bytes e mark =
    digits 16 6 address ++ (blank ∷ (cells bytes ++ (flush_left 4 (syntax_word e) ++ mark_columns mark)))

-- the row of what bytes begin with; in an accepted image each start has a whole instruction
unfoldable pub row_of : ℕ → List ℕ → ℕ → Decoded → List ℕ
row_of address bytes mark (Ok i) = row address (take i.length bytes) i.entry mark
row_of address bytes mark (Err Undecoded.NotCarried) = []
row_of address bytes mark (Err Undecoded.CutOff) = []

-- 'for each start'
unfoldable pub row_at : List ℕ → List ℕ → ℕ → ℕ → List ℕ
row_at image marks base at =
    pick (start_at marks at) (row_of (base + at) (drop at image) (get_or marks at 0) (instruction_at image marks at)) []

-- the page: a row 'for each start, ascending'
unfoldable pub page_text : List ℕ → List ℕ → ℕ → List ℕ
page_text image marks base = concat_from (row_at image marks base) 0 (length marks)

-- a text of a size, where a page has room for it: 'a short buffer 15'
abbrev pub by_room : ℕ → ℕ → Printed
by_room size room = pick (leb size room) (Ok size) (refused_at Refusal.Page 0)

-- 'An unaccepted image gets the check's own refusal, then a short buffer 15'
unfoldable pub printed_by : Verdict → ℕ → ℕ → Printed
printed_by (Err r) size room = refused_at r.why r.offset
printed_by (Ok _) size room = by_room size room

unfoldable pub printed : List ℕ → List ℕ → ℕ → ℕ → List ℕ → Printed
printed image marks base reset page =
    printed_by (verdict image marks base reset) (length (page_text image marks base)) (length page)

-- 'bytes past the rows stay as given'; 01: 'A refusal leaves every buffer .. as given'
unfoldable pub page_after : Printed → List ℕ → List ℕ → List ℕ
page_after (Err r) text page = page
page_after (Ok n) text page = text ++ drop n page

unfoldable pub page_printed : List ℕ → List ℕ → ℕ → ℕ → List ℕ → List ℕ
page_printed image marks base reset page =
    page_after (printed image marks base reset page) (page_text image marks base) page
