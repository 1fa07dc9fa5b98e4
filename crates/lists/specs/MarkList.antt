-- 01, 'The mark list': the text of a list, what a text shows, and the answers of the reader and the writer, with the
-- numbers in the order of 'Numbers': 'Reader: 14, 1, 2, 3. Writer: 1, 2, 4, 3, 15.' The addresses of a list, the reset
-- among them, have one count of digits, which is the first parameter of what hangs on it (02, R-7). A list in four
-- digits is an old one.
-- Assumes nothing.
use Rattle.std.specs.Prelude.{ℕ, zero, suc, ◌+◌, ◌%◌, ◌^◌, Bool, not, ◌&&◌, ◌||◌, List, [], ◌∷◌, ◌++◌, eqb, ltb, leb}
use Rattle.std.specs.Prelude.{Ok, Err}
use Rattle.std.specs.Prelude.{length, get_or, drop}
use Rattle.types.specs.declared.lists.Header.{Header}
use Rattle.types.specs.declared.refusals.Refusal.{Refusal}
use Rattle.types.specs.Answers.{ListRead, ListWritten}
use Rattle.prelude.specs.Choice.{pick}
use Rattle.text.specs.Digits.{digit, digits, value, digit_count}
use Rattle.text.specs.Text.{starts_with}
use Rattle.types.specs.Addresses.{bank_size, in_bank_of}
use Rattle.acceptance.specs.Image.{is_start, mark_m, mark_x, mark_kind, return_m, return_x, mark_of, is_formed}
use Rattle.acceptance.specs.Image.{length_fits}
use Rattle.acceptance.specs.Image.{base_fits, reset_fits}
use Rattle.types.specs.Refusals.{Tests, first_refusal, answered}
use Rattle.prelude.specs.First.{first_from}
use Rattle.acceptance.specs.Verdict.{marks_tests}

-- 'fields parted by tabs (09), each line closed by 0A'
abbrev pub tab : ℕ
tab = 0x09

abbrev pub line_end : ℕ
line_end = 0x0A

-- 'The length has 1 to 5 digits', 'no leading zero'
abbrev pub digits_of_length : ℕ
digits_of_length = 5

abbrev pub length_limit : ℕ
length_limit = 100_000

abbrev pub decimal_digits : ℕ → ℕ
decimal_digits n = digit_count 10 digits_of_length n

-- R-7: 'Mark and routine lists now write all addresses with six digits, reset included'; 'A list wholly in four digits
-- is still read'
abbrev pub new_digits : ℕ
new_digits = 6

abbrev pub old_digits : ℕ
old_digits = 4

abbrev pub digits_by : Bool → ℕ
digits_by old = pick old old_digits new_digits

-- 'First line: I, base (six hex digits), image length (decimal, no leading zero), reset'
unfoldable pub header_text : ℕ → Header → List ℕ
header_text count h =
    0x49 ∷ tab ∷ (digits 16 6 h.base
    ++ (tab ∷ (digits 10 (decimal_digits h.length) h.length
    ++ (tab ∷ (digits 16 count h.reset
    ++ (line_end ∷ []))))))

-- 'kind (N, S or L for 0, 1, 2)'
unfoldable pub kind_letter : ℕ → ℕ
kind_letter kind = pick (eqb kind 0) 0x4E (pick (eqb kind 1) 0x53 0x4C)

-- 'm, x, kind, return m, return x', with the tab before each and the line's end
unfoldable pub fields : ℕ → List ℕ
fields mark =
    tab ∷ digit (mark_m mark) ∷ tab ∷ digit (mark_x mark) ∷ tab ∷ kind_letter (mark_kind mark)
    ∷ tab ∷ digit (return_m mark) ∷ tab ∷ digit (return_x mark) ∷ line_end ∷ []

-- the address, then the fields
unfoldable pub line : ℕ → ℕ → ℕ → List ℕ
line count address mark = digits 16 count address ++ fields mark

-- 'one line for each start, ascending'
unfoldable pub line_of : ℕ → ℕ → ℕ → List ℕ
line_of count address mark = pick (is_start mark) (line count address mark) []

unfoldable pub lines : ℕ → ℕ → List ℕ → List ℕ
lines count address [] = []
lines count address (mark ∷ marks) = line_of count address mark ++ lines count (address + 1) marks

-- the first of the addresses of a list, as far as its digits show it: the base, or, in four digits, 'the base's low 16
-- bits'
abbrev pub first_address : ℕ → ℕ → ℕ
first_address count base = base % 16 ^ count

-- the list of marks at a base, with a reset address
unfoldable pub list_text : ℕ → List ℕ → ℕ → ℕ → List ℕ
list_text count marks base reset =
    header_text count (record { base = base; length = length marks; reset = reset })
    ++ lines count (first_address count base) marks

-- what the first line of a text shows: its fields by their places, the length's digits up to the next tab
abbrev pub tab_at : List ℕ → ℕ → Bool
tab_at text at = eqb (get_or text at 0) tab

unfoldable pub length_digits_shown : List ℕ → ℕ
length_digits_shown text = first_from (tab_at (drop 9 text)) 0 digits_of_length

-- a list is old by its reset: the first line ends behind four digits of it
unfoldable pub is_old : List ℕ → Bool
is_old text = eqb (get_or text (14 + length_digits_shown text) 0) line_end

abbrev pub address_digits : List ℕ → ℕ
address_digits text = digits_by (is_old text)

-- the reset that a first line shows, as a 24-bit address: in an old list it is 'a 16-bit address in that bank'
abbrev pub whole_reset : Bool → ℕ → ℕ → ℕ
whole_reset old base low = pick old (in_bank_of base low) low

unfoldable pub header_shown : List ℕ → Header
header_shown text = record {
  base = value 16 6 (drop 2 text);
  length = value 10 (length_digits_shown text) (drop 9 text);
  reset = whole_reset (is_old text) (value 16 6 (drop 2 text))
      (value 16 (address_digits text) (drop (10 + length_digits_shown text) text));
}

-- the first line is in form: it is the text of what it shows, with a length of at most five digits
unfoldable pub is_header : ℕ → Header → List ℕ → Bool
is_header count h text = ltb h.length length_limit && starts_with (header_text count h) text

-- what the fields of a line show
unfoldable pub bit_shown : ℕ → ℕ
bit_shown byte = pick (eqb byte 0x30) 0 1

unfoldable pub kind_shown : ℕ → ℕ
kind_shown byte = pick (eqb byte 0x4E) 0 (pick (eqb byte 0x53) 1 2)

unfoldable pub fields_mark : List ℕ → ℕ
fields_mark text =
    mark_of (bit_shown (get_or text 1 0)) (bit_shown (get_or text 3 0)) (kind_shown (get_or text 5 0))
    (bit_shown (get_or text 7 0))
    (bit_shown (get_or text 9 0))

-- a text begins with the line of a start at an address: with the text of the mark that it shows, which is in form
-- ('under N the last two are 0'). No address has more digits ('without wrap').
unfoldable pub is_line : ℕ → ℕ → List ℕ → Bool
is_line count address text =
    ltb address (16 ^ count) && starts_with (digits 16 count address) text
    && (starts_with (fields (fields_mark (drop count text))) (drop count text)
    && is_formed (fields_mark (drop count text)))

-- the mark that a text shows for an address: that of the line it begins with, 0 where that is no line of this address
unfoldable pub mark_shown : ℕ → ℕ → List ℕ → ℕ
mark_shown count address text = pick (is_line count address text) (fields_mark (drop count text)) 0

-- how many bytes the line of a mark has
unfoldable pub line_size : ℕ → ℕ → ℕ
line_size count mark = pick (is_start mark) (count + 11) 0

-- the marks that a text shows for so many addresses in turn, each line taken at its address, and what is left of the
-- text then
unfoldable pub marks_shown : ℕ → ℕ → ℕ → List ℕ → List ℕ
marks_shown count address zero text = []
marks_shown count address (suc n) text =
    mark_shown count address text
    ∷ marks_shown count (address + 1) n (drop (line_size count (mark_shown count address text)) text)

unfoldable pub lines_left : ℕ → ℕ → ℕ → List ℕ → List ℕ
lines_left count address zero text = text
lines_left count address (suc n) text =
    lines_left count (address + 1) n (drop (line_size count (mark_shown count address text)) text)

-- the text behind the first line
unfoldable pub lines_text : ℕ → Header → List ℕ → List ℕ
lines_text count h text = drop (length (header_text count h)) text

-- the marks of a list: 'among the length's many addresses from the base's low 16 bits on', or, R-7, 'from the whole
-- base'
unfoldable pub marks_of : ℕ → Header → List ℕ → List ℕ
marks_of count h text = marks_shown count (first_address count h.base) h.length (lines_text count h text)

-- what these addresses leave of a text
unfoldable pub left_of : ℕ → Header → List ℕ → List ℕ
left_of count h text = lines_left count (first_address count h.base) h.length (lines_text count h text)

-- 14: 'text is not a mark list' unless the first line is in form and the addresses in turn take all lines, so that
-- nothing is left ('a mixture gets 14'). That this is what the papers call a mark list (ListForm.antt) is proved.
unfoldable pub is_list : ℕ → Header → List ℕ → Bool
is_list count h text = is_header count h text && eqb (length (left_of count h text)) 0

-- 2 of a list has two causes: that of its image, and R-7's 'A list wholly in four digits is still read where the image
-- fits one bank, else gets 2'
unfoldable pub list_base_fits : Bool → ℕ → ℕ → Bool
list_base_fits old base n = base_fits base n && (not old || leb (base % bank_size + n) bank_size)

-- 1 and 2 of a list beside an image of n bytes, for marks of a length
abbrev pub list_tests : Bool → ℕ → ℕ → ℕ → Tests
list_tests old n marks base = (length_fits n marks, Refusal.Length) ∷ (list_base_fits old base n, Refusal.Base) ∷ []

-- 'Reader: 14, 1, 2, 3', of a text that shows a first line, for marks of a length
abbrev pub read_tests : Bool → Header → List ℕ → ℕ → Tests
read_tests old h text n =
    (is_list (digits_by old) h text, Refusal.List)
    ∷ list_tests old h.length n h.base
    ++ ((reset_fits (marks_of (digits_by old) h text) h.base h.reset, Refusal.Reset) ∷ [])

unfoldable pub read_as : Bool → Header → List ℕ → ℕ → ListRead
read_as old h text n = answered (first_refusal (read_tests old h text n)) Err (Ok h)

-- the reader
unfoldable pub read_list : List ℕ → List ℕ → ListRead
read_list text marks = read_as (is_old text) (header_shown text) text (length marks)

-- 'the reader fills all marks'; 'a refusal leaves every buffer .. as given'
unfoldable pub marks_by : ListRead → List ℕ → List ℕ → List ℕ
marks_by (Err refusal) text marks = marks
marks_by (Ok h) text marks = marks_of (address_digits text) h text

unfoldable pub marks_read : List ℕ → List ℕ → List ℕ
marks_read text marks = marks_by (read_list text marks) text marks

-- 'Writer: 1, 2, 4, 3, 15'
abbrev pub write_tests : List ℕ → ℕ → ℕ → List ℕ → Tests
write_tests marks base reset page =
    marks_tests (length marks) marks base reset
    ++ ((leb (length (list_text new_digits marks base reset)) (length page), Refusal.Page) ∷ [])

-- the writer
unfoldable pub write_list : List ℕ → ℕ → ℕ → List ℕ → ListWritten
write_list marks base reset page =
    answered (first_refusal (write_tests marks base reset page)) Err
    (Ok (length (list_text new_digits marks base reset)))

-- 'The writer leaves bytes past the list alone'; 'a refusal leaves every buffer .. as given'
unfoldable pub page_by : ListWritten → List ℕ → ℕ → ℕ → List ℕ → List ℕ
page_by (Err refusal) marks base reset page = page
page_by (Ok n) marks base reset page = list_text new_digits marks base reset ++ drop n page

unfoldable pub page_written : List ℕ → ℕ → ℕ → List ℕ → List ℕ
page_written marks base reset page = page_by (write_list marks base reset page) marks base reset page
