-- What the requests of document 02 claim of calls of the exported functions, a proposition a request, in the notions of
-- Demands.antt. Their proofs stand in proofs/Requests.antt, of R-4 in proofs/Locating.antt, of R-6 in
-- proofs/Building.antt, of R-7 in proofs/Widening.antt, and of our own request (docs/requests/explain.md) in
-- proofs/Explaining.antt.
-- Assumes nothing.
use Rattle.std.specs.Prelude.{◌≡◌, true, ◌↔◌, ℕ, ◌+◌, ◌*◌, ◌≤◌, ◌<◌, List, [], ◌∷◌, ◌++◌, map, length, get_or, take}
use Rattle.std.specs.Prelude.{drop}
use Rattle.packing.specs.Packed.{check_numbers, read_numbers, written_numbers, printed_numbers, located_numbers}
use Rattle.packing.specs.Packed.{built_number}
use Rattle.types.specs.declared.code.Instruction.{Instruction}
use Rattle.types.specs.Refusals.{refusal_number}
use Rattle.text.specs.Digits.{value}
use Rattle.text.specs.Text.{starts_with}
use Rattle.acceptance.specs.Image.{start_count}
use Rattle.acceptance.specs.Rules.{Accepts}
use Rattle.reports.specs.PrintedPage.{row_size, page_text}
use Rattle.reports.specs.Explanation.{line_limit, ascii, heading, explanation, NamesNoStart, NamesMark}
use Rattle.reports.specs.PageReading.{bytes_on_page, starts_on_page, covered_bytes, starts_shown}
use Rattle.acceptance.specs.Grounds.{AnswersBy}
use Rattle.reports.specs.LocateGrounds.{locate_grounds}
use Rattle.lists.specs.ListGrounds.{build_grounds}
use Rattle.reports.specs.Locate.{place_number, place_of, marks_to}
use Rattle.lists.specs.Routines.{routine_marks, Admitted, Least, WithinLimits}
use Rattle.lists.specs.MarkList.{new_digits, list_text, address_digits}
use Rattle.demands.specs.Calls.{Buffer, holds, CheckCall, ReadCall, WriteCall, PrintCall, listed, LocateCall}
use Rattle.demands.specs.Calls.{BuildCall, ExplainCall}

-- two calls are given the same image, marks, base and reset
abbrev pub GivenAlike : Buffer → Buffer → ℕ → ℕ → Buffer → Buffer → ℕ → ℕ → Type 0
GivenAlike image marks base reset image' marks' base' reset' =
    (holds image' ≡ holds image) × (holds marks' ≡ holds marks) × (base' ≡ base) × (reset' ≡ reset)

-- ---- R-1

-- the page that a call left, as far as it was printed
abbrev pub printed_page : PrintCall → List ℕ
printed_page c = take (printed_numbers c.result).length c.page_left

-- a call of the check on what the printer is given
abbrev pub SameImage : PrintCall → CheckCall → Type 0
SameImage c d =
    GivenAlike c.image c.marks c.base c.reset d.image d.marks d.base d.reset

pub record PrintsPages : Type 0 where
  -- 'An unaccepted image gets the check's own refusal'
  pub check_first : (c : PrintCall) (d : CheckCall) → SameImage c d → 0 < d.result
      → ((printed_numbers c.result).number ≡ (check_numbers d.result).number)
      × ((printed_numbers c.result).offset ≡ (check_numbers d.result).offset)
  -- 'then a short buffer 15'
  pub short : (c : PrintCall) → Accepts (holds c.image) (holds c.marks) c.base c.reset
      → length (holds c.page) < row_size * start_count (holds c.marks)
      → printed_numbers c.result ≡ record { number = 15; offset = 0; length = 0 }
  -- 01: 'A refusal leaves every buffer .. as given'
  pub refused : (c : PrintCall) → 0 < (printed_numbers c.result).number → c.page_left ≡ holds c.page
  -- 'From accepted image and marks, print one 35-column row for each start'; 'bytes past the rows stay as given'
  pub printed : (c : PrintCall) → Accepts (holds c.image) (holds c.marks) c.base c.reset
      → row_size * start_count (holds c.marks) ≤ length (holds c.page)
      → (printed_numbers c.result
      ≡ record { number = 0; offset = 0; length = row_size * start_count (holds c.marks) })
      × (c.page_left
      ≡ page_text (holds c.image) (holds c.marks) c.base
      ++ drop (row_size * start_count (holds c.marks)) (holds c.page))
  -- 'Joining the byte columns of all rows restores exactly the bytes covered by instructions.' So do the others: the
  -- starts with their addresses, widths and kinds.
  pub bytes : (c : PrintCall) → (printed_numbers c.result).number ≡ 0
      → bytes_on_page (printed_page c) ≡ covered_bytes (holds c.image) (holds c.marks)
  pub starts : (c : PrintCall) → (printed_numbers c.result).number ≡ 0
      → starts_on_page (printed_page c) ≡ starts_shown (holds c.marks) c.base

-- ---- R-4

-- a call of the check on what the locator is given
abbrev pub ChecksAlike : LocateCall → CheckCall → Type 0
ChecksAlike c d =
    GivenAlike c.image c.marks c.base c.reset d.image d.marks d.base d.reset

-- another call of the locator on the same image
abbrev pub LocatesAlike : LocateCall → LocateCall → Type 0
LocatesAlike c d =
    GivenAlike c.image c.marks c.base c.reset d.image d.marks d.base d.reset

pub record LocatesAddresses : Type 0 where
  -- 'tested after the check's own refusals'
  pub check_first : (c : LocateCall) (d : CheckCall) → ChecksAlike c d → 0 < d.result
      → ((located_numbers c.result).number ≡ (check_numbers d.result).number)
      × ((located_numbers c.result).offset ≡ (check_numbers d.result).offset)
  -- 'Answers: 16 when the list is too long, unordered, or holds an address outside the image'; behind it 15
  pub refuses : (c : LocateCall) → Accepts (holds c.image) (holds c.marks) c.base c.reset
      → AnswersBy
      (locate_grounds c.base (length (holds c.image)) (listed c.addresses) (length (listed c.places)))
      refusal_number 0 (located_numbers c.result).number
  -- 01: 'A refusal leaves every buffer .. as given'
  pub refused : (c : LocateCall) → 0 < (located_numbers c.result).number
      → (c.places_left ≡ listed c.places) × ((located_numbers c.result).read ≡ 0)
  -- 'For each, give the address of the nearest start at or below it in the marks, and whether the address belongs to
  -- that instruction or to a gap'; 'the number of marks read in it is reported: the offset of the highest address plus
  -- one, or 0 for no addresses'
  pub located : (c : LocateCall) → (located_numbers c.result).number ≡ 0
      → (c.places_left
      ≡ map place_number (map (place_of (holds c.image) (holds c.marks) c.base) (listed c.addresses))
      ++ drop (length (listed c.addresses)) (listed c.places))
      × ((located_numbers c.result).read ≡ marks_to c.base (listed c.addresses))
  -- 'On success each address's result equals that of asking it alone.'
  pub alone : (c d : LocateCall) (k : ℕ) → (located_numbers c.result).number ≡ 0 → LocatesAlike c d
      → k < length (listed c.addresses) → listed d.addresses ≡ get_or (listed c.addresses) k 0 ∷ []
      → 1 ≤ length (listed d.places)
      → ((located_numbers d.result).number ≡ 0) × (get_or d.places_left 0 0 ≡ get_or c.places_left k 0)

-- ---- R-6

-- the listed routines beside the image of a call: at the place of each its mark
abbrev pub routines_of : BuildCall → List ℕ
routines_of c = routine_marks c.base (length (holds c.image)) (holds c.routines)

-- a marking that 'passes the check, holds every listed routine as listed, and has all call targets on the list'
abbrev pub AdmittedBy : BuildCall → List ℕ → Type 0
AdmittedBy c marks = Admitted (holds c.image) c.base c.reset (routines_of c) marks

-- a call of the check on what the builder was given, and on the marks that it left
abbrev pub ChecksBuilt : BuildCall → CheckCall → Type 0
ChecksBuilt c d =
    (holds d.image ≡ holds c.image) × (holds d.marks ≡ c.marks_left) × (d.base ≡ c.base)
    × (d.reset ≡ c.reset)

pub record BuildsMarks : Type 0 where
  -- 'Malformed text gets 14, an address outside the image 17, and a wrong image, base or marks length is as in the
  -- check. Answers: 17, for no such marking or too many routines, after 14, 1 and 2.'
  pub refuses : (c : BuildCall)
      → AnswersBy (build_grounds (holds c.image) c.base c.reset (holds c.routines) (holds c.marks))
      refusal_number 0 (built_number c.result)
  -- 'Input in form and within these limits is refused exactly if no marking passes the check, holds every listed
  -- routine as listed, and has all call targets on the list.'
  pub refused_exactly : (c : BuildCall)
      → WithinLimits (holds c.image) c.base (holds c.routines) (holds c.marks)
      → (built_number c.result ≡ 17) ↔ ((marks : List ℕ) → AdmittedBy c marks → ⊥)
  -- 01: 'A refusal leaves every buffer .. as given'
  pub refused : (c : BuildCall) → 0 < built_number c.result → c.marks_left ≡ holds c.marks
  -- 'The marks delivered are the least: each start in them stands, equally marked, in every such marking.'
  pub delivered : (c : BuildCall) → built_number c.result ≡ 0
      → Least (holds c.image) c.base c.reset (routines_of c) c.marks_left
  -- so a check of them accepts
  pub checked : (c : BuildCall) (d : CheckCall) → built_number c.result ≡ 0 → ChecksBuilt c d → d.result ≡ 0

-- ---- R-7

-- the list in six digits of what a call of the reader gave
abbrev pub list_in_six : ReadCall → List ℕ
list_in_six r =
    list_text new_digits r.marks_left (read_numbers r.result).base (read_numbers r.result).reset

-- 'Rereading a written list gives its marks' is demand 2's, and 'lists in six' are
pub record WidensLists : Type 0 where
  -- what was read is the list, in its own digits, of the marks, base and reset that were given
  pub as_shown : (r : ReadCall) → (read_numbers r.result).number ≡ 0
      → list_text (address_digits (holds r.text)) r.marks_left (read_numbers r.result).base
      (read_numbers r.result).reset
      ≡ holds r.text
  -- 'an old list comes out in six digits', of the same marks, base and reset
  pub widened : (r : ReadCall) (w : WriteCall) → (read_numbers r.result).number ≡ 0
      → holds w.marks ≡ r.marks_left → w.base ≡ (read_numbers r.result).base
      → w.reset ≡ (read_numbers r.result).reset → length (list_in_six r) ≤ length (holds w.page)
      → (written_numbers w.result ≡ record { number = 0; length = length (list_in_six r) })
      × (w.page_left ≡ list_in_six r ++ drop (length (list_in_six r)) (holds w.page))

-- ---- a refusal that tells what to mend

-- the line that explains what a call is given
abbrev pub line_of : ExplainCall → List ℕ
line_of c = explanation (holds c.image) (holds c.marks) c.base c.reset

-- a call of the check on what is explained, its number and its offset
abbrev pub ChecksExplained : ExplainCall → CheckCall → Type 0
ChecksExplained c d =
    GivenAlike c.image c.marks c.base c.reset d.image d.marks d.base d.reset

abbrev pub number_of : CheckCall → ℕ
number_of d = (check_numbers d.result).number

abbrev pub offset_of : CheckCall → ℕ
offset_of d = (check_numbers d.result).offset

pub record ExplainsRefusals : Type 0 where
  -- 'writes one line of text'; 'Bytes past the line stay as given.'
  pub explained : (c : ExplainCall) → length (line_of c) ≤ length (holds c.page)
      → (printed_numbers c.result ≡ record { number = 0; offset = 0; length = length (line_of c) })
      × (c.page_left ≡ line_of c ++ drop (length (line_of c)) (holds c.page))
  -- '15 for a short page and nothing written'
  pub short : (c : ExplainCall) → length (holds c.page) < length (line_of c)
      → (printed_numbers c.result ≡ record { number = 15; offset = 0; length = 0 }) × (c.page_left ≡ holds c.page)
  -- 'No line has over 81 bytes.'
  pub enough : (c : ExplainCall) → length (line_of c) ≤ line_limit
  -- 'An accepted image gets the line `accepted`.'
  pub accepted : (c : ExplainCall) (d : CheckCall) → ChecksExplained c d → d.result ≡ 0
      → line_of c ≡ ascii "accepted\n"
  -- 'number and place in it are the verdict's'
  pub number : (c : ExplainCall) (d : CheckCall) → ChecksExplained c d → 0 < d.result
      → starts_with (heading (number_of d)) (line_of c) ≡ true
  pub place : (c : ExplainCall) (d : CheckCall) → ChecksExplained c d → 4 ≤ number_of d
      → value 16 6 (drop (length (heading (number_of d))) (line_of c)) ≡ c.base + offset_of d
  -- 'for 8 the named address has no marked start'
  pub flow : (c : ExplainCall) (d : CheckCall) → ChecksExplained c d → number_of d ≡ 8
      → (i : Instruction) × (k : ℕ)
      × NamesNoStart (holds c.image) (holds c.marks) c.base c.reset (offset_of d) i k
  -- 'for 9, with the named mark put at the named address that requirement of the start holds'
  pub widths : (c : ExplainCall) (d : CheckCall) → ChecksExplained c d → number_of d ≡ 9
      → (i : Instruction) × (k : ℕ)
      × NamesMark (holds c.image) (holds c.marks) c.base c.reset (offset_of d) i k
