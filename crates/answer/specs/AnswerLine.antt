-- 01, 'The mark list', its last paragraph: 'The program check reads an image file and a list file and prints one line'.
-- Assumes nothing.
use Rattle.std.specs.Prelude.{ℕ, ◌≤◌, Bool, ◌&&◌, ◌≡◌, List, [], ◌∷◌, ◌++◌, leb, length, drop, Result, Ok, Err}
use Rattle.types.specs.Answers.{Verdict, ListRead, without_offset}
use Rattle.prelude.specs.Choice.{pick}
use Rattle.text.specs.Digits.{digits}
use Rattle.types.specs.Refusals.{refusal_number}
use Rattle.types.specs.Addresses.{image_limit}
use Rattle.acceptance.specs.Image.{start_count}
use Rattle.acceptance.specs.Verdict.{verdict}
use Rattle.lists.specs.MarkList.{tab, line_end, decimal_digits, is_old, address_digits, header_shown, marks_of, read_as}
use Rattle.types.specs.declared.refusals.Refusal.{Refusal}
use Rattle.answer.specs.declared.answers.NotAccepted.{NotAccepted}

-- an image is accepted, with its number of starts, or not: why
abbrev pub FileAnswer : Type 0
FileAnswer = Result ℕ NotAccepted

-- a refusal without an offset ('0 where none is given')
abbrev pub refused_alone : Refusal → NotAccepted
refused_alone why = NotAccepted.Refused (without_offset why)

-- 'A list file over 61,440 bytes'
abbrev pub list_limit : ℕ
list_limit = 61_440

-- an image file and a list file are within their limits
unfoldable pub are_within_limits : List ℕ → List ℕ → Bool
are_within_limits image text = leb (length text) list_limit && leb (length image) image_limit

-- 'A and the number of starts', or 'R, number, offset'
unfoldable pub answer_by : Verdict → List ℕ → FileAnswer
answer_by (Ok _) marks = Ok (start_count marks)
answer_by (Err r) marks = Err (NotAccepted.Refused r)

unfoldable pub verdict_answer : List ℕ → List ℕ → ℕ → ℕ → FileAnswer
verdict_answer image marks base reset = answer_by (verdict image marks base reset) marks

-- a list that is refused has no offset; else its marks, base and reset are the check's
unfoldable pub answer_of : ListRead → List ℕ → List ℕ → FileAnswer
answer_of (Err why) image text = Err (refused_alone why)
answer_of (Ok h) image text = verdict_answer image (marks_of (address_digits text) h text) h.base h.reset

-- the list is read for as many marks as the image has bytes
unfoldable pub list_answer : List ℕ → List ℕ → FileAnswer
list_answer image text = answer_of (read_as (is_old text) (header_shown text) text (length image)) image text

-- 'A list file over 61,440 bytes, an image file over the limit', before all else
unfoldable pub answer_for : List ℕ → List ℕ → FileAnswer
answer_for image text =
    pick (are_within_limits image text) (list_answer image text) (Err NotAccepted.Unread)

-- a number in decimal without a leading zero, and the byte that closes its field; no number here has over five digits
unfoldable pub number_field : ℕ → ℕ → List ℕ
number_field n close = digits 10 (decimal_digits n) n ++ (close ∷ [])

unfoldable pub letter_field : ℕ → ℕ → ℕ → List ℕ
letter_field letter n close = (letter ∷ tab ∷ []) ++ number_field n close

-- 'R, number, offset'
unfoldable pub refused_line : ℕ → ℕ → List ℕ
refused_line number offset = letter_field 0x52 number tab ++ number_field offset line_end

-- 'prints L alone'
abbrev pub unread_line : List ℕ
unread_line = 0x4C ∷ line_end ∷ []

-- the line of what is not accepted
unfoldable pub not_accepted_line : NotAccepted → List ℕ
not_accepted_line NotAccepted.Unread = unread_line
not_accepted_line (NotAccepted.Refused r) = refused_line (refusal_number r.why) r.offset

-- the line of an answer
unfoldable pub line_for : FileAnswer → List ℕ
line_for (Ok count) = letter_field 0x41 count line_end
line_for (Err why) = not_accepted_line why

-- the line for the bytes of an image file and of a list file
unfoldable pub answer_line : List ℕ → List ℕ → List ℕ
answer_line image text = line_for (answer_for image text)

-- no line is longer
abbrev pub line_limit : ℕ
line_limit = 14

-- so many bytes, at most a limit, are written at the front of a page, and the rest of it is as given
pub record Put (bytes : List ℕ) (limit n : ℕ) (given page : List ℕ) : Type 0 where
  pub size : n ≡ length bytes
  pub most : n ≤ limit
  pub same : page ≡ bytes ++ drop n given
