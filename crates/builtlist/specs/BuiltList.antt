-- 02, R-6, of files: what the program marks writes for the bytes of an image file and of a routine file, and for two
-- words, the base and the reset address.
-- Assumes nothing.
use Rattle.std.specs.Prelude.{◌≡◌, ℕ, ◌+◌, ◌*◌, ◌≤◌, Bool, true, ◌&&◌, List, eqb, length, Ok, Err}
use Rattle.types.specs.Answers.{TestResult}
use Rattle.prelude.specs.Choice.{pick}
use Rattle.text.specs.Text.{starts_with}
use Rattle.text.specs.Digits.{digits, value}
use Rattle.types.specs.Addresses.{image_limit}
use Rattle.acceptance.specs.Image.{start_count}
use Rattle.acceptance.specs.Verdict.{verdict}
use Rattle.lists.specs.MarkList.{new_digits, list_text}
use Rattle.lists.specs.Routines.{built, marks_built}
use Rattle.answer.specs.declared.answers.NotAccepted.{NotAccepted}
use Rattle.answer.specs.AnswerLine.{list_limit, refused_alone, are_within_limits, answer_for, line_for}

-- the address that a word shows
abbrev pub address_shown : List ℕ → ℕ
address_shown word = value 16 new_digits word

-- a word is an address as a mark list has it, R-7: 'with six digits, reset included': as many, of the one that it shows
unfoldable pub is_address : List ℕ → Bool
is_address word = eqb (length word) new_digits && starts_with (digits 16 new_digits (address_shown word)) word

-- what is asked before all else: the limits of the files, a routine file's being that of a list file, and the words
unfoldable pub is_taken : List ℕ → List ℕ → List ℕ → List ℕ → Bool
is_taken image base reset text =
    are_within_limits image text && is_address base && is_address reset

-- the mark list of the marks delivered, or the line of the program check for a number without an offset
unfoldable pub list_by : TestResult → List ℕ → ℕ → ℕ → List ℕ
list_by (Err why) marks base reset = line_for (Err (refused_alone why))
list_by (Ok _) marks base reset = list_text new_digits marks base reset

-- the same for marks of the image's length. What they hold before makes no difference: here they hold the image's
-- bytes.
unfoldable pub list_of : List ℕ → ℕ → ℕ → List ℕ → List ℕ
list_of image base reset text =
    list_by (built image base reset text image) (marks_built image base reset text image) base reset

-- what is written; L where a file or a word is not taken
unfoldable pub built_list : List ℕ → List ℕ → List ℕ → List ℕ → List ℕ
built_list image base reset text =
    pick (is_taken image base reset text) (list_of image (address_shown base) (address_shown reset) text)
    (line_for (Err NotAccepted.Unread))

-- marks that the check accepts with some image
abbrev pub Accepted : List ℕ → ℕ → ℕ → Type 0
Accepted marks base reset = (image : List ℕ) × (verdict image marks base reset ≡ Ok tt)

-- no list is longer: a first line of at most 22 bytes, and 17 for each start
abbrev pub longest_list : ℕ
longest_list = 22 + 17 * image_limit

-- A list that is written is accepted by the program check, with all starts that were delivered, unless it is longer
-- than a list file may be.
abbrev pub WrittenAccepted : Type 0
WrittenAccepted =
    (image base reset text : List ℕ) → is_taken image base reset text ≡ true
    → built image (address_shown base) (address_shown reset) text image ≡ Ok tt
    → length (built_list image base reset text) ≤ list_limit
    → answer_for image (built_list image base reset text)
    ≡ Ok (start_count (marks_built image (address_shown base) (address_shown reset) text image))
