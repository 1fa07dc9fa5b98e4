-- What a refusal of the check is about, in one line of text that names the byte to mend: our own request and the form
-- of the line, docs/requests/explain.md, whose words are quoted here. The values are the check's own: the verdict, the
-- instruction at a start, what that owes.
-- Assumes nothing.
use Rattle.types.specs.declared.code.Undecoded.{Undecoded}
use Rattle.std.specs.Prelude.{◌≡◌, ℕ, zero, suc, ◌+◌, ◌-◌, ◌≤◌, ◌<◌, Bool, true, false, not, ◌&&◌, List, [], ◌∷◌}
use Rattle.std.specs.Prelude.{◌++◌, Ok, Err}
use Rattle.std.specs.Prelude.{eqb, ltb, leb, length, get_or, set, take, drop}
use Prim.Native.Char.{code}
use Prim.Native.String.{String, len, char_at}
use Rattle.types.specs.declared.code.Flow.{Flow}
use Rattle.types.specs.declared.code.Entry.{Entry}
use Rattle.types.specs.declared.code.Instruction.{Instruction}
use Rattle.types.specs.Answers.{Decoded, refused_at, Verdict, Printed}
use Rattle.types.specs.declared.refusals.Refusal.{Refusal}
use Rattle.types.specs.declared.rules.Requirement.{Requirement}
use Rattle.types.specs.declared.rules.Requirements.{Requirements}
use Rattle.types.specs.Refusals.{refusal_number}
use Rattle.prelude.specs.Choice.{pick}
use Rattle.prelude.specs.Concat.{concat_from}
use Rattle.prelude.specs.First.{first_from}
use Rattle.text.specs.Digits.{digit, digits, digit_count, value}
use Rattle.text.specs.Text.{starts_with}
use Rattle.instructions.specs.Words.{syntax_word}
use Rattle.instructions.specs.CodeMap.{prefix_bytes, entry_at, length_at}
use Rattle.instructions.specs.Decode.{page_of}
use Rattle.acceptance.specs.Image.{is_start, mark_m, mark_x, mark_kind, return_m, return_x, mark_of, mark_at}
use Rattle.acceptance.specs.Rules.{instruction_at, requirement, owed_there, Met}
use Rattle.instructions.specs.Successors.{next_address, kind_number, target_address}
use Rattle.acceptance.specs.Meaning.{Among}
use Rattle.acceptance.specs.Verdict.{start_at, is_start_at, has_mark_at, verdict}
use Rattle.lists.specs.MarkList.{kind_letter, line_end}
use Rattle.instructions.specs.Words.{blank}
use Rattle.reports.specs.PrintedPage.{by_room, page_after}

-- 'No line has over 81 bytes.'
abbrev pub line_limit : ℕ
line_limit = 81

-- ---- pieces of a line

-- the bytes of a quoted text in ASCII
abbrev pub codes_from : String → ℕ → ℕ → List ℕ
codes_from text at zero = []
codes_from text at (suc n) = code (char_at text at) ∷ codes_from text (at + 1) n

abbrev pub ascii : String → List ℕ
ascii text = codes_from text 0 (len text)

-- 'decimal without leading zeros'; a number of 64 bits has at most so many digits
abbrev pub most_digits : ℕ
most_digits = 20

unfoldable pub decimal : ℕ → List ℕ
decimal n = digits 10 (digit_count 10 most_digits n) n

-- 'a 24-bit address in six capital hex digits'; 'base or reset as the caller gave it, 32 bits, in eight'
abbrev pub address_text : ℕ → List ℕ
address_text address = digits 16 6 address

abbrev pub given_text : ℕ → List ℕ
given_text n = digits 16 8 n

-- 'capital hex pairs parted by one blank', which stands before each
abbrev pub pair : ℕ → List ℕ
pair byte = blank ∷ digits 16 2 byte

unfoldable pub pairs : List ℕ → List ℕ
pairs bytes = concat_from (λ k. pair (get_or bytes k 0)) 0 (length bytes)

-- 'm, x, kind (N, S, L), return m, return x of a mark'; '`-` for a return width that a call leaves free'
abbrev pub return_field : Bool → ℕ → ℕ
return_field free width = pick free 0x2D (digit width)

abbrev pub mark_fields : Bool → ℕ → List ℕ
mark_fields free mark =
    digit (mark_m mark) ∷ blank ∷ digit (mark_x mark) ∷ blank ∷ kind_letter (mark_kind mark)
    ∷ blank ∷ return_field free (return_m mark) ∷ blank ∷ return_field free (return_x mark) ∷ []

-- 'K m x'
abbrev pub kind_widths : ℕ → ℕ → ℕ → List ℕ
kind_widths kind m x = kind_letter kind ∷ blank ∷ digit m ∷ blank ∷ digit x ∷ []

-- 'its word as on R-1's page, then:'
unfoldable pub word_text : Entry → List ℕ
word_text e = (blank ∷ syntax_word e) ++ ascii ": "

-- 'from 5 on the start's address, its bytes .. and its word'
unfoldable pub start_text : ℕ → List ℕ → Entry → List ℕ
start_text address bytes e = address_text address ++ (pairs bytes ++ word_text e)

-- ---- numbers 1 to 4

-- 'for 1 the two lengths': image N, marks N
unfoldable pub length_text : ℕ → ℕ → List ℕ
length_text image marks = ascii "image " ++ (decimal image ++ (ascii ", marks " ++ decimal marks))

-- '2 base and length': GIVEN, length N
unfoldable pub base_text : ℕ → ℕ → List ℕ
base_text base size = given_text base ++ (ascii ", length " ++ decimal size)

-- where no start stands: 'whether it lies outside the image'
unfoldable pub is_inside : List ℕ → ℕ → ℕ → Bool
is_inside marks base address = leb base address && ltb address (base + length marks)

unfoldable pub no_start_text : Bool → List ℕ
no_start_text inside = pick inside (ascii "no start") (ascii "outside the image")

-- '3 the reset address and the mark there': GIVEN must be 0 0 N 0 0, is FIELDS
unfoldable pub standing : List ℕ → ℕ → ℕ → List ℕ
standing marks base address =
    pick (is_start (mark_at marks base address)) (mark_fields false (mark_at marks base address))
    (no_start_text (is_inside marks base address))

unfoldable pub reset_text : List ℕ → ℕ → ℕ → List ℕ
reset_text marks base reset =
    given_text reset
    ++ (ascii " must be " ++ (mark_fields false (mark_of 0 0 0 0 0) ++ (ascii ", is " ++ standing marks base reset)))

-- '4 address and mark byte, and which part is not of the form': ADDRESS has XX: PART
unfoldable pub unformed_part : ℕ → List ℕ
unformed_part mark =
    pick (not (is_start mark)) (ascii "bits without a start")
    (pick (leb 128 mark) (ascii "bit 7")
    (pick (eqb (mark_kind mark) 3) (ascii "kind 3") (ascii "return widths of kind N")))

unfoldable pub mark_text : ℕ → ℕ → List ℕ
mark_text address mark =
    address_text address ++ (ascii " has " ++ (digits 16 2 mark ++ (ascii ": " ++ unformed_part mark)))

-- ---- numbers 5 and 6, of the bytes that begin with the instruction's first one

-- the bytes before the code, and the code's entry
abbrev pub prefix_of : List ℕ → ℕ
prefix_of bytes = prefix_bytes (page_of (get_or bytes 0 0))

abbrev pub code_entry : List ℕ → Entry
code_entry bytes = entry_at (page_of (get_or bytes 0 0)) (get_or bytes (prefix_of bytes) 0)

-- '5 that the code is not carried', with 'the prefix, if there is one, and the code'
unfoldable pub code_text : ℕ → List ℕ → List ℕ
code_text address bytes = start_text address (take (prefix_of bytes + 1) bytes) (code_entry bytes) ++ ascii
    "not carried"

-- '6 how many bytes are missing', with 'all bytes from the start to the image's end'; or 'the image ends behind a
-- prefix'
abbrev pub missing : List ℕ → ℕ → ℕ
missing bytes mark = length_at (code_entry bytes) (mark_m mark) (mark_x mark) - length bytes

unfoldable pub cut_off_text : ℕ → List ℕ → ℕ → List ℕ
cut_off_text address bytes mark =
    pick (ltb (prefix_of bytes) (length bytes))
    (start_text address bytes (code_entry bytes) ++ (decimal (missing bytes mark) ++ ascii " missing"))
    (address_text address ++ (pairs bytes ++ ascii ": the code is missing"))

-- ---- numbers 7 to 10, of a whole instruction: what stands behind its word

-- '7 the address of the start inside it', 'the lowest': ADDRESS starts inside it
unfoldable pub overlap_text : List ℕ → ℕ → ℕ → ℕ → List ℕ
overlap_text marks base at size =
    address_text (base + first_from (start_at marks) (at + 1) (size - 1)) ++ ascii " starts inside it"

-- the requirements in 'the order of the check'
unfoldable pub requirement_at : Requirements → ℕ → Requirement
requirement_at Requirements.Nothing k = requirement 0 0
requirement_at (Requirements.One w) k = w
requirement_at (Requirements.Two v w) zero = v
requirement_at (Requirements.Two v w) (suc k) = w

-- 'Of several broken requirements it is the first in the order of the check.'
unfoldable pub first_broken : (Requirement → Bool) → Requirements → ℕ
first_broken test Requirements.Nothing = 0
first_broken test (Requirements.One w) = 0
first_broken test (Requirements.Two v w) = pick (test v) 1 0

-- '8 the address that is no marked start, and whether it lies outside the image': ADDRESS is no start
unfoldable pub flow_text : ℕ → Bool → List ℕ
flow_text address inside = address_text address ++ (ascii " is " ++ no_start_text inside)

unfoldable pub flow_at : List ℕ → ℕ → Requirements → List ℕ
flow_at marks base owed =
    let w = requirement_at owed (first_broken (is_start_at marks base) owed) in
    flow_text w.address (is_inside marks base w.address)

-- 'of a call's target .. the return widths are free': it is the first requirement
unfoldable pub is_free_at : Flow → ℕ → Bool
is_free_at Flow.Next k = false
is_free_at Flow.Branch k = false
is_free_at Flow.Jump k = false
is_free_at (Flow.Call kind) zero = true
is_free_at (Flow.Call kind) (suc k) = false
is_free_at (Flow.Return kind) k = false
is_free_at Flow.Halt k = false

-- '9 the address, the mark that must stand there and the one that does': ADDRESS must be FIELDS, is FIELDS
unfoldable pub widths_text : ℕ → Bool → ℕ → ℕ → List ℕ
widths_text address free must there =
    address_text address
    ++ (ascii " must be " ++ (mark_fields free must ++ (ascii ", is " ++ mark_fields false there)))

unfoldable pub widths_at : List ℕ → ℕ → Flow → Requirements → List ℕ
widths_at marks base flow owed =
    let k = first_broken (has_mark_at marks base) owed in
    let w = requirement_at owed k in
    widths_text w.address (is_free_at flow k) w.mark (mark_at marks base w.address)

-- '10 the kind and widths there and those marked': returns K m x, is marked K m x
unfoldable pub return_kind : Flow → ℕ
return_kind Flow.Next = 0
return_kind Flow.Branch = 0
return_kind Flow.Jump = 0
return_kind (Flow.Call kind) = 0
return_kind (Flow.Return kind) = kind_number kind
return_kind Flow.Halt = 0

unfoldable pub return_text : ℕ → ℕ → List ℕ
return_text kind mark =
    ascii "returns "
    ++ (kind_widths kind (mark_m mark) (mark_x mark)
    ++ (ascii ", is marked " ++ kind_widths (mark_kind mark) (return_m mark) (return_x mark)))

unfoldable pub whole_detail : List ℕ → ℕ → ℕ → ℕ → Instruction → List ℕ
whole_detail marks base at number i =
    pick (eqb number 7) (overlap_text marks base at i.length)
    (pick (eqb number 8) (flow_at marks base (owed_there marks base at i))
    (pick (eqb number 9) (widths_at marks base i.entry.flow (owed_there marks base at i))
    (return_text (return_kind i.entry.flow) (get_or marks at 0))))

-- ---- the line

-- 5 to 10, by what is decoded at the start
unfoldable pub start_detail : ℕ → List ℕ → ℕ → (Instruction → List ℕ) → Decoded → List ℕ
start_detail address bytes mark rest (Err Undecoded.NotCarried) = code_text address bytes
start_detail address bytes mark rest (Err Undecoded.CutOff) = cut_off_text address bytes mark
start_detail address bytes mark rest (Ok i) = start_text address (take i.length bytes) i.entry ++ rest i

-- what is said of a refusal at an offset, by its number
unfoldable pub detail : List ℕ → List ℕ → ℕ → ℕ → ℕ → ℕ → List ℕ
detail image marks base reset at number =
    pick (eqb number 1) (length_text (length image) (length marks))
    (pick (eqb number 2) (base_text base (length image))
    (pick (eqb number 3) (reset_text marks base reset)
    (pick (eqb number 4) (mark_text (base + at) (get_or marks at 0))
    (start_detail (base + at) (drop at image) (get_or marks at 0) (whole_detail marks base at number)
    (instruction_at image marks at)))))

-- the numbers' words of 01's table
abbrev pub words : List (List ℕ)
words =
    [] ∷ ascii "length" ∷ ascii "base" ∷ ascii "reset" ∷ ascii "mark" ∷ ascii "code" ∷ ascii "cut off"
    ∷ ascii "overlap" ∷ ascii "flow" ∷ ascii "widths" ∷ ascii "return" ∷ []

-- 'The line begins with the number and its word, then in fixed form'; 'closed by 0A'
unfoldable pub heading : ℕ → List ℕ
heading number = decimal number ++ (blank ∷ (get_or words number [] ++ ascii ": "))

unfoldable pub refused_line : ℕ → List ℕ → List ℕ
refused_line number said = heading number ++ (said ++ (line_end ∷ []))

-- 'An accepted image gets the line `accepted`.'
unfoldable pub line_by : Verdict → List ℕ → List ℕ → ℕ → ℕ → List ℕ
line_by (Ok _) image marks base reset = ascii "accepted" ++ (line_end ∷ [])
line_by (Err r) image marks base reset =
    refused_line (refusal_number r.why) (detail image marks base reset r.offset (refusal_number r.why))

unfoldable pub explanation : List ℕ → List ℕ → ℕ → ℕ → List ℕ
explanation image marks base reset = line_by (verdict image marks base reset) image marks base reset

-- 'answers as `m7700_print` does: .. 0, or 15 for a short page and nothing written; .. the length of the line'
unfoldable pub explained : List ℕ → List ℕ → ℕ → ℕ → List ℕ → Printed
explained image marks base reset page = by_room (length (explanation image marks base reset)) (length page)

-- 'Bytes past the line stay as given.'
unfoldable pub page_explained : List ℕ → List ℕ → ℕ → ℕ → List ℕ → List ℕ
page_explained image marks base reset page =
    page_after (explained image marks base reset page) (explanation image marks base reset) page

-- ---- the claims

-- which requirement is named: the first, of those that are owed, that fails a test
pub record Named (test : Requirement → Bool) (owed : Requirements) (k : ℕ) : Type 0 where
  pub among : Among (requirement_at owed k) owed
  pub fails : test (requirement_at owed k) ≡ false
  pub first : (j : ℕ) → j < k → test (requirement_at owed j) ≡ true

-- the marks that fields show: all that have them, whatever the return widths where these are free
abbrev pub shown_mark : Bool → ℕ → ℕ → ℕ → ℕ
shown_mark free mark rm rx = pick free (mark_of (mark_m mark) (mark_x mark) (mark_kind mark) rm rx) mark

-- a mark put at an address
abbrev pub put_mark : List ℕ → ℕ → ℕ → ℕ → List ℕ
put_mark marks base address mark = set marks (address - base) mark

-- a call of the address behind it, at which both its requirements ask for a mark
pub record CallsNext (i : Instruction) (address : ℕ) : Type 0 where
  pub is_call : is_free_at i.entry.flow 0 ≡ true
  pub same : target_address i address ≡ next_address address i.length

-- with other marks a start is read as it was, and a requirement of it holds
pub record Mended (image marks : List ℕ) (base at : ℕ) (i : Instruction) (k : ℕ) : Type 0 where
  pub whole : instruction_at image marks at ≡ Ok i
  pub met : Met marks base (requirement_at (owed_there marks base at i) k)

module _ (image marks : List ℕ) (base reset : ℕ) where
  abbrev line : List ℕ
  line = explanation image marks base reset

  -- 'number and place in it are the verdict's': the line begins with the number, and behind its heading shows the
  -- address of the place, where there is one
  pub record ShowsVerdict (why : Refusal) (at : ℕ) : Type 0 where
    pub number : starts_with (heading (refusal_number why)) line ≡ true
    pub place : 4 ≤ refusal_number why → value 16 6 (drop (length (heading (refusal_number why))) line) ≡ base + at

  -- of a start, its instruction and the requirement that is named
  module _ (at : ℕ) (i : Instruction) (k : ℕ) where
    abbrev owed : Requirements
    owed = owed_there marks base at i

    abbrev named : Requirement
    named = requirement_at owed k

    -- what the line says behind the start's bytes and word
    abbrev says : Refusal → List ℕ → Type 0
    says why rest =
        line ≡ refused_line (refusal_number why)
        (start_text (base + at) (take i.length (drop at image)) i.entry ++ rest)

    -- 'for 8 the named address has no marked start'
    pub record NamesNoStart : Type 0 where
      pub whole : instruction_at image marks at ≡ Ok i
      pub no_start : Named (is_start_at marks base) owed k
      pub said : says Refusal.Flow (flow_text named.address (is_inside marks base named.address))

    -- 'for 9, with the named mark put at the named address that requirement of the start holds'
    pub record NamesMark : Type 0 where
      pub whole : instruction_at image marks at ≡ Ok i
      pub start_there : is_start_at marks base named ≡ true
      pub other_mark : Named (has_mark_at marks base) owed k
      pub said : says Refusal.Widths
          (widths_text named.address (is_free_at i.entry.flow k) named.mark (mark_at marks base named.address))
      pub holds : Met (put_mark marks base named.address named.mark) base named
      -- also as the start then asks for it, with any mark that the fields show
      pub mends : (rm rx : ℕ) → rm ≤ 1 → rx ≤ 1 → (CallsNext i (base + at) → k ≡ 0)
          → Mended image
          (put_mark marks base named.address (shown_mark (is_free_at i.entry.flow k) named.mark rm rx)) base at i k

-- a supplier who follows the line is never sent to the wrong byte
abbrev pub ShowsVerdicts : Type 0
ShowsVerdicts =
    (image marks : List ℕ) (base reset : ℕ) (why : Refusal) (at : ℕ)
    → verdict image marks base reset ≡ refused_at why at → ShowsVerdict image marks base reset why at

abbrev pub ExplainsFlow : Type 0
ExplainsFlow =
    (image marks : List ℕ) (base reset at : ℕ) → verdict image marks base reset ≡ refused_at Refusal.Flow at
    → (i : Instruction) × (k : ℕ) × NamesNoStart image marks base reset at i k

abbrev pub ExplainsWidths : Type 0
ExplainsWidths =
    (image marks : List ℕ) (base reset at : ℕ) → verdict image marks base reset ≡ refused_at Refusal.Widths at
    → (i : Instruction) × (k : ℕ) × NamesMark image marks base reset at i k
