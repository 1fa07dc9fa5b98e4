-- The instruction at a place: 01, 'length is read from there at the marked widths', and numbers 5 and 6, which are 21
-- and 20 in a step. It is read from the bytes that begin with the instruction's first one, wherever those come from.
-- Assumes nothing.
use Rattle.types.specs.declared.code.Undecoded.{Undecoded}
use Rattle.std.specs.Prelude.{ℕ, ◌+◌, ◌-◌, List, eqb, ltb, leb, length, get_or, take, drop, Ok, Err}
use Rattle.fields.specs.Fields.{number}
use Rattle.types.specs.declared.code.Entry.{Entry}
use Rattle.types.specs.Answers.{Decoded}
use Rattle.prelude.specs.Choice.{pick}
use Rattle.instructions.specs.CodeMap.{prefix_bytes, entry_at, length_at}

-- at most five bytes stand behind a code
abbrev pub operand_limit : ℕ
operand_limit = 1_099_511_627_776

-- the page that a first byte leads to: 42 and 89 are prefixes
abbrev pub page_of : ℕ → ℕ
page_of first = pick (eqb first 0x42) 1 (pick (eqb first 0x89) 2 0)

-- the bytes behind the code, up to the instruction's length
abbrev pub operand_of : List ℕ → ℕ → ℕ → ℕ
operand_of bytes prefix n = number (take (n - (prefix + 1)) (drop (prefix + 1) bytes))

-- the code is there; 5 before the operand's 6
unfoldable pub judged : List ℕ → ℕ → Entry → ℕ → Decoded
judged bytes prefix e n =
    pick e.carried
    (pick (leb n (length bytes))
    (Ok (record { entry = e; length = n; operand = operand_of bytes prefix n }))
    (Err Undecoded.CutOff))
    (Err Undecoded.NotCarried)

-- what the bytes begin with, its code behind the prefix bytes of a page
unfoldable pub decode_on : ℕ → List ℕ → ℕ → ℕ → Decoded
decode_on page bytes m x =
    pick (ltb (prefix_bytes page) (length bytes))
    (judged bytes (prefix_bytes page) (entry_at page (get_or bytes (prefix_bytes page) 0))
    (length_at (entry_at page (get_or bytes (prefix_bytes page) 0)) m x))
    (Err Undecoded.CutOff)

-- what the bytes begin with, at the widths m and x
unfoldable pub decode : List ℕ → ℕ → ℕ → Decoded
decode bytes m x = decode_on (page_of (get_or bytes 0 0)) bytes m x
