-- The layout of an instruction: what its code and the widths decide, before its operand is read. The check asks for the
-- operand of a few instructions only.
-- Assumes nothing.
use Rattle.types.specs.declared.code.Undecoded.{Undecoded}
use Rattle.std.specs.Prelude.{ℕ, ◌≤◌, ◌<◌, List, ltb, leb, length, get_or, Result, Ok, Err}
use Rattle.types.specs.declared.code.Instruction.{Instruction}
use Rattle.types.specs.Answers.{Decoded}
use Rattle.prelude.specs.Choice.{pick}
use Rattle.instructions.specs.CodeMap.{prefix_bytes, length_at}
use Rattle.instructions.specs.Decode.{page_of, operand_of}
use Rattle.codepages.specs.Packing.{unpacked, packed_pages, packed_at}
use Rattle.decoder.specs.declared.Layout.{Layout}
use Rattle.decoder.specs.declared.Code.{Code}

-- a layout that fits into the bytes that are left, or why there is none
abbrev pub LayoutRead : Type 0
LayoutRead = Result Layout Undecoded

-- the code at a place, or why none is read there
abbrev pub CodeRead : Type 0
CodeRead = Result Code Undecoded

-- the code is there, behind the prefix; so many bytes are left
unfoldable pub fitted : ℕ → ℕ → ℕ → ℕ → LayoutRead
fitted left prefix n long =
    pick (unpacked n).carried
    (pick (leb long left) (Ok (record { number = n; prefix = prefix; length = long })) (Err Undecoded.CutOff))
    (Err Undecoded.NotCarried)

-- what the bytes begin with, its code behind the prefix bytes of a page
unfoldable pub layout_on : ℕ → List ℕ → ℕ → ℕ → LayoutRead
layout_on page bytes m x =
    pick (ltb (prefix_bytes page) (length bytes))
    (fitted (length bytes) (prefix_bytes page) (packed_at packed_pages page (get_or bytes (prefix_bytes page) 0))
    (length_at (unpacked (packed_at packed_pages page (get_or bytes (prefix_bytes page) 0))) m x))
    (Err Undecoded.CutOff)

-- what the bytes begin with, at the widths m and x
unfoldable pub layout_read : List ℕ → ℕ → ℕ → LayoutRead
layout_read bytes m x = layout_on (page_of (get_or bytes 0 0)) bytes m x

-- the code that the bytes begin with, behind the prefix bytes of a page, before the widths enter
unfoldable pub code_on : ℕ → List ℕ → CodeRead
code_on page bytes =
    pick (ltb (prefix_bytes page) (length bytes))
    (pick (unpacked (packed_at packed_pages page (get_or bytes (prefix_bytes page) 0))).carried
    (Ok (record {
      number = packed_at packed_pages page (get_or bytes (prefix_bytes page) 0);
      prefix = prefix_bytes page;
    }))
    (Err Undecoded.NotCarried))
    (Err Undecoded.CutOff)

unfoldable pub code_read : List ℕ → CodeRead
code_read bytes = code_on (page_of (get_or bytes 0 0)) bytes

-- the layout of a code, among so many bytes
abbrev pub layout_by : ℕ → CodeRead → ℕ → ℕ → LayoutRead
layout_by left (Ok code) m x =
    pick (leb (length_at (unpacked code.number) m x) left)
    (Ok (record { number = code.number; prefix = code.prefix; length = length_at (unpacked code.number) m x }))
    (Err Undecoded.CutOff)
layout_by left (Err why) m x = Err why

-- the instruction of a layout
abbrev pub instruction_of : List ℕ → Layout → Instruction
instruction_of bytes f = record {
  entry = unpacked f.number;
  length = f.length;
  operand = operand_of bytes f.prefix f.length;
}

abbrev pub decoded_of : List ℕ → LayoutRead → Decoded
decoded_of bytes (Ok f) = Ok (instruction_of bytes f)
decoded_of bytes (Err why) = Err why

-- the bounds that every layout keeps among so many bytes
abbrev pub Fitting : ℕ → Layout → Type 0
Fitting left f = (f.prefix ≤ 1) × (f.prefix < f.length) × (f.length ≤ 6) × (f.length ≤ left)

abbrev pub FittingIn : ℕ → LayoutRead → Type 0
FittingIn left (Ok f) = Fitting left f
FittingIn left (Err _) = Unit {0}
