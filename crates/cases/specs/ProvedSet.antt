-- 01, 'Proved set': the ten cases, a row each, and the claim that every row holds, whatever stands where 01 is silent.
-- By 02's R-7 case 1's list is an old one, and the row has beside it the text that is written.
-- Assumes nothing.
use Rattle.std.specs.Prelude.{ℕ, ◌-◌, false, List, [], ◌∷◌, ◌++◌, set}
use Rattle.types.specs.declared.machine.State.{State}
use Rattle.semantics.specs.Arithmetic.{with_widths, with_a, with_s, with_status}
use Rattle.prelude.specs.Lists.{Every}
use Rattle.cases.specs.Rows.{list_of, ascii, Unspecified, state_at, Judged, accepted, refused, holds_a, holds_byte}
use Rattle.cases.specs.Rows.{unchanged, Claim, listed, listed_old, does, stops, returns, Row, Holds}

-- 'Base 00C000, reset C000': every case has these; R-7: 'the reset becomes a 24-bit address'
abbrev pub row : List ℕ → List ℕ → Judged → List Claim → Row
row image marks judged claims = record {
  image = image;
  marks = marks;
  base = 0x00C000;
  reset = 0x00C000;
  judged = judged;
  claims = claims;
}

-- 'image 49 34 12 F8 49 56 DB, marks 01 00 00 01 03 00 03'
abbrev pub width_image : List ℕ
width_image = 0x49 ∷ 0x34 ∷ 0x12 ∷ 0xF8 ∷ 0x49 ∷ 0x56 ∷ 0xDB ∷ []

abbrev pub width_marks : List ℕ
width_marks = 0x01 ∷ 0x00 ∷ 0x00 ∷ 0x01 ∷ 0x03 ∷ 0x00 ∷ 0x03 ∷ []

-- case 1's list
abbrev pub width_list : List ℕ
width_list =
    ascii "I\t00C000\t7\tC000\n"
    ++ ascii "C000\t0\t0\tN\t0\t0\n"
    ++ ascii "C003\t0\t0\tN\t0\t0\n"
    ++ ascii "C004\t1\t0\tN\t0\t0\n"
    ++ ascii "C006\t1\t0\tN\t0\t0\n"

-- the same in six digits
abbrev pub width_list_in_six : List ℕ
width_list_in_six =
    ascii "I\t00C000\t7\t00C000\n"
    ++ ascii "00C000\t0\t0\tN\t0\t0\n"
    ++ ascii "00C003\t0\t0\tN\t0\t0\n"
    ++ ascii "00C004\t1\t0\tN\t0\t0\n"
    ++ ascii "00C006\t1\t0\tN\t0\t0\n"

-- 'Image 20 04 C0 DB 60 at C000, marks 01 00 00 01 09'
abbrev pub call_image : List ℕ
call_image = 0x20 ∷ 0x04 ∷ 0xC0 ∷ 0xDB ∷ 0x60 ∷ []

abbrev pub call_marks : List ℕ
call_marks = 0x01 ∷ 0x00 ∷ 0x00 ∷ 0x01 ∷ 0x09 ∷ []

-- 'C004 marked 01'
abbrev pub marked : ℕ → ℕ → List ℕ → List ℕ
marked address mark marks = set marks (address - 0xC000) mark

module _ (v : Unspecified) where
  -- 'RAM 512': so many bytes, whatever they are
  abbrev pub ram : ℕ → List ℕ
  ram size = list_of size v.bytes

  -- 'From reset with A=0000': at the reset address with m=0 and x=0, and with an A
  abbrev pub from_reset : ℕ → State
  from_reset a =
      state_at v (with_a a (with_status (with_widths false false v.core.registers.status) v.core.registers)) 0xC000
      v.core.depth

  -- 'Begun at C004, S=01FD': at an address, with an S and so many open calls. With one open, case 9's 24 would hang on
  -- RAM and its entry; with 24, cases 6 and 7 would be 25.
  abbrev pub begun : ℕ → ℕ → ℕ → State
  begun pc s depth = state_at v (with_s s v.core.registers) pc depth

  -- 1. 'Case 1 is accepted.'
  abbrev pub case1 : Row
  case1 = row width_image width_marks accepted (listed_old width_list ∷ listed width_list_in_six ∷ [])

  -- 2. 'From reset with A=0000: A=1262, stop 22, 3 steps.'
  abbrev pub case2 : Row
  case2 = row width_image width_marks accepted (stops (from_reset 0x0000) (ram v.size) 22 3 0 (holds_a 0x1262 ∷ []) ∷ [])

  -- 3. 'Asked for 3 steps: end 0; asked for 0: end 0, nothing changed.'
  abbrev pub case3 : Row
  case3 =
      row width_image width_marks accepted
      (does (from_reset v.core.registers.a) (ram v.size) 3 0 [] ∷
      does (from_reset v.core.registers.a) (ram v.size) 0 0 (unchanged ∷ []) ∷ [])

  -- 4. 'C004 marked 01: 9 at offset 3.'
  abbrev pub case4 : Row
  case4 = row width_image (marked 0xC004 0x01 width_marks) (refused 9 3) []

  -- 5. 'C006 marked 00: 8 at offset 4.'
  abbrev pub case5 : Row
  case5 = row width_image (marked 0xC006 0x00 width_marks) (refused 8 4) []

  -- 6. '.. accepted. RAM 512, S=01FF: 01FF holds C0, 01FE holds 03, stop 22 after 2 steps, 1 call.'
  abbrev pub case6 : Row
  case6 =
      row call_image call_marks accepted
      (stops (begun 0xC000 0x01FF v.fewer) (ram 512) 22 2 1
      (holds_byte 0x01FF 0xC0 ∷ holds_byte 0x01FE 0x03 ∷ []) ∷ [])

  -- 7. 'The same, S=0000: stop 23, nothing written.'
  abbrev pub case7 : Row
  case7 =
      row call_image call_marks accepted
      (stops (begun 0xC000 0x0000 v.fewer) (ram 512) 23 0 0 (unchanged ∷ []) ∷ [])

  -- 8. 'The same, C004 marked 01: 9 at offset 0.'
  abbrev pub case8 : Row
  case8 = row call_image (marked 0xC004 0x01 call_marks) (refused 9 0) []

  -- 9. 'Begun at C004, S=01FD: 24; S=01FF: 23.'
  abbrev pub case9 : Row
  case9 =
      row call_image call_marks accepted
      (stops (begun 0xC004 0x01FD 0) (ram 512) 24 0 0 [] ∷
      stops (begun 0xC004 0x01FF v.core.depth) (ram 512) 23 0 0 [] ∷ [])

  -- 10. '80 FE at C000, reset C000, with marks 01 00: accepted; n steps return to its start.'
  abbrev pub case10 : Row
  case10 =
      row (0x80 ∷ 0xFE ∷ []) (0x01 ∷ 0x00 ∷ []) accepted
      (returns (begun 0xC000 v.core.registers.s v.core.depth) (ram v.size) ∷ [])

  abbrev pub table : List Row
  table = case1 ∷ case2 ∷ case3 ∷ case4 ∷ case5 ∷ case6 ∷ case7 ∷ case8 ∷ case9 ∷ case10 ∷ []

-- every row holds
abbrev pub ProvedSet : Type 0
ProvedSet = (v : Unspecified) → Every Holds (table v)
