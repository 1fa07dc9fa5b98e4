-- 01, 'Rules of acceptance' and 'The machine': where control goes from an instruction, and the widths after it.
-- The check and a step share them.
-- Assumes nothing.
use Rattle.std.specs.Prelude.{ℕ, ◌+◌, ◌%◌, ◌-◌, ◌*◌, ◌/◌, ◌^◌, ltb, eqb}
use Rattle.types.specs.declared.code.Target.{Target}
use Rattle.types.specs.declared.code.WidthEffect.{WidthEffect}
use Rattle.types.specs.declared.code.Instruction.{Instruction}
use Rattle.types.specs.Addresses.{address_limit, in_bank_of, bank_size}
use Rattle.prelude.specs.Choice.{pick}
use Rattle.types.specs.Status.{mask_m, mask_x}
pub use Rattle.types.specs.Kinds.{kind_number}

-- 'the next address': addresses count on as one 24-bit number that wraps
abbrev pub next_address : ℕ → ℕ → ℕ
next_address address n = (address + n) % address_limit

-- R-7: 'JMP and JSR absolute, and RTS, use the bank of the address just after the instruction': with these low 16 bits,
-- the address that an instruction of n bytes goes to
abbrev pub in_bank_after : ℕ → ℕ → ℕ → ℕ
in_bank_after address n low = in_bank_of (next_address address n) low

-- an address plus a signed offset, given as a number below twice its half range
abbrev pub offset_by : ℕ → ℕ → ℕ → ℕ
offset_by half address offset =
    (address + pick (ltb offset half) offset (address_limit - 2 * half + offset)) % address_limit

-- an 8-bit offset is the last byte of the instruction. Of n bytes the operand has n - 1 where there is no prefix: every
-- code with such an offset stands on the plain page.
abbrev pub last_byte : ℕ → ℕ → ℕ
last_byte operand n = operand / 256 ^ (n - 2) % 256

-- 'next address plus signed offset (8 or 16 bits)'; of an operand the bits count that the form has
unfoldable pub target_of : Target → ℕ → ℕ → ℕ → ℕ
target_of Target.NoTarget address n operand = next_address address n
target_of Target.Offset8 address n operand = offset_by 128 (next_address address n) (last_byte operand n)
target_of Target.Offset16 address n operand = offset_by 32_768 (next_address address n) (operand % bank_size)
target_of Target.Address16 address n operand = in_bank_after address n (operand % bank_size)
target_of Target.Address24 address n operand = operand % address_limit

-- 'the widths in force after the instruction. Only SEM, CLM, SEP and CLP change them, by their fixed bits': the places
-- of m and x in the status register
abbrev pub set_bit : ℕ → ℕ → ℕ
set_bit width bit = pick (eqb bit 1) 1 width

abbrev pub clear_bit : ℕ → ℕ → ℕ
clear_bit width bit = pick (eqb bit 1) 0 width

unfoldable pub m_after : WidthEffect → ℕ → ℕ → ℕ
m_after WidthEffect.KeepWidths m operand = m
m_after WidthEffect.SetM m operand = 1
m_after WidthEffect.ClearM m operand = 0
m_after WidthEffect.SetBits m operand = set_bit m (operand / mask_m % 2)
m_after WidthEffect.ClearBits m operand = clear_bit m (operand / mask_m % 2)

unfoldable pub x_after : WidthEffect → ℕ → ℕ → ℕ
x_after WidthEffect.KeepWidths x operand = x
x_after WidthEffect.SetM x operand = x
x_after WidthEffect.ClearM x operand = x
x_after WidthEffect.SetBits x operand = set_bit x (operand / mask_x % 2)
x_after WidthEffect.ClearBits x operand = clear_bit x (operand / mask_x % 2)

-- where an instruction at an address goes by its target
abbrev pub target_address : Instruction → ℕ → ℕ
target_address i address = target_of i.entry.target address i.length i.operand
