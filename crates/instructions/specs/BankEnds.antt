-- 02, R-7: 'the bank of the address just after the instruction', beside the bank of the instruction itself.
-- Assumes nothing.
use Rattle.std.specs.Prelude.{◌≡◌, ℕ, ◌+◌, ◌%◌, ◌≤◌, ◌<◌}
use Rattle.types.specs.Addresses.{bank_size, address_limit, in_bank_of}
use Rattle.instructions.specs.Successors.{in_bank_after}

pub record BankEnds : Type 0 where
  -- that of an instruction which ends before the last byte of its bank is its own
  pub within : (address n low : ℕ) → address < address_limit → address % bank_size + n < bank_size
      → in_bank_after address n low ≡ in_bank_of address low
  -- that of one which ends with its bank, or lies across the end, is the next; behind the last bank comes the first
  pub across : (address n low : ℕ) → address < address_limit → n ≤ 6 → bank_size ≤ address % bank_size + n
      → in_bank_after address n low ≡ in_bank_of ((address + bank_size) % address_limit) low
