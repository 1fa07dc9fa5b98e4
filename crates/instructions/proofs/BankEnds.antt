-- An address and a few bytes: either no carry reaches the bank, or one does.
-- Assumes nothing.
use native.Mathlib.Omega.{arith}
use Rattle.instructions.specs.BankEnds.{BankEnds}

pub bank_ends : BankEnds
bank_ends = record {
  within = λ address n low small before. omega arith;
  across = λ address n low small few end. omega arith;
}
