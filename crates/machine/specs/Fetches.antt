-- What is fetched as the code has it, its entry by its number, as the definition's.
-- Assumes nothing.
use Rattle.types.specs.declared.code.Undecoded.{Undecoded}
use Rattle.std.specs.Prelude.{Bool, true, false, Result, Ok, Err}
use Rattle.codepages.specs.Packing.{unpacked}
use Rattle.machine.specs.declared.fetched.Fetched.{Fetched}
use Rattle.types.specs.Answers.{Decoded}
use Rattle.types.specs.declared.code.Flow.{Flow}
use Rattle.types.specs.declared.code.Instruction.{Instruction}

abbrev pub instruction : Fetched → Instruction
instruction i = record { entry = unpacked i.number; length = i.length; operand = i.operand }

abbrev pub Fetch : Type 0
Fetch = Result Fetched Undecoded

abbrev pub decoded_as : Fetch → Decoded
decoded_as (Ok i) = Ok (instruction i)
decoded_as (Err why) = Err why

abbrev pub is_branch : Flow → Bool
is_branch Flow.Next = false
is_branch Flow.Branch = true
is_branch Flow.Jump = false
is_branch (Flow.Call kind) = false
is_branch (Flow.Return kind) = false
is_branch Flow.Halt = false
