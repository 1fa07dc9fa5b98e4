-- An instruction of an image, as the definitions have it.
-- Assumes nothing.
use Rattle.std.specs.Prelude.{drop, Result, Ok, Err}
use Rattle.types.specs.Answers.{Decoded}
use Rattle.types.specs.declared.code.Instruction.{Instruction}
use Rattle.types.specs.declared.code.Undecoded.{Undecoded}
use Rattle.decoder.specs.Layout.{instruction_of}
use Rattle.places.specs.declared.place.InstructionAt.{InstructionAt}

-- the instruction of its layout
abbrev pub instruction_in : InstructionAt → Instruction
instruction_in i = instruction_of (drop i.place.at i.place.image.now) i.layout

-- what stands at its place
abbrev pub decoded : Result InstructionAt Undecoded → Decoded
decoded (Ok i) = Ok (instruction_in i)
decoded (Err why) = Err why
