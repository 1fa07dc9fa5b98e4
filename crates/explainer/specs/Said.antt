-- What is said of a place of an image, by the number of a refusal.
-- Assumes nothing.
use Rattle.std.specs.Prelude.{ℕ, ◌+◌, List, drop, get_or}
use Rattle.acceptance.specs.Rules.{instruction_at}
use Rattle.places.specs.Placed.{instruction_in}
use Rattle.places.specs.declared.place.InstructionAt.{InstructionAt}
use Rattle.places.specs.declared.place.Place.{Place}
use Rattle.reports.specs.Explanation.{start_detail, whole_detail}

-- of an instruction there: what stands behind its word
abbrev pub whole_said : InstructionAt → ℕ → List ℕ
whole_said i number =
    whole_detail i.place.marks.bytes.now i.place.marks.base i.place.at number (instruction_in i)

-- of what is decoded there
abbrev pub start_said : Place → ℕ → List ℕ
start_said place number =
    start_detail (place.marks.base + place.at) (drop place.at place.image.now) (get_or place.marks.bytes.now place.at 0)
    (whole_detail place.marks.bytes.now place.marks.base place.at number)
    (instruction_at place.image.now place.marks.bytes.now place.at)
