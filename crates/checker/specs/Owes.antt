-- The rules of a whole instruction behind 7, in two parts: only a return can break 10, and it owes nothing.
-- Assumes nothing.
use Rattle.std.specs.Prelude.{◌≡◌, ℕ, Bool, true, ◌&&◌, List, [], ◌∷◌}
use Rattle.types.specs.declared.code.Flow.{Flow}
use Rattle.types.specs.declared.refusals.Refusal.{Refusal}
use Rattle.types.specs.declared.rules.Requirement.{Requirement}
use Rattle.types.specs.declared.rules.Requirements.{Requirements}
use Rattle.types.specs.Refusals.{Tests}
use Rattle.acceptance.specs.Rules.{return_fits}
use Rattle.acceptance.specs.Verdict.{all_starts, all_marks}

-- whether all that is owed passes a test
abbrev pub all_owed : (Requirement → Bool) → Requirements → Bool
all_owed passes Requirements.Nothing = true
all_owed passes (Requirements.One w) = passes w
all_owed passes (Requirements.Two v w) = passes v && passes w

-- 10
abbrev pub return_tests : Flow → ℕ → Tests
return_tests flow mark = (return_fits flow mark, Refusal.Return) ∷ []

-- 8, 9
abbrev pub owed_tests : List ℕ → ℕ → Requirements → Tests
owed_tests marks base owed =
    (all_starts marks base owed, Refusal.Flow) ∷ (all_marks marks base owed, Refusal.Widths) ∷ []

-- the marks that are wanted are those of starts: where all stand there, all are starts
abbrev pub MarksOfStarts : List ℕ → ℕ → Requirements → Type 0
MarksOfStarts marks base owed = all_marks marks base owed ≡ true → all_starts marks base owed ≡ true
