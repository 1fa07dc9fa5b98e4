-- 01, 'Numbers': the numbers of stops and of a run's end, and the most steps that a run is asked for.
-- Assumes nothing.
use Rattle.std.specs.Prelude.{ℕ, Some, None}
use Rattle.types.specs.declared.machine.Stop.{Stop}
use Rattle.types.specs.Answers.{End}

-- the numbers of the stops
abbrev pub stop_number : Stop → ℕ
stop_number Stop.Outside = 20
stop_number Stop.Uncarried = 21
stop_number Stop.Halt = 22
stop_number Stop.Unmapped = 23
stop_number Stop.Astray = 24
stop_number Stop.Deep = 25
stop_number Stop.ImageStore = 26
stop_number Stop.Decimal = 27

-- 'A run takes 0 to 1,000,000 steps'
abbrev pub step_limit : ℕ
step_limit = 1_000_000

abbrev pub end_number : End → ℕ
end_number None = 0
end_number (Some stop) = stop_number stop
