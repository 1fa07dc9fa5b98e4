-- The range of the stops' numbers.
-- Assumes nothing.
use Prim.Native.Nat.{◌≤◌}
use native.Mathlib.Omega.{arith}
use Rattle.types.specs.declared.machine.Stop.{Stop}
use Rattle.types.specs.Runs.{stop_number}

-- the stops are numbers 20 to 27
pub stop_range : (stop : Stop) → (20 ≤ stop_number stop) × (stop_number stop ≤ 27)
stop_range Stop.Outside = (omega arith, omega arith)
stop_range Stop.Uncarried = (omega arith, omega arith)
stop_range Stop.Halt = (omega arith, omega arith)
stop_range Stop.Unmapped = (omega arith, omega arith)
stop_range Stop.Astray = (omega arith, omega arith)
stop_range Stop.Deep = (omega arith, omega arith)
stop_range Stop.ImageStore = (omega arith, omega arith)
stop_range Stop.Decimal = (omega arith, omega arith)
