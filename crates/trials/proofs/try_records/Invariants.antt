-- No more records agree than were tried, so that their count is a number.
use Rattle.std.proofs.Common.{◌≤◌}
use Rattle.trials.proofs.try_records.Given as goal

abbrev pub invariant-loop : goal.invariant-loop
invariant-loop g l = l.agreed ≤ l.counter
