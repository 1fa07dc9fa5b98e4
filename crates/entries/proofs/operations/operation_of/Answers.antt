-- No operation stands behind the list.
use mathlib.Core.Path.{sym}
use Prim.Native.Nat.{◌≤◌, ◌%◌}
use lib.ListN.{get_or-eq_default}
use Rattle.std.proofs.Common.{rules}
use Rattle.types.specs.declared.code.Operation.{Operation}
use Rattle.codepages.specs.Packing.{operations, unpacked}
use Rattle.entries.proofs.operations.operation_of.Goals as goal

pub returns-in-None : goal.returns-in-None
unfolding unpacked
returns-in-None c =
    let past : 104 ≤ c.args.n % 128 = search rules in
    sym (get_or-eq_default operations Operation.Unassigned past)
