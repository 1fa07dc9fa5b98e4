-- A jump leaves the registers but for the widths, and goes to its target.
use mathlib.Core.Path.{◌∙◌}
use native.Mathlib.Omega.{arith}
use Rattle.instructions.specs.Successors.{target_address}
use Rattle.machine.specs.Fetches.{instruction}
use Rattle.machine.proofs.Operating.{jumped}
use Rattle.machine.proofs.flows.jumps.Goals as goal

pub put-requires : goal.put-requires
put-requires c = rw c.leaves.ensures (omega arith, omega arith)

pub returns : goal.returns
returns c =
    let a = c.args in
    λ m. jumped a.i m a.i.place a.depth a.registers.now c.leaves.result c.leaves.ensures c.put.new.registers
    c.put.ensures c.number.result (target_address (instruction a.i) a.i.place) (c.number.ensures.0 ∙ c.target.ensures)
