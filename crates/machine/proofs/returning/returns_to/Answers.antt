-- The three tests of 24, then the return.
use mathlib.Core.Path.{refl, ap, ◌∙◌}
use Prim.Native.Nat.{◌+◌, ◌%◌}
use native.Mathlib.Omega.{arith}
use lib.ListN.{get_or}
use Rattle.types.specs.Addresses.{bank_size}
use Rattle.machine.proofs.Calling.{placed, puts_s}
use Rattle.machine.proofs.Calling.{stops_other_kind, stops_other_address, returns_so}
use Rattle.machine.proofs.returning.returns_to.Goals as goal

pub returns-then-opened-from : goal.returns-then-opened-from
returns-then-opened-from c =
    let a = c.args in
    λ m calls. stops_other_kind a.i m a.i.place a.depth a.registers.now calls a.opened a.kind a.address
    c.from.result c.from.ensures c.if-opened-from.true

pub returns-then-opened-number : goal.returns-then-opened-number
returns-then-opened-number c =
    let a = c.args in
    λ m calls. stops_other_address a.i m a.i.place a.depth a.registers.now calls a.opened a.kind a.address
    (rw c.number.ensures.0 at c.if-opened-number.true)

pub put-requires : goal.put-requires
put-requires c = placed c.puts.result c.pulled_at-s.result (get_or c.args.registers.now 7 0) c.puts.ensures

pub returns : goal.returns
returns c =
    let a = c.args in
    λ m calls. returns_so a.i m a.i.place a.depth a.registers.now calls a.opened a.kind a.address
    c.from.result c.number-2.result c.put.new.registers c.number-2.ensures.0 c.from.ensures (omega arith)
    c.if-opened-from.false (rw c.number.ensures.0 at c.if-opened-number.false)
    (puts_s c.puts.result c.pulled_at-s.result (get_or a.registers.now 7 0)
    c.puts.ensures a.i a.registers.now _ _ c.put.ensures
    (c.pulled_at-s.ensures
    ∙ ap (λ n. (get_or a.registers.now 4 0 + n) % bank_size) c.return_bytes.ensures)
    refl)
