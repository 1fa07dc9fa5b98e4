-- 25, then the stores, then the call.
use Rattle.std.proofs.lemmas.Result.{err_from_is_err_and}
use mathlib.Core.Path.{refl, ap, ◌∙◌}
use Prim.Native.Nat.{◌+◌, ◌-◌, ◌%◌}
use native.Mathlib.Omega.{arith}
use lib.ListN.{get_or}
use Rattle.types.specs.Addresses.{bank_size}
use Rattle.semantics.specs.Memory.{memory}
use Rattle.machine.proofs.Calling.{placed, puts_s, stops_pushing, calls_so}
use Rattle.machine.proofs.flows.calls_to.Goals as goal

pub returns-in_err-served_all : goal.returns-in_err-served_all
returns-in_err-served_all c =
    let a = c.args in
    let p = err_from_is_err_and c.from_residual.result c.from_residual.ensures.1 in
    rw (p.1, p.2)
    (stops_pushing a.i (memory a.ram.now a.image.now a.base) a.i.place a.depth a.registers.now a.calls.now a.kind
    c.next_address-next.result (get_or a.registers.now 4 0) c.pushes_return-stores.result _ a.i.inside (omega arith)
    (rw c.address.ensures at c.next_address-next.ensures) refl c.pushes_return-stores.ensures
    c.in_err-served_all.ensures _ refl)

pub put-requires : goal.put-requires
put-requires c = placed c.puts.result c.pushed_at.result (get_or c.args.registers.now 7 0) c.puts.ensures

pub returns : goal.returns
returns c =
    let a = c.args in
    calls_so a.i (memory a.ram.now a.image.now a.base) a.i.place a.depth a.registers.now a.calls.now a.kind
    c.next_address-next.result (get_or a.registers.now 4 0) c.pushes_return-stores.result _ a.i.inside (omega arith)
    (rw c.address.ensures at c.next_address-next.ensures) refl c.pushes_return-stores.ensures
    c.in_ok-served_all.ensures c.number.result c.entry_of.result c.put.new.registers c.write.new.ram
    (c.number.ensures.0 ∙ c.target.ensures) refl c.entry_of.ensures
    (puts_s c.puts.result c.pushed_at.result (get_or a.registers.now 7 0) c.puts.ensures a.i a.registers.now _ _
    c.put.ensures
    (c.pushed_at.ensures
    ∙ ap (λ n. (get_or a.registers.now 4 0 + (bank_size - n)) % bank_size) c.return_bytes.ensures) refl)
    c.write.ensures
