-- By kind; a word is an address of the bank of the address just after the instruction.
use Rattle.std.specs.Prelude.{None}
use Rattle.semantics.specs.Memory.{memory}
use Rattle.machine.proofs.Calling.{pulls_word, pulls_none, pulls_long}
use Rattle.machine.proofs.returning.pulls_return.Goals as goal

pub returns-in_err-address-in-ByRts : goal.returns-in_err-address-in-ByRts
returns-in_err-address-in-ByRts c depth file is-s =
    let a = c.args in
    rw c.from_residual.ensures
    (pulls_none (memory a.mapped.now.ram.now a.mapped.now.image.now a.mapped.now.base) a.i.place depth file a.i a.s c.pulled_at-first.result
    c.pulled_at-second.result c.pulled_at-third.result a.kind is-s c.pulled_at-first.ensures
    c.pulled_at-second.ensures c.in-ByRts.is c.in_err-address-in-ByRts.ensures)

pub returns-in_ok-address-in-ByRts : goal.returns-in_ok-address-in-ByRts
returns-in_ok-address-in-ByRts c depth file is-s =
    let a = c.args in
    pulls_word (memory a.mapped.now.ram.now a.mapped.now.image.now a.mapped.now.base) a.i.place depth file a.i a.s c.pulled_at-first.result
    c.pulled_at-second.result c.pulled_at-third.result a.kind is-s c.pulled_at-first.ensures
    c.pulled_at-second.ensures _ _ a.i.inside c.in-ByRts.is c.in_ok-address-in-ByRts.ensures
    (rw c.address.ensures at c.in_bank_after.ensures)

pub returns-in_err-number-in-ByRtl : goal.returns-in_err-number-in-ByRtl
returns-in_err-number-in-ByRtl c depth file is-s =
    let a = c.args in
    rw c.from_residual-in_err-number-in-ByRtl.ensures
    (pulls_long (memory a.mapped.now.ram.now a.mapped.now.image.now a.mapped.now.base) a.i.place depth file a.i a.s c.pulled_at-first.result
    c.pulled_at-second.result c.pulled_at-third.result a.kind is-s c.pulled_at-first.ensures
    c.pulled_at-second.ensures None c.in-ByRtl.is c.pulled_at-third.ensures c.in_err-number-in-ByRtl.ensures.value)

pub returns-in_ok-number-in-ByRtl : goal.returns-in_ok-number-in-ByRtl
returns-in_ok-number-in-ByRtl c depth file is-s =
    let a = c.args in
    rw c.new.ensures
    (pulls_long (memory a.mapped.now.ram.now a.mapped.now.image.now a.mapped.now.base) a.i.place depth file a.i a.s c.pulled_at-first.result
    c.pulled_at-second.result c.pulled_at-third.result a.kind is-s c.pulled_at-first.ensures
    c.pulled_at-second.ensures _ c.in-ByRtl.is c.pulled_at-third.ensures c.in_ok-number-in-ByRtl.ensures.value)
