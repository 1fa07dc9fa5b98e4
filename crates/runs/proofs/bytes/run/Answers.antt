-- A refused run changes nothing; one that is taken up keeps the bounds that the steps need, and its state is written
-- back.
use Rattle.std.proofs.lemmas.Result.{err_from_is_err_and}
use Rattle.execution.proofs.Run.{admitted}
use Rattle.runs.proofs.Admitted.{long, shallow, run_refused, run_taken}
use Rattle.semantics.specs.Memory.{memory}
use lib.ListN.{length}
use mathlib.Core.Path.{refl, sym, ap, ◌∙◌}
use Rattle.runs.proofs.bytes.run.Goals as goal

pub returns-in_err-test_run : goal.returns-in_err-test_run
returns-in_err-test_run c =
    let a = c.args in
    let p = err_from_is_err_and c.from_residual.result c.from_residual.ensures.1 in
    let e =
    sym (run_refused (memory a.ram.now a.image.now a.base) a.bytes.now a.asked c.core_of-core.result
    c.calls_of-calls.result c.core_of-core.ensures c.calls_of-calls.ensures c.fits-taken.result
    c.fits-taken.ensures _ c.in_err-test_run.ensures _ refl) in
    record { answer = rw (p.1, p.2) (ap (λ r. r.answer) e); state = ap (λ r. r.state) e; ram = ap (λ r. r.ram) e }

pub run_steps-after-requires : goal.run_steps-after-requires
run_steps-after-requires c =
    let b =
    admitted (memory c.args.ram.now c.args.image.now c.args.base) c.fits-taken.result c.args.asked
    (sym c.in_ok-test_run.ensures) in
    let deep =
    shallow (length c.args.bytes.now) c.core_of-core.result c.calls_of-calls.result
    (sym c.fits-taken.ensures ∙ b.taken) in
    (b.whole, b.few, deep, b.steps)

pub put_state-requires : goal.put_state-requires
put_state-requires c =
    let b =
    admitted (memory c.args.ram.now c.args.image.now c.args.base) c.fits-taken.result c.args.asked
    (sym c.in_ok-test_run.ensures) in
    long (length c.args.bytes.now) c.core_of-core.result c.calls_of-calls.result
    (sym c.fits-taken.ensures ∙ b.taken)

pub returns : goal.returns
returns c =
    let a = c.args in
    let e =
    sym (run_taken (memory a.ram.now a.image.now a.base) a.bytes.now a.asked c.core_of-core.result
    c.calls_of-calls.result c.core_of-core.ensures c.calls_of-calls.ensures c.fits-taken.result
    c.fits-taken.ensures _ c.in_ok-test_run.ensures refl _
    c.run_steps-after.ensures) in
    record {
      answer = ap (λ r. r.answer) e;
      state = c.put_state.ensures ∙ ap (λ r. r.state) e;
      ram = ap (λ r. r.ram) e;
    }
