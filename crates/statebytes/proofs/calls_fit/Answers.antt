-- All fit exactly where none of them is broken.
use Rattle.std.proofs.Common.{rules, arith, ◌≡◌, ◌∙◌, sym, refl, ◌<◌}
use Rattle.std.proofs.lemmas.Iterator.{YieldsList-from_slice}
use Rattle.std.proofs.lemmas.Iterator.Search.{all_from_yields_List}
use lib.ListN.{length, take}
use lib.Seq.{length-take-le, get_or-take}
use Rattle.execution.specs.Run.{call_broken, call_fits, calls_fit}
use Rattle.prelude.proofs.Searches.{none_by_all}
use Rattle.statebytes.proofs.calls_fit.Goals as goal

pub returns : goal.returns
unfolding calls_fit
returns c =
    let calls = c.args.calls.now in
    let depth = c.args.depth in
    let asked = take depth calls in
    let long : length asked ≡ depth = length-take-le depth calls (omega arith) in
    let fits =
    all_from_yields_List call_fits _ _ c.all.result c.all.ensures.ran (YieldsList-from_slice asked cc)
    (λ x b q k. search rules) in
    let none =
    none_by_all (call_broken calls) call_fits asked
    (λ k inside. let below : k < depth = omega (arith, long) in rw get_or-take refl) in
    fits ∙ sym (rw long at none)
