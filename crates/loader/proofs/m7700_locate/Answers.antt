-- What the check refuses is passed on; what it accepts is located in, and every answer fits its packing.
use Rattle.std.specs.Prelude.{Ok}
use mathlib.Core.Path.{◌≡◌, sym, ap, ◌∙◌}
use Rattle.acceptance.specs.Verdict.{verdict}
use Rattle.loader.proofs.Answers.{located_fits}
use Rattle.checker.proofs.Packing.{when_refused}
use Rattle.packing.proofs.Unpacked.{accepted_zero}
use Rattle.packing.specs.Packed.{packed_located}
use Rattle.locator.proofs.Answers.{refused_first}
use Rattle.loader.proofs.m7700_locate.Goals as goal

pub returns-then-refusal-ne0 : goal.returns-then-refusal-ne0
returns-then-refusal-ne0 c =
    let args = c.args in
    when_refused args.image.now args.marks.now args.base args.reset c.m7700_check-refusal.result
    c.m7700_check-refusal.ensures c.if-refusal-ne0.true (λ why at e told.
    let left = refused_first args.image.now args.marks.now args.base args.reset args.addresses.now
    args.places.now why at e in
    record { answer = c.pass_on.ensures ∙ told ∙ ap packed_located left.0; places = left.1 })

pub locate-requires : goal.locate-requires
locate-requires c =
    let args = c.args in
    let accepted : verdict args.image.now args.marks.now args.base args.reset ≡ Ok tt =
    accepted_zero _ (sym c.m7700_check-refusal.ensures ∙ c.if-refusal-ne0.false) in
    (args.reset, accepted)

pub pack_count-requires : goal.pack_count-requires
pack_count-requires c =
    let args = c.args in
    let accepted : verdict args.image.now args.marks.now args.base args.reset ≡ Ok tt =
    accepted_zero _ (sym c.m7700_check-refusal.ensures ∙ c.if-refusal-ne0.false) in
    let done = c.locate.ensures args.reset accepted in
    rw done.0
    (located_fits args.image.now args.marks.now args.base args.reset args.addresses.now
    args.places.now)

pub returns : goal.returns
returns c =
    let args = c.args in
    let accepted : verdict args.image.now args.marks.now args.base args.reset ≡ Ok tt =
    accepted_zero _ (sym c.m7700_check-refusal.ensures ∙ c.if-refusal-ne0.false) in
    let done = c.locate.ensures args.reset accepted in
    record { answer = c.pack_count.ensures ∙ ap packed_located done.0; places = done.1 }
