-- What the check refuses is passed on; what it accepts is printed, and every answer fits its packing.
use Rattle.std.specs.Prelude.{Ok}
use mathlib.Core.Path.{◌≡◌, sym, ap, ◌∙◌}
use Rattle.acceptance.specs.Verdict.{verdict}
use Rattle.loader.proofs.Answers.{printed_fits}
use Rattle.checker.proofs.Packing.{when_refused}
use Rattle.packing.proofs.Unpacked.{accepted_zero}
use Rattle.packing.specs.Packed.{packed_printed}
use Rattle.printer.proofs.Printing.{judged_page, refused_page}
use Rattle.loader.proofs.m7700_print.Goals as goal

pub returns-then-refusal-ne0 : goal.returns-then-refusal-ne0
returns-then-refusal-ne0 c =
    let args = c.args in
    when_refused args.image.now args.marks.now args.base args.reset c.m7700_check-refusal.result
    c.m7700_check-refusal.ensures c.if-refusal-ne0.true (λ why at e told.
    let left = refused_page args.image.now args.marks.now args.base args.reset args.page.now
    (record { why = why; offset = at }) e in
    record { answer = c.pass_on.ensures ∙ told ∙ ap packed_printed left.0; page = left.1 })

pub print_accepted-requires : goal.print_accepted-requires
print_accepted-requires c =
    let args = c.args in
    let accepted : verdict args.image.now args.marks.now args.base args.reset ≡ Ok tt =
    accepted_zero _ (sym c.m7700_check-refusal.ensures ∙ c.if-refusal-ne0.false) in
    (args.reset, accepted)

pub pack_count-requires : goal.pack_count-requires
pack_count-requires c =
    let args = c.args in
    let accepted : verdict args.image.now args.marks.now args.base args.reset ≡ Ok tt =
    accepted_zero _ (sym c.m7700_check-refusal.ensures ∙ c.if-refusal-ne0.false) in
    let done = judged_page args.image.now args.marks.now args.base args.reset args.page.now
    (Ok tt) c.print_accepted.new.page c.print_accepted.result
    accepted c.print_accepted.ensures.answer c.print_accepted.ensures.page in
    rw done.0 (printed_fits args.image.now args.marks.now args.base args.reset args.page.now)

pub returns : goal.returns
returns c =
    let args = c.args in
    let accepted : verdict args.image.now args.marks.now args.base args.reset ≡ Ok tt =
    accepted_zero _ (sym c.m7700_check-refusal.ensures ∙ c.if-refusal-ne0.false) in
    let done = judged_page args.image.now args.marks.now args.base args.reset args.page.now
    (Ok tt) c.print_accepted.new.page c.print_accepted.result
    accepted c.print_accepted.ensures.answer c.print_accepted.ensures.page in
    record { answer = c.pack_count.ensures ∙ ap packed_printed done.0; page = done.1 }
