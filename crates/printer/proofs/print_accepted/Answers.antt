-- An accepted image is printable with the starts that are counted.
use Rattle.printer.proofs.Printing.{printable}
use Rattle.printer.proofs.print_accepted.Goals as goal

pub print_rows-requires : goal.print_rows-requires
print_rows-requires c =
    let args = c.args in
    printable args.image.now args.marks.now args.base c.requires.0 c.count_starts.result
    c.requires.1 c.count_starts.ensures
