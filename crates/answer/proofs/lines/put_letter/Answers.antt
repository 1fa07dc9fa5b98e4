-- Two bytes are in front, the number behind them.
use Rattle.answer.proofs.PutLaws.{letter_put, put_front}
use Rattle.text.proofs.Pages.{front_inside, front_length, part_room, two_front}
use Rattle.lists.specs.MarkList.{tab}
use lib.ListN.{length-set}
use native.Mathlib.Omega.{arith}
use Rattle.answer.proofs.lines.put_letter.Goals as goal

pub bounds-page-1 : goal.bounds-page-1
bounds-page-1 c = simp length-set (omega (arith, c.requires))

pub slice_bounds-put_number-count : goal.slice_bounds-put_number-count
slice_bounds-put_number-count c =
    front_inside (two_front c.args.page.now c.args.letter tab (omega (arith, c.requires)))

pub put_number-requires : goal.put_number-requires
put_number-requires c =
    part_room 6 (two_front c.args.page.now c.args.letter tab (omega (arith, c.requires)))
    c.requires

pub shape_of-page : goal.shape_of-page
shape_of-page c =
    front_length (put_front (letter_put c.args.letter c.args.n c.args.close
    c.put_number.result c.args.page.now c.put_number.new.page
    c.requires c.put_number.ensures) c.requires)

pub returns : goal.returns
returns c =
    letter_put c.args.letter c.args.n c.args.close c.put_number.result
    c.args.page.now c.put_number.new.page c.requires
    c.put_number.ensures
