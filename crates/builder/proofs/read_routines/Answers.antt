-- The routines are read as marks are, and all lie in the image where nothing is left of the text.
use mathlib.Core.Path.{◌≡◌, ap, ◌∙◌}
use borrow.Author.Tests.{ne_eqb}
use lib.ListN.{length}
use Rattle.acceptance.specs.Image.{start_count}
use Rattle.lists.specs.Routines.{routine_marks}
use Rattle.builder.proofs.Answering.{is_table, some_left, none_left}
use Rattle.builder.proofs.read_routines.Goals as goal

pub returns-then-end-routines : goal.returns-then-end-routines
returns-then-end-routines c =
    let args = c.args in
    let fill = c.fill_marks-end in
    let table : fill.new.marks ≡ routine_marks args.base (length args.table.now) args.routines.now =
    is_table _ _ _ _ c.has_old_lines-old.ensures _ c.first_address.ensures.0 _ fill.ensures.0 in
    record {
      fit = none_left _ _ _ _ c.has_old_lines-old.ensures _ c.first_address.ensures.0 _ fill.ensures.1 fill.ensures.2
          c.if-end-routines.true _ (c.count_starts.ensures ∙ ap start_count table);
      marks = table;
    }

pub returns-else-end-routines : goal.returns-else-end-routines
returns-else-end-routines c =
    let fill = c.fill_marks-end in
    record {
      fit = rw (ne_eqb _ _ c.if-end-routines.false)
          (some_left _ _ _ _ c.has_old_lines-old.ensures _ c.first_address.ensures.0 _ fill.ensures.1 fill.ensures.2
          c.if-end-routines.false);
      marks = is_table _ _ _ _ c.has_old_lines-old.ensures _ c.first_address.ensures.0 _ fill.ensures.0;
    }
