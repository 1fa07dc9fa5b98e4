use Rattle.std.proofs.Common.{ℕ, List, Bool, ◌≡◌, ◌∙◌, ◌≤◌, ap, rules}
use lib.ListN.{length}
use Rattle.text.specs.Digits.{value}
use Rattle.text.proofs.Pages.{part_whole}
use Rattle.lists.specs.MarkList.{digits_by, mark_shown, line_size}
use Rattle.lists.specs.Routines.{has_old_lines, routine_digits}
use Rattle.marklist.proofs.RoutineLines.{passed_address, no_line, line_inside, line_judged, all_judged}
use Rattle.marklist.proofs.RoutineLines.{number_fits}
use Rattle.marklist.proofs.routines.is_routine_list.Goals as goal

pub number-address-requires : goal.number-address-requires
number-address-requires c =
    number_fits c.has_old_lines-old.result c.digits_by-count.result c.digits_by-count.ensures

-- the address that the rest of the text begins with
address_so : (text rest : List ℕ) (old : Bool) (count address : ℕ) → old ≡ has_old_lines text → count ≡ digits_by old
    → address ≡ value 16 count rest → address ≡ value 16 (routine_digits text) rest
address_so text rest old count address old-so count-is read =
    read ∙ ap (λ n. value 16 n rest) (count-is ∙ ap digits_by old-so)

-- and the size of its line
size_so : (text rest : List ℕ) (old : Bool) (address mark size : ℕ) → old ≡ has_old_lines text
    → mark ≡ mark_shown (digits_by old) address rest → size ≡ line_size (digits_by old) mark
    → size ≡ line_size (routine_digits text) (mark_shown (routine_digits text) address rest)
size_so text rest old address mark size old-so mark-is size-is =
    rw mark-is at size-is ∙ ap (λ b. line_size (digits_by b) (mark_shown (digits_by b) address rest)) old-so

pub returns-then-address-next : goal.returns-then-address-next
returns-then-address-next c =
    passed_address c.args.text.now c.loop-rest.rest.now c.loop-rest.next c.number-address.result (search rules)
    c.loop-rest.invariant
    (address_so _ _ _ _ _ c.has_old_lines-old.ensures c.digits_by-count.ensures c.number-address.ensures.0)
    c.if-address-next.true

pub returns-then-size-eq0 : goal.returns-then-size-eq0
returns-then-size-eq0 c =
    no_line c.args.text.now c.loop-rest.rest.now c.loop-rest.next c.number-address.result (search rules)
    c.loop-rest.invariant
    (address_so _ _ _ _ _ c.has_old_lines-old.ensures c.digits_by-count.ensures c.number-address.ensures.0)
    c.line_size-size.result
    (size_so _ _ _ _ _ _ c.has_old_lines-old.ensures c.mark_shown.ensures c.line_size-size.ensures)
    c.if-size-eq0.true

-- the line is within the rest
inside : (c : goal.Else-size-eq0) → c.line_size-size.result ≤ length c.loop-rest.rest.now
inside c =
    line_inside c.args.text.now c.loop-rest.rest.now c.loop-rest.next c.number-address.result (search rules)
    c.loop-rest.invariant
    (address_so _ _ _ _ _ c.has_old_lines-old.ensures c.digits_by-count.ensures c.number-address.ensures.0)
    c.line_size-size.result
    (size_so _ _ _ _ _ _ c.has_old_lines-old.ensures c.mark_shown.ensures c.line_size-size.ensures)

pub slice_bounds-rest-count : goal.slice_bounds-rest-count
slice_bounds-rest-count c = inside c

pub slice_bounds-rest-start : goal.slice_bounds-rest-start
slice_bounds-rest-start c = inside c

pub loop-rest-preserved : goal.loop-rest-preserved
loop-rest-preserved c =
    let size = c.line_size-size.result in
    rw (part_whole size c.loop-rest.rest.now)
    (line_judged c.args.text.now c.loop-rest.rest.now c.loop-rest.next c.number-address.result (search rules)
    c.loop-rest.invariant
    (address_so _ _ _ _ _ c.has_old_lines-old.ensures c.digits_by-count.ensures c.number-address.ensures.0)
    size
    (size_so _ _ _ _ _ _ c.has_old_lines-old.ensures c.mark_shown.ensures c.line_size-size.ensures)
    c.if-address-next.false c.if-size-eq0.false)

pub returns : goal.returns
returns c =
    all_judged c.args.text.now c.loop-rest.rest.now c.loop-rest.next (search rules) c.loop-rest.invariant
