-- A list that is written is read by the program check as the marks delivered, which the check accepts.
-- Assumes nothing.
use Rattle.std.specs.Prelude.{Ok}
use mathlib.Core.Path.{◌≡◌, refl, sym, ◌∙◌}
use mathlib.Core.List.{List}
use native.Mathlib.Omega.{arith}
use Prim.Native.Nat.{ℕ, ◌≤◌}
use lib.ListN.{length, drop}
use lib.Seq.{take_at}
use Rattle.types.specs.declared.lists.Header.{Header}
use Rattle.acceptance.specs.Image.{start_count}
use Rattle.acceptance.specs.Verdict.{verdict}
use Rattle.lists.specs.MarkList.{new_digits, list_text, read_list, marks_read, page_by, page_written}
use Rattle.lists.specs.Routines.{marks_built}
use Rattle.acceptance.proofs.Image.{right_length}
use Rattle.acceptance.proofs.Verdict.{accepted_rules}
use Rattle.lists.proofs.RoundTrips.{written_then_read}
use Rattle.answer.specs.AnswerLine.{FileAnswer, list_limit, answer_by, verdict_answer, list_answer, answer_for}
use Rattle.answer.proofs.AnswerLaws.{list_taken, within_limits, limits_kept}
use Rattle.builtlist.specs.BuiltList.{address_shown, built_list, WrittenAccepted}
use Rattle.builtlist.proofs.Lists.{written_whole, delivered_accepted, delivered_list}

-- the list of marks that the check accepts is read as these marks, and accepted
list_accepted : (image marks : List ℕ) (base reset : ℕ) → verdict image marks base reset ≡ Ok tt
    → length (list_text new_digits marks base reset) ≤ list_limit
    → answer_for image (list_text new_digits marks base reset) ≡ Ok (start_count marks)
unfolding verdict_answer answer_by page_written page_by
list_accepted image marks base reset e short =
    let text = list_text new_digits marks base reset in
    let fits = right_length (length image) (length marks) (accepted_rules image marks base reset e).right_length in
    let written = written_whole marks base reset (image, e) text (omega arith) in
    let read = written_then_read marks base reset (length text) text image written (sym fits.same) in
    let same = take_at text (drop (length text) text) (length text) refl in
    let h : Header = record { base = base; length = length marks; reset = reset } in
    let header : read_list text image ≡ Ok h = rw (written, same) at read.0 in
    let as_read : marks_read text image ≡ marks = rw (written, same) at read.1 in
    let answer : ◌≡◌ {A = FileAnswer} (Ok (start_count marks)) (list_answer image text) =
    rw (as_read, e) at (list_taken image text image refl h header) in
    sym (answer ∙ within_limits image text (limits_kept image text short fits.few))

pub written_accepted : WrittenAccepted
unfolding built_list
written_accepted image word word' text taken built short =
    let base = address_shown word in
    let reset = address_shown word' in
    let same = delivered_list image base reset text image refl built in
    let accepted = delivered_accepted image base reset text image refl built in
    rw (taken, ← same) (list_accepted image (marks_built image base reset text image) base reset accepted
    (rw (taken, ← same) at short))
