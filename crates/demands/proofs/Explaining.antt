-- What an explanation claims of calls: the numbers in a result are those of the answer, which goes by the room alone;
-- the verdict is that of a check on the same image, whose number and offset stand for it.
-- Assumes nothing.
use Rattle.std.specs.Prelude.{Ok, Err}
use mathlib.Core.Path.{◌≡◌, refl, sym, ap, ◌∙◌}
use mathlib.Core.List.{List, ◌++◌}
use Prim.Native.Nat.{ℕ, ◌≤◌, ◌<◌}
use native.Mathlib.Omega.{arith}
use borrow.Author.Tests.{le-leb, lt-leb}
use lib.ListN.{length, drop}
use Rattle.packing.specs.Packed.{verdict_numbers, check_numbers, page_printed_numbers, printed_numbers}
use Rattle.packing.proofs.Unpacked.{printed_unpacked, accepted_zero}
use Rattle.types.specs.declared.refusals.Refusal.{Refusal}
use Rattle.types.specs.Answers.{Verdict, refused_at, Printed}
use Rattle.types.specs.Refusals.{refusal_number}
use Rattle.reports.specs.PrintedPage.{page_after}
use Rattle.acceptance.specs.Verdict.{verdict}
use Rattle.reports.specs.Explanation.{ascii, line_by, explanation, explained, page_explained, ShowsVerdict}
use Rattle.types.proofs.TestResults.{same_refusal}
use Rattle.reports.proofs.Explanation.{shows_verdicts, explains_flow, explains_widths}
use Rattle.demands.specs.Calls.{holds, CheckCall, ExplainCall}
use Rattle.demands.specs.Requests.{line_of, ChecksExplained, number_of, offset_of, ExplainsRefusals}
use Rattle.demands.proofs.Calls.{verdict_of, numbers_of_check}

-- ---- the answer and the page

module _ (c : ExplainCall) where
  abbrev page : List ℕ
  page = holds c.page

  abbrev answer : Printed
  answer = explained (holds c.image) (holds c.marks) c.base c.reset page

  numbers : (a : Printed) → answer ≡ a → printed_numbers c.result ≡ page_printed_numbers a
  numbers a e = ap printed_numbers c.kept.0 ∙ printed_unpacked answer ∙ ap page_printed_numbers e

  left : (a : Printed) → answer ≡ a → c.page_left ≡ page_after a (line_of c) page
  unfolding page_explained
  left a e = c.kept.1.0 ∙ ap (λ a. page_after a (line_of c) page) e

  whole : length (line_of c) ≤ length page → answer ≡ Ok (length (line_of c))
  unfolding explained
  whole room = rw (le-leb (length (line_of c)) (length page) room)

  none : length page < length (line_of c) → answer ≡ refused_at Refusal.Page 0
  unfolding explained
  none few = rw (lt-leb (length (line_of c)) (length page) few)

told : (c : ExplainCall) → length (line_of c) ≤ length (holds c.page)
    → (printed_numbers c.result ≡ record { number = 0; offset = 0; length = length (line_of c) })
    × (c.page_left ≡ line_of c ++ drop (length (line_of c)) (holds c.page))
unfolding page_after
told c room = (numbers c _ (whole c room), left c _ (whole c room))

short : (c : ExplainCall) → length (holds c.page) < length (line_of c)
    → (printed_numbers c.result ≡ record { number = 15; offset = 0; length = 0 }) × (c.page_left ≡ holds c.page)
unfolding page_after
short c few = (numbers c _ (none c few), left c _ (none c few))

-- ---- the verdict

module _ (c : ExplainCall) (d : CheckCall) (same : ChecksExplained c d) where
  abbrev image : List ℕ
  image = holds c.image

  abbrev marks : List ℕ
  marks = holds c.marks

  -- the verdict of what is explained is that of the check
  its_verdict : (v : Verdict) → verdict_of d ≡ v → verdict image marks c.base c.reset ≡ v
  its_verdict v e = rw (same.0, same.1, same.2, same.3) at e

  accepted : d.result ≡ 0 → line_of c ≡ ascii "accepted\n"
  unfolding explanation line_by
  accepted zero = rw (its_verdict (Ok tt) (accepted_zero (verdict_of d) (sym d.kept ∙ zero)))

  -- a check that refuses, by its number and offset
  when_refused : {P : Type 0} → 0 < d.result
      → ((why : Refusal) → refusal_number why ≡ number_of d
      → verdict image marks c.base c.reset ≡ refused_at why (offset_of d) → P) → P
  when_refused {P} some then = by (verdict_of d) refl (numbers_of_check d)
    where
      by : (v : Verdict) → verdict_of d ≡ v → check_numbers d.result ≡ verdict_numbers v → P
      by (Ok _) e n = absurd (omega (arith, some, ap (λ n. n.number) n, ap (λ n. n.offset) n))
      by (Err r) e n =
          then r.why (sym (ap (λ n. n.number) n))
          (its_verdict (refused_at r.why r.offset) e ∙ ap (refused_at r.why) (sym (ap (λ n. n.offset) n)))

  some_result : 0 < number_of d → 0 < d.result
  some_result some = omega arith

  -- a check that refuses by one number
  by_number : (why : Refusal) → number_of d ≡ refusal_number why → 0 < refusal_number why
      → verdict image marks c.base c.reset ≡ refused_at why (offset_of d)
  by_number why e some = when_refused (some_result (rw e some)) (λ why' n h.
      h ∙ ap (λ w. refused_at w (offset_of d)) (same_refusal why' why (n ∙ e)))

  shown : (why : Refusal) → refusal_number why ≡ number_of d
      → verdict image marks c.base c.reset ≡ refused_at why (offset_of d)
      → ShowsVerdict image marks c.base c.reset why (offset_of d)
  shown why n h = shows_verdicts image marks c.base c.reset why (offset_of d) h

pub explains_refusals : ExplainsRefusals
explains_refusals = record {
  explained = told;
  short = short;
  enough = λ c. c.kept.1.1;
  accepted = accepted;
  number = λ c d same some. when_refused c d same some (λ why n h. rw n at (shown c d same why n h).number);
  place = λ c d same high. when_refused c d same (some_result c d same (omega arith))
      (λ why n h. rw n at ((shown c d same why n h).place (rw n high)));
  flow = λ c d same n. explains_flow (holds c.image) (holds c.marks) c.base c.reset (offset_of d)
      (by_number c d same Refusal.Flow n (omega arith));
  widths = λ c d same n. explains_widths (holds c.image) (holds c.marks) c.base c.reset (offset_of d)
      (by_number c d same Refusal.Widths n (omega arith));
}
