-- The requests' claims. Of R-1: the numbers in a result are those of the answer, which goes by the verdict and the
-- room; the page that was printed is the text of which `pages_tell` speaks.
-- Assumes nothing.
use Rattle.std.specs.Prelude.{Ok, Err}
use mathlib.Core.Path.{◌≡◌, refl, sym, ap, ◌∙◌}
use mathlib.Core.List.{List, ◌++◌}
use Prim.Native.Nat.{ℕ, ◌*◌, ◌≤◌, ◌<◌}
use native.Mathlib.Omega.{arith}
use lib.ListN.{length, take, drop}
use lib.Seq.{take_at}
use Rattle.packing.specs.Packed.{verdict_numbers, check_numbers, page_printed_numbers, printed_numbers}
use Rattle.types.specs.Answers.{Verdict, refused_at, Printed}
use Rattle.acceptance.specs.Image.{start_count}
use Rattle.acceptance.specs.Rules.{Accepts}
use Rattle.reports.specs.PrintedPage.{row_size, page_text, page_after, page_printed}
use Rattle.reports.specs.PageReading.{bytes_on_page, starts_on_page, covered_bytes, starts_shown}
use Rattle.types.proofs.TestResults.{refusal_range}
use Rattle.acceptance.proofs.Verdict.{accepts_exactly}
use Rattle.reports.proofs.PrintedAnswers.{printed_refused, printed_short, printed_whole, rows_printed}
use Rattle.reports.proofs.PageReading.{pages_tell}
use Rattle.demands.specs.Calls.{holds, CheckCall, PrintCall}
use Rattle.demands.specs.Requests.{printed_page, SameImage, PrintsPages}
use Rattle.demands.proofs.Calls.{verdict_of, printed_of, numbers_of_check, print_numbers}

-- ---- R-1

check_first : (c : PrintCall) (d : CheckCall) → SameImage c d → 0 < d.result
    → ((printed_numbers c.result).number ≡ (check_numbers d.result).number)
    × ((printed_numbers c.result).offset ≡ (check_numbers d.result).offset)
check_first c d same some = by (verdict_of d) refl (numbers_of_check d)
  where
    by : (v : Verdict) → verdict_of d ≡ v → check_numbers d.result ≡ verdict_numbers v
        → ((printed_numbers c.result).number ≡ (check_numbers d.result).number)
        × ((printed_numbers c.result).offset ≡ (check_numbers d.result).offset)
    by (Ok _) e told = absurd (omega (arith, some, ap (λ n. n.number) told, ap (λ n. n.offset) told))
    by (Err r) e told =
        let refused = printed_refused (holds c.image) (holds c.marks) c.base c.reset (holds c.page) r.why
        r.offset (rw (same.0, same.1, same.2, same.3) at e) in
        let answer = print_numbers c ∙ ap page_printed_numbers refused in (
          ap (λ n. n.number) answer ∙ sym (ap (λ n. n.number) told),
          ap (λ n. n.offset) answer ∙ sym (ap (λ n. n.offset) told),
        )

module _ (c : PrintCall) where
  abbrev image : List ℕ
  image = holds c.image

  abbrev marks : List ℕ
  marks = holds c.marks

  abbrev page : List ℕ
  page = holds c.page

  abbrev Accepted : Type 0
  Accepted = Accepts image marks c.base c.reset

  -- what a page leaves by its answer
  left : (a : Printed) → printed_of c ≡ a → c.page_left ≡ page_after a (page_text image marks c.base) page
  unfolding page_printed
  left a e = c.kept.1 ∙ ap (λ a. page_after a (page_text image marks c.base) page) e

  short : Accepted → length page < row_size * start_count marks
      → printed_numbers c.result ≡ record { number = 15; offset = 0; length = 0 }
  short rules few =
      let accepted = (accepts_exactly image marks c.base c.reset).1 rules in
      let size = (pages_tell image marks c.base c.reset rules).page_size in
      print_numbers c
      ∙ ap page_printed_numbers
      (printed_short image marks c.base c.reset page accepted (omega (arith, size, few)))

  refused : 0 < (printed_numbers c.result).number → c.page_left ≡ page
  unfolding page_after
  refused some = by (printed_of c) refl (print_numbers c)
    where
      by : (a : Printed) → printed_of c ≡ a → printed_numbers c.result ≡ page_printed_numbers a → c.page_left ≡ page
      by (Err r) e told = left (refused_at r.why r.offset) e
      by (Ok n) e told = absurd (omega (arith, some, ap (λ n. n.number) told))

  printed : Accepted → row_size * start_count marks ≤ length page
      → (printed_numbers c.result ≡ record { number = 0; offset = 0; length = row_size * start_count marks })
      × (c.page_left ≡ page_text image marks c.base ++ drop (row_size * start_count marks) page)
  unfolding page_after
  printed rules room =
      let accepted = (accepts_exactly image marks c.base c.reset).1 rules in
      let size = (pages_tell image marks c.base c.reset rules).page_size in
      let whole : printed_of c ≡ Ok (row_size * start_count marks) =
      printed_whole image marks c.base c.reset page accepted (omega (arith, size, room))
      ∙ ap Ok size in
      (print_numbers c ∙ ap page_printed_numbers whole, left (Ok (row_size * start_count marks)) whole)

  -- a call that is not refused was given an accepted image, and its page begins with the text
  when_printed : {P : Type 0} → (printed_numbers c.result).number ≡ 0
      → (Accepted → printed_page c ≡ page_text image marks c.base → P) → P
  unfolding page_after
  when_printed {P} zero shows = by (printed_of c) refl (print_numbers c)
    where
      by : (a : Printed) → printed_of c ≡ a → printed_numbers c.result ≡ page_printed_numbers a → P
      by (Err r) e told =
          absurd (omega (arith, zero, ap (λ n. n.number) told, (refusal_range r.why).0))
      by (Ok n) e told =
          let text = page_text image marks c.base in
          let was = rows_printed image marks c.base c.reset page n e in
          let front : printed_page c ≡ text =
          ap (λ k. take k c.page_left) (ap (λ n. n.length) told) ∙ ap (take n) (left (Ok n) e)
          ∙ take_at text (drop n page) n (sym was.1) in
          shows ((accepts_exactly image marks c.base c.reset).0 was.0) front

  bytes : (printed_numbers c.result).number ≡ 0 → bytes_on_page (printed_page c) ≡ covered_bytes image marks
  bytes zero = when_printed zero (λ rules front.
      ap bytes_on_page front ∙ (pages_tell image marks c.base c.reset rules).bytes c.image.bytes)

  starts : (printed_numbers c.result).number ≡ 0 → starts_on_page (printed_page c) ≡ starts_shown marks c.base
  starts zero = when_printed zero (λ rules front.
      ap starts_on_page front ∙ (pages_tell image marks c.base c.reset rules).starts)

pub prints_pages : PrintsPages
prints_pages = record {
  check_first = check_first;
  short = short;
  refused = refused;
  printed = printed;
  bytes = bytes;
  starts = starts;
}
