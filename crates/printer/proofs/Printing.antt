-- The answer and the page by the verdict. The rows of an accepted image have 36 bytes a start, which is what the room
-- is tested against.
-- Assumes nothing.
use Rattle.std.specs.Prelude.{Ok, Err}
use mathlib.Core.Path.{◌≡◌, refl}
use mathlib.Core.List.{List, ◌++◌}
use Prim.Native.Nat.{ℕ, ◌≤◌, ◌<◌}
use native.Mathlib.Omega.{arith}
use borrow.Author.Tests.{le-leb, lt-leb}
use lib.ListN.{length, drop}
use Rattle.types.specs.Answers.{Printed, refused_at, Verdict}
use Rattle.types.specs.declared.refusals.Refusal.{Refusal}
use Rattle.types.specs.declared.refusals.Refused.{Refused}
use Rattle.acceptance.specs.Image.{start_count}
use Rattle.acceptance.specs.Verdict.{verdict}
use Rattle.reports.specs.PrintedPage.{page_text, printed_by, printed, page_after, page_printed}
use Rattle.acceptance.proofs.Image.{right_length, base_whole, starts_most}
use Rattle.reports.proofs.PageReading.{pages_tell}
use Rattle.acceptance.proofs.Verdict.{accepts_exactly}
use Rattle.printer.specs.Printable.{Printable}

pub printable : (image marks : List ℕ) (base reset starts : ℕ) → verdict image marks base reset ≡ Ok tt
    → starts ≡ start_count marks → Printable image marks base starts
printable image marks base reset starts accepted counted =
    let rules = (accepts_exactly image marks base reset).0 accepted in
    let right = right_length (length image) (length marks) rules.right_length in
    record {
      size = omega (arith, counted, (pages_tell image marks base reset rules).page_size);
      few = omega (arith, counted, starts_most marks, right.few, right.same);
      same = right.same;
      low = omega (arith, base_whole base (length image) rules.right_base, right.same);
    }

-- by the room
module _ (text page : List ℕ) (size : ℕ) (is-size : size ≡ length text) where
  pub short_page : length page < size
      → (refused_at Refusal.Page 0 ≡ printed_by (Ok tt) (length text) (length page))
      × (page ≡ page_after (refused_at Refusal.Page 0) text page)
  unfolding printed_by page_after
  short_page short = (rw (← is-size, lt-leb size (length page) short), refl)

  pub rows_printed : size ≤ length page → (now : List ℕ) → now ≡ text ++ drop (length text) page
      → (Ok size ≡ printed_by (Ok tt) (length text) (length page))
      × (now ≡ page_after (Ok size) text page)
  unfolding printed_by page_after
  rows_printed long now got = (rw (← is-size, le-leb size (length page) long), rw is-size got)

-- by the verdict
module _ (image marks : List ℕ) (base reset : ℕ) (page : List ℕ) where
  pub judged_page : (v : Verdict) (now : List ℕ) (a : Printed) → verdict image marks base reset ≡ v
      → a ≡ printed_by v (length (page_text image marks base)) (length page)
      → now ≡ page_after a (page_text image marks base) page
      → (a ≡ printed image marks base reset page) × (now ≡ page_printed image marks base reset page)
  unfolding printed page_printed
  judged_page v now a is-verdict answer left = (rw is-verdict answer, rw (is-verdict, ← answer) left)

  pub refused_page : (r : Refused) → verdict image marks base reset ≡ Err r
      → (Err r ≡ printed image marks base reset page) × (page ≡ page_printed image marks base reset page)
  unfolding printed_by page_after
  refused_page r e = judged_page (Err r) page (Err r) e refl refl
