-- What the printer answers: by the verdict, then by the room. Each law follows the definition's tests; what is printed
-- has the size of the page of an accepted image.
-- Assumes nothing.
use Rattle.std.specs.Prelude.{Ok, Err}
use mathlib.Core.Path.{◌≡◌, refl, ap}
use mathlib.Core.Bool.{Bool, true, false}
use mathlib.Core.List.{List}
use Prim.Native.Nat.{ℕ, ◌+◌, ◌*◌, ◌≤◌, ◌<◌}
use native.Mathlib.Omega.{arith}
use borrow.Author.Tests.{le-leb, lt-leb}
use lib.Dec.{leb}
use lib.ListN.{length}
use Rattle.types.specs.declared.refusals.Refusal.{Refusal}
use Rattle.types.specs.Answers.{Verdict, refused_at, Printed}
use Rattle.prelude.specs.Choice.{pick}
use Rattle.acceptance.specs.Verdict.{verdict}
use Rattle.types.specs.Addresses.{image_limit}
use Rattle.acceptance.specs.Image.{start_count}
use Rattle.reports.specs.PrintedPage.{row_size, page_text, printed_by, printed}
use Rattle.acceptance.proofs.Image.{right_length, starts_most}
use Rattle.acceptance.proofs.Verdict.{accepts_exactly}
use Rattle.acceptance.proofs.Meaning.{refused_small}
use Rattle.reports.proofs.PageReading.{pages_tell}

-- which tells answers apart
abbrev rows : Printed → ℕ
rows (Err r) = 0
rows (Ok n) = n + 1

abbrev offset : Printed → ℕ
offset (Err r) = r.offset
offset (Ok n) = 0

module _ (image marks : List ℕ) (base reset : ℕ) (page : List ℕ) where
  abbrev size : ℕ
  size = length (page_text image marks base)

  pub printed_refused : (why : Refusal) (at : ℕ) → verdict image marks base reset ≡ refused_at why at
      → printed image marks base reset page ≡ refused_at why at
  unfolding printed printed_by
  printed_refused why at e = rw e

  pub printed_short : verdict image marks base reset ≡ Ok tt → length page < size
      → printed image marks base reset page ≡ refused_at Refusal.Page 0
  unfolding printed printed_by
  printed_short e few = rw (e, lt-leb size (length page) few)

  pub printed_whole : verdict image marks base reset ≡ Ok tt → size ≤ length page
      → printed image marks base reset page ≡ Ok size
  unfolding printed printed_by
  printed_whole e room = rw (e, le-leb size (length page) room)

  -- what was printed was accepted, and has all rows
  pub rows_printed : (n : ℕ) → printed image marks base reset page ≡ Ok n
      → (verdict image marks base reset ≡ Ok tt) × (n ≡ size)
  unfolding printed printed_by
  rows_printed n e = by (verdict image marks base reset) refl e
    where
      room : (b : Bool) → pick {A = Printed} b (Ok size) (refused_at Refusal.Page 0) ≡ Ok n → n ≡ size
      room true told = omega (arith, ap rows told)
      room false told = absurd (omega (arith, ap rows told))

      by : (v : Verdict) → verdict image marks base reset ≡ v → printed_by v size (length page) ≡ Ok n
          → (verdict image marks base reset ≡ Ok tt) × (n ≡ size)
      by (Ok _) v told = (v, room (leb size (length page)) told)
      by (Err r) v told = absurd (omega (arith, ap rows told))

  -- an offset fits 16 bits
  pub refused_offset : (why : Refusal) (at : ℕ) → printed image marks base reset page ≡ refused_at why at
      → at < 65_536
  unfolding printed printed_by
  refused_offset why at e = by (verdict image marks base reset) refl e
    where
      room : (b : Bool) → pick {A = Printed} b (Ok size) (refused_at Refusal.Page 0) ≡ refused_at why at
          → at < 65_536
      room true told = absurd (omega (arith, ap rows told))
      room false told = omega (arith, ap offset told)

      by : (v : Verdict) → verdict image marks base reset ≡ v
          → printed_by v size (length page) ≡ refused_at why at → at < 65_536
      by (Ok _) v told = room (leb size (length page)) told
      by (Err r) v told =
          omega (arith, ap offset told, refused_small image marks base reset r.offset r.why v)

  -- an accepted image has a row for each start, at most 65,536
  pub page_rows : verdict image marks base reset ≡ Ok tt → size ≡ row_size * start_count marks
  page_rows e = (pages_tell image marks base reset ((accepts_exactly image marks base reset).0 e)).page_size

  pub page_small : verdict image marks base reset ≡ Ok tt → size ≤ row_size * image_limit
  page_small e =
      let rules = (accepts_exactly image marks base reset).0 e in
      let fits = right_length (length image) (length marks) rules.right_length in
      omega (arith, page_rows e, starts_most marks, fits.same, fits.few)

  pub printed_small : (n : ℕ) → printed image marks base reset page ≡ Ok n → n ≤ row_size * image_limit
  printed_small n e =
      let was = rows_printed n e in
      omega (arith, was.1, page_small was.0)
