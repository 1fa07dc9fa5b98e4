-- Every answer of the reader, the writer, the printer and the locator fits its packing.
-- Assumes nothing.
use Rattle.std.specs.Prelude.{Ok, Err}
use mathlib.Core.Path.{◌≡◌, refl}
use mathlib.Core.List.{List}
use Prim.Native.Nat.{ℕ, ◌<◌}
use native.Mathlib.Omega.{arith}
use Rattle.types.specs.Answers.{ListRead, ListWritten, Printed, Located}
use Rattle.lists.specs.MarkList.{read_list, write_list}
use Rattle.packing.specs.Packed.{ReadFits, WrittenFits, PrintedFits, LocatedFits, place_start, place_kind}
use Rattle.reports.specs.PrintedPage.{printed}
use Rattle.reports.specs.Locate.{located, within, behind, place_number}
use Rattle.types.specs.Addresses.{address_limit}
use Rattle.lists.proofs.ListAnswers.{read_small, written_small}
use Rattle.reports.proofs.PrintedAnswers.{refused_offset, printed_small}
use Rattle.reports.proofs.Locate.{read_few, offset_small}

pub read_fits : (text marks : List ℕ) → ReadFits (read_list text marks)
read_fits text marks = by (read_list text marks) refl
  where
    by : (a : ListRead) → read_list text marks ≡ a → ReadFits a
    by (Err why) e = tt
    by (Ok h) e = read_small text marks h e

pub written_fits : (marks : List ℕ) (base reset : ℕ) (page : List ℕ) → WrittenFits (write_list marks base reset page)
written_fits marks base reset page = by (write_list marks base reset page) refl
  where
    by : (a : ListWritten) → write_list marks base reset page ≡ a → WrittenFits a
    by (Err why) e = tt
    by (Ok n) e = omega (arith, written_small marks base reset n page e)

pub printed_fits : (image marks : List ℕ) (base reset : ℕ) (page : List ℕ)
    → PrintedFits (printed image marks base reset page)
printed_fits image marks base reset page = by (printed image marks base reset page) refl
  where
    by : (a : Printed) → printed image marks base reset page ≡ a → PrintedFits a
    by (Err r) e = refused_offset image marks base reset page r.why r.offset e
    by (Ok n) e = omega (arith, printed_small image marks base reset page n e)

pub located_fits : (image marks : List ℕ) (base reset : ℕ) (addresses places : List ℕ)
    → LocatedFits (located image marks base reset addresses places)
located_fits image marks base reset addresses places = by (located image marks base reset addresses places) refl
  where
    by : (a : Located) → located image marks base reset addresses places ≡ a → LocatedFits a
    by (Err r) e = offset_small image marks base reset addresses places r.why r.offset e
    by (Ok n) e = omega (arith, read_few image marks base reset addresses places n e)

-- the parts of a place
pub place_parts : (start : ℕ) → start < address_limit
    → (place_start (place_number (within start)) ≡ start) × (place_kind (place_number (within start)) ≡ 1)
    × (place_start (place_number (behind start)) ≡ start) × (place_kind (place_number (behind start)) ≡ 2)
place_parts start small = (omega arith, omega arith, omega arith, omega arith)
