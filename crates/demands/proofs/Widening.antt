-- R-7's claim of mark lists: what was read is a list of the marks, base and reset in the result, and the writer writes
-- these in six digits.
-- Assumes nothing.
use Rattle.std.specs.Prelude.{Ok, Err}
use mathlib.Core.Path.{◌≡◌, refl, sym, ap, ap₂, ◌∙◌}
use mathlib.Core.List.{◌++◌}
use Prim.Native.Nat.{◌≤◌}
use native.Mathlib.Omega.{arith}
use lib.ListN.{length, drop}
use Rattle.packing.specs.Packed.{list_read_numbers, read_numbers, list_written_numbers, written_numbers}
use Rattle.types.specs.declared.lists.Header.{Header}
use Rattle.types.specs.Answers.{ListRead}
use Rattle.lists.specs.MarkList.{new_digits, list_text, address_digits, marks_read, page_written}
use Rattle.types.proofs.TestResults.{refusal_range}
use Rattle.lists.proofs.RoundTrips.{read_is_text, read_then_written}
use Rattle.demands.specs.Calls.{holds, ReadCall, WriteCall}
use Rattle.demands.specs.Requests.{list_in_six, WidensLists}
use Rattle.demands.proofs.Calls.{read_of, written_of, numbers_of_read, numbers_of_write}

-- the first line that was read
record Given (r : ReadCall) : Type 0 where
  header : Header
  read : read_of r ≡ Ok header
  base : (read_numbers r.result).base ≡ header.base
  reset : (read_numbers r.result).reset ≡ header.reset

given : (r : ReadCall) → (read_numbers r.result).number ≡ 0 → Given r
given r zero = by (read_of r) refl (numbers_of_read r)
  where
    by : (a : ListRead) → read_of r ≡ a → read_numbers r.result ≡ list_read_numbers a → Given r
    by (Err why) e told = absurd (omega (arith, ap (λ n. n.number) told, (refusal_range why).0))
    by (Ok h) e told =
        record { header = h; read = e; base = ap (λ n. n.base) told; reset = ap (λ n. n.reset) told }

as_shown : (r : ReadCall) → (read_numbers r.result).number ≡ 0
    → list_text (address_digits (holds r.text)) r.marks_left (read_numbers r.result).base
    (read_numbers r.result).reset
    ≡ holds r.text
as_shown r zero =
    let g = given r zero in
    rw (r.kept.1, g.base, g.reset) (read_is_text (holds r.text) (holds r.marks) g.header g.read)

widened : (r : ReadCall) (w : WriteCall) → (read_numbers r.result).number ≡ 0
    → holds w.marks ≡ r.marks_left → w.base ≡ (read_numbers r.result).base
    → w.reset ≡ (read_numbers r.result).reset → length (list_in_six r) ≤ length (holds w.page)
    → (written_numbers w.result ≡ record { number = 0; length = length (list_in_six r) })
    × (w.page_left ≡ list_in_six r ++ drop (length (list_in_six r)) (holds w.page))
widened r w zero marks base reset room =
    let g = given r zero in
    let h = g.header in
    let read = marks_read (holds r.text) (holds r.marks) in
    let page = holds w.page in
    let list = list_text new_digits read h.base h.reset in
    let six : list_in_six r ≡ list =
    ap (λ m. list_text new_digits m (read_numbers r.result).base (read_numbers r.result).reset) r.kept.1
    ∙ ap₂ (list_text new_digits read) g.base g.reset in
    let same = read_then_written (holds r.text) (holds r.marks) page h g.read
    (omega (arith, room, ap length six)) in
    let marks' : holds w.marks ≡ read = marks ∙ r.kept.1 in
    let base' : w.base ≡ h.base = base ∙ g.base in
    let reset' : w.reset ≡ h.reset = reset ∙ g.reset in
    let written : written_of w ≡ Ok (length list) = rw (marks', base', reset') same.0 in
    let after : page_written (holds w.marks) w.base w.reset page ≡ list ++ drop (length list) page =
    rw (marks', base', reset') same.1 in (
      numbers_of_write w ∙ ap list_written_numbers written
          ∙ ap (λ n. record { number = 0; length = n }) (sym (ap length six)),
      w.kept.1 ∙ after ∙ ap (λ l. l ++ drop (length l) page) (sym six),
    )

pub widens_lists : WidensLists
widens_lists = record { as_shown = as_shown; widened = widened }
