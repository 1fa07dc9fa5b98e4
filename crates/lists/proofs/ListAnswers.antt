-- What the answers of the reader and the writer show: which tests were passed, and how small the numbers in them are.
-- Assumes nothing.
use Rattle.std.specs.Prelude.{Ok, Err}
use mathlib.Core.Path.{◌≡◌}
use mathlib.Core.Bool.{Bool, true}
use mathlib.Core.List.{List}
use Prim.Native.Nat.{ℕ, ◌+◌, ◌*◌, ◌≤◌, ◌<◌}
use native.Mathlib.Omega.{arith}
use lib.ListN.{length, length-append}
use Rattle.types.specs.declared.lists.Header.{Header}
use Rattle.types.specs.Refusals.{first_refusal}
use Rattle.types.specs.Addresses.{address_limit, image_limit}
use Rattle.acceptance.specs.Image.{base_fits}
use Rattle.lists.specs.MarkList.{new_digits, first_address, list_text, is_old, address_digits, header_shown, lines_text}
use Rattle.lists.specs.MarkList.{marks_of, list_base_fits, read_tests, read_as, read_list, write_tests, write_list}
use Rattle.types.proofs.TestResults.{AllHold, shown, all_passed}
use Rattle.acceptance.proofs.Image.{right_length, base_below, base_whole, reset_inside}
use Rattle.prelude.proofs.Choice.{both_true}
use Rattle.lists.proofs.MarkList.{length_shown, lines_most, length_header, decimal_most}

-- ---- what a text that is read has passed

pub read_passes : (old : Bool) (h r : Header) (text : List ℕ) (n : ℕ) → read_as old h text n ≡ Ok r
    → (h ≡ r) × AllHold (read_tests old r text n)
unfolding read_as
read_passes old h r text n e =
    let all = all_passed (first_refusal (read_tests old h text n)) Err
    (λ why r. let z : ◌≡◌ {A = ℕ} 0 1 = cc in absurd (omega arith)) e in
    let same : h ≡ r = let e = all.1 in cc in
    (same, rw same at (shown (read_tests old h text n) all.0))

pub length_marks_of : (count : ℕ) (h : Header) (text : List ℕ) → length (marks_of count h text) ≡ h.length
unfolding marks_of
length_marks_of count h text =
    length_shown count (first_address count h.base) h.length (lines_text count h text)

-- the image of a list fits
pub list_base : (old : Bool) (base n : ℕ) → list_base_fits old base n ≡ true → base_fits base n ≡ true
unfolding list_base_fits
list_base old base n h = (both_true (base_fits base n) _ h).0

-- ---- what marks that are written have passed

pub written_passes : (marks : List ℕ) (base reset n : ℕ) (page : List ℕ)
    → write_list marks base reset page ≡ Ok n
    → (length (list_text new_digits marks base reset) ≡ n) × AllHold (write_tests marks base reset page)
unfolding write_list
written_passes marks base reset n page e =
    let all = all_passed (first_refusal (write_tests marks base reset page)) Err
    (λ why r. let z : ◌≡◌ {A = ℕ} 0 1 = cc in absurd (omega arith)) e in
    let same = all.1 in (cc, shown (write_tests marks base reset page) all.0)

-- ---- how small the answers are

pub read_small : (text marks : List ℕ) (h : Header) → read_list text marks ≡ Ok h
    → (h.base < address_limit) × (h.reset < address_limit)
unfolding read_list
read_small text marks h e =
    let count = address_digits text in
    let held = (read_passes (is_old text) (header_shown text) h text (length marks) e).1 in
    let fits = list_base (is_old text) h.base h.length held.1.1.0 in (
      base_below h.base h.length fits,
      omega (
        arith,
        base_whole h.base h.length fits,
        length_marks_of count h text,
        reset_inside (marks_of count h text) h.base h.reset held.1.1.1.0,
      ),
    )

pub written_small : (marks : List ℕ) (base reset n : ℕ) (page : List ℕ)
    → write_list marks base reset page ≡ Ok n
    → n ≤ 22 + 17 * image_limit
unfolding list_text
written_small marks base reset n page e =
    let written = written_passes marks base reset n page e in
    let h : Header = record { base = base; length = length marks; reset = reset } in
    let size = written.0 in
    omega (
      arith,
      (right_length (length marks) (length marks) written.1.0).few,
      lines_most new_digits (first_address new_digits base) marks,
      length_header new_digits h,
      decimal_most (length marks),
      simp length-append at size,
    )
