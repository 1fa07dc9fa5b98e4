-- The reader's tests, over plain values: a text is a list when its lines end with it; the mark at the reset address is
-- the one shown behind the lines of the addresses before it; what the tests come to gives the answer and the marks.
-- Assumes nothing.
use Rattle.std.specs.Prelude.{Ok, Err}
use mathlib.Core.Path.{◌≡◌, refl, sym, ap}
use mathlib.Core.Bool.{Bool, true, false, not, ◌&&◌, ◌||◌}
use mathlib.Core.List.{List, [], ◌∷◌}
use Prim.Native.Nat.{ℕ, zero, suc, ◌+◌, ◌-◌, ◌%◌, ◌≤◌, ◌<◌}
use native.Mathlib.Nat.{add-zero}
use native.Mathlib.Omega.{arith}
use borrow.Author.Tests.{ltb-true, le-leb, lt-leb, eq-eqb, ne_eqb, eqb-true, eqb-false}
use lib.Dec.{eqb, ltb, leb}
use lib.ListN.{length, get_or, drop, length-drop, get_or-eq_default}
use Rattle.types.specs.declared.lists.Header.{Header}
use Rattle.types.specs.declared.refusals.Refusal.{Refusal}
use Rattle.types.specs.Answers.{TestResult}
use Rattle.types.specs.Addresses.{bank_size}
use Rattle.types.specs.Refusals.{first_refusal}
use Rattle.text.specs.Text.{starts_with}
use Rattle.acceptance.specs.Image.{length_fits, base_fits, mark_at, reset_fits}
use Rattle.acceptance.specs.Verdict.{image_tests}
use Rattle.lists.specs.MarkList.{length_limit, digits_by, header_text, first_address, is_old, header_shown, is_header}
use Rattle.lists.specs.MarkList.{mark_shown, line_size, marks_shown, lines_left, lines_text, left_of, marks_of, is_list}
use Rattle.lists.specs.MarkList.{list_base_fits, list_tests, read_tests, read_as, read_list, marks_by, marks_read}
use Rattle.types.proofs.TestResults.{shown}
use Rattle.text.proofs.Text.{starts_long}
use Rattle.prelude.proofs.Choice.{both_true}

-- ---- 14

-- nothing is left of a text behind its end
pub nothing_left : (text : List ℕ) (end : ℕ) → end ≤ length text
    → eqb end (length text) ≡ eqb (length (drop end text)) 0
nothing_left text end inside = rw (length-drop end text) (by (eqb end (length text)) refl)
  where
    by : (b : Bool) → eqb end (length text) ≡ b → b ≡ eqb (length text - end) 0
    by true h = sym (eq-eqb (length text - end) 0 (omega (arith, eqb-true end (length text) h)))
    by false h = sym (ne_eqb (length text - end) 0 (λ z. eqb-false end (length text) h (omega arith)))

module _ (count : ℕ) (h : Header) (text : List ℕ) where
  pub record Headed : Type 0 where
    pub few : h.length < length_limit
    pub inside : length (header_text count h) ≤ length text

  pub headed : is_header count h text ≡ true → Headed
  unfolding is_header
  headed e =
      let both = both_true (ltb h.length length_limit) (starts_with (header_text count h) text) e in
      record {
        few = ltb-true h.length length_limit both.0;
        inside = starts_long (header_text count h) text
            both.1;
      }

  pub list_headed : is_list count h text ≡ true → Headed
  unfolding is_list
  list_headed e = headed (both_true (is_header count h text) _ e).0

  pub no_header : is_header count h text ≡ false → false ≡ is_list count h text
  unfolding is_list
  no_header e = rw e

  pub list_by_end : (end : ℕ) → is_header count h text ≡ true → end ≤ length text
      → drop end text ≡ lines_left count (first_address count h.base) h.length
      (drop (length (header_text count h)) text)
      → eqb end (length text) ≡ is_list count h text
  unfolding is_list left_of lines_text
  list_by_end end e inside left = rw (e, ← left) (nothing_left text end inside)

-- ---- the marks

-- the marks filled from behind the first line on, as many as the first line says
pub all_marks_lem : (count : ℕ) (h : Header) (text : List ℕ) (first size n : ℕ) (filled : List ℕ)
    → first ≡ first_address count h.base → size ≡ length (header_text count h) → n ≡ h.length
    → filled ≡ marks_shown count first n (drop size text)
    → filled ≡ marks_of count h text
unfolding marks_of lines_text
all_marks_lem count h text first size n filled low behind long e = rw (low, behind, long) at e

-- ---- 3

-- the mark of an address is shown behind the lines of the addresses before it
shown_at : (count address n k : ℕ) (text : List ℕ) → k < n
    → get_or (marks_shown count address n text) k 0 ≡ mark_shown count (address + k) (lines_left count address k text)
unfolding marks_shown lines_left
shown_at count address zero k text inside = absurd (omega arith)
shown_at count address (suc n) zero text inside = rw (add-zero address)
shown_at count address (suc n) (suc k) text inside =
    let next : address + suc k ≡ address + 1 + k = omega arith in
    rw next (shown_at count (address + 1) n k (drop (line_size count (mark_shown count address text)) text)
    (omega arith))

module _ (count : ℕ) (h : Header) (text : List ℕ) where
  pub below_base : h.reset < h.base → false ≡ reset_fits (marks_of count h text) h.base h.reset
  unfolding reset_fits mark_at
  below_base low = rw (lt-leb h.base h.reset low)

  pub past_end : h.base ≤ h.reset → length (marks_of count h text) ≤ h.reset - h.base
      → false ≡ reset_fits (marks_of count h text) h.base h.reset
  unfolding reset_fits mark_at
  past_end low high =
      rw (le-leb h.base h.reset low, get_or-eq_default (marks_of count h text) 0 high)

  pub at_offset : (first place mark : ℕ) → h.base ≤ h.reset → h.reset - h.base < h.length
      → first ≡ first_address count h.base
      → drop place text ≡ lines_left count first (h.reset - h.base) (drop (length (header_text count h)) text)
      → mark ≡ mark_shown count (first + (h.reset - h.base)) (drop place text)
      → eqb mark 1 ≡ reset_fits (marks_of count h text) h.base h.reset
  unfolding reset_fits mark_at marks_of lines_text
  at_offset first place mark low high same left shown =
      rw (
        le-leb h.base h.reset low,
        ← same,
        shown_at count first h.length (h.reset - h.base) (drop (length (header_text count h)) text) high,
        ← left,
        ← shown,
      )

-- ---- 1 and 2

-- 2 of a list is that of its image, then that of an old one
module _ (old : Bool) (n marks base : ℕ) where
  abbrev bank : Bool
  bank = not old || leb (base % bank_size + n) bank_size

  pub image_fails : {so : TestResult} {why : Refusal} → so ≡ first_refusal (image_tests n marks base)
      → so ≡ Err why → so ≡ first_refusal (list_tests old n marks base)
  unfolding first_refusal list_base_fits
  image_fails {so} e failed = by (length_fits n marks) (base_fits base n) e
    where
      by : (long fits : Bool) → so ≡ first_refusal ((long, Refusal.Length) ∷ (fits, Refusal.Base) ∷ [])
          → so ≡ first_refusal ((long, Refusal.Length) ∷ (fits && bank, Refusal.Base) ∷ [])
      by false fits e = e
      by true false e = e
      by true true e = let z : ◌≡◌ {A = ℕ} 0 1 = cc in absurd (omega arith)

  pub image_passes : {so : TestResult} {given : Bool} → Ok tt ≡ first_refusal (image_tests n marks base)
      → given ≡ bank → so ≡ first_refusal ((given, Refusal.Base) ∷ [])
      → so ≡ first_refusal (list_tests old n marks base)
  unfolding first_refusal list_base_fits
  image_passes passed e more =
      let held = shown (image_tests n marks base) (sym passed) in
      rw (held.0, held.1.0, ← e) more

-- ---- the answer

module _ (text marks : List ℕ) (old : Bool) (h : Header) (old-so : old ≡ is_old text)
    (headed-so : h ≡ header_shown text) where
  pub refused : {why : Refusal} → Err why ≡ first_refusal (read_tests old h text (length marks))
      → (Err why ≡ read_list text marks) × (marks ≡ marks_read text marks)
  unfolding read_list read_as marks_read marks_by
  refused e = (rw (← old-so, ← headed-so, ← e), rw (← old-so, ← headed-so, ← e))

  pub is_read : (Ok tt) ≡ first_refusal (read_tests old h text (length marks))
      → (Ok h ≡ read_list text marks) × (marks_of (digits_by old) h text ≡ marks_read text marks)
  unfolding read_list read_as marks_read marks_by
  is_read e = (
    rw (← old-so, ← headed-so, ← e),
    rw (← old-so, ← headed-so, ← e) (ap (λ b. marks_of (digits_by b) h text) old-so),
  )
