-- The writer's answer and page by what its tests come to; the list's length is that of its parts.
-- Assumes nothing.
use Rattle.std.specs.Prelude.{Ok, Err}
use mathlib.Core.Path.{◌≡◌, refl, sym}
use mathlib.Core.Bool.{true, false}
use mathlib.Core.List.{List, ◌++◌}
use Prim.Native.Nat.{ℕ, ◌+◌, ◌-◌, ◌≤◌, ◌<◌}
use native.Mathlib.Omega.{arith}
use borrow.Author.Tests.{le-leb, lt-leb}
use lib.ListN.{length, take, drop, length-append}
use borrow.Rule.Slice.PartMut.{put_mid}
use Rattle.types.specs.declared.lists.Header.{Header}
use Rattle.types.specs.declared.refusals.Refusal.{Refusal}
use Rattle.types.specs.Refusals.{first_refusal}
use Rattle.acceptance.specs.Verdict.{marks_tests}
use Rattle.lists.specs.MarkList.{new_digits, header_text, lines, first_address, list_text, write_tests, write_list}
use Rattle.lists.specs.MarkList.{page_by}
use Rattle.lists.specs.MarkList.{page_written}
use Rattle.types.proofs.TestResults.{passes, fails, holds, goes_on}
use Rattle.text.proofs.Pages.{Front, front_next}

module _ (marks : List ℕ) (base reset : ℕ) (page : List ℕ) where
  pub refused : {why : Refusal} → Err why ≡ first_refusal (write_tests marks base reset page)
      → (Err why ≡ write_list marks base reset page) × (page ≡ page_written marks base reset page)
  unfolding write_list page_written page_by
  refused e = (rw (← e), rw (← e))

  abbrev pub first_line : Header
  first_line = record { base = base; length = length marks; reset = reset }

  module _ (passed : (Ok tt) ≡ first_refusal (marks_tests (length marks) marks base reset)) (size : ℕ)
      (s : size ≡ length (list_text new_digits marks base reset)) where
    pub short_page : length page < size
        → Err Refusal.Page ≡ first_refusal (write_tests marks base reset page)
    short_page short =
        goes_on (marks_tests (length marks) marks base reset) _ passed refl
        (fails {given = false} _ _ (sym (rw (← s) (lt-leb size (length page) short))) refl)

    pub is_written : size ≤ length page → (Ok size ≡ write_list marks base reset page)
        × (list_text new_digits marks base reset ++ drop size page ≡ page_written marks base reset page)
    unfolding write_list page_written page_by
    is_written long =
        let all : (Ok tt) ≡ first_refusal (write_tests marks base reset page) =
        goes_on (marks_tests (length marks) marks base reset) _ passed refl
        (holds {given = true} _ _ (sym (rw (← s) (le-leb size (length page) long))) refl passes) in
        (rw (← all, s), rw (← all, s))

  -- the length of the first line and that of the lines
  module _ (first count : ℕ) (f : first ≡ length (header_text new_digits first_line))
      (l : (address : ℕ) → count ≡ length (lines new_digits address marks)) where
    pub list_size : first + count ≡ length (list_text new_digits marks base reset)
    unfolding list_text
    list_size =
        rw (length-append (header_text new_digits first_line) (lines new_digits (first_address new_digits base) marks))
        (omega (
          arith,
          f,
          l (first_address new_digits base),
        ))

    pub header_front : first + count ≤ length page → {now : List ℕ}
        → now ≡ header_text new_digits first_line ++ drop (length (header_text new_digits first_line)) page
        → Front page first (header_text new_digits first_line) now
    header_front room e = record { same = rw (← f) at e; long = sym f; room = omega (arith, room) }

    pub list_put : (low : ℕ) → low ≡ first_address new_digits base → first + count ≤ length page → {now : List ℕ}
        (part : List ℕ)
        → Front page first (header_text new_digits first_line) now
        → part ≡ lines new_digits low marks ++ drop (length (lines new_digits low marks))
        (take (length now - first) (drop first now))
        → put_mid first (length now - first) now part ≡ list_text new_digits marks base reset ++ drop (first + count)
        page
    unfolding list_text
    list_put low e room part front got =
        rw (← e) (front_next count (lines new_digits low marks) part front (rw (← l low) at got) (sym (l low)) room
        ).same
