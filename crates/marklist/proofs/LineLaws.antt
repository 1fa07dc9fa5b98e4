-- A line, written and read.
-- Assumes nothing.
use mathlib.Core.Path.{◌≡◌, refl}
use mathlib.Core.Bool.{Bool, true, false, ◌&&◌}
use mathlib.Core.List.{List, ◌++◌}
use Prim.Native.Nat.{ℕ, ◌+◌, ◌-◌, ◌^◌, ◌≤◌, ◌<◌}
use native.Mathlib.Omega.{arith}
use borrow.Author.Tests.{lt-ltb, le-ltb}
use lib.Dec.{ltb}
use lib.ListN.{length, take, drop}
use borrow.Rule.Slice.PartMut.{put_mid}
use Rattle.prelude.specs.Choice.{pick}
use Rattle.text.specs.Digits.{digits}
use Rattle.text.specs.Text.{starts_with}
use Rattle.acceptance.specs.Image.{is_start, is_formed}
use Rattle.lists.specs.MarkList.{fields, line, line_of, fields_mark, is_line, mark_shown, line_size}
use Rattle.text.proofs.DigitLaws.{length_digits}
use Rattle.text.proofs.Turns.{and_false}
use Rattle.text.proofs.Pages.{Front, front_next}

-- ---- a line that is written

pub start_size : (count mark : ℕ) → is_start mark ≡ true → line_size count mark ≡ count + 11
unfolding line_size
start_size count mark h = rw h

module _ (count address mark : ℕ) (page : List ℕ) (started : is_start mark ≡ true)
    (room : line_size count mark ≤ length page) where
  pub line_room : count + 11 ≤ length page
  line_room = omega (arith, start_size count mark started)

  pub address_put : {now : List ℕ} → now ≡ digits 16 count address ++ drop count page
      → Front page count (digits 16 count address) now
  address_put e = record { same = e; long = length_digits 16 count address; room = omega (arith, line_room) }

  pub line_put : {now : List ℕ} (part : List ℕ) → Front page count (digits 16 count address) now
      → part ≡ fields mark ++ drop 11 (take (length now - count) (drop count now))
      → put_mid count (length now - count) now part ≡ line_of count address mark ++ drop (count + 11) page
  unfolding line_of line fields
  line_put part f e = rw started (front_next 11 (fields mark) part f e refl (omega (arith, line_room))).same

-- ---- a line that is read

module _ (count address : ℕ) (text : List ℕ) where
  pub too_high : 16 ^ count ≤ address → 0 ≡ mark_shown count address text
  unfolding mark_shown is_line
  too_high h = rw (le-ltb address (16 ^ count) h)

  pub other_address : starts_with (digits 16 count address) text ≡ false → 0 ≡ mark_shown count address text
  unfolding mark_shown is_line
  other_address h = rw (h, and_false (ltb address (16 ^ count)))

  module _ (mark : ℕ) (shown : mark ≡ fields_mark (drop count text)) (inside : address < 16 ^ count)
      (begins : starts_with (digits 16 count address) text ≡ true) where
    pub by_fields : (b : Bool) → (starts_with (fields mark) (drop count text) && is_formed mark) ≡ b
        → mark_shown count address text ≡ pick b mark 0
    unfolding mark_shown is_line
    by_fields b h = rw (← shown, lt-ltb address (16 ^ count) inside, begins, h)
