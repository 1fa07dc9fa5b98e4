-- Bytes put at the front of a page, part behind part, each into the rest of it.
-- Assumes nothing.
use mathlib.Core.Path.{◌≡◌, refl, sym}
use mathlib.Core.List.{List, [], ◌∷◌, ◌++◌}
use Prim.Native.Nat.{ℕ, ◌+◌, ◌-◌, ◌≤◌}
use native.Mathlib.Omega.{arith}
use lib.ListN.{length, take, drop, set, length-append}
use lib.Seq.{length-take-le}
use borrow.Rule.Slice.PartMut.{put_mid}
use Rattle.text.specs.Digits.{digits}
use Rattle.lists.specs.MarkList.{tab, line_end, decimal_digits}
use Rattle.lists.proofs.MarkList.{decimal_most}
use Rattle.text.proofs.DigitLaws.{length_field}
use Rattle.text.proofs.Pages.{Front, front_next, front_inside, two_front}
use Rattle.answer.specs.AnswerLine.{Put, number_field, letter_field, refused_line, unread_line, line_limit}

pub put_front : {bytes : List ℕ} {limit n : ℕ} {given page : List ℕ} → Put bytes limit n given page
    → limit ≤ length given → Front given n bytes page
put_front p room = record { same = p.same; long = sym p.size; room = omega (arith, p.most) }

-- what is put is a part of the page
pub put_inside : {bytes : List ℕ} {limit n : ℕ} {given page : List ℕ} → Put bytes limit n given page
    → limit ≤ length given → (n ≤ length page) × (n ≡ length (take n page))
put_inside {n = n} {page = page} p room =
    let inside = front_inside (put_front p room) in (inside, sym (length-take-le n page inside))

pub put_within : {bytes : List ℕ} {limit n : ℕ} {given page : List ℕ} (wider : ℕ) → limit ≤ wider
    → Put bytes limit n given page → Put bytes wider n given page
put_within wider h p = record { size = p.size; most = omega (arith, p.most); same = p.same }

pub number_put : (n close count : ℕ) (given page : List ℕ) → count ≡ decimal_digits n
    → page ≡ (digits 10 count n ++ (close ∷ [])) ++ drop (count + 1) given
    → Put (number_field n close) 6 (count + 1) given page
unfolding number_field
number_put n close count given page e same = record {
  size = rw (← e) (sym (length_field 10 count n close));
  most = omega (arith, e, decimal_most n);
  same = rw (← e) same;
}

-- the page after its first two bytes
abbrev pub begun : List ℕ → ℕ → ℕ → List ℕ
begun given a b = set (set given 0 a) 1 b

pub unread_put : (given : List ℕ) → 2 ≤ length given → Put unread_line 2 2 given (begun given 0x4C line_end)
unread_put given room =
    record { size = refl; most = omega arith; same = (two_front given 0x4C line_end room).same }

pub letter_put : (letter n close k : ℕ) (given part : List ℕ) → 8 ≤ length given
    → Put (number_field n close) 6 k (take (length (begun given letter tab) - 2) (drop 2 (begun given letter tab)))
    part
    → Put (letter_field letter n close) 8 (2 + k) given
    (put_mid 2 (length (begun given letter tab) - 2) (begun given letter tab) part)
unfolding letter_field
letter_put letter n close k given part room p =
    let front = front_next k (number_field n close) part (two_front given letter tab (omega arith)) p.same
    (sym p.size) (omega (arith, p.most)) in
    record { size = sym front.long; most = omega (arith, p.most); same = front.same }

pub refused_put : (number offset k j : ℕ) (given page part : List ℕ) → line_limit ≤ length given
    → Put (letter_field 0x52 number tab) 8 k given page
    → Put (number_field offset line_end) 6 j (take (length page - k) (drop k page)) part
    → Put (refused_line number offset) line_limit (k + j) given (put_mid k (length page - k) page part)
unfolding refused_line
refused_put number offset k j given page part room p q =
    let front = front_next j (number_field offset line_end) part (put_front p (omega arith)) q.same
    (sym q.size) (omega (arith, p.most, q.most)) in
    record { size = sym front.long; most = omega (arith, p.most, q.most); same = front.same }

-- what is in front of a page is a part of it
pub front_part : (bytes given page : List ℕ) (n : ℕ) → n ≡ length bytes → page ≡ bytes ++ drop n given
    → (n ≤ length page) × (n ≡ length (take n page))
front_part bytes given page n long same =
    let inside : n ≤ length page = rw (same, length-append bytes (drop n given)) (omega arith) in
    (inside, sym (length-take-le n page inside))
