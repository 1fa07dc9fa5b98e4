-- A page that is filled from its front on: so many bytes are written, and behind them it is as given. What a part of
-- it that was lent got in front comes behind what was written before.
-- Assumes nothing.
use mathlib.Core.Path.{◌≡◌, refl, sym, ap, ◌∙◌}
use mathlib.Core.List.{List, [], ◌∷◌, ◌++◌, append_assoc, append-nil}
use Prim.Native.Nat.{ℕ, ◌+◌, ◌-◌, ◌≤◌}
use native.Mathlib.Omega.{arith}
use lib.ListN.{length, take, drop, set, length-append, length-drop, drop_of_length-le}
use lib.Seq.{drop-drop, take_at, drop_at, take_all}
use borrow.Rule.Slice.PartMut.{put_mid}

pub record Front (given : List ℕ) (n : ℕ) (written page : List ℕ) : Type 0 where
  pub same : page ≡ written ++ drop n given
  pub long : length written ≡ n
  pub room : n ≤ length given

pub front_length : {given : List ℕ} {n : ℕ} {written page : List ℕ} → Front given n written page
    → length page ≡ length given
front_length {given} {n} {written} {page} f =
    rw (f.same, length-append written (drop n given), length-drop n given) (omega (arith, f.long, f.room))

pub front_inside : {given : List ℕ} {n : ℕ} {written page : List ℕ} → Front given n written page → n ≤ length page
front_inside f = omega (arith, f.room, front_length f)

-- the part behind the bytes that are written, put back
put_back : (at : ℕ) (page part : List ℕ) → at ≤ length page → put_mid at (length page - at) page part ≡ take at page ++
    part
put_back at page part inside =
    let none : drop (length page - at) (drop at page) ≡ [] =
    drop_of_length-le (drop at page) {i = length page - at} (omega (arith, length-drop at page)) in
    rw (none, append-nil part)

pub part_whole : (at : ℕ) (page : List ℕ) → take (length page - at) (drop at page) ≡ drop at page
part_whole at page = take_all (length page - at) (drop at page) (omega (arith, length-drop at page))

pub front_next : {given : List ℕ} {n : ℕ} {written page : List ℕ} (k : ℕ) (more part : List ℕ)
    → Front given n written page
    → part ≡ more ++ drop k (take (length page - n) (drop n page)) → length more ≡ k → n + k ≤ length given
    → Front given (n + k) (written ++ more) (put_mid n (length page - n) page part)
front_next {given} {n} {written} {page} k more part f e long room =
    let front : take n page ≡ written = ap (take n) f.same ∙ take_at written (drop n given) n f.long in
    let behind : drop n page ≡ drop n given = ap (drop n) f.same ∙ drop_at written (drop n given) n f.long in
    record {
      same =
          rw (put_back n page part (front_inside f), e, part_whole n page, front, behind, drop-drop k n given)
          (sym (append_assoc written more (drop (n + k) given)));
      long = rw (length-append written more) (omega (arith, f.long, long));
      room = room;
    }

-- what is lent of the page behind the bytes that are written is long enough for more
pub part_room : {given : List ℕ} {n : ℕ} {written page : List ℕ} (k : ℕ) → Front given n written page
    → n + k ≤ length given
    → k ≤ length (take (length page - n) (drop n page))
part_room {given} {n} {written} {page} k f room =
    rw (part_whole n page) (omega (arith, length-drop n page, front_length f))

pub front_at : {given : List ℕ} {n : ℕ} {written page : List ℕ} (m : ℕ) → n ≡ m → Front given n written page
    → Front given m written page
front_at m e f = rw e at f

-- two bytes put in front
pub two_front : (page : List ℕ) (a b : ℕ) → 2 ≤ length page → Front page 2 (a ∷ b ∷ []) (set (set page 0 a) 1 b)
two_front page a b room = record { same = put page room; long = refl; room = room }
  where
    put : (page : List ℕ) → 2 ≤ length page → set (set page 0 a) 1 b ≡ a ∷ b ∷ drop 2 page
    put [] some = absurd (omega arith)
    put (p ∷ []) some = absurd (omega arith)
    put (p ∷ q ∷ page) some = refl
