-- A page that is written piece by piece, one for each place in turn: what is written and the pieces still to come are
-- all pieces.
-- Assumes nothing.
use mathlib.Core.Path.{◌≡◌, refl, sym, ap, ◌∙◌}
use mathlib.Core.List.{List, ◌++◌, append-nil, append_assoc}
use Prim.Native.Nat.{ℕ, suc, ◌+◌, ◌-◌, ◌≤◌, ◌<◌}
use native.Mathlib.Omega.{arith}
use lib.ListN.{length, take, drop, length-append}
use lib.Seq.{take_at}
use borrow.Rule.Slice.PartMut.{put_mid}
use Rattle.prelude.specs.Concat.{concat_from}
use Rattle.text.proofs.Pages.{Front, front_next}

front_take : {given : List ℕ} {n : ℕ} {written page : List ℕ} → Front given n written page → take n page ≡ written
front_take {given} {n} {written} {page} f = ap (take n) f.same ∙ take_at written (drop n given) n f.long

module _ (piece : ℕ → List ℕ) (count : ℕ) (given : List ℕ) where
  -- all pieces
  abbrev pub text : List ℕ
  text = concat_from piece 0 count

  -- those of the places before i are written, up to `at`
  pub record Pieces (page : List ℕ) (at i : ℕ) : Type 0 where
    pub few : i ≤ count
    pub front : Front given at (take at page) page
    pub whole : take at page ++ concat_from piece i (count - i) ≡ text

  pub no_piece : Pieces given 0 0
  no_piece =
      let all : count - 0 ≡ count = omega arith in
      record { few = omega arith; front = record { same = refl; long = refl; room = omega arith }; whole = rw all }

  module _ (page : List ℕ) (at i : ℕ) (room : length text ≤ length given) (inside : i < count) (p : Pieces page at i)
    where
      next : concat_from piece i (count - i) ≡ piece i ++ concat_from piece (i + 1) (count - (i + 1))
      unfolding concat_from
      next =
          let left : count - i ≡ suc (count - (i + 1)) = omega arith in
          rw left

      -- the next piece fits
      pub piece_fits : at + length (piece i) ≤ length given
      piece_fits =
          let all = simp length-append at (ap length (rw next at p.whole)) in
          omega (arith, p.front.long, all)

      -- and is written
      pub next_piece : (size : ℕ) (part : List ℕ) → size ≡ length (piece i)
          → part ≡ piece i ++ drop size (take (length page - at) (drop at page))
          → Pieces (put_mid at (length page - at) page part) (at + size) (i + 1)
      next_piece size part e got =
          let f = front_next size (piece i) part p.front got (sym e) (rw e piece_fits) in
          let rest = concat_from piece (i + 1) (count - (i + 1)) in
          record {
            few = omega arith;
            front = rw (front_take f) f;
            whole =
                rw (front_take f) (append_assoc (take at page) (piece i) rest ∙ ap (take at page ++◌) (sym next)
                ∙ p.whole);
          }

  pub all_pieces : (page : List ℕ) (at i : ℕ) → count ≤ i → Pieces page at i
      → page ≡ text ++ drop (length text) given
  unfolding concat_from
  all_pieces page at i past p =
      let none : count - i ≡ 0 = omega arith in
      let written : take at page ≡ text = sym (append-nil (take at page)) ∙ (rw none at p.whole) in
      let size : at ≡ length text = sym p.front.long ∙ ap length written in
      p.front.same ∙ ap (◌++ drop at given) written ∙ ap (λ n. text ++ drop n given) size
