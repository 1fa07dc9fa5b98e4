-- Marks whose number is below 256 are 00 behind the first: none of them is a start, and the instruction is clear.
-- Assumes nothing.
use Rattle.std.proofs.Common.{◌≡◌, ℕ, zero, suc, ◌+◌, ◌-◌, ◌*◌, ◌<◌, ◌≤◌, true, false, ◌&&◌, ltb, leb, List, [], ◌∷◌}
use Rattle.std.proofs.Common.{length, get_or, take, drop, sym, refl, arith, get_or-drop, ltb-true, eq-eqb}
use Rattle.fields.specs.Fields.{number}
use Rattle.prelude.specs.First.{first_from}
use Rattle.acceptance.specs.Verdict.{start_at, is_clear}
use Rattle.prelude.proofs.First.{passed_all}
use Rattle.prelude.proofs.Choice.{both_true}

zeros : (l : List ℕ) (n j : ℕ) → number (take n l) ≡ 0 → j < n → get_or l j 0 ≡ 0
zeros l zero j e h = absurd (omega arith)
zeros [] (suc n) j e h = refl
zeros (b ∷ bs) (suc n) zero e h = let sum : b + 256 * number (take n bs) ≡ 0 = e in omega arith
zeros (b ∷ bs) (suc n) (suc j) e h =
    let sum : b + 256 * number (take n bs) ≡ 0 = e in
    zeros bs n j (omega arith) (omega arith)

later_zeros : (l : List ℕ) (n j : ℕ) → number (take n l) < 256 → suc j < n → get_or l (suc j) 0 ≡ 0
later_zeros l zero j e h = absurd (omega arith)
later_zeros [] (suc n) j e h = refl
later_zeros (b ∷ bs) (suc n) j e h =
    let sum : b + 256 * number (take n bs) < 256 = e in
    zeros bs n j (omega arith) (omega arith)

module _ (marks : List ℕ) (at n : ℕ) where
  no_start : number (take n (drop at marks)) < 256 → (k : ℕ) → at + 1 ≤ k → k < at + 1 + (n - 1) → start_at marks k ≡
      false
  no_start e k low high =
      let place : at + suc (k - at - 1) ≡ k = omega arith in
      let here : get_or (drop at marks) (suc (k - at - 1)) 0 ≡ 0 = later_zeros (drop at marks) n (k - at - 1) e (omega
      arith) in
      let same : get_or marks k 0 ≡ 0 = rw (get_or-drop, place) at here in
      rw same refl

  pub clear_by_zeros : (leb (at + 6) (length marks) && ltb (number (take n (drop at marks))) 256) ≡ true → true ≡
      is_clear marks at n
  unfolding is_clear
  clear_by_zeros h =
      let few = ltb-true (number (take n (drop at marks))) 256 (both_true (leb (at + 6) (length marks)) (ltb (number
      (take n (drop at marks))) 256) h).1 in
      let end = at + 1 + (n - 1) in
      sym (eq-eqb (first_from (start_at marks) (at + 1) (n - 1)) end
      (sym (passed_all (start_at marks) (at + 1) end (n - 1) (omega arith, no_start few) (omega arith) (omega arith))))
