-- The form of a mark, worked out without a branch, is the definition's: one test over the 256 marks, which antt
-- computes.
-- Assumes nothing.
use mathlib.Core.Path.{◌≡◌, refl}
use mathlib.Core.Bool.{Bool, true, false}
use Prim.Native.Nat.{ℕ, ◌/◌, ◌%◌, ◌<◌}
use lib.Dec.{T, eqb, eqb→eq, ltb}
use Rattle.prelude.specs.Choice.{pick}
use Rattle.acceptance.specs.Image.{mark_kind, is_formed}
use Rattle.prelude.proofs.Table.{up_to, below_all}

abbrev chosen : ℕ → ℕ
chosen mark =
    pick (eqb (mark % 2) 1)
    (pick (ltb mark 128)
    (pick (eqb (mark_kind mark) 0) (pick (eqb (mark / 32) 0) 0 1) (pick (eqb (mark_kind mark) 3) 1 0))
    1)
    (pick (eqb mark 0) 0 1)

all_same : T (up_to (λ k. eqb (chosen k) (pick (is_formed k) 0 1)) 256)
unfolding is_formed
all_same = tt

pub chosen_formed : (mark : ℕ) → mark < 256 → chosen mark ≡ pick (is_formed mark) 0 1
chosen_formed mark h =
    eqb→eq (chosen mark) (pick (is_formed mark) 0 1) (below_all (λ k. eqb (chosen k) (pick (is_formed k) 0 1)) 256
    all_same mark h)

pub no_malformed : (b : Bool) → eqb (pick b 0 1) 0 ≡ b
no_malformed true = refl
no_malformed false = refl
