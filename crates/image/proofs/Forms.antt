-- Of all marks is remembered whether one was malformed: none was exactly where each has the form.
-- Assumes nothing.
use mathlib.Core.Path.{◌≡◌, refl}
use mathlib.Core.Bool.{Bool, true, false, ◌&&◌}
use mathlib.Core.List.{List, [], ◌∷◌}
use Prim.Native.Nat.{ℕ}
use lib.Bits.{bit_or}
use lib.Dec.{eqb}
use Rattle.std.specs.List.{fold, list_all}
use Rattle.prelude.specs.Choice.{pick}
use Rattle.acceptance.specs.Image.{is_formed}

-- what is remembered of one mark more
abbrev pub told : ℕ → ℕ → ℕ
told bad mark = bit_or bad (pick (is_formed mark) 0 1)

told_all : (marks : List ℕ) (good : Bool)
    → eqb (fold told (pick good 0 1) marks) 0 ≡ (good && list_all is_formed marks)
told_all [] true = refl
told_all [] false = refl
told_all (mark ∷ marks) good = by good (is_formed mark) (told_all marks)
  where
    by : (a b : Bool) → ((good : Bool) → eqb (fold told (pick good 0 1) marks) 0 ≡ (good && list_all is_formed marks))
        → eqb (fold told (bit_or (pick a 0 1) (pick b 0 1)) marks) 0 ≡ (a && (b && list_all is_formed marks))
    by true true rest = rest true
    by true false rest = rest false
    by false true rest = rest false
    by false false rest = rest false

pub all_told : (marks : List ℕ) → eqb (fold told 0 marks) 0 ≡ list_all is_formed marks
all_told marks = told_all marks true
