-- Each of the 128 words, by one computed test.
use Prim.Native.Nat.{ℕ, zero, suc, ◌+◌, ◌*◌, ◌/◌, ◌%◌, ◌<◌}
use mathlib.Core.Path.{◌≡◌}
use mathlib.Core.Bool.{Bool}
use mathlib.Core.List.{List, [], ◌∷◌, ◌++◌}
use native.Mathlib.Nat.{mod-lt}
use native.Mathlib.Omega.{arith}
use lib.Dec.{eqb, eqb→eq}
use lib.ListN.{get_or, take, drop, replicate}
use Rattle.prelude.proofs.Table.{same, same_list, below_all}
use Rattle.types.specs.declared.code.Operation.{Operation}
use Rattle.instructions.specs.Words.{word_of}
use Rattle.codepages.specs.Packing.{operations, unpacked}
use Rattle.entries.proofs.operations.word_of.Goals as goal

-- the rows: 16 operations' words, each with a blank behind it
abbrev row : List Operation → List ℕ
row [] = []
row (o ∷ os) = word_of o ++ 32 ∷ row os

abbrev rows : ℕ → List Operation → List (List ℕ)
rows zero os = []
rows (suc n) os = row (take 16 os) ∷ rows n (drop 16 os)

abbrev table : List (List ℕ)
table = rows 8 (operations ++ replicate 24 Operation.Unassigned)

-- the word that they have at a place
abbrev shown : ℕ → List ℕ
shown k =
    let row = get_or table (k / 16) [] in
    let at = k % 16 * 4 in
    get_or row at 0 ∷ get_or row (at + 1) 0 ∷ get_or row (at + 2) 0 ∷ []

abbrev isWord : ℕ → Bool
isWord k = same eqb (shown k) (word_of (get_or operations k Operation.Unassigned))

words-at : (k : ℕ) → k < 128 → shown k ≡ word_of (get_or operations k Operation.Unassigned)
words-at k h = same_list eqb eqb→eq _ _ (below_all isWord 128 tt k h)

pub returns : goal.returns
unfolding unpacked
returns c = let n = c.args.n in words-at (n % 128) (mod-lt n (omega arith))
