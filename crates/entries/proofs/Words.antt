-- The words of an entry's number: a mnemonic has three letters, by one computed test over the 128 places of operations,
-- and the first word of the syntax one more at most.
-- Assumes nothing.
use Prim.Native.Nat.{ℕ, ◌%◌, ◌≤◌}
use mathlib.Core.Path.{◌≡◌, refl}
use mathlib.Core.Bool.{Bool, true, false}
use mathlib.Core.List.{List, [], ◌∷◌, ◌++◌}
use native.Mathlib.Nat.{mod-lt}
use native.Mathlib.Omega.{arith}
use lib.Dec.{eqb, eqb→eq}
use lib.ListN.{length, get_or, length-append}
use Rattle.types.specs.declared.code.Operation.{Operation}
use Rattle.prelude.specs.Choice.{pick}
use Rattle.prelude.proofs.Table.{below_all}
use Rattle.instructions.specs.Words.{blank, flush_left, word_of, is_long, syntax_word}
use Rattle.codepages.specs.Packing.{operations, unpacked}

three : (n : ℕ) → length (word_of (unpacked n).operation) ≡ 3
unfolding unpacked
three n =
    eqb→eq _ _ (below_all (λ k. eqb (length (word_of (get_or operations k Operation.Unassigned))) 3) 128 tt (n % 128)
    (mod-lt n (omega arith)))

four : (word : List ℕ) (long : Bool) → length word ≡ 3
    → get_or word 0 0 ∷ get_or word 1 0 ∷ get_or word 2 0 ∷ pick long 0x4C blank ∷ []
    ≡ flush_left 4 (word ++ pick long (0x4C ∷ []) [])
unfolding flush_left
four [] long e = absurd (omega arith)
four (a ∷ []) long e = absurd (omega arith)
four (a ∷ b ∷ []) long e = absurd (omega arith)
four (a ∷ b ∷ c ∷ []) true e = refl
four (a ∷ b ∷ c ∷ []) false e = refl
four (a ∷ b ∷ c ∷ d ∷ word) long e = absurd (omega arith)

-- the word's four columns
pub word_columns : (n : ℕ) (word : List ℕ) (last : ℕ) → word ≡ word_of (unpacked n).operation
    → last ≡ pick (is_long (unpacked n)) 0x4C blank
    → get_or word 0 0 ∷ get_or word 1 0 ∷ get_or word 2 0 ∷ last ∷ [] ≡ flush_left 4 (syntax_word (unpacked n))
word_columns n word last e e' =
    rw (e, e') (four (word_of (unpacked n).operation) (is_long (unpacked n)) (three n))

-- which the word does not exceed
pub word_short : (n : ℕ) → length (syntax_word (unpacked n)) ≤ 4
word_short n = by (is_long (unpacked n))
  where
    by : (long : Bool) → length (word_of (unpacked n).operation ++ pick long (0x4C ∷ []) []) ≤ 4
    by true = simp length-append (omega (arith, three n))
    by false = simp length-append (omega (arith, three n))
