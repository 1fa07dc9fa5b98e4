-- Lists out of many: those that pass a test, and all lists of so many bytes. Assumes nothing.
use Rattle.std.specs.Prelude.{Bool, true, ◌&&◌, List, [], ◌∷◌, map, ℕ, zero, suc}
use Rattle.prelude.specs.Choice.{pick}
use Rattle.prelude.specs.Concat.{concat_from}

-- the elements that pass a test, in their order
unfoldable pub passing : {A : Type 0} → (A → Bool) → List A → List A
passing test [] = []
passing test (x ∷ xs) = pick (test x) (x ∷ passing test xs) (passing test xs)

-- every element passes
unfoldable pub all_pass : {A : Type 0} → (A → Bool) → List A → Bool
all_pass test [] = true
all_pass test (x ∷ xs) = test x && all_pass test xs

-- every list of n bytes, ascending, by the bytes compared from the first
unfoldable pub all_lists : ℕ → List (List ℕ)
all_lists zero = [] ∷ []
all_lists (suc n) = concat_from (λ byte. map (λ rest. byte ∷ rest) (all_lists n)) 0 256

-- every element of a list
abbrev pub Every : {A : Type 0} → (A → Type 0) → List A → Type 0
Every P [] = Unit {0}
Every P (x ∷ xs) = P x × Every P xs
