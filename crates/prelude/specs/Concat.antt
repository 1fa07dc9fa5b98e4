-- Lists joined one behind the other. Assumes nothing.
use Rattle.std.specs.Prelude.{ℕ, zero, suc, ◌+◌, List, [], ◌++◌}

-- what a function gives for n places from i on, joined in their order
unfoldable pub concat_from : {A : Type 0} → (ℕ → List A) → ℕ → ℕ → List A
concat_from f i zero = []
concat_from f i (suc n) = f i ++ concat_from f (i + 1) n
