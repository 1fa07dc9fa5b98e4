-- Texts that begin with given bytes. Assumes nothing.
use Rattle.std.specs.Prelude.{ℕ, Bool, true, false, ◌&&◌, List, [], ◌∷◌, eqb}

-- a text begins with these bytes
unfoldable pub starts_with : List ℕ → List ℕ → Bool
starts_with [] text = true
starts_with (b ∷ bytes) [] = false
starts_with (b ∷ bytes) (c ∷ text) = eqb b c && starts_with bytes text
