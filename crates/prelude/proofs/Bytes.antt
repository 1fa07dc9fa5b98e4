-- Parts of a list of bytes are lists of bytes.
-- Assumes nothing.
use mathlib.Core.List.{List, [], ◌∷◌}
use Prim.Native.Nat.{ℕ, zero, suc, ◌+◌}
use native.Mathlib.Omega.{arith}
use lib.ListN.{take, drop}
use lib.Seq.{get_or-drop}
use Rattle.prelude.specs.Bytes.{AllBytes}

pub bytes_drop : (n : ℕ) (l : List ℕ) → AllBytes l → AllBytes (drop n l)
bytes_drop n l small k = rw get_or-drop (small (n + k))

pub bytes_take : (n : ℕ) (l : List ℕ) → AllBytes l → AllBytes (take n l)
bytes_take zero l small k = omega arith
bytes_take (suc n) [] small k = omega arith
bytes_take (suc n) (b ∷ bs) small zero = small 0
bytes_take (suc n) (b ∷ bs) small (suc k) = bytes_take n bs (λ j. small (suc j)) k
