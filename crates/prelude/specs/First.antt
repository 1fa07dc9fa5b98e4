-- The lowest and the highest place where a test holds. Assumes nothing.
use Rattle.std.specs.Prelude.{ℕ, zero, suc, ◌+◌, Bool}
use Rattle.prelude.specs.Choice.{pick}

-- the lowest of n places from i on where a test holds, or the place past them
unfoldable pub first_from : (ℕ → Bool) → ℕ → ℕ → ℕ
first_from test i zero = i
first_from test i (suc n) = pick (test i) i (first_from test (i + 1) n)

-- one more than the highest of the first n places where a test holds, or 0
unfoldable pub last_before : (ℕ → Bool) → ℕ → ℕ
last_before test zero = 0
last_before test (suc n) = pick (test n) (suc n) (last_before test n)
