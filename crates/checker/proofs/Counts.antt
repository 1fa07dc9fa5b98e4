-- The starts among marks are those that the test counts.
-- Assumes nothing.
use Rattle.std.proofs.Common.{◌≡◌, ℕ, ◌+◌, Bool, true, false, cond, List, refl, zero-add}
use Rattle.std.specs.List.{count_by}
use Rattle.std.proofs.lemmas.List.Recursion.{is_count_by}
use Rattle.prelude.specs.Choice.{pick}
use Rattle.acceptance.specs.Image.{is_start, start_count}

pub counted : (marks : List ℕ) → start_count marks ≡ count_by is_start marks
unfolding start_count
counted = is_count_by start_count is_start refl (λ mark marks. by (is_start mark) (start_count marks))
  where
    by : (b : Bool) (n : ℕ) → pick b 1 0 + n ≡ cond b (1 + n) n
    by true n = refl
    by false n = zero-add n
