-- Room in a line.
-- Assumes nothing.
use Rattle.std.specs.Prelude.{ℕ, ◌+◌, ◌≤◌, List, length}
use Rattle.reports.specs.Explanation.{line_limit}

-- what is written of a line leaves room for a text
abbrev pub HasRoom : List ℕ → List ℕ → Type 0
HasRoom line text = length line + length text ≤ line_limit
