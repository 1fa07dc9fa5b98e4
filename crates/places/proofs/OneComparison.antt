-- One comparison for the mark at an address.
-- Assumes nothing.
use Rattle.std.proofs.Common.{◌≡◌, ℕ, ◌+◌, ◌-◌, ◌%◌, ◌<◌, ◌≤◌, Bool, true, false, leb, List}
use Rattle.std.proofs.Common.{length, get_or, arith, refl, leb-false, leb-true}
use lib.ListN.{get_or-eq_default}
use Rattle.prelude.specs.Choice.{pick}
use Rattle.types.specs.Addresses.{address_limit}
use Rattle.acceptance.specs.Image.{mark_at}

-- the place of an address below the base lies past the marks
pub mark_by_place : (marks : List ℕ) (base address place : ℕ) → base + length marks ≤ address_limit
    → address < 4_294_967_296 → place < 4_294_967_296 → (place + base) % 4_294_967_296 ≡ address
    → get_or marks place 0 ≡ mark_at marks base address
unfolding mark_at
mark_by_place marks base address place fits low high wraps = by (leb base address) refl
  where
    by : (b : Bool) → leb base address ≡ b → get_or marks place 0 ≡ pick b (get_or marks (address - base) 0) 0
    by true e =
        let above = leb-true base address e in
        let same : place ≡ address - base = omega arith in
        rw same refl
    by false e =
        let below = leb-false base address e in
        get_or-eq_default marks 0 (omega arith)
