-- A base past 24 bits fails the first test; else the image fits the addresses that are left from the base on.
use mathlib.Core.Path.{◌≡◌, refl, sym}
use mathlib.Core.Bool.{Bool, true, false}
use Prim.Native.Nat.{ℕ, ◌+◌, ◌-◌, ◌≤◌}
use native.Mathlib.Omega.{arith}
use borrow.Author.Tests.{lt-ltb, le-ltb, lt-leb, le-leb, leb-true, leb-false}
use lib.Dec.{leb}
use Rattle.types.specs.Addresses.{address_limit}
use Rattle.acceptance.specs.Image.{base_fits}
use Rattle.image.proofs.base_fits.Goals as goal

fits-left : (base n : ℕ) → base ≤ address_limit → leb n (address_limit - base) ≡ leb (base + n) address_limit
fits-left base n below = by (leb n (address_limit - base)) refl
  where
    by : (b : Bool) → leb n (address_limit - base) ≡ b → b ≡ leb (base + n) address_limit
    by true e = sym (le-leb (base + n) address_limit (omega (arith, leb-true n (address_limit - base) e)))
    by false e = sym (lt-leb (base + n) address_limit (omega (arith, leb-false n (address_limit - base) e)))

pub returns-then-base-ge-ADDRESS_LIMIT : goal.returns-then-base-ge-ADDRESS_LIMIT
unfolding base_fits
returns-then-base-ge-ADDRESS_LIMIT c = rw (le-ltb c.args.base address_limit c.if-base-ge-ADDRESS_LIMIT.true)

pub returns : goal.returns
unfolding base_fits
returns c =
    let args = c.args in
    rw (lt-ltb args.base address_limit (omega (arith, c.if-base-ge-ADDRESS_LIMIT.false)))
    (fits-left args.base args.n (omega arith))
