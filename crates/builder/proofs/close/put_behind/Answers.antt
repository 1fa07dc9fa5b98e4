-- Each requirement is put, and is that of a start.
use native.Mathlib.Omega.{arith}
use Rattle.builder.specs.Order.{put_owed}
use Rattle.builder.proofs.Owing.{StartsOwed, starts_owed}
use Rattle.builder.proofs.Putting.{kept_same, kept_through}
use Rattle.builder.proofs.close.put_behind.Goals as goal

pub put-requires : goal.put-requires
put-requires c =
    let starts : StartsOwed c.owed_behind-owed.result = rw c.owed_behind-owed.ensures (starts_owed _ _ _ _) in
    (c.requires.0, rw c.in-One.is at starts, c.requires.4)

pub put-requires-in-Two : goal.put-requires-in-Two
put-requires-in-Two c =
    let starts : StartsOwed c.owed_behind-owed.result = rw c.owed_behind-owed.ensures (starts_owed _ _ _ _) in
    let both = rw c.in-Two.is at starts in
    (c.requires.0, both.0, c.requires.4)

pub put-requires-in-Two-2 : goal.put-requires-in-Two-2
put-requires-in-Two-2 c =
    let starts : StartsOwed c.owed_behind-owed.result = rw c.owed_behind-owed.ensures (starts_owed _ _ _ _) in
    let both = rw c.in-Two.is at starts in
    (c.put-in-Two.ensures.1, both.1, omega (arith, c.requires.4))

pub returns-in-Nothing : goal.returns-in-Nothing
unfolding put_owed
returns-in-Nothing c =
    (rw (← c.owed_behind-owed.ensures, c.in-Nothing.is), c.requires.0, kept_same _ _)

pub returns-in-One : goal.returns-in-One
unfolding put_owed
returns-in-One c =
    (rw (← c.owed_behind-owed.ensures, c.in-One.is) c.put.ensures.0, c.put.ensures.1, c.put.ensures.2)

pub returns-in-Two : goal.returns-in-Two
unfolding put_owed
returns-in-Two c = (
  rw (← c.owed_behind-owed.ensures, c.in-Two.is, ← c.put-in-Two.ensures.0) c.put-in-Two-2.ensures.0,
  c.put-in-Two-2.ensures.1,
  kept_through _ _ _ _ _ _ c.put-in-Two.ensures.2 c.put-in-Two-2.ensures.2,
)
