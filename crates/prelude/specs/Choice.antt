-- A choice by a test. Assumes nothing.
use Rattle.std.specs.Prelude.{ℕ, Bool, true, false}

-- the first where the test holds, else the second
abbrev pub pick : {A : Type 0} → Bool → A → A → A
pick true a b = a
pick false a b = b

-- a test as a number
abbrev pub bit : Bool → ℕ
bit flag = pick flag 1 0
