-- What the code's answer says of an action's outcome.
-- Assumes nothing.
use Rattle.std.specs.Prelude.{Some, None, Option}
use mathlib.Core.Path.{◌≡◌, ap}
use Rattle.memory.specs.Reads.{read_of}
use Rattle.semantics.specs.Memory.{Memory, Act, ◌>>=◌, Outcome, done, unmapped, evaluate}
use Rattle.semantics.proofs.Memory.{after_done, after_unmapped}

pub read_done : {A : Type 0} (o : Outcome A) (w : Option A) (v : A) → w ≡ read_of o → w ≡ Some v → o ≡ done v
read_done (done u) w v e e' = cc
read_done unmapped w v e e' = cc

pub read_unmapped : {A : Type 0} (o : Outcome A) (w : Option A) → w ≡ read_of o → w ≡ None → o ≡ unmapped
read_unmapped (done u) w e e' = cc
read_unmapped unmapped w e e' = cc

-- an action after one whose value the code has
module _ {A B : Type 0} (m : Memory) (act : Act A) (f : A → Act B) (w : Option A) (e : w ≡ read_of (evaluate m act))
  where
    pub read_on : (v : A) → w ≡ Some v → read_of (evaluate m (act >>= f)) ≡ read_of (evaluate m (f v))
    read_on v e' = ap read_of (after_done m act f v (read_done (evaluate m act) w v e e'))

    pub read_off : w ≡ None → read_of (evaluate m (act >>= f)) ≡ None
    read_off e' = ap read_of (after_unmapped m act f (read_unmapped (evaluate m act) w e e'))
