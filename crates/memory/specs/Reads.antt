-- What an action comes to, as the code says it by value.
-- Assumes nothing.
use Rattle.std.specs.Prelude.{Some, None, Option}
use Rattle.semantics.specs.Memory.{Outcome, done, unmapped}

abbrev pub read_of : {A : Type 0} → Outcome A → Option A
read_of (done v) = Some v
read_of unmapped = None
