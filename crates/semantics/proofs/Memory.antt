-- The byte at an address and whether a store there is served, by the parts of memory; and what an action comes to that
-- is made of two.
-- Assumes nothing.
use Rattle.std.specs.Prelude.{Ok, Err, Some, None, Option}
use mathlib.Core.Path.{◌≡◌, refl, ap}
use mathlib.Core.Bool.{◌&&◌}
use mathlib.Core.List.{List, [], ◌∷◌}
use Prim.Native.Nat.{ℕ, zero, suc, ◌-◌, ◌≤◌, ◌<◌}
use native.Mathlib.Nat.{not-suc-le-zero, le_of_suc-le-suc}
use lib.Dec.{ltb, leb}
use lib.ListN.{length, get_or, set}
use borrow.Author.Tests.{lt-ltb, le-ltb, le-leb, lt-leb}
use Rattle.types.specs.declared.machine.Stop.{Stop}
use Rattle.types.specs.Answers.{Served}
use Rattle.prelude.specs.Choice.{pick}
use Rattle.semantics.specs.Memory.{Memory, memory, byte_at, served_at, Act, ret, load, ◌>>=◌, Outcome, done}
use Rattle.semantics.specs.Memory.{unmapped, on_byte, evaluate, and_then}

module _ (ram image : List ℕ) (base address : ℕ) where
  -- the choice among RAM, image and neither
  module _ {A : Type 0} (a b c : A) where
    abbrev choice : A
    choice = pick (ltb address (length ram)) a (pick (leb base address && ltb (address - base) (length image)) b c)

    ram_bytes : address < length ram → choice ≡ a
    ram_bytes h = rw (lt-ltb address (length ram) h) refl

    under_image : length ram ≤ address → address < base → choice ≡ c
    under_image h below = rw (le-ltb address (length ram) h, lt-leb base address below) refl

    in_image : length ram ≤ address → base ≤ address → address - base < length image → choice ≡ b
    in_image h above inside =
        rw (le-ltb address (length ram) h, le-leb base address above, lt-ltb (address - base) (length image) inside)
        refl

    past_image : length ram ≤ address → base ≤ address → length image ≤ address - base → choice ≡ c
    past_image h above past =
        rw (le-ltb address (length ram) h, le-leb base address above, le-ltb (address - base) (length image) past) refl

  abbrev m : Memory
  m = memory ram image base

  pub byte_in_ram : address < length ram → byte_at m address ≡ Some (get_or ram address 0)
  unfolding byte_at
  byte_in_ram = ram_bytes _ _ _

  pub byte_under_image : length ram ≤ address → address < base → byte_at m address ≡ None
  unfolding byte_at
  byte_under_image = under_image _ _ _

  pub byte_in_image : length ram ≤ address → base ≤ address → address - base < length image
      → byte_at m address ≡ Some (get_or image (address - base) 0)
  unfolding byte_at
  byte_in_image = in_image _ _ _

  pub byte_past_image : length ram ≤ address → base ≤ address → length image ≤ address - base
      → byte_at m address ≡ None
  unfolding byte_at
  byte_past_image = past_image _ _ _

  pub served_in_ram : address < length ram → served_at m address ≡ Ok tt
  unfolding served_at
  served_in_ram = ram_bytes _ _ _

  pub served_under_image : length ram ≤ address → address < base → served_at m address ≡ Err Stop.Unmapped
  unfolding served_at
  served_under_image = under_image _ _ _

  pub served_in_image : length ram ≤ address → base ≤ address → address - base < length image
      → served_at m address ≡ Err Stop.ImageStore
  unfolding served_at
  served_in_image = in_image _ _ _

  pub served_past_image : length ram ≤ address → base ≤ address → length image ≤ address - base
      → served_at m address ≡ Err Stop.Unmapped
  unfolding served_at
  served_past_image = past_image _ _ _

-- what one outcome makes of the next action
abbrev pub on_done : {A B : Type 0} → Outcome A → (A → Outcome B) → Outcome B
on_done (done v) more = more v
on_done unmapped more = unmapped

-- an action after another comes to what it comes to after that one's outcome
pub evaluate_bind : {A B : Type 0} (m : Memory) (a : Act A) (f : A → Act B)
    → evaluate m (a >>= f) ≡ on_done (evaluate m a) (λ v. evaluate m (f v))
evaluate_bind m (ret v) f = refl
evaluate_bind {A} {B} m (load at more) f = by (byte_at m at) (λ byte. evaluate_bind m (more byte) f)
  where
    by : (b : Option ℕ)
        → ((byte : ℕ) → evaluate m (more byte >>= f) ≡ on_done (evaluate m (more byte)) (λ v. evaluate m (f v)))
        → on_byte b (λ byte. evaluate m (more byte >>= f))
        ≡ on_done (on_byte b (λ byte. evaluate m (more byte))) (λ v. evaluate m (f v))
    by (Some byte) step = step byte
    by None step = refl

pub and_then_all : (s : Served) → and_then s (Ok tt) ≡ s
and_then_all (Ok _) = refl
and_then_all (Err stop) = refl

-- a store past the end changes nothing
pub set_past : (l : List ℕ) (i v : ℕ) → length l ≤ i → set l i v ≡ l
set_past [] i v h = refl
set_past (x ∷ l) zero v h = absurd (not-suc-le-zero h)
set_past (x ∷ l) (suc i) v h = ap (λ t. x ∷ t) (set_past l i v (le_of_suc-le-suc h))

-- an action after one whose outcome is known
module _ {A B : Type 0} (m : Memory) (a : Act A) (f : A → Act B) where
  pub after_done : (v : A) → evaluate m a ≡ done v → evaluate m (a >>= f) ≡ evaluate m (f v)
  after_done v e = rw (evaluate_bind m a f, e) refl

  pub after_unmapped : evaluate m a ≡ unmapped → evaluate m (a >>= f) ≡ unmapped
  after_unmapped e = rw (evaluate_bind m a f, e) refl
