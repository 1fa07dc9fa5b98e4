-- Memory: 01, 'RAM is 1 to 4,096 bytes from address 000000; the image lies above it. Image bytes may be read as data.
-- Nothing else is mapped.' What a step reads is an action, which names its addresses in their order; what it stores is
-- a list.
-- Assumes nothing.
use Rattle.std.specs.Prelude.{ℕ, ◌+◌, ◌-◌, ◌*◌, Bool, true, false, ◌&&◌, List, [], ◌∷◌, ltb, leb, length, get_or, set}
use Rattle.std.specs.Prelude.{Ok, Err, Some, None, Option}
use Rattle.types.specs.declared.machine.Store.{Store}
use Rattle.types.specs.declared.machine.Stop.{Stop}
use Rattle.types.specs.Answers.{Served}
use Rattle.prelude.specs.Choice.{pick}
use Rattle.types.specs.Addresses.{bank_size}

pub record Memory : Type 0 where
  pub ram : List ℕ
  pub image : List ℕ
  pub base : ℕ

abbrev pub memory : List ℕ → List ℕ → ℕ → Memory
memory ram image base = record { ram = ram; image = image; base = base }

abbrev pub in_ram : Memory → ℕ → Bool
in_ram m address = ltb address (length m.ram)

abbrev pub is_in_image : Memory → ℕ → Bool
is_in_image m address = leb m.base address && ltb (address - m.base) (length m.image)

-- the byte at an address
unfoldable pub byte_at : Memory → ℕ → Option ℕ
byte_at m address =
    pick (in_ram m address) (Some (get_or m.ram address 0))
    (pick (is_in_image m address) (Some (get_or m.image (address - m.base) 0))
    None)

-- An action that reads bytes one after another and comes to a value: each further read may hang on the bytes before it.
pub data Act (A : Type 0) : Type 0 where
  ret : A → Act A
  load : ℕ → (ℕ → Act A) → Act A

infixl 20 ◌>>=◌
abbrev pub ◌>>=◌ : {A B : Type 0} → Act A → (A → Act B) → Act B
ret a >>= f = f a
load at more >>= f = load at (λ byte. more byte >>= f)

-- 23, 'data or stack byte not mapped': the first such byte ends the action
pub data Outcome (A : Type 0) : Type 0 where
  done : A → Outcome A
  unmapped : Outcome A

abbrev pub on_byte : {A : Type 0} → Option ℕ → (ℕ → Outcome A) → Outcome A
on_byte (Some b) more = more b
on_byte None more = unmapped

-- what an action comes to
abbrev pub evaluate : {A : Type 0} → Memory → Act A → Outcome A
evaluate m (ret a) = done a
evaluate m (load at more) = on_byte (byte_at m at) (λ byte. evaluate m (more byte))

-- numbers of two and three bytes, low byte first, wherever these lie
abbrev pub byte_from : ℕ → Act ℕ
byte_from at = load at ret

abbrev pub word_from : ℕ → ℕ → Act ℕ
word_from at then = do
  low ← byte_from at
  high ← byte_from then
  ret (low + 256 * high)

abbrev pub long_from : ℕ → ℕ → ℕ → Act ℕ
long_from at then last = do
  low ← word_from at then
  bank ← byte_from last
  ret (low + bank_size * bank)

-- data of one byte or two
abbrev pub data_from : Bool → ℕ → ℕ → Act ℕ
data_from true at then = byte_from at
data_from false at then = word_from at then

-- 'a word's high byte is at the next address'
abbrev pub read_word : ℕ → Act ℕ
read_word at = word_from at (at + 1)

abbrev pub read_long : ℕ → Act ℕ
read_long at = long_from at (at + 1) (at + 2)

abbrev pub read_data : Bool → ℕ → Act ℕ
read_data short at = data_from short at (at + 1)

-- 23 and 26 of a store; 'a word low byte first, a push as pushed; the first that cannot be served decides'
unfoldable pub served_at : Memory → ℕ → Served
served_at m address =
    pick (in_ram m address) (Ok tt)
    (pick (is_in_image m address) (Err Stop.ImageStore) (Err Stop.Unmapped))

abbrev pub and_then : Served → Served → Served
and_then (Ok _) more = more
and_then (Err stop) more = Err stop

abbrev pub served : Memory → List Store → Served
served m [] = Ok tt
served m (s ∷ rest) = and_then (served_at m s.address) (served m rest)

-- RAM with the bytes stored
abbrev pub stored : List Store → List ℕ → List ℕ
stored [] ram = ram
stored (s ∷ rest) ram = stored rest (set ram s.address s.byte)
