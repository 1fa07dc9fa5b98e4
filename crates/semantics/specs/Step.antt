-- One step: 01, 'A step tests: code bytes 20, 21, operand bytes 20, 22, 27, reads 23, then 24 or 25, then stores 23 or
-- 26. .. A stop undoes its whole step.' A step is defined within any limit of open calls (`.._within limit`); at the end
-- stands the machine's own, within `call_limit`.
-- Assumes nothing.
use Rattle.types.specs.declared.machine.Completion.{Completion}
use Rattle.types.specs.declared.code.Undecoded.{Undecoded}
use Rattle.std.specs.Prelude.{Bool, false, ◌&&◌, true, List, [], ◌∷◌, ℕ, zero, suc, ◌+◌, ◌-◌, ◌*◌, ◌/◌, ◌%◌, eqb, ltb}
use Rattle.std.specs.Prelude.{Ok, Err}
use Rattle.std.specs.Prelude.{length, get_or, set}
use Rattle.types.specs.declared.code.Kind.{Kind}
use Rattle.types.specs.declared.code.Flow.{Flow}
use Rattle.types.specs.declared.code.Instruction.{Instruction}
use Rattle.types.specs.Answers.{Decoded, Served, StepAnswer}
use Rattle.types.specs.declared.machine.Registers.{Registers}
use Rattle.types.specs.declared.machine.Core.{Core}
use Rattle.types.specs.declared.machine.State.{State}
use Rattle.types.specs.declared.machine.Stop.{Stop}
use Rattle.types.specs.declared.machine.OperandUse.{OperandUse}
use Rattle.types.specs.declared.machine.Data.{Data}
use Rattle.types.specs.declared.machine.Store.{Store}
use Rattle.types.specs.declared.machine.CallChange.{CallChange}
use Rattle.prelude.specs.Choice.{pick, bit}
use Rattle.types.specs.Addresses.{bank_size}
use Rattle.instructions.specs.Decode.{decode}
use Rattle.instructions.specs.Successors.{next_address, in_bank_after, target_address, m_after, x_after, kind_number}
use Rattle.semantics.specs.Memory.{Memory, Act, ret, ◌>>=◌, Outcome, done, unmapped, evaluate, is_in_image, served}
use Rattle.semantics.specs.Memory.{stored}
use Rattle.semantics.specs.Addressing.{operand_use_of, is_short, data_of, pulled_at, pulled_word, pulled_long}
use Rattle.semantics.specs.Arithmetic.{with_widths, with_status, with_s}
use Rattle.semantics.specs.Effects.{Effect, effect_of, store, pushed_at}

-- 01: 'at most 64 open calls'; 02's R-5, which overrules it: 'Make 24 the limit: a call with 24 open stops with 25, a
-- state holding more is refused with 12, and the state has room for 24.'
abbrev pub call_limit : ℕ
call_limit = 24

-- 'each with its 24-bit return address and kind': an open call is one number, the eight bytes of its record
-- (StateBytes): four of the address, one of the kind, three that are 0 once a call is opened there
abbrev pub record_unit : ℕ
record_unit = 4_294_967_296

abbrev pub call_record : ℕ → ℕ → ℕ
call_record address kind = address + record_unit * kind

abbrev pub return_of : ℕ → ℕ
return_of entry = entry % record_unit

abbrev pub kind_of : ℕ → ℕ
kind_of entry = entry / record_unit % 256

-- 'PG and PC count on as one 24-bit number'
abbrev pub place_of : Core → ℕ
place_of c = c.pg * bank_size + c.pc

-- The instruction's bytes, each at its own 24-bit address, which wraps: as far as they lie in the image.
unfoldable pub bytes_from : Memory → ℕ → ℕ → List ℕ
bytes_from m address zero = []
bytes_from m address (suc n) =
    pick (is_in_image m address) (get_or m.image (address - m.base) 0 ∷ bytes_from m (next_address address 1) n) []

abbrev pub fetched : Memory → Core → Decoded
fetched m c =
    decode (bytes_from m (place_of c) (length m.image)) (bit c.registers.status.m) (bit c.registers.status.x)

-- What a step changes once every stop but those of its stores is past.
pub record Change : Type 0 where
  pub registers : Registers
  pub place : ℕ
  pub calls : CallChange
  pub stores : List Store

abbrev pub change : Registers → ℕ → CallChange → List Store → Change
change r place calls stores = record { registers = r; place = place; calls = calls; stores = stores }

pub data Plan : Type 0 where
  stops : Stop → Plan
  changes : Change → Plan

-- 23 of a read
abbrev pub on_read : {A : Type 0} → Outcome A → (A → Plan) → Plan
on_read (done v) more = more v
on_read unmapped more = stops Stop.Unmapped

-- 27, 'ADC or SBC with D=1'
abbrev pub is_decimal : OperandUse → Registers → Bool
is_decimal OperandUse.Operand r = false
is_decimal OperandUse.Addend r = r.status.decimal
is_decimal OperandUse.Address r = false
is_decimal OperandUse.Pull r = false
is_decimal OperandUse.DirectWord r = false

-- how many bytes a return address of a kind has
abbrev pub return_bytes : Kind → ℕ
return_bytes Kind.ByRts = 2
return_bytes Kind.ByRtl = 3

module _ (c : Core) (i : Instruction) where
  abbrev pub r : Registers
  r = c.registers

  abbrev pub place : ℕ
  place = place_of c

  abbrev pub next : ℕ
  next = next_address place i.length

  abbrev pub target : ℕ
  target = target_address i place

  -- the widths of the data at the widths in force
  abbrev pub short : Bool
  short = is_short i.entry.width r.status.m r.status.x

  abbrev pub access : OperandUse
  access = operand_use_of i.entry.operation

  -- an operation works on its data, and goes on where its flow says
  abbrev pub works : (Bool → ℕ) → Data → Plan
  works goes d =
      worked (effect_of i.entry.mode i.entry.accumulator short i.operand next d r i.entry.operation)
    where
      worked : Effect → Plan
      worked e = changes (change e.registers (goes e.taken) CallChange.Keep e.stores)

  unfoldable pub operates : Memory → (Bool → ℕ) → Plan
  operates m goes =
      pick (is_decimal access r) (stops Stop.Decimal)
      (on_read (evaluate m (data_of access i.entry.mode i.entry.accumulator r short i.operand)) (works goes))

  -- 'A call pushes the address of the instruction after it .., bank first for JSR long, then high byte, then low'
  abbrev pub pushes_return : Kind → List Store
  pushes_return Kind.ByRts = store r.s (next / 256) ∷ store (pushed_at r 1) next ∷ []
  pushes_return Kind.ByRtl =
      store r.s (next / bank_size) ∷ store (pushed_at r 1) (next / 256) ∷ store (pushed_at r 2) next ∷ []

  -- 25, 'call with 64 open', 'a call with 24 open': with as many open as the limit
  unfoldable pub calls_within : ℕ → Kind → Plan
  calls_within limit kind =
      pick (ltb c.depth limit)
      (changes
      (change (with_s (pushed_at r (return_bytes kind)) r) target (CallChange.Open next kind)
      (pushes_return kind)))
      (stops Stop.Deep)

  -- 'the return pulls it and goes there'; RTS, which pulls 16 bits, uses the bank of the address just after itself
  abbrev pub pulls_return : Kind → Act ℕ
  pulls_return Kind.ByRts = do
    address ← pulled_word r
    ret (in_bank_after place i.length address)
  pulls_return Kind.ByRtl = pulled_long r

  -- 24, 'no open call, other kind, or pulled address not the open call's', whose record is given
  abbrev pub is_return : ℕ → Kind → ℕ → Bool
  is_return open-call kind address =
      ltb 0 c.depth && eqb (kind_of open-call) (kind_number kind) && eqb (return_of open-call) address

  unfoldable pub returns_to : ℕ → Kind → ℕ → Plan
  returns_to open-call kind address =
      pick (is_return open-call kind address)
      (changes (change (with_s (pulled_at r (return_bytes kind)) r) address CallChange.Close []))
      (stops Stop.Astray)

  -- by flow; 22, 'STP or WIT'
  unfoldable pub plan_by_within : ℕ → Memory → ℕ → Flow → Plan
  plan_by_within limit m open-call Flow.Next = operates m (λ taken. next)
  plan_by_within limit m open-call Flow.Branch = operates m (λ taken. pick taken target next)
  plan_by_within limit m open-call Flow.Jump = changes (change r target CallChange.Keep [])
  plan_by_within limit m open-call (Flow.Call kind) = calls_within limit kind
  plan_by_within limit m open-call (Flow.Return kind) =
      on_read (evaluate m (pulls_return kind)) (returns_to open-call kind)
  plan_by_within limit m open-call Flow.Halt = stops Stop.Halt

-- the record of the call opened last
abbrev pub last_opened : State → ℕ
last_opened s = get_or s.calls (s.core.depth - 1) 0

abbrev pub plan_within : ℕ → Memory → State → Instruction → Plan
plan_within limit m s i = plan_by_within s.core i limit m (last_opened s) i.entry.flow

-- The step's answer, and state and RAM after it.
pub record Stepped : Type 0 where
  pub answer : StepAnswer
  pub state : State
  pub ram : List ℕ

abbrev pub stepped : StepAnswer → State → List ℕ → Stepped
stepped answer s ram = record { answer = answer; state = s; ram = ram }

-- 'A stop undoes its whole step.'
abbrev pub stopped : Stop → Memory → State → Stepped
stopped stop m s = stepped (Err stop) s m.ram

-- the open calls after a step: a record changes only when a call is opened in it
abbrev pub depth_after : CallChange → ℕ → ℕ
depth_after CallChange.Keep depth = depth
depth_after (CallChange.Open address kind) depth = depth + 1
depth_after CallChange.Close depth = depth - 1

abbrev pub calls_after : CallChange → ℕ → List ℕ → List ℕ
calls_after CallChange.Keep depth calls = calls
calls_after (CallChange.Open address kind) depth calls = set calls depth (call_record address (kind_number kind))
calls_after CallChange.Close depth calls = calls

abbrev pub answer_of : CallChange → StepAnswer
answer_of CallChange.Keep = Ok Completion.Ordinary
answer_of (CallChange.Open address kind) = Ok Completion.Call
answer_of CallChange.Close = Ok Completion.Ordinary

-- the widths after an instruction, whatever its operation left in the status
abbrev pub widths_after : Instruction → Registers → Registers → Registers
widths_after i before after =
    with_status
    (with_widths
    (eqb (m_after i.entry.effect (bit before.status.m) i.operand) 1)
    (eqb (x_after i.entry.effect (bit before.status.x) i.operand) 1)
    after.status)
    after

-- 'one 24-bit number that wraps'
abbrev pub core_after : Instruction → Core → Change → Core
core_after i c d = record {
  registers = widths_after i c.registers d.registers;
  pc = d.place % bank_size;
  pg = d.place / bank_size % 256;
  depth = depth_after d.calls c.depth;
}

abbrev pub state_after : Instruction → State → Change → State
state_after i s d = record {
  core = core_after i s.core d;
  calls = calls_after d.calls s.core.depth s.calls;
}

-- 23 and 26 of the stores, then all of them
abbrev pub on_served : Served → Instruction → Change → Memory → State → Stepped
on_served (Ok _) i d m s = stepped (answer_of d.calls) (state_after i s d) (stored d.stores m.ram)
on_served (Err stop) i d m s = stopped stop m s

abbrev pub finish : Plan → Instruction → Memory → State → Stepped
finish (stops stop) i m s = stopped stop m s
finish (changes d) i m s = on_served (served m d.stores) i d m s

abbrev pub on_decoded_within : ℕ → Decoded → Memory → State → Stepped
on_decoded_within limit (Err Undecoded.CutOff) m s = stopped Stop.Outside m s
on_decoded_within limit (Err Undecoded.NotCarried) m s = stopped Stop.Uncarried m s
on_decoded_within limit (Ok i) m s = finish (plan_within limit m s i) i m s

-- the step of a state
unfoldable pub step_within : ℕ → Memory → State → Stepped
step_within limit m s = on_decoded_within limit (fetched m s.core) m s

-- ---- the machine's own

abbrev pub calls : Core → Instruction → Kind → Plan
calls c i kind = calls_within c i call_limit kind

abbrev pub plan_by : Core → Instruction → Memory → ℕ → Flow → Plan
plan_by c i m open-call flow = plan_by_within c i call_limit m open-call flow

abbrev pub plan : Memory → State → Instruction → Plan
plan m s i = plan_within call_limit m s i

abbrev pub on_decoded : Decoded → Memory → State → Stepped
on_decoded d m s = on_decoded_within call_limit d m s

abbrev pub step : Memory → State → Stepped
step m s = step_within call_limit m s

-- 'A step is completed when it meets no stop'
abbrev pub is_completed : StepAnswer → Bool
is_completed (Ok Completion.Ordinary) = true
is_completed (Ok Completion.Call) = true
is_completed (Err stop) = false

-- 'completed steps whose code is a JSR, long or not'
abbrev pub is_call : StepAnswer → Bool
is_call (Ok Completion.Ordinary) = false
is_call (Ok Completion.Call) = true
is_call (Err stop) = false
