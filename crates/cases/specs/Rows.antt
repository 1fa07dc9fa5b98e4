-- What a row of the proved set says, and when it holds: an image with its marks, the check's verdict, the mark list,
-- and runs of the machine on the image, all by 01's definitions.
-- Assumes nothing.
use Rattle.std.specs.Prelude.{◌≡◌, ℕ, zero, suc, ◌≤◌, ◌<◌, true, List, [], ◌∷◌, ◌++◌, length, get_or, drop, Ok, Err}
use Rattle.std.specs.Prelude.{None}
use Prim.Native.Char.{code}
use Prim.Native.String.{String, len, char_at}
use Rattle.types.specs.Answers.{ended_by, Verdict, RunAnswer}
use Rattle.types.specs.declared.machine.Registers.{Registers}
use Rattle.types.specs.declared.machine.Core.{Core}
use Rattle.types.specs.declared.machine.State.{State}
use Rattle.types.specs.Refusals.{refusal_number}
use Rattle.acceptance.specs.Verdict.{verdict}
use Rattle.lists.specs.MarkList.{read_list, marks_read, write_list, page_written}
use Rattle.semantics.specs.Memory.{Memory, memory}
use Rattle.semantics.specs.Step.{call_limit}
use Rattle.types.specs.Runs.{step_limit, end_number}
use Rattle.execution.specs.Run.{history, completed_steps, calls_among, end_of, state_left, ram_left, ram_fits}
use Rattle.execution.specs.Run.{calls_fit}
use Rattle.execution.specs.Run.{state_fits, Ran, ran}
use Rattle.prelude.specs.Lists.{Every}

-- a list of so many numbers: the one at place k is `f k`
abbrev pub list_of : ℕ → (ℕ → ℕ) → List ℕ
list_of zero f = []
list_of (suc n) f = let rest = list_of n (λ k. f (suc k)) in f 0 ∷ rest

-- the bytes of a text in ASCII
abbrev pub ascii : String → List ℕ
ascii text = list_of (len text) (λ k. code (char_at text k))

-- ---- where a run starts

-- Where 01 is silent: the registers and the open calls of a state that a run takes (number 12); a number of open calls
-- that leaves room for one more; how many bytes RAM has (11), and what they are. A case holds whatever these are.
pub record Unspecified : Type 0 where
  pub core : Core
  pub entries : ℕ → ℕ
  pub fits_state : state_fits (record { core = core; calls = list_of call_limit entries }) ≡ true
  pub fewer : ℕ
  pub fewer_below : fewer < call_limit
  pub fewer_fit : calls_fit (list_of call_limit entries) fewer ≡ true
  pub size : ℕ
  pub size_fits : ram_fits size 0x00C000 ≡ true
  pub bytes : ℕ → ℕ

-- the machine with these registers at an address of bank 0, so many calls open
abbrev pub state_at : Unspecified → Registers → ℕ → ℕ → State
state_at v r pc depth = record {
  core = record { registers = r; pc = pc; pg = 0; depth = depth };
  calls = list_of call_limit v.entries;
}

-- ---- what a row says

-- the check's verdict: accepted, or refused with a number at an offset
pub data Judged : Type 0 where
  accepted : Judged
  refused : ℕ → ℕ → Judged

-- What a case names of the state and the RAM after a run.
pub data Named : Type 0 where
  -- A is this number
  holds_a : ℕ → Named
  -- the RAM byte at an address
  holds_byte : ℕ → ℕ → Named
  -- state and RAM are as they were, all of them
  unchanged : Named

pub data Claim : Type 0 where
  -- the marks have this text as their list
  listed : List ℕ → Claim
  -- they have this text as an old list, which is read alone
  listed_old : List ℕ → Claim
  -- a run from a state and RAM that is asked for so many steps does them: the calls among them, what is named after it
  does : State → List ℕ → ℕ → ℕ → List Named → Claim
  -- a run that is asked for more steps than these ends by a stop: the stop, the steps, the calls among them, what is
  -- named after it
  stops : State → List ℕ → ℕ → ℕ → ℕ → List Named → Claim
  -- n steps from a state and RAM return to it, for every n
  returns : State → List ℕ → Claim

-- A row: an image, its marks, base and reset address, the check's verdict, and what else is said of them.
pub record Row : Type 0 where
  pub image : List ℕ
  pub marks : List ℕ
  pub base : ℕ
  pub reset : ℕ
  pub judged : Judged
  pub claims : List Claim

-- ---- when a row holds

-- a verdict with its number
abbrev pub judged_as : Verdict → Judged
judged_as (Ok _) = accepted
judged_as (Err r) = refused (refusal_number r.why) r.offset

-- a text is read as the marks, base and reset
abbrev pub IsRead : Row → List ℕ → Type 0
IsRead r text =
    (lent : List ℕ) → length lent ≡ length r.marks
    → (read_list text lent ≡ Ok (record { base = r.base; length = length r.marks; reset = r.reset }))
    × (marks_read text lent ≡ r.marks)

-- the list is written for the marks, into every page that has room, and read
pub record Listed (r : Row) (text : List ℕ) : Type 0 where
  pub written : (page : List ℕ) → length text ≤ length page
      → (write_list r.marks r.base r.reset page ≡ Ok (length text))
      × (page_written r.marks r.base r.reset page ≡ text ++ drop (length text) page)
  pub read : IsRead r text

-- from state `s` and RAM `ram` the machine came to `t` and `left`
abbrev pub Shows : State → List ℕ → State → List ℕ → Named → Type 0
Shows s ram t left (holds_a v) = t.core.registers.a ≡ v
Shows s ram t left (holds_byte address v) = get_or left address 0 ≡ v
Shows s ram t left unchanged = (t ≡ s) × (left ≡ ram)

-- the numbers of an answer; a refused run has none of them
abbrev pub Answers : RunAnswer → ℕ → ℕ → ℕ → Type 0
Answers (Err why) end steps calls = ⊥
Answers (Ok e) end steps calls = (end_number e.end ≡ end) × (e.steps ≡ steps) × (e.calls ≡ calls)

abbrev pub RanTo : State → List ℕ → Ran → ℕ → ℕ → ℕ → List Named → Type 0
RanTo s ram r end steps calls after =
    Answers r.answer end steps calls × Every (Shows s ram r.state r.ram) after

-- 'n steps return to its start': every step of the history begins where the first did, and after n of them, none of
-- which stops or calls, state and RAM are as given; a run of n steps, where that is not too many, answers so.
pub record Returns (m : Memory) (s : State) (n : ℕ) : Type 0 where
  pub begins : Every (λ e. (e.state ≡ s) × (e.ram ≡ m.ram)) (history m s n)
  pub end : end_of (history m s n) ≡ None
  pub completed : completed_steps (history m s n) ≡ n
  pub calls : calls_among (history m s n) ≡ 0
  pub state : state_left s (history m s n) ≡ s
  pub ram : ram_left m.ram (history m s n) ≡ m.ram
  pub run : n ≤ step_limit → ran m s n ≡ record { answer = ended_by None n 0; state = s; ram = m.ram }

abbrev pub Claimed : Row → Claim → Type 0
Claimed r (listed text) = Listed r text
Claimed r (listed_old text) = IsRead r text
Claimed r (does s ram asked calls after) =
    RanTo s ram (ran (memory ram r.image r.base) s asked) 0 asked calls after
Claimed r (stops s ram stop steps calls after) =
    (asked : ℕ) → steps < asked → asked ≤ step_limit
    → RanTo s ram (ran (memory ram r.image r.base) s asked) stop steps calls after
Claimed r (returns s ram) = (n : ℕ) → Returns (memory ram r.image r.base) s n

abbrev pub Holds : Row → Type 0
Holds r =
    (judged_as (verdict r.image r.marks r.base r.reset) ≡ r.judged) × Every (Claimed r) r.claims
