-- Runs: 01, 'The machine', from 'A run takes ..' on. The history of a run comes first; its end, its counts and what it
-- leaves are functions of the history. Like a step, a run is defined within any limit of open calls (`.._within limit`);
-- at the end stand the machine's own, within `call_limit`.
-- Assumes nothing.
use Rattle.types.specs.declared.machine.Completion.{Completion}
use Rattle.std.specs.Prelude.{ℕ, zero, suc, ◌+◌, Bool, true, false, not, ◌&&◌, ◌||◌, List, [], ◌∷◌, ◌++◌, eqb, Ok}
use Rattle.std.specs.Prelude.{Err, Some, None}
use Rattle.std.specs.Prelude.{ltb, leb, length, get_or}
use Rattle.types.specs.declared.code.Kind.{Kind}
use Rattle.types.specs.declared.machine.State.{State}
use Rattle.types.specs.Answers.{StepAnswer, ended_by, TestResult, End, RunAnswer}
use Rattle.types.specs.declared.refusals.Refusal.{Refusal}
use Rattle.prelude.specs.Choice.{pick, bit}
use Rattle.types.specs.Refusals.{Tests, first_refusal}
use Rattle.types.specs.Addresses.{address_limit}
use Rattle.instructions.specs.Successors.{kind_number}
use Rattle.prelude.specs.First.{first_from}
use Rattle.acceptance.specs.Verdict.{image_tests}
use Rattle.semantics.specs.Memory.{Memory, memory}
use Rattle.semantics.specs.Step.{call_limit, return_of, kind_of, Stepped, step_within, is_completed, is_call}
use Rattle.types.specs.Runs.{step_limit}

-- 'RAM is 1 to 4,096 bytes'
abbrev pub ram_limit : ℕ
ram_limit = 4_096

-- ---- the history

-- A step of a history: the RAM and the state that it began from, and what it came to.
pub record Event : Type 0 where
  pub ram : List ℕ
  pub state : State
  pub result : Stepped

abbrev pub event_within : ℕ → Memory → State → Event
event_within limit m s = record { ram = m.ram; state = s; result = step_within limit m s }

-- the same image and base, and the RAM that a step or a run left
abbrev pub with_ram : List ℕ → Memory → Memory
with_ram ram m = memory ram m.image m.base

-- 'The history of a run is demand 2's steps, one after another: the first from the given state and RAM, each later one
-- from what the step before left, until the asked number is completed or one stops. .. a stopped one is the last and
-- belongs to the history too.'
unfoldable pub history_within : ℕ → Memory → State → ℕ → List Event
history_within limit m s zero = []
history_within limit m s (suc n) =
    event_within limit m s
    ∷ elim (is_completed (step_within limit m s).answer) [
      | true ↦ history_within limit (with_ram (step_within limit m s).ram m) (step_within limit m s).state n
      | false ↦ []
    ]

-- ---- functions of a history

abbrev pub count : (StepAnswer → Bool) → List Event → ℕ
count test [] = 0
count test (e ∷ rest) = bit (test e.result.answer) + count test rest

-- 'its number of completed steps, and the number of its calls'
abbrev pub completed_steps : List Event → ℕ
completed_steps = count is_completed

abbrev pub calls_among : List Event → ℕ
calls_among = count is_call

-- 'the end (0 when all asked steps are done, else the stop)'
abbrev pub end_after : StepAnswer → End → End
end_after (Ok Completion.Ordinary) more = more
end_after (Ok Completion.Call) more = more
end_after (Err stop) more = Some stop

abbrev pub end_of : List Event → End
end_of [] = None
end_of (e ∷ rest) = end_after e.result.answer (end_of rest)

-- 'it leaves the state and RAM as they are after the last completed step, or as given if there is none'
abbrev pub state_left : State → List Event → State
state_left s [] = s
state_left s (e ∷ rest) = state_left (pick (is_completed e.result.answer) e.result.state s) rest

abbrev pub ram_left : List ℕ → List Event → List ℕ
ram_left ram [] = ram
ram_left ram (e ∷ rest) = ram_left (pick (is_completed e.result.answer) e.result.ram ram) rest

-- ---- refusals

-- number 11: 'empty, over 4,096, or with more bytes than the base's number (equal is allowed)'
unfoldable pub ram_fits : ℕ → ℕ → Bool
ram_fits n base = ltb 0 n && leb n ram_limit && leb n base

-- number 12: 'PS bits 11 to 15 set': a level past its three bits
abbrev pub level_limit : ℕ
level_limit = 8

-- 'a kind other than 1 or 2 or an address above FFFFFF'
unfoldable pub call_fits : ℕ → Bool
call_fits entry =
    (eqb (kind_of entry) (kind_number Kind.ByRts) || eqb (kind_of entry) (kind_number Kind.ByRtl))
    && ltb (return_of entry) address_limit

abbrev pub call_broken : List ℕ → ℕ → Bool
call_broken calls k = not (call_fits (get_or calls k 0))

-- 'among them': among the first so many records
unfoldable pub calls_fit : List ℕ → ℕ → Bool
calls_fit calls depth = eqb (first_from (call_broken calls) 0 depth) depth

-- 'over 64 open calls', 'a state holding more': over the limit
unfoldable pub state_fits_within : ℕ → State → Bool
state_fits_within limit s =
    ltb s.core.registers.status.level level_limit && leb s.core.depth limit
    && calls_fit s.calls s.core.depth

-- 'Run: 1, 2, 11, 12, 13.' A run takes no marks. Whether the state is one that a run takes is given.
abbrev pub run_tests : Memory → Bool → ℕ → Tests
run_tests m fits asked =
    image_tests (length m.image) (length m.image) m.base
    ++ ((ram_fits (length m.ram) m.base, Refusal.Ram)
    ∷ (fits, Refusal.State)
    ∷ (leb asked step_limit, Refusal.Steps)
    ∷ [])

abbrev pub admission_within : ℕ → Memory → State → ℕ → TestResult
admission_within limit m s asked = first_refusal (run_tests m (state_fits_within limit s) asked)

-- ---- a run

-- 'A run is refused exactly when one of the numbers tested for a run holds ..; its history is empty.'
unfoldable pub admitted_history_within : ℕ → TestResult → Memory → State → ℕ → List Event
admitted_history_within limit (Ok _) m s asked = history_within limit m s asked
admitted_history_within limit (Err why) m s asked = []

abbrev pub run_history_within : ℕ → Memory → State → ℕ → List Event
run_history_within limit m s asked = admitted_history_within limit (admission_within limit m s asked) m s asked

-- '.. and answers the first such number'; 'A run that is not refused answers exactly its history's end, its number of
-- completed steps, and the number of its calls'
abbrev pub answer_by : TestResult → List Event → RunAnswer
answer_by (Ok _) h = ended_by (end_of h) (completed_steps h) (calls_among h)
answer_by (Err why) h = Err why

-- A run's answer, and state and RAM after it. A step by itself is a run of one.
pub record Ran : Type 0 where
  pub answer : RunAnswer
  pub state : State
  pub ram : List ℕ

-- what a run with this history comes to
abbrev pub ran_by : TestResult → Memory → State → List Event → Ran
ran_by a m s h = record { answer = answer_by a h; state = state_left s h; ram = ram_left m.ram h }

-- what a run comes to that is not refused
abbrev pub executed_within : ℕ → Memory → State → ℕ → Ran
executed_within limit m s asked = ran_by (Ok tt) m s (history_within limit m s asked)

unfoldable pub ran_within : ℕ → Memory → State → ℕ → Ran
ran_within limit m s asked = ran_by (admission_within limit m s asked) m s (run_history_within limit m s asked)

-- What a step comes to as a run of one: completed, completed as a call, or stopped.
abbrev pub one_step : Stepped → Ran
one_step t = record {
  answer = ended_by (end_after t.answer None) (bit (is_completed t.answer)) (bit (is_call t.answer));
  state = t.state;
  ram = t.ram;
}

-- ---- a list of runs

-- A run of a list: RAM and state as given to it, and the number of steps that it is asked for.
pub record Run : Type 0 where
  pub ram : List ℕ
  pub state : State
  pub asked : ℕ

-- 'A list's runs share image, base and RAM buffer': each later run begins from what the last left. A list of runs is
-- given by the numbers of steps that are asked for.
unfoldable pub runs_from_within : ℕ → Memory → State → List ℕ → List Run
runs_from_within limit m s [] = []
runs_from_within limit m s (asked ∷ rest) =
    record { ram = m.ram; state = s; asked = asked }
    ∷ runs_from_within limit (with_ram (ran_within limit m s asked).ram m) (ran_within limit m s asked).state rest

-- '.. and its history is theirs joined in order'
unfoldable pub joined_history_within : ℕ → List ℕ → ℕ → List Run → List Event
joined_history_within limit image base [] = []
joined_history_within limit image base (r ∷ rest) =
    run_history_within limit (memory r.ram image base) r.state r.asked
    ++ joined_history_within limit image base rest

-- ---- the machine's own

abbrev pub event : Memory → State → Event
event m s = event_within call_limit m s

abbrev pub history : Memory → State → ℕ → List Event
history m s asked = history_within call_limit m s asked

abbrev pub state_fits : State → Bool
state_fits s = state_fits_within call_limit s

abbrev pub admission : Memory → State → ℕ → TestResult
admission m s asked = admission_within call_limit m s asked

abbrev pub admitted_history : TestResult → Memory → State → ℕ → List Event
admitted_history a m s asked = admitted_history_within call_limit a m s asked

abbrev pub run_history : Memory → State → ℕ → List Event
run_history m s asked = run_history_within call_limit m s asked

abbrev pub executed : Memory → State → ℕ → Ran
executed m s asked = executed_within call_limit m s asked

abbrev pub ran : Memory → State → ℕ → Ran
ran m s asked = ran_within call_limit m s asked

abbrev pub runs_from : Memory → State → List ℕ → List Run
runs_from m s asked = runs_from_within call_limit m s asked

abbrev pub joined_history : List ℕ → ℕ → List Run → List Event
joined_history image base runs = joined_history_within call_limit image base runs
