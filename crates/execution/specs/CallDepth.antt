-- 02's R-5, its last sentence: 'Runs that never held more than 24, nor met a call with 24 open, behave as they did.'
-- Said of any two limits of open calls, the smaller one first; `AsFound` says it of 24 and 01's 64.
--
-- A machine with the larger limit has room for more records. Its state is here the other's with further records behind
-- (`extended`), whatever they are. 'behave as they did' then says of the records, too, what becomes of each: those that
-- both states have are the same after the run, behind the open calls as well, and the further ones stay as given.
-- 'never held more': the given state holds no more, and counts as held also where a run makes no step. What comes after
-- it holds no more either, as no call is met with so many open.
-- Assumes nothing.
use Rattle.std.specs.Prelude.{◌≡◌, ℕ, ◌≤◌, List, ◌++◌, map, length, Ok}
use Rattle.types.specs.declared.code.Kind.{Kind}
use Rattle.types.specs.declared.code.Flow.{Flow}
use Rattle.types.specs.declared.code.Instruction.{Instruction}
use Rattle.types.specs.declared.machine.State.{State}
use Rattle.semantics.specs.Memory.{Memory, memory}
use Rattle.semantics.specs.Step.{call_limit, fetched, Stepped}
use Rattle.execution.specs.Run.{Event, run_history_within, Ran, ran_within, Run, runs_from_within}
use Rattle.execution.specs.Run.{joined_history_within}
use Rattle.prelude.specs.Lists.{Every}

-- ---- the same with further records behind

abbrev pub extended : List ℕ → State → State
extended more s = record { core = s.core; calls = s.calls ++ more }

abbrev pub extended_stepped : List ℕ → Stepped → Stepped
extended_stepped more t = record { answer = t.answer; state = extended more t.state; ram = t.ram }

abbrev pub extended_event : List ℕ → Event → Event
extended_event more e = record {
  ram = e.ram;
  state = extended more e.state;
  result = extended_stepped more e.result;
}

abbrev pub extended_ran : List ℕ → Ran → Ran
extended_ran more r = record { answer = r.answer; state = extended more r.state; ram = r.ram }

abbrev pub extended_run : List ℕ → Run → Run
extended_run more r = record { ram = r.ram; state = extended more r.state; asked = r.asked }

-- ---- what is asked

-- 'never held more than 24', 'the state has room for 24'
pub record Holds (limit : ℕ) (s : State) : Type 0 where
  pub few : s.core.depth ≤ limit
  pub room : limit ≤ length s.calls

-- 'nor met a call with 24 open': a step, completed or stopped, whose code is a JSR, long or not
abbrev pub MeetsNoCall : ℕ → List ℕ → ℕ → Event → Type 0
MeetsNoCall limit image base e =
    (i : Instruction) (kind : Kind) → fetched (memory e.ram image base) e.state.core ≡ Ok i
    → i.entry.flow ≡ Flow.Call kind → e.state.core.depth ≡ limit → ⊥

-- ---- 'behave as they did'

-- A run: its history, its answer (of a refused run the number), and the state and RAM that it leaves.
pub record SameRun (fewer limit : ℕ) (more : List ℕ) (m : Memory) (s : State) (asked : ℕ) : Type 0 where
  pub history : run_history_within limit m (extended more s) asked
      ≡ map (extended_event more) (run_history_within fewer m s asked)
  pub ran : ran_within limit m (extended more s) asked ≡ extended_ran more (ran_within fewer m s asked)

-- A list of runs: what each is given and what it comes to, and their joined history.
pub record SameRuns (fewer limit : ℕ) (more : List ℕ) (m : Memory) (s : State) (asked : List ℕ) : Type 0 where
  pub given : runs_from_within limit m (extended more s) asked
      ≡ map (extended_run more) (runs_from_within fewer m s asked)
  pub each : Every (λ r. SameRun fewer limit more (memory r.ram m.image m.base) r.state r.asked)
      (runs_from_within fewer m s asked)
  pub joined : joined_history_within limit m.image m.base (runs_from_within limit m (extended more s) asked)
      ≡ map (extended_event more)
      (joined_history_within fewer m.image m.base (runs_from_within fewer m s asked))

-- ---- the claim, of the history within the larger limit

pub record SameWithin (fewer limit : ℕ) : Type 0 where
  pub of_a_run : (m : Memory) (s : State) (more : List ℕ) (asked : ℕ) → Holds fewer s
      → Every (MeetsNoCall fewer m.image m.base) (run_history_within limit m (extended more s) asked)
      → SameRun fewer limit more m s asked
  pub of_a_list : (m : Memory) (s : State) (more : List ℕ) (asked : List ℕ) → Holds fewer s
      → Every (MeetsNoCall fewer m.image m.base)
      (joined_history_within limit m.image m.base (runs_from_within limit m (extended more s) asked))
      → SameRuns fewer limit more m s asked

abbrev pub CallDepth : Type 0
CallDepth = (fewer limit : ℕ) → fewer ≤ limit → SameWithin fewer limit

-- of the machine's own limit, and of 01's 'at most 64 open calls'
abbrev pub AsFound : Type 0
AsFound = SameWithin call_limit 64
