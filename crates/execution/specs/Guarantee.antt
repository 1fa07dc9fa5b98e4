-- Demand 3 (00), as one claim about a whole list of runs. Each notion is the check's or the machine's own definition.
--
-- 'For every list of runs of the machine, each asked for any number of steps and refused ones included, over one image
-- and base that the check accepted with its marks': `Guarantee`, by the check's `verdict`.
-- 'every step in the list's history, completed or stopped': of `joined_history`, is `Safe`.
-- 'begins at a marked start, with m and x as marked there': `Marked`.
-- 'its whole instruction within the image and its code carried': `WholeInside`.
-- 'A refused run makes no step': `RefusedRun`. 'every other ends only because the steps asked for are done or by one of
-- stops 22 to 27': `EndsWell`.
-- 'a single claim about the whole list' (01): `Guaranteed`.
-- Assumes nothing.
use Rattle.std.specs.Prelude.{◌≡◌, ℕ, ◌≤◌, ◌<◌, true, List, [], length, Ok, Err, Some, None}
use Rattle.types.specs.declared.code.Kind.{Kind}
use Rattle.types.specs.declared.code.Flow.{Flow}
use Rattle.types.specs.declared.code.Instruction.{Instruction}
use Rattle.types.specs.Answers.{ended_by}
use Rattle.types.specs.declared.machine.State.{State}
use Rattle.types.specs.declared.machine.Stop.{Stop}
use Rattle.types.specs.declared.refusals.Refusal.{Refusal}
use Rattle.instructions.specs.CodeMap.{length_at}
use Rattle.acceptance.specs.Image.{is_start, mark_m, mark_x, mark_at}
use Rattle.instructions.specs.Successors.{next_address, kind_number}
use Rattle.acceptance.specs.Verdict.{verdict}
use Rattle.prelude.specs.Choice.{bit}
use Rattle.semantics.specs.Memory.{Memory, memory, is_in_image}
use Rattle.semantics.specs.Step.{kind_of, place_of, fetched, last_opened}
use Rattle.types.specs.Runs.{stop_number}
use Rattle.execution.specs.Run.{Event, history, completed_steps, calls_among, end_of, state_left, ram_left, admission}
use Rattle.execution.specs.Run.{run_history, ran, Run, runs_from, joined_history}
use Rattle.prelude.specs.Lists.{Every}

-- ---- a step

-- 'A step begins at a marked start when PG and PC before it name an image address whose mark has bit 0 set, and at its
-- widths when m and x in PS equal bits 1 and 2 there.'
pub record Marked (marks : List ℕ) (m : Memory) (s : State) : Type 0 where
  pub in_image : is_in_image m (place_of s.core) ≡ true
  pub start_there : is_start (mark_at marks m.base (place_of s.core)) ≡ true
  pub m_marked : bit s.core.registers.status.m ≡ mark_m (mark_at marks m.base (place_of s.core))
  pub x_marked : bit s.core.registers.status.x ≡ mark_x (mark_at marks m.base (place_of s.core))

-- 'Its whole instruction is the bytes that the code map counts from there at these widths.' Each of them, at its own
-- address, lies within the image, and the code is carried.
pub record WholeInside (m : Memory) (s : State) : Type 0 where
  pub instruction : Instruction
  pub fetches : fetched m s.core ≡ Ok instruction
  pub carried : instruction.entry.carried ≡ true
  pub counted : instruction.length
      ≡ length_at instruction.entry (bit s.core.registers.status.m) (bit s.core.registers.status.x)
  pub inside : (k : ℕ) → k < instruction.length → is_in_image m (next_address (place_of s.core) k) ≡ true

pub record Safe (image marks : List ℕ) (base : ℕ) (e : Event) : Type 0 where
  pub marked : Marked marks (memory e.ram image base) e.state
  pub whole : WholeInside (memory e.ram image base) e.state

-- ---- a run

-- 'ends only because the steps asked for are done or by one of stops 22 to 27'
pub data EndsWell (h : List Event) (asked : ℕ) : Type 0 where
  done : end_of h ≡ None → completed_steps h ≡ asked → EndsWell h asked
  stopped : (stop : Stop) → end_of h ≡ Some stop → 22 ≤ stop_number stop → stop_number stop ≤ 27 → EndsWell h asked

-- A run that is not refused: its history is demand 2's steps, and it 'answers exactly its history's end, its number of
-- completed steps, and the number of its calls ..; it leaves the state and RAM as they are after the last completed
-- step'.
pub record AdmittedRun (m : Memory) (s : State) (asked : ℕ) : Type 0 where
  pub steps : run_history m s asked ≡ history m s asked
  pub ends : EndsWell (history m s asked) asked
  pub answer : (ran m s asked).answer
      ≡ ended_by (end_of (history m s asked)) (completed_steps (history m s asked))
      (calls_among (history m s asked))
  pub state : (ran m s asked).state ≡ state_left s (history m s asked)
  pub ram : (ran m s asked).ram ≡ ram_left m.ram (history m s asked)

-- A refused run makes no step, answers its refusal and leaves state and RAM as given.
pub record RefusedRun (m : Memory) (s : State) (asked : ℕ) (why : Refusal) : Type 0 where
  pub steps : run_history m s asked ≡ []
  pub answer : (ran m s asked).answer ≡ Err why
  pub state : (ran m s asked).state ≡ s
  pub ram : (ran m s asked).ram ≡ m.ram

-- every run is one or the other
pub data RunOutcome (m : Memory) (s : State) (asked : ℕ) : Type 0 where
  admitted : admission m s asked ≡ Ok tt → AdmittedRun m s asked → RunOutcome m s asked
  refused : (why : Refusal) → admission m s asked ≡ Err why → RefusedRun m s asked why
      → RunOutcome m s asked

-- ---- the claim

-- 'a single claim about the whole list and not one for each run'
pub record Guaranteed (image marks : List ℕ) (base : ℕ) (runs : List Run) : Type 0 where
  pub every_step : Every (Safe image marks base) (joined_history image base runs)
  pub every_run : Every (λ r. RunOutcome (memory r.ram image base) r.state r.asked) runs

-- 'The first run is given a marked start, its widths and no open call'
pub record Begins (marks : List ℕ) (m : Memory) (s : State) : Type 0 where
  pub marked : Marked marks m s
  pub no_call : s.core.depth ≡ 0

-- The demand, 'whatever RAM and every other register hold at first'.
abbrev pub Guarantee : Type 0
Guarantee =
    (image marks : List ℕ) (base reset : ℕ) → verdict image marks base reset ≡ Ok tt
    → (ram : List ℕ) (s : State) → Begins marks (memory ram image base) s
    → (asked : List ℕ) → Guaranteed image marks base (runs_from (memory ram image base) s asked)

-- ---- the kinds

-- What the kinds in the marks are for: a return meets an open call only of its own kind, so that of 24, 'no open call,
-- other kind, or pulled address not the open call's', the second never arises. An entry past the list's end is no call.
abbrev pub OwnKind : List ℕ → ℕ → Event → Type 0
OwnKind image base e =
    (i : Instruction) (kind : Kind) → fetched (memory e.ram image base) e.state.core ≡ Ok i
    → i.entry.flow ≡ Flow.Return kind → 0 < e.state.core.depth → e.state.core.depth ≤ length e.state.calls
    → kind_of (last_opened e.state) ≡ kind_number kind

abbrev pub OwnKinds : Type 0
OwnKinds =
    (image marks : List ℕ) (base reset : ℕ) → verdict image marks base reset ≡ Ok tt
    → (ram : List ℕ) (s : State) → Begins marks (memory ram image base) s
    → (asked : List ℕ)
    → Every (OwnKind image base) (joined_history image base (runs_from (memory ram image base) s asked))
