-- The customer's three conditions of acceptance (papers/00-acceptance.md), in their order and words: three propositions
-- about the calls of the functions that a loader links (include/m7700.h), as the crate `loader` has them: `loader_c`
-- exports each under the same clauses. Their proofs are `demand_1`, `demand_2` and `demand_3` of proofs/Demands.antt.
--
-- A call is what it is given, its result and what it leaves, with its function's contract (Calls.antt): `holds` is
-- what a buffer holds when it is given, `marks_left`, `page_left`, `left_state` and the like what it holds after the
-- call. The numbers that the functions of m7700.h take out of a result are `check_numbers`, `read_numbers`,
-- `written_numbers` and, of a run, `numbers` (packing/specs/Packed.antt). Every other notion is document 01's, in the
-- crates of definitions: of `acceptance` `Accepts` (Rules), `verdict` (Verdict), what a number means, `Breaks`
-- (Meaning), and what it is to answer by the first ground that holds (Grounds); of `lists` `read_list`, `write_list`
-- (MarkList) and their grounds (ListGrounds); of `semantics` `step` (Step); of `execution` `ran_bytes` (RunBytes), the
-- grounds of a run (RunGrounds), histories and lists of runs (Run), `Safe` and `Begins` (Guarantee).
-- Assumes nothing.
use Rattle.std.specs.Prelude.{◌≡◌, ◌↔◌, ◌⊎◌, ℕ, ◌≤◌, ◌<◌, true, false, List, [], ◌∷◌, ◌++◌, length, take, drop}
use Rattle.packing.specs.Packed.{verdict_numbers, check_numbers, list_read_numbers, read_numbers, list_written_numbers}
use Rattle.packing.specs.Packed.{written_numbers, answer_numbers}
use Rattle.types.specs.declared.refusals.Refusal.{Refusal}
use Rattle.types.specs.Answers.{ended_by}
use Rattle.types.specs.Refusals.{refusal_number}
use Rattle.instructions.specs.CodeMap.{entry_at, length_at}
use Rattle.acceptance.specs.Rules.{Accepts}
use Rattle.acceptance.specs.Verdict.{verdict}
use Rattle.acceptance.specs.Meaning.{Breaks}
use Rattle.lists.specs.MarkList.{is_old, read_list, marks_read, write_list, page_written}
use Rattle.acceptance.specs.Grounds.{AnswersBy}
use Rattle.execution.specs.RunGrounds.{WrongBytes, run_grounds}
use Rattle.lists.specs.ListGrounds.{read_grounds, write_grounds}
use Rattle.semantics.specs.Memory.{memory}
use Rattle.semantics.specs.Step.{step, is_completed}
use Rattle.execution.specs.Run.{Event, end_of, completed_steps, calls_among, state_left, ram_left, one_step, Run}
use Rattle.execution.specs.Run.{runs_from}
use Rattle.execution.specs.Run.{joined_history}
use Rattle.execution.specs.StateBytes.{state_size, state_of, state_bytes}
use Rattle.execution.specs.RunBytes.{ran_bytes}
use Rattle.prelude.specs.Lists.{Every}
use Rattle.execution.specs.Guarantee.{Safe, Begins}
use Rattle.demands.specs.Calls.{AllReturn, NothingAsked, SharedStays, holds, CheckCall, ReadCall, WriteCall}
use Rattle.demands.specs.Calls.{RunCall, numbers, memory_of, state_given, history_of}

-- ---- 1

-- what the machine was lent is after a call as it was given
abbrev pub Untouched : RunCall → Type 0
Untouched c = (c.left_state ≡ holds c.state) × (c.left_ram ≡ holds c.ram)

-- a step of a history that stopped came to what it began from
abbrev pub Undone : Event → Type 0
Undone e = is_completed e.result.answer ≡ false → (e.result.state ≡ e.state) × (e.result.ram ≡ e.ram)

-- 'Memory lent to the check, the stepping machine, or the reader and writer of mark lists holds after every call
-- exactly what document 01 names, on any input. A call refused by number, or a step that stops, leaves it and the
-- machine's state untouched, and every call returns.'
pub record Demand1 : Type 2 where
  -- 'holds after every call exactly what document 01 names', 'on any input'
  pub any_input : NothingAsked
  pub shared_stays : SharedStays
  pub marks_hold : (c : ReadCall) → c.marks_left ≡ marks_read (holds c.text) (holds c.marks)
  pub page_holds : (c : WriteCall)
      → c.page_left ≡ page_written (holds c.marks) c.base c.reset (holds c.page)
  pub state_holds : (c : RunCall) → c.left_state ≡ (ran_bytes (memory_of c) (holds c.state) c.steps).state
  pub ram_holds : (c : RunCall) → c.left_ram ≡ (ran_bytes (memory_of c) (holds c.state) c.steps).ram
  -- 'A call refused by number .. leaves it .. untouched'; 01: 'every further number in its answer is 0'
  pub read_refused : (c : ReadCall) → 0 < (read_numbers c.result).number
      → (c.marks_left ≡ holds c.marks)
      × ((read_numbers c.result).base ≡ 0) × ((read_numbers c.result).reset ≡ 0)
  pub write_refused : (c : WriteCall) → 0 < (written_numbers c.result).number
      → (c.page_left ≡ holds c.page) × ((written_numbers c.result).length ≡ 0)
  pub run_refused : (c : RunCall) → 0 < (numbers c).refusal
      → Untouched c × ((numbers c).end ≡ 0) × ((numbers c).steps ≡ 0) × ((numbers c).calls ≡ 0)
  -- 'or a step that stops': each such step of a run, and a run that completes no step
  pub step_stopped : (c : RunCall) → Every Undone (history_of c)
  pub run_stopped : (c : RunCall) → (numbers c).steps ≡ 0 → Untouched c
  -- 'every call returns'
  pub returns : AllReturn

-- ---- 2

-- 'the number and place fixed there': a rule is broken there, and none that goes before it
pub record RefusedCheck (c : CheckCall) : Type 0 where
  pub why : Refusal
  pub number : (check_numbers c.result).number ≡ refusal_number why
  pub breaks : Breaks (holds c.image) (holds c.marks) c.base c.reset why (check_numbers c.result).offset

-- 01: 'A run that is not refused answers exactly its history's end, its number of completed steps, and the number of
-- its calls ..; it leaves the state and RAM as they are after the last completed step, or as given if there is none.'
pub record ByHistory (c : RunCall) : Type 0 where
  pub answer : numbers c
      ≡ answer_numbers (ended_by (end_of (history_of c)) (completed_steps (history_of c))
      (calls_among (history_of c)))
  pub state : c.left_state ≡ state_bytes (state_left (state_given c) (history_of c))
  pub ram : c.left_ram ≡ ram_left (holds c.ram) (history_of c)

-- 'The check accepts an image with its marks exactly when all rules of document 01 are met, and otherwise gives the
-- number and place fixed there; each step of the machine does what the MELPS 7700 software manual, as document 01
-- settles it, prescribes for that code at the widths then in force; a mark list read, and written again to a page long
-- enough, is the same list, and marks written and read again are the same marks.'
pub record Demand2 : Type 0 where
  -- 'accepts .. exactly when all rules of document 01 are met, and otherwise gives the number and place'
  pub accepts : (c : CheckCall)
      → (c.result ≡ 0) ↔ Accepts (holds c.image) (holds c.marks) c.base c.reset
  pub refuses : (c : CheckCall) → 0 < c.result → RefusedCheck c
  -- one step: its answer, and state and RAM after it; then any number of them
  pub single_step : (c : RunCall) → c.steps ≡ 1 → (numbers c).refusal ≡ 0
      → (numbers c ≡ answer_numbers (one_step (step (memory_of c) (state_given c))).answer)
      × (c.left_state ≡ state_bytes (step (memory_of c) (state_given c)).state)
      × (c.left_ram ≡ (step (memory_of c) (state_given c)).ram)
  pub each_step : (c : RunCall) → (numbers c).refusal ≡ 0 → ByHistory c
  -- 01: 'a carried code has 1 to 6 bytes at each of the four widths'
  pub lengths : (page code m x : ℕ) → (entry_at page code).carried ≡ true
      → (1 ≤ length_at (entry_at page code) m x) × (length_at (entry_at page code) m x ≤ 6)
  -- 01: 'Run: 1, 2, 11, 12, 13. Reader: 14, 1, 2, 3. Writer: 1, 2, 4, 3, 15.' The number given is that of the first of
  -- these grounds that holds, and 0 where none holds: 14 exactly where the text is no mark list (`IsMarkList`).
  pub run_refuses : (c : RunCall)
      → AnswersBy (run_grounds (memory_of c) (WrongBytes (holds c.state)) c.steps) refusal_number 0
      (numbers c).refusal
  pub read_refuses : (c : ReadCall)
      → AnswersBy (read_grounds (holds c.text) (holds c.marks)) refusal_number 0 (read_numbers c.result).number
  pub write_refuses : (c : WriteCall)
      → AnswersBy (write_grounds (holds c.marks) c.base c.reset (holds c.page)) refusal_number 0
      (written_numbers c.result).number
  -- 'a mark list read, and written again to a page long enough, is the same list, and marks written and read again are
  -- the same marks'; 02, R-7: 'demand 2's same list is now owed for lists in six', so that the list is no old one
  pub read_written : (r : ReadCall) (w : WriteCall) → (read_numbers r.result).number ≡ 0
      → is_old (holds r.text) ≡ false → holds w.marks ≡ r.marks_left → w.base ≡ (read_numbers r.result).base
      → w.reset ≡ (read_numbers r.result).reset → length (holds r.text) ≤ length (holds w.page)
      → (written_numbers w.result ≡ record { number = 0; length = length (holds r.text) })
      × (w.page_left ≡ holds r.text ++ drop (length (holds r.text)) (holds w.page))
  pub written_read : (w : WriteCall) (r : ReadCall) → (written_numbers w.result).number ≡ 0
      → holds r.text ≡ take (written_numbers w.result).length w.page_left
      → length (holds r.marks) ≡ length (holds w.marks)
      → (read_numbers r.result ≡ record { number = 0; base = w.base; reset = w.reset })
      × (r.marks_left ≡ holds w.marks)
  -- every number in every result is the one that 01's definitions give
  pub numbers_of_check : (c : CheckCall)
      → check_numbers c.result ≡ verdict_numbers (verdict (holds c.image) (holds c.marks) c.base c.reset)
  pub numbers_of_read : (c : ReadCall)
      → read_numbers c.result ≡ list_read_numbers (read_list (holds c.text) (holds c.marks))
  pub numbers_of_write : (c : WriteCall)
      → written_numbers c.result
      ≡ list_written_numbers (write_list (holds c.marks) c.base c.reset (holds c.page))
  pub numbers_of_run : (c : RunCall)
      → numbers c ≡ answer_numbers (ran_bytes (memory_of c) (holds c.state) c.steps).answer

-- ---- 3

-- 'A refused run makes no step'
pub record RefusedRun (c : RunCall) : Type 0 where
  pub refused : 0 < (numbers c).refusal
  pub no_step : history_of c ≡ []
  pub untouched : Untouched c

-- 'every other ends only because the steps asked for are done or by one of stops 22 to 27'; 'the answer of a run that
-- is not refused, and the state and RAM it leaves, are exactly those of its own history'
pub record EndedRun (c : RunCall) : Type 0 where
  pub not_refused : (numbers c).refusal ≡ 0
  pub ends : (((numbers c).end ≡ 0) × ((numbers c).steps ≡ c.steps)) ⊎ ((22 ≤ (numbers c).end) × ((numbers c).end ≤ 27))
  pub exactly : ByHistory c

-- 'over one image and base that the check accepted with its marks'
abbrev pub Over : CheckCall → RunCall → Type 0
Over check c = (holds c.image ≡ holds check.image) × (c.base ≡ check.base)

-- 'each later one gets the state and RAM that the last one returned or left'
abbrev pub PassedOn : List ℕ → List ℕ → List RunCall → Type 0
PassedOn state ram [] = Unit {0}
PassedOn state ram (c ∷ rest) =
    (holds c.state ≡ state) × (holds c.ram ≡ ram) × PassedOn c.left_state c.left_ram rest

-- the runs of the calls, and the numbers of steps that they are asked for
abbrev pub runs_of : List RunCall → List Run
runs_of [] = []
runs_of (c ∷ rest) = record { ram = holds c.ram; state = state_given c; asked = c.steps } ∷ runs_of rest

abbrev pub asked_of : List RunCall → List ℕ
asked_of [] = []
asked_of (c ∷ rest) = c.steps ∷ asked_of rest

-- 01: 'a single claim about the whole list'
pub record Guaranteed (check : CheckCall) (state ram : List ℕ) (calls : List RunCall) : Type 0 where
  -- the calls are one of 01's lists of runs: the state that a call's bytes say is the one that the run before it left
  pub list : runs_of calls ≡ runs_from (memory ram (holds check.image) check.base) (state_of state) (asked_of calls)
  -- 'every step in the list's history, completed or stopped, begins at a marked start, with m and x as marked there,
  -- its whole instruction within the image and its code carried'
  pub every_step : Every (Safe (holds check.image) (holds check.marks) check.base)
      (joined_history (holds check.image) check.base (runs_of calls))
  pub every_run : Every (λ c. RefusedRun c ⊎ EndedRun c) calls

-- 'For every list of runs of the machine, each asked for any number of steps and refused ones included, over one
-- image and base that the check accepted with its marks, and whatever RAM and every other register hold at first: ..
-- The first run is given a marked start, its widths and no open call; each later one gets the state and RAM that the
-- last one returned or left, and nobody else writes them meanwhile.'
abbrev pub Demand3 : Type 0
Demand3 =
    (check : CheckCall) → check.result ≡ 0
    → (calls : List RunCall) → Every (Over check) calls
    → (state ram : List ℕ) → length state ≡ state_size
    → Begins (holds check.marks) (memory ram (holds check.image) check.base) (state_of state)
    → PassedOn state ram calls → Guaranteed check state ram calls
