-- Laws of a history, each by induction over the asked steps: a completed step is followed by the history from what it
-- left, a stopped one by nothing. From these come the end and the counts of a history, and what a loop over the steps
-- needs.
-- Assumes nothing.
use Rattle.types.specs.declared.machine.Completion.{Completion}
use Rattle.std.specs.Prelude.{Ok, Err, Some, None}
use mathlib.Core.Path.{◌≡◌, refl, ap}
use mathlib.Core.Logic.{◌↔◌}
use mathlib.Core.Bool.{Bool, true, false, not}
use mathlib.Core.List.{List, [], ◌∷◌}
use Prim.Native.Nat.{ℕ, zero, suc, ◌+◌, ◌≤◌}
use native.Mathlib.Nat.{zero-add, add-zero, add_assoc}
use native.Mathlib.Omega.{arith}
use lib.ListN.{length}
use borrow.Author.Tests.{leb-true}
use Rattle.types.specs.declared.machine.State.{State}
use Rattle.types.specs.declared.machine.Stop.{Stop}
use Rattle.types.specs.Answers.{StepAnswer, ended_by, End, RunAnswer}
use Rattle.types.specs.declared.refusals.Refusal.{Refusal}
use Rattle.prelude.specs.Choice.{pick, bit}
use Rattle.types.specs.Addresses.{address_limit, image_limit}
use Rattle.types.specs.Refusals.{first_refusal}
use Rattle.semantics.specs.Memory.{Memory, memory}
use Rattle.semantics.specs.Step.{step, is_completed, is_call}
use Rattle.execution.specs.Run.{Event, event, with_ram, history, completed_steps, end_after, end_of, state_left}
use Rattle.execution.specs.Run.{ram_left, Ran, history_within, ran_within, run_tests, admission}
use Rattle.execution.specs.Run.{admitted_history_within, run_history, executed, ran, one_step}
use Rattle.types.specs.Runs.{end_number, step_limit}
use Rattle.prelude.specs.Lists.{Every}
use Rattle.acceptance.proofs.Image.{right_length, base_whole}
use Rattle.types.proofs.TestResults.{shown}
use Rattle.types.proofs.Stops.{stop_range}
use Rattle.semantics.proofs.Step.{completed_stops, stopped_leaves}

-- ---- what a history goes on with after its first step

module _ (m : Memory) (s : State) (n : ℕ) where
  -- the history from what the first step left
  abbrev pub onward : List Event
  onward = history (with_ram (step m s).ram m) (step m s).state n

  pub goes_on : is_completed (step m s).answer ≡ true → history m s (suc n) ≡ event m s ∷ onward
  unfolding history_within
  goes_on h = rw (h, history_within) refl

  pub stops_there : is_completed (step m s).answer ≡ false → history m s (suc n) ≡ event m s ∷ []
  unfolding history_within
  stops_there h = rw (h, history_within) refl

  -- what holds of a history that goes on and of one that stops holds of a history
  pub by_first_step : (P : List Event → Type 0)
      → (is_completed (step m s).answer ≡ true → P (event m s ∷ onward))
      → (is_completed (step m s).answer ≡ false → P (event m s ∷ [])) → P (history m s (suc n))
  by_first_step P on end = by (is_completed (step m s).answer) refl
    where
      by : (b : Bool) → is_completed (step m s).answer ≡ b → P (history m s (suc n))
      by true h = rw (goes_on h) (on h)
      by false h = rw (stops_there h) (end h)

-- ---- the events of a history

-- Each event is a step, the first from the RAM and the state given, each later one from what the one before left.
abbrev pub Linked : List ℕ → ℕ → List ℕ → State → List Event → Type 0
Linked image base ram s [] = Unit {0}
Linked image base ram s (e ∷ rest) =
    (e.ram ≡ ram) × (e.state ≡ s) × (e.result ≡ step (memory ram image base) s)
    × Linked image base e.result.ram e.result.state rest

pub linked : (m : Memory) (s : State) (n : ℕ) → Linked m.image m.base m.ram s (history m s n)
unfolding history_within
linked m s zero = tt
linked m s (suc n) =
    by_first_step m s n (λ h. Linked m.image m.base m.ram s h)
    (λ _. (refl, refl, refl, linked (with_ram (step m s).ram m) (step m s).state n)) (λ _. (refl, refl, refl, tt))

-- Every event but the last is a completed step.
abbrev pub LastAlone : List Event → Type 0
LastAlone [] = Unit {0}
LastAlone (e ∷ []) = Unit {0}
LastAlone (e ∷ f ∷ rest) = (is_completed e.result.answer ≡ true) × LastAlone (f ∷ rest)

behind_completed : (e : Event) (h : List Event) → is_completed e.result.answer ≡ true → LastAlone h
    → LastAlone (e ∷ h)
behind_completed e [] c l = tt
behind_completed e (f ∷ rest) c l = (c, l)

pub last_alone : (m : Memory) (s : State) (n : ℕ) → LastAlone (history m s n)
unfolding history_within
last_alone m s zero = tt
last_alone m s (suc n) =
    by_first_step m s n LastAlone
    (λ c. behind_completed (event m s) (onward m s n) c (last_alone (with_ram (step m s).ram m) (step m s).state n))
    (λ _. tt)

-- ---- the end and the counts

-- whether the last event is a stopped step
abbrev pub last_stops : List Event → Bool
last_stops [] = false
last_stops (e ∷ []) = not (is_completed e.result.answer)
last_stops (e ∷ f ∷ rest) = last_stops (f ∷ rest)

completed_passes : (a : StepAnswer) (end : End) → is_completed a ≡ true → end_after a end ≡ end
completed_passes (Ok Completion.Ordinary) end h = refl
completed_passes (Ok Completion.Call) end h = refl
completed_passes (Err stop) end h = let z : ◌≡◌ {A = ℕ} 0 1 = cc in absurd (omega arith)

-- the end of one step
one_end : (a : StepAnswer) → (end_number (end_after a None) ≡ 0) ↔ (not (is_completed a) ≡ false)
one_end (Ok Completion.Ordinary) = (λ _. refl, λ _. refl)
one_end (Ok Completion.Call) = (λ _. refl, λ _. refl)
one_end (Err stop) = (
  λ e. absurd (omega (arith, (stop_range stop).0)),
  λ h. let z : ◌≡◌ {A = ℕ} 0 1 = cc in absurd (omega arith),
)

-- the end is not 0 exactly when the last event is a stopped step
pub end_by_last : (h : List Event) → LastAlone h → (end_number (end_of h) ≡ 0) ↔ (last_stops h ≡ false)
end_by_last [] l = (λ _. refl, λ _. refl)
end_by_last (e ∷ []) l = one_end e.result.answer
end_by_last (e ∷ f ∷ rest) l =
    rw (completed_passes e.result.answer (end_of (f ∷ rest)) l.0) (end_by_last (f ∷ rest) l.1)

one_or_other : (b : Bool) → bit b + 0 + bit (not b) ≡ 1
one_or_other true = refl
one_or_other false = refl

-- the other events are the completed steps
pub others_completed : (h : List Event) → LastAlone h → completed_steps h + bit (last_stops h) ≡ length h
others_completed [] l = refl
others_completed (e ∷ []) l = one_or_other (is_completed e.result.answer)
others_completed (e ∷ f ∷ rest) l = rw l.0 (omega (arith, others_completed (f ∷ rest) l.1))

stopped_ends : (a : StepAnswer) (end : End) → is_completed a ≡ false → end_after a end ≡ None → ⊥
stopped_ends (Ok Completion.Ordinary) end h e = let z : ◌≡◌ {A = ℕ} 0 1 = cc in absurd (omega arith)
stopped_ends (Ok Completion.Call) end h e = let z : ◌≡◌ {A = ℕ} 0 1 = cc in absurd (omega arith)
stopped_ends (Err stop) end h e = let z : ◌≡◌ {A = ℕ} 0 1 = cc in absurd (omega arith)

-- where the end is 0 as many steps are completed as were asked
pub all_asked : (m : Memory) (s : State) (n : ℕ) → end_of (history m s n) ≡ None → completed_steps (history m s n)
    ≡ n
unfolding history_within
all_asked m s zero = λ _. refl
all_asked m s (suc n) =
    by_first_step m s n (λ h. end_of h ≡ None → completed_steps h ≡ suc n)
    (λ c end. one_more c (all_asked (with_ram (step m s).ram m) (step m s).state n
    (rw (completed_passes (step m s).answer (end_of (onward m s n)) c) at end)))
    (λ c end. absurd (stopped_ends (step m s).answer None c end))
  where
    one_more : is_completed (step m s).answer ≡ true → completed_steps (onward m s n) ≡ n
        → bit (is_completed (step m s).answer) + completed_steps (onward m s n) ≡ suc n
    one_more c e = rw (c, e) (omega arith)

-- ---- what a loop over the steps needs

-- an answer with steps and calls that came before
abbrev pub counted : ℕ → ℕ → RunAnswer → RunAnswer
counted steps calls (Err why) = Err why
counted steps calls (Ok e) = ended_by e.end (steps + e.steps) (calls + e.calls)

abbrev pub further : ℕ → ℕ → Ran → Ran
further steps calls r = record { answer = counted steps calls r.answer; state = r.state; ram = r.ram }

abbrev pub ended : End → ℕ → ℕ → State → List ℕ → Ran
ended end steps calls s ram = record { answer = ended_by end steps calls; state = s; ram = ram }

-- what a completed step leaves is what the rest goes on from
pub state_passes : (s : State) (e : Event) (h : List Event) → is_completed e.result.answer ≡ true
    → state_left s (e ∷ h) ≡ state_left e.result.state h
state_passes s e h c = ap (λ b. state_left (pick b e.result.state s) h) c

pub ram_passes : (ram : List ℕ) (e : Event) (h : List Event) → is_completed e.result.answer ≡ true
    → ram_left ram (e ∷ h) ≡ ram_left e.result.ram h
ram_passes ram e h c = ap (λ b. ram_left (pick b e.result.ram ram) h) c

module _ (m : Memory) (s : State) where
  -- a run is the run from its beginning, with nothing before it
  pub run_begins : (n : ℕ) → further 0 0 (executed m s n) ≡ executed m s n
  run_begins n = simp zero-add

  -- a run whose first step completes goes on as the run of one step less from there
  pub run_goes_on : (n steps calls : ℕ) → is_completed (step m s).answer ≡ true
      → further steps calls (executed m s (suc n))
      ≡ further (steps + 1) (calls + bit (is_call (step m s).answer))
      (executed (with_ram (step m s).ram m) (step m s).state n)
  run_goes_on n steps calls c =
      let e = event m s in
      let h = onward m s n in
      rw (
        goes_on m s n c,
        completed_passes (step m s).answer (end_of h) c,
        state_passes s e h c,
        ram_passes m.ram e h c,
        c,
      )
      (simp add_assoc)

  -- a run whose first step stops ends so
  pub run_stops : (n steps calls : ℕ) (stop : Stop) → (step m s).answer ≡ Err stop
      → further steps calls (executed m s (suc n)) ≡ ended (Some stop) steps calls s m.ram
  run_stops n steps calls stop e = rw (stops_there m s n (rw e refl), e) (simp add-zero)

  -- a run of 0 steps ends with 0
  pub run_ends : (steps calls : ℕ) → further steps calls (executed m s 0) ≡ ended None steps calls s m.ram
  unfolding history_within
  run_ends steps calls = simp add-zero

-- ---- a run, refused or not

module _ (m : Memory) (s : State) (n : ℕ) where
  pub admitted_ran : admission m s n ≡ Ok tt
      → (run_history m s n ≡ history m s n) × (ran m s n ≡ executed m s n)
  unfolding ran_within admitted_history_within
  admitted_ran a = (rw a refl, rw a refl)

  -- a refused run makes no step, answers its refusal and leaves all as given
  pub refused_ran : (why : Refusal) → admission m s n ≡ Err why
      → (run_history m s n ≡ []) × (ran m s n ≡ record { answer = Err why; state = s; ram = m.ram })
  unfolding ran_within admitted_history_within
  refused_ran why a = (rw a refl, rw a refl)

-- what a run that is not refused is given
pub record Bounds (m : Memory) (fits : Bool) (asked : ℕ) : Type 0 where
  pub whole : m.base + length m.image ≤ address_limit
  pub few : length m.image ≤ image_limit
  pub taken : fits ≡ true
  pub steps : asked ≤ step_limit

pub admitted : (m : Memory) (fits : Bool) (asked : ℕ) → first_refusal (run_tests m fits asked) ≡ Ok tt
    → Bounds m fits asked
admitted m fits asked e =
    let held = shown (run_tests m fits asked) e in
    record {
      whole = base_whole m.base (length m.image) held.1.0;
      few = (right_length (length m.image) (length m.image) held.0).few;
      taken = held.1.1.1.0;
      steps = leb-true asked step_limit held.1.1.1.1.0;
    }

-- ---- what a stopped step leaves

module _ (m : Memory) (s : State) where
  -- a run of one step answers as the step ended, and leaves what it left
  pub executed_one : executed m s 1 ≡ one_step (step m s)
  unfolding history_within
  executed_one = by (is_completed (step m s).answer) refl
    where
      stays : (t : StepAnswer) → is_completed t ≡ false → bit (is_call t) ≡ 0
      stays (Ok Completion.Ordinary) c = absurd (completed_stops c)
      stays (Ok Completion.Call) c = absurd (completed_stops c)
      stays (Err stop) c = refl

      by : (b : Bool) → is_completed (step m s).answer ≡ b → executed m s 1 ≡ one_step (step m s)
      by true c = rw (goes_on m s 0 c, c) (simp add-zero)
      by false c =
          rw (stops_there m s 0 c, c, stays (step m s).answer c, (stopped_leaves m s c).0, (stopped_leaves m s c).1)
          (simp add-zero)

-- each stopped step of a history leaves what it began from
pub stops_leave : (n : ℕ) (m : Memory) (s : State)
    → Every (λ e. is_completed e.result.answer ≡ false → (e.result.state ≡ e.state) × (e.result.ram ≡ e.ram))
    (history m s n)
unfolding history_within
stops_leave zero m s = tt
stops_leave (suc n) m s =
    by_first_step m s n (Every _)
    (λ _. (stopped_leaves m s, stops_leave n (with_ram (step m s).ram m) (step m s).state))
    (λ _. (stopped_leaves m s, tt))

-- a history without a completed step leaves state and RAM
pub none_completed : (s : State) (ram : List ℕ) (h : List Event) → completed_steps h ≡ 0
    → (state_left s h ≡ s) × (ram_left ram h ≡ ram)
none_completed s ram [] z = (refl, refl)
none_completed s ram (e ∷ rest) z = by (is_completed e.result.answer) (none_completed s ram rest) z
  where
    by : (b : Bool) → (completed_steps rest ≡ 0 → (state_left s rest ≡ s) × (ram_left ram rest ≡ ram))
        → bit b + completed_steps rest ≡ 0
        → (state_left (pick b e.result.state s) rest ≡ s) × (ram_left (pick b e.result.ram ram) rest ≡ ram)
    by true more z = absurd (omega arith)
    by false more z = more (omega arith)
