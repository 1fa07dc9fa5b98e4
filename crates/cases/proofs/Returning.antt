-- Histories by their steps: one whose first step is known; and one of a step that completes and leaves state and RAM as
-- they were. Such a step is followed by itself: by induction a history of n such steps is its one event n times, and
-- what such a list comes to, again by induction, is the start.
-- Assumes nothing.
use Rattle.types.specs.declared.machine.Completion.{Completion}
use Rattle.std.specs.Prelude.{Ok, None}
use mathlib.Core.Path.{◌≡◌, refl, ap, ◌∙◌}
use mathlib.Core.Bool.{true, false}
use mathlib.Core.List.{List, [], ◌∷◌}
use Prim.Native.Nat.{ℕ, zero, suc, ◌≤◌}
use native.Mathlib.Omega.{arith}
use lib.ListN.{replicate}
use Rattle.types.specs.declared.machine.State.{State}
use Rattle.types.specs.Answers.{ended_by}
use Rattle.semantics.specs.Memory.{Memory}
use Rattle.semantics.specs.Step.{Stepped, stepped, step}
use Rattle.types.specs.Runs.{step_limit}
use Rattle.semantics.specs.Step.{is_completed}
use Rattle.execution.specs.Run.{Event, with_ram, history, completed_steps, calls_among, end_of, state_left, ram_left}
use Rattle.execution.specs.Run.{admission, ran, history_within}
use Rattle.prelude.specs.Lists.{Every}
use Rattle.execution.proofs.Run.{goes_on, stops_there, admitted_ran}
use Rattle.cases.specs.Rows.{Returns}

-- ---- a history whose first step is known

-- the event of a step from a RAM and a state
abbrev pub known : Memory → State → Stepped → Event
known m s r = record { ram = m.ram; state = s; result = r }

module _ (m : Memory) (s : State) (n : ℕ) (r : Stepped) (is : step m s ≡ r) where
  pub goes_by : is_completed r.answer ≡ true
      → (rest : List Event) → history (with_ram r.ram m) r.state n ≡ rest
      → history m s (suc n) ≡ known m s r ∷ rest
  goes_by c rest more =
      goes_on m s n (rw is c) ∙ ap (λ r. known m s r ∷ history (with_ram r.ram m) r.state n) is
      ∙ ap (λ h. known m s r ∷ h) more

  pub stops_by : is_completed r.answer ≡ false → history m s (suc n) ≡ known m s r ∷ []
  stops_by c = stops_there m s n (rw is c) ∙ ap (λ r. known m s r ∷ []) is

-- ---- a step that changes nothing

module _ (m : Memory) (s : State) where
  -- the event of such a step
  abbrev still : Event
  still = known m s (stepped (Ok Completion.Ordinary) s m.ram)

  begins : (n : ℕ) → Every (λ e. (e.state ≡ s) × (e.ram ≡ m.ram)) (replicate n still)
  begins zero = tt
  begins (suc n) = ((refl, refl), begins n)

  ends : (n : ℕ) → end_of (replicate n still) ≡ None
  ends zero = refl
  ends (suc n) = ends n

  completes : (n : ℕ) → completed_steps (replicate n still) ≡ n
  completes zero = refl
  completes (suc n) = omega (arith, completes n)

  calls_none : (n : ℕ) → calls_among (replicate n still) ≡ 0
  calls_none zero = refl
  calls_none (suc n) = omega (arith, calls_none n)

  state_back : (n : ℕ) → state_left s (replicate n still) ≡ s
  state_back zero = refl
  state_back (suc n) = state_back n

  ram_back : (n : ℕ) → ram_left m.ram (replicate n still) ≡ m.ram
  ram_back zero = refl
  ram_back (suc n) = ram_back n

  module _ (same : step m s ≡ stepped (Ok Completion.Ordinary) s m.ram) where
    repeated : (n : ℕ) → history m s n ≡ replicate n still
    unfolding history_within
    repeated zero = refl
    repeated (suc n) =
        goes_by m s n (stepped (Ok Completion.Ordinary) s m.ram) same refl (replicate n still) (repeated n)

    -- a run that is not refused
    run_back : (n : ℕ) → admission m s n ≡ Ok tt
        → ran m s n ≡ record { answer = ended_by None n 0; state = s; ram = m.ram }
    run_back n a =
        (admitted_ran m s n a).1 ∙ rw (repeated n, ends n, completes n, calls_none n, state_back n, ram_back n) refl

    pub returning : ((n : ℕ) → n ≤ step_limit → admission m s n ≡ Ok tt) → (n : ℕ) → Returns m s n
    returning admitted n = record {
      begins = rw (repeated n) (begins n);
      end = rw (repeated n) (ends n);
      completed = rw (repeated n) (completes n);
      calls = rw (repeated n) (calls_none n);
      state = rw (repeated n) (state_back n);
      ram = rw (repeated n) (ram_back n);
      run = λ h. run_back n (admitted n h);
    }
