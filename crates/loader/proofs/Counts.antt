use Rattle.types.specs.declared.machine.Completion.{Completion}
use Rattle.std.specs.Prelude.{Ok, Err}
use mathlib.Core.List.{List, [], ◌∷◌}
use mathlib.Core.Bool.{Bool, true, false}
use mathlib.Core.Path.{◌≡◌, refl}
use Prim.Native.Nat.{◌≤◌, ℕ, zero, suc}
use native.Mathlib.Omega.{arith}
use Rattle.types.specs.Answers.{StepAnswer, TestResult}
use Rattle.types.specs.declared.machine.State.{State}
use Rattle.prelude.specs.Choice.{bit}
use Rattle.semantics.specs.Step.{is_completed, is_call, step}
use Rattle.execution.specs.Run.{Event, completed_steps, calls_among, with_ram, history, history_within, run_tests}
use Rattle.semantics.specs.Memory.{Memory}
use Rattle.types.specs.Refusals.{first_refusal}
use Rattle.execution.specs.RunBytes.{bytes_fit, ran_bytes_by, ran_bytes}
use Rattle.execution.specs.StateBytes.{state_of}
use Rattle.packing.specs.Packed.{RunFits}
use Rattle.execution.proofs.Run.{by_first_step, admitted}

one_call : (a : StepAnswer) → bit (is_call a) ≤ bit (is_completed a)
one_call (Ok Completion.Ordinary) = omega arith
one_call (Ok Completion.Call) = omega arith
one_call (Err stop) = omega arith

calls_few : (h : List Event) → calls_among h ≤ completed_steps h
calls_few [] = omega arith
calls_few (e ∷ rest) = omega (arith, one_call e.result.answer, calls_few rest)

one_step_at_most : (b : Bool) → bit b ≤ 1
one_step_at_most true = omega arith
one_step_at_most false = omega arith

steps_few : (m : Memory) (s : State) (n : ℕ) → completed_steps (history m s n) ≤ n
unfolding history_within
steps_few m s zero = omega arith
steps_few m s (suc n) =
    by_first_step m s n (λ h. completed_steps h ≤ suc n)
    (λ _. omega (arith, first, steps_few (with_ram (step m s).ram m) (step m s).state n)) (λ _. omega (arith, first))
  where
    first : bit (is_completed (step m s).answer) ≤ 1
    first = one_step_at_most (is_completed (step m s).answer)

pub run_fits : (m : Memory) (bytes : List ℕ) (asked : ℕ) → RunFits (ran_bytes m bytes asked).answer
unfolding ran_bytes
run_fits m bytes asked = by (first_refusal (run_tests m (bytes_fit bytes) asked)) refl
  where
    by : (a : TestResult) → first_refusal (run_tests m (bytes_fit bytes) asked) ≡ a
        → RunFits (ran_bytes_by a m bytes asked).answer
    by (Ok _) e =
        let most = (admitted m (bytes_fit bytes) asked e).steps in
        let h = history m (state_of bytes) asked in
        let steps = steps_few m (state_of bytes) asked in
        (omega (arith, most, steps), omega (arith, most, steps, calls_few h))
    by (Err why) e = tt
