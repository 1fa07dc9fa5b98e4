-- A run refuses by the first ground that holds: each of its tests is turned into its ground, and the law of
-- FirstGround.antt does the rest.
-- Assumes nothing.
use Rattle.std.specs.Prelude.{Ok, Err}
use mathlib.Core.Bool.{◌||◌, Bool}
use mathlib.Core.Path.{◌≡◌, ap, refl, ◌∙◌}
use mathlib.Core.List.{List}
use Prim.Native.Nat.{ℕ, ◌/◌, ◌^◌, ◌≤◌}
use native.Mathlib.Omega.{arith}
use lib.Dec.{ltb, leb, eqb}
use lib.ListN.{get_or, length}
use Rattle.types.specs.declared.machine.Status.{Status}
use Rattle.types.specs.declared.machine.State.{State}
use Rattle.types.specs.Answers.{TestResult}
use Rattle.execution.specs.Run.{ram_limit, ram_fits, call_fits, level_limit, calls_fit, state_fits, state_fits_within}
use Rattle.execution.specs.Run.{run_tests, executed, admission, ran}
use Rattle.execution.specs.RunGrounds.{WrongRam, WrongCall, WrongState, WrongBytes, run_grounds, RunAnswers}
use Rattle.execution.specs.RunGrounds.{RunBytesAnswers}
use Rattle.types.specs.Addresses.{address_limit}
use Rattle.semantics.specs.Step.{return_of, kind_of, call_limit}
use Rattle.types.specs.Status.{level_unit, number_of}
use Rattle.execution.specs.StateBytes.{state_size, state_of}
use Rattle.execution.specs.RunBytes.{bytes_fit, ran_bytes_by, ran_bytes}
use Rattle.semantics.specs.Memory.{Memory}
use Rattle.types.specs.Runs.{step_limit}
use Rattle.types.specs.Refusals.{answered, first_refusal}
use Rattle.acceptance.proofs.Grounds.{FailsOn, of_three, none, above, either, both, not_below, another, somewhere}
use Rattle.acceptance.proofs.Grounds.{wrong_alone, wrong_base}
use Rattle.semantics.proofs.Status.{number_status}
use Rattle.acceptance.proofs.FirstGround.{Decided, Apart, answers_by}
use Rattle.execution.proofs.Run.{admitted_ran, refused_ran}

-- ---- 11 and 12

wrong_ram : (ram base : ℕ) → FailsOn (ram_fits ram base) (WrongRam ram base)
unfolding ram_fits
wrong_ram ram base =
    of_three (ltb 0 ram) (leb ram ram_limit) (leb ram base) (none ram) (above ram ram_limit) (above ram base)

wrong_call : (entry : ℕ) → FailsOn (call_fits entry) (WrongCall entry)
unfolding call_fits
wrong_call entry =
    either (eqb (kind_of entry) 1 || eqb (kind_of entry) 2) (ltb (return_of entry) address_limit)
    (both (eqb (kind_of entry) 1) (eqb (kind_of entry) 2) (another (kind_of entry) 1) (another (kind_of entry) 2))
    (not_below (return_of entry) address_limit)

-- IPL has bits past its three exactly where PS has bits past bit 10
wrong_level : (s : Status) → FailsOn (ltb s.level level_limit) (2 ^ 11 ≤ number_of s)
wrong_level s =
    let level : number_of s / level_unit ≡ s.level = ap (λ t. t.level) (number_status s) in
    let d = not_below s.level level_limit in
    (λ e. omega (arith, d.0 e, level), λ h. d.1 (omega (arith, h, level)))

wrong_state : (s : State) → FailsOn (state_fits s) (WrongState s)
unfolding state_fits_within calls_fit
wrong_state s =
    of_three (ltb s.core.registers.status.level level_limit) (leb s.core.depth call_limit)
    (calls_fit s.calls s.core.depth) (wrong_level s.core.registers.status)
    (above s.core.depth call_limit)
    (somewhere (λ k. call_fits (get_or s.calls k 0)) s.core.depth (λ k. wrong_call (get_or s.calls k 0)))

wrong_bytes : (bytes : List ℕ) → FailsOn (bytes_fit bytes) (WrongBytes bytes)
wrong_bytes bytes =
    either (eqb (length bytes) state_size) (state_fits (state_of bytes)) (another (length bytes) state_size)
    (wrong_state (state_of bytes))

-- ---- the answers

run_decided : {Wrong : Type 0} (m : Memory) (fits : Bool) (asked : ℕ) → FailsOn fits Wrong
    → Decided (run_grounds m Wrong asked) (run_tests m fits asked)
run_decided m fits asked state = (
  wrong_alone (length m.image),
  λ _. (
    wrong_base m.base (length m.image),
    λ _. (wrong_ram (length m.ram) m.base, λ _. (state, λ _. (above asked step_limit, λ _. tt))),
  ),
)

run_apart : (m : Memory) (s : State) (asked : ℕ) → Apart Err (executed m s asked).answer
run_apart m s asked = record {
  one = λ why other e. cc;
  none = λ why e. let z : ◌≡◌ {A = ℕ} 0 1 = cc in absurd (omega arith);
}

-- a run refuses by the first ground of 'Run: 1, 2, 11, 12, 13'
pub run_answers : RunAnswers
run_answers m s asked =
    rw (by (admission m s asked) refl)
    (answers_by Err (executed m s asked).answer (run_apart m s asked) (run_grounds m (WrongState s) asked)
    (run_tests m (state_fits s) asked) refl (run_decided m (state_fits s) asked (wrong_state s)))
  where
    by : (so : TestResult) → admission m s asked ≡ so
        → (ran m s asked).answer ≡ answered (admission m s asked) Err (executed m s asked).answer
    by (Ok _) e = ap (λ r. r.answer) (admitted_ran m s asked e).1 ∙ rw e refl
    by (Err why) e = ap (λ r. r.answer) (refused_ran m s asked why e).1 ∙ rw e refl

pub run_bytes_answers : RunBytesAnswers
unfolding ran_bytes
run_bytes_answers m bytes asked =
    let s = state_of bytes in
    let tests = run_tests m (bytes_fit bytes) asked in
    rw (by (first_refusal tests))
    (answers_by Err (executed m s asked).answer (run_apart m s asked)
    (run_grounds m (WrongBytes bytes) asked) tests refl (run_decided m (bytes_fit bytes) asked (wrong_bytes bytes)))
  where
    by : (so : TestResult)
        → (ran_bytes_by so m bytes asked).answer ≡ answered so Err
        (executed m (state_of bytes) asked).answer
    by (Ok _) = refl
    by (Err why) = refl
