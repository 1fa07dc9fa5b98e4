-- What a run that is taken up may count on, and that what is left of it as bytes is the definition's.
-- Assumes nothing.
use Rattle.std.specs.Prelude.{Ok, Err}
use mathlib.Core.Path.{◌≡◌, refl}
use mathlib.Core.Bool.{Bool, true, ◌&&◌}
use mathlib.Core.List.{List}
use Prim.Native.Nat.{ℕ, ◌≤◌}
use lib.Dec.{eqb, ltb, leb}
use lib.ListN.{length}
use borrow.Author.Tests.{leb-true, eqb-true}
use Rattle.types.specs.declared.machine.Core.{Core}
use Rattle.types.specs.declared.refusals.Refusal.{Refusal}
use Rattle.types.specs.Answers.{TestResult}
use Rattle.types.specs.Refusals.{first_refusal}
use Rattle.semantics.specs.Memory.{Memory}
use Rattle.semantics.specs.Step.{call_limit}
use Rattle.execution.specs.Run.{level_limit, calls_fit, state_fits, run_tests, Ran, executed, state_fits_within}
use Rattle.execution.specs.RunBytes.{bytes_fit, as_bytes, ran_bytes}
use Rattle.execution.specs.StateBytes.{state_size, state_of}
use Rattle.prelude.proofs.Choice.{both_true}
use Rattle.machine.specs.StepResults.{state}

-- a state that a run takes
module _ (bytes : ℕ) (c : Core) (calls : List ℕ) (taken : (eqb bytes state_size && state_fits (state c calls)) ≡ true)
  where
    pub long : bytes ≡ state_size
    long = eqb-true bytes state_size (both_true (eqb bytes state_size) (state_fits (state c calls)) taken).0

    pub shallow : c.depth ≤ call_limit
    unfolding state_fits_within
    shallow =
        let fits = (both_true (eqb bytes state_size) (state_fits (state c calls)) taken).1 in
        let level = ltb c.registers.status.level level_limit in
        let most = (both_true (level && leb c.depth call_limit) (calls_fit calls c.depth) fits).0 in
        leb-true c.depth call_limit (both_true level (leb c.depth call_limit) most).1

module _ (m : Memory) (bytes : List ℕ) (asked : ℕ) (c : Core) (calls : List ℕ) (is-core : c ≡ (state_of bytes).core)
    (is-calls : calls ≡ (state_of bytes).calls) (taken : Bool)
    (is-taken : taken ≡ (eqb (length bytes) state_size && state_fits (state c calls)))
    (a : TestResult) (is-admission : a ≡ first_refusal (run_tests m taken asked)) where
  same_state : state c calls ≡ state_of bytes
  same_state = λ j. record { core = is-core j; calls = is-calls j }

  same_fits : taken ≡ bytes_fit bytes
  same_fits = rw (← same_state) is-taken

  pub run_refused : (why : Refusal) → a ≡ Err why
      → ran_bytes m bytes asked ≡ record { answer = Err why; state = bytes; ram = m.ram }
  unfolding ran_bytes
  run_refused why e = rw (← same_fits, ← is-admission, e) refl

  pub run_taken : a ≡ Ok tt → (r : Ran) → r ≡ executed m (state c calls) asked
      → ran_bytes m bytes asked ≡ as_bytes r
  unfolding ran_bytes
  run_taken e r is-run = rw (← same_fits, ← is-admission, e, is-run, same_state) refl
