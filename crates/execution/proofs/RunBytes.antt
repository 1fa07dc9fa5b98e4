-- A run of a state given as bytes is the run of the state that they say: its answer, and the bytes of what it leaves.
-- Assumes nothing.
use Rattle.std.specs.Prelude.{Ok, Err}
use mathlib.Core.Path.{◌≡◌, refl, sym, ap, ◌∙◌}
use mathlib.Core.Bool.{false}
use mathlib.Core.List.{List}
use Prim.Native.Nat.{ℕ}
use native.Mathlib.Omega.{arith}
use lib.Dec.{eqb}
use lib.ListN.{length}
use borrow.Author.Tests.{eq-eqb, ne_eqb, eqb-true}
use Rattle.types.specs.declared.refusals.Refusal.{Refusal}
use Rattle.types.specs.Answers.{TestResult, ended_by, End}
use Rattle.types.specs.Refusals.{first_refusal}
use Rattle.semantics.specs.Memory.{Memory}
use Rattle.execution.specs.Run.{history, completed_steps, calls_among, end_of, state_fits, run_tests, admission}
use Rattle.execution.specs.Run.{run_history, executed, ran}
use Rattle.execution.specs.StateBytes.{state_size, state_of, state_bytes}
use Rattle.execution.specs.RunBytes.{bytes_fit, as_bytes, ran_bytes_by, ran_bytes}
use Rattle.prelude.specs.Bytes.{AllBytes}
use Rattle.prelude.proofs.Choice.{both_true}
use Rattle.execution.proofs.Run.{admitted_ran, refused_ran, admitted, none_completed}
use Rattle.execution.proofs.StateBytes.{state_bytes_lem, bytes_state, bytes_length}
use Rattle.execution.proofs.Keeps.{InBytes, run_keeps, given_keeps}
use Rattle.types.proofs.TestResults.{same_ended}

module _ (m : Memory) (bytes : List ℕ) (asked : ℕ) where
  same_admission : length bytes ≡ state_size
      → first_refusal (run_tests m (bytes_fit bytes) asked) ≡ admission m (state_of bytes) asked
  same_admission long = rw (eq-eqb (length bytes) state_size long) refl

  module _ (long : length bytes ≡ state_size) (small : AllBytes bytes) where
    pub bytes_ran : ran_bytes m bytes asked ≡ as_bytes (ran m (state_of bytes) asked)
    unfolding ran_bytes
    bytes_ran = rw (same_admission long) (by (admission m (state_of bytes) asked) refl)
      where
        by : (a : TestResult) → admission m (state_of bytes) asked ≡ a
            → ran_bytes_by a m bytes asked ≡ as_bytes (ran m (state_of bytes) asked)
        by (Ok _) e = ap as_bytes (sym (admitted_ran m (state_of bytes) asked e).1)
        by (Err why) e =
            rw (refused_ran m (state_of bytes) asked why e).1
            (λ j. record { answer = Err why; state = sym (bytes_state bytes long small) j; ram = m.ram })

    -- what the bytes of a run say is what the run of the state that they say comes to
    module _ (in_image : AllBytes m.image) (ram_bytes : AllBytes m.ram) where
      keeps : InBytes (ran m (state_of bytes) asked).state (ran m (state_of bytes) asked).ram
      keeps = run_keeps m (state_of bytes) asked in_image (given_keeps bytes small, ram_bytes)

      pub said_left : state_of (ran_bytes m bytes asked).state ≡ (ran m (state_of bytes) asked).state
      said_left = rw bytes_ran (state_bytes_lem (ran m (state_of bytes) asked).state keeps.0)

      pub long_left : length (ran_bytes m bytes asked).state ≡ state_size
      long_left = rw bytes_ran (bytes_length (ran m (state_of bytes) asked).state keeps.0.calls)

  -- bytes of another length are refused as a state is that no run takes
  pub bytes_refused : (length bytes ≡ state_size → ⊥)
      → ran_bytes m bytes asked ≡ ran_bytes_by (first_refusal (run_tests m false asked)) m bytes asked
  unfolding ran_bytes
  bytes_refused other = rw (ne_eqb (length bytes) state_size other) refl

  -- ---- a run of bytes that is not refused is the run of the state that they say

  pub record Taken : Type 0 where
    pub long : length bytes ≡ state_size
    pub history_is : run_history m (state_of bytes) asked ≡ history m (state_of bytes) asked
    pub ran_is : ran_bytes m bytes asked ≡ as_bytes (executed m (state_of bytes) asked)

  pub taken : (end : End) (steps calls : ℕ) → (ran_bytes m bytes asked).answer ≡ ended_by end steps calls → Taken
  unfolding ran_bytes
  taken end steps calls = by (first_refusal (run_tests m (bytes_fit bytes) asked)) refl
    where
      by : (a : TestResult) → first_refusal (run_tests m (bytes_fit bytes) asked) ≡ a
          → (ran_bytes_by a m bytes asked).answer ≡ ended_by end steps calls → Taken
      by (Ok _) e told =
          let fits = both_true (eqb (length bytes) state_size) (state_fits (state_of bytes))
          (admitted m (bytes_fit bytes) asked e).taken in
          let long = eqb-true (length bytes) state_size fits.0 in
          record {
            long = long;
            history_is = (admitted_ran m (state_of bytes) asked (sym (same_admission long) ∙ e)).0;
            ran_is = rw e refl;
          }
      by (Err why) e told = let z : ◌≡◌ {A = ℕ} 0 1 = cc in absurd (omega arith)

  -- ---- 'A refusal leaves every buffer and the state as given', and so does a run that completes no step

  pub refused_leaves : (why : Refusal) → (ran_bytes m bytes asked).answer ≡ Err why
      → ((ran_bytes m bytes asked).state ≡ bytes) × ((ran_bytes m bytes asked).ram ≡ m.ram)
  unfolding ran_bytes
  refused_leaves why = by (first_refusal (run_tests m (bytes_fit bytes) asked))
    where
      by : (a : TestResult) → (ran_bytes_by a m bytes asked).answer ≡ Err why
          → ((ran_bytes_by a m bytes asked).state ≡ bytes) × ((ran_bytes_by a m bytes asked).ram ≡ m.ram)
      by (Ok _) e = let z : ◌≡◌ {A = ℕ} 0 1 = cc in absurd (omega arith)
      by (Err other) e = (refl, refl)

  pub none_leaves : AllBytes bytes → (end : End) (calls : ℕ)
      → (ran_bytes m bytes asked).answer ≡ ended_by end 0 calls
      → ((ran_bytes m bytes asked).state ≡ bytes) × ((ran_bytes m bytes asked).ram ≡ m.ram)
  none_leaves small end calls told =
      let t = taken end 0 calls told in
      let same = t.ran_is in
      let h = history m (state_of bytes) asked in
      let none : ended_by (end_of h) (completed_steps h) (calls_among h) ≡ ended_by end 0 calls =
      sym (ap (λ r. r.answer) same) ∙ told in
      let left = none_completed (state_of bytes) m.ram h (same_ended none).1 in (
        ap (λ r. r.state) same ∙ ap state_bytes left.0 ∙ bytes_state bytes t.long small,
        ap (λ r. r.ram) same ∙ left.1,
      )
