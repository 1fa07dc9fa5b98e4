-- A run is what is left of it at each step: a step that completes is one less to do, a step that stops ends it and
-- leaves registers, open calls and RAM as they were.
-- Assumes nothing.
use Rattle.types.specs.declared.machine.Completion.{Completion}
use Rattle.std.specs.Prelude.{Ok, Err, Some, None}
use mathlib.Core.Path.{◌≡◌, refl, sym, ap, ap₂, ◌∙◌}
use mathlib.Core.Bool.{Bool, true, false}
use mathlib.Core.List.{List}
use Prim.Native.Nat.{ℕ, suc, ◌+◌, ◌-◌, ◌/◌, ◌%◌, ◌≤◌, ◌<◌}
use native.Mathlib.Omega.{arith}
use Rattle.types.specs.declared.machine.Stop.{Stop}
use Rattle.types.specs.declared.machine.Core.{Core}
use Rattle.types.specs.declared.machine.State.{State}
use Rattle.types.specs.Addresses.{bank_size}
use Rattle.semantics.specs.Memory.{Memory, memory}
use Rattle.prelude.specs.Choice.{bit}
use Rattle.semantics.specs.Step.{call_limit, step, is_completed, is_call}
use Rattle.execution.specs.Run.{Ran, executed}
use Rattle.execution.proofs.Run.{further}
use Rattle.semantics.proofs.Step.{stopped_leaves}
use Rattle.execution.proofs.Run.{run_begins, run_goes_on, run_stops, run_ends}
use Rattle.semantics.proofs.Step.{depth_kept}
use Rattle.cpu.specs.File.{registers_of}
use Rattle.machine.specs.declared.commit.Completed.{Completed}
use Rattle.machine.specs.StepResults.{state, core_at, left}
use Rattle.runs.specs.Courses.{left_by}

-- a core is made of its place, its number of open calls and the file of its registers
pub made_of : (given : Core) (place : ℕ) (file : List ℕ) → registers_of file ≡ given.registers
    → place % bank_size ≡ given.pc → place / bank_size % 256 ≡ given.pg → core_at place given.depth file ≡ given
made_of given place file e e' e'' =
    ap (λ r. record { registers = r; pc = place % bank_size; pg = place / bank_size % 256; depth = given.depth }) e
    ∙ ap₂ (λ pc pg. record { registers = given.registers; pc = pc; pg = pg; depth = given.depth }) e' e''

completed : (how : Completion) → is_completed (Ok how) ≡ true
completed Completion.Ordinary = refl
completed Completion.Call = refl

module _ (image : List ℕ) (base : ℕ) (calls₀ ram₀ : List ℕ) (given : Core) (asked : ℕ) where
  abbrev whole : Ran
  whole = executed (memory ram₀ image base) (state given calls₀) asked

  abbrev rest : Core → List ℕ → List ℕ → ℕ → ℕ → Ran
  rest core calls ram steps made =
      further steps made (executed (memory ram image base) (state core calls) (asked - steps))

  -- where a run stands after so many steps
  pub record RunInvariant (calls ram file : List ℕ) (place depth steps made : ℕ) : Type 0 where
    pub goes : rest (core_at place depth file) calls ram steps made ≡ whole
    pub few : depth ≤ call_limit
    pub counted : made ≤ steps
    pub within : steps ≤ asked

  pub begins : (file : List ℕ) (place : ℕ) → given.depth ≤ call_limit → core_at place given.depth file ≡ given
      → RunInvariant calls₀ ram₀ file place given.depth 0 0
  begins file place h same-core =
      let all : asked - 0 ≡ asked = omega arith in
      record {
        goes =
            ap (λ c. rest c calls₀ ram₀ 0 0) same-core
            ∙ rw all (run_begins (memory ram₀ image base) (state given calls₀) asked);
        few = h;
        counted = omega arith;
        within = omega arith;
      }

  module _ (calls ram file : List ℕ) (place depth steps made : ℕ)
      (g : RunInvariant calls ram file place depth steps made) where
    abbrev m : Memory
    m = memory ram image base

    abbrev s : State
    s = state (core_at place depth file) calls

    pub ends : asked ≤ steps → (all : ℕ) → all ≡ steps → (core : Core) → core ≡ core_at place depth file
        → left_by (record { ended = record { end = None; steps = all; calls = made }; core = core }) calls ram ≡ whole
    ends h all e core e' =
        let none : asked - steps ≡ 0 = omega arith in
        let last = rw none at g.goes in
        rw (e, e') (sym (run_ends m s steps made) ∙ last)

    module _ (more : steps < asked) (calls' ram' file' : List ℕ) where
      one_more : asked - steps ≡ suc (asked - (steps + 1))
      one_more = omega (arith, more)

      pub goes_on : (c : Completed) → left place depth (Ok c) file' calls' ram' ≡ step m s
          → (made' : ℕ) → made' ≡ made + bit (is_call (Ok c.completion))
          → RunInvariant calls' ram' file' c.place c.depth (steps + 1) made'
      goes_on c is-step made' e =
          let answers : (step m s).answer ≡ Ok c.completion = ap (λ t. t.answer) (sym is-step) in
          let law = run_goes_on m s (asked - (steps + 1)) steps made (rw answers (completed c.completion)) in
          let first = rw one_more at g.goes in
          let deep = depth_kept m s g.few in
          record {
            goes = rw e (rw (← is-step) at (sym law ∙ first));
            few = rw (← is-step) at deep;
            counted = rw e (by (is_call (Ok c.completion)));
            within = omega arith;
          }
        where
          by : (b : Bool) → made + bit b ≤ steps + 1
          by true = omega (arith, g.counted)
          by false = omega (arith, g.counted)

      pub stops_so : (stop : Stop) → left place depth (Err stop) file' calls' ram' ≡ step m s
          → (core : Core) → core ≡ core_at place depth file'
          → left_by (record { ended = record { end = Some stop; steps = steps; calls = made }; core = core }) calls'
          ram'
          ≡ whole
      stops_so stop is-step core e =
          let answers : (step m s).answer ≡ Err stop = ap (λ t. t.answer) (sym is-step) in
          let kept = stopped_leaves m s (rw answers refl) in
          let same_state : state (core_at place depth file') calls' ≡ s = ap (λ t. t.state) is-step ∙ kept.0 in
          let same-ram : ram' ≡ ram = ap (λ t. t.ram) is-step ∙ kept.1 in
          let first = rw one_more at g.goes in
          rw (e, same_state, same-ram) (sym (run_stops m s (asked - (steps + 1)) steps made stop answers) ∙ first)
