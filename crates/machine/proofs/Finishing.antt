-- What the functions leave makes the definition's step.
-- Assumes nothing.
use Rattle.std.specs.Prelude.{Result, Ok, Err, Option, Some, None}
use Rattle.std.specs.Option.{ok_or}
use mathlib.Core.Path.{◌≡◌, refl, sym, ap, ap₂}
use mathlib.Core.List.{List}
use Prim.Native.Nat.{ℕ, ◌/◌, ◌%◌, ◌<◌}
use native.Mathlib.Omega.{arith}
use Rattle.cpu.specs.File.{registers_of}
use Rattle.types.specs.declared.machine.Completion.{Completion}
use Rattle.types.specs.declared.machine.CallChange.{CallChange}
use Rattle.types.specs.declared.machine.Registers.{Registers}
use Rattle.types.specs.declared.machine.Stop.{Stop}
use Rattle.types.specs.declared.machine.Store.{Store}
use Rattle.types.specs.Addresses.{address_limit, bank_size}
use Rattle.semantics.specs.Memory.{Memory, served, stored}
use Rattle.semantics.specs.Step.{Plan, stops, changes, change, place_of, answer_of, depth_after, calls_after}
use Rattle.semantics.specs.Step.{widths_after}
use Rattle.semantics.specs.Step.{stepped}
use Rattle.machine.specs.declared.fetched.Fetched.{Fetched}
use Rattle.machine.specs.Fetches.{instruction}
use Rattle.machine.specs.StepResults.{StepResult, state, core_at, left, finished}

-- the place of a core is the number that it is made of, as far as addresses go
pub place_kept : (place depth : ℕ) (file : List ℕ) → place < address_limit → place_of (core_at place depth file) ≡ place
place_kept place depth file h = omega arith

pub core_kept : (place depth : ℕ) (file : List ℕ) → core_at (place % address_limit) depth file ≡ core_at place depth
    file
core_kept place depth file =
    ap₂ (λ pc pg. record { registers = registers_of file; pc = pc; pg = pg; depth = depth }) (omega arith) (omega arith)

-- a step that stops leaves the place as it was given, of which 24 bits count
pub left_kept : (place depth : ℕ) (t : StepResult) (file calls ram : List ℕ)
    → left place depth t file calls ram ≡ left (place % address_limit) depth t file calls ram
left_kept place depth (Ok c) file calls ram = refl
left_kept place depth (Err stop) file calls ram =
    ap (λ c. stepped (Err stop) (state c calls) ram) (sym (core_kept place depth file))

-- what could not be read stops by the given stop
pub none_read : {A : Type 0} (o : Option A) (stop wanted : Stop)
    → ◌≡◌ {A = Result A Stop} (Err stop) (ok_or o wanted) → (o ≡ None) × (stop ≡ wanted)
none_read None stop wanted e = (refl, cc)
none_read (Some x) stop wanted e = cc

module _ (i : Fetched) (m : Memory) (place depth : ℕ) (file calls : List ℕ) where
  -- a plan that stops leaves all as it was
  pub stops_so : (stop : Stop) (p : Plan) → stops stop ≡ p
      → left place depth (Err stop) file calls m.ram ≡ finished p i m place depth file calls
  stops_so stop p e = rw (← e) refl

  module _ (after : Registers) (to : ℕ) (opens : CallChange) (stores : List Store) where
    pub stops_at_stores : (stop : Stop) → served m stores ≡ Err stop
        → left place depth (Err stop) file calls m.ram
        ≡ finished (changes (change after to opens stores)) i m place depth file calls
    stops_at_stores stop e = rw e refl

    -- all parts of a change carried out
    pub completes : (how : Completion) (file' calls' ram' : List ℕ) (to' : ℕ) → to' ≡ to → answer_of opens ≡ Ok how
        → served m stores ≡ Ok tt
        → registers_of file' ≡ widths_after (instruction i) (registers_of file) after
        → calls' ≡ calls_after opens depth calls → ram' ≡ stored stores m.ram
        → left place depth (Ok (record { completion = how; place = to'; depth = depth_after opens depth })) file' calls'
        ram'
        ≡ finished (changes (change after to opens stores)) i m place depth file calls
    completes how file' calls' ram' to' is-to so all same e e' =
        rw (is-to, all, e, e', so)
        (ap (λ r. stepped (Ok how) (state (record {
          registers = r;
          pc = to % bank_size;
          pg = to / bank_size % 256;
          depth = depth_after opens depth;
        }) (calls_after opens depth calls)) (stored stores m.ram)) same)
