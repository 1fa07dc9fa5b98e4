-- 01, 'Numbers': on which grounds a run is refused. Nothing here says how a ground is tested.
-- Assumes nothing.
use Rattle.std.specs.Prelude.{◌≡◌, ◌⊎◌, List, [], ◌∷◌, ℕ, ◌<◌, ◌≤◌, ◌^◌, get_or, length, Err}
use Rattle.types.specs.declared.machine.State.{State}
use Rattle.types.specs.declared.refusals.Refusal.{Refusal}
use Rattle.execution.specs.Run.{ram_limit, executed, ran}
use Rattle.types.specs.Addresses.{address_limit}
use Rattle.semantics.specs.Step.{return_of, kind_of, call_limit}
use Rattle.semantics.specs.StatusBits.{ps}
use Rattle.execution.specs.StateBytes.{state_size, state_of}
use Rattle.types.specs.Runs.{step_limit}
use Rattle.acceptance.specs.Grounds.{Grounds, WrongSize, WrongBase, AnswersBy}
use Rattle.semantics.specs.Memory.{Memory}
use Rattle.execution.specs.RunBytes.{ran_bytes}

-- ---- the grounds

-- 11: 'empty, over 4,096, or with more bytes than the base's number (equal is allowed)'
abbrev pub WrongRam : ℕ → ℕ → Type 0
WrongRam ram base = (ram ≡ 0) ⊎ (ram_limit < ram) ⊎ (base < ram)

-- 12: 'PS bits 11 to 15 set, over 64 open calls, or among them a kind other than 1 or 2 or an address above FFFFFF';
-- 02's R-5 has 24 for 64
abbrev pub WrongCall : ℕ → Type 0
WrongCall entry = ((kind_of entry ≡ 1 → ⊥) × (kind_of entry ≡ 2 → ⊥)) ⊎ (address_limit ≤ return_of entry)

abbrev pub WrongState : State → Type 0
WrongState s =
    (2 ^ 11 ≤ ps s)
    ⊎ (call_limit < s.core.depth)
    ⊎ ((k : ℕ) × (k < s.core.depth) × WrongCall (get_or s.calls k 0))

-- 12, of a state that is given as bytes: not so many bytes, or a state that is wrong
abbrev pub WrongBytes : List ℕ → Type 0
WrongBytes bytes = (length bytes ≡ state_size → ⊥) ⊎ WrongState (state_of bytes)

-- 13: 'over 1,000,000'
abbrev pub WrongSteps : ℕ → Type 0
WrongSteps asked = step_limit < asked

-- ---- a run

-- 'Run: 1, 2, 11, 12, 13.' What is wrong with the state is given.
abbrev pub run_grounds : Memory → Type 0 → ℕ → Grounds
run_grounds m Wrong asked =
    (WrongSize (length m.image), Refusal.Length)
    ∷ (WrongBase m.base (length m.image), Refusal.Base)
    ∷ (WrongRam (length m.ram) m.base, Refusal.Ram)
    ∷ (Wrong, Refusal.State)
    ∷ (WrongSteps asked, Refusal.Steps)
    ∷ []

abbrev pub RunAnswers : Type 0
RunAnswers =
    (m : Memory) (s : State) (asked : ℕ)
    → AnswersBy (run_grounds m (WrongState s) asked) Err (executed m s asked).answer
    (ran m s asked).answer

-- the same of a state that is given as bytes
abbrev pub RunBytesAnswers : Type 0
RunBytesAnswers =
    (m : Memory) (bytes : List ℕ) (asked : ℕ)
    → AnswersBy (run_grounds m (WrongBytes bytes) asked) Err (executed m (state_of bytes) asked).answer
    (ran_bytes m bytes asked).answer
