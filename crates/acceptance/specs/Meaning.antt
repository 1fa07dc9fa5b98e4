-- What each refusal of the check means, precedence included: the place named breaks that rule, no lower place breaks
-- any, and at that place no rule that is tested before is broken. Nothing here speaks of an order of tests but through
-- these facts.
-- Assumes nothing.
use Rattle.types.specs.declared.code.Undecoded.{Undecoded}
use Rattle.std.specs.Prelude.{◌≡◌, ◌⊎◌, ℕ, ◌+◌, ◌<◌, true, false, List, length, get_or, Ok, Err}
use Rattle.types.specs.declared.code.Instruction.{Instruction}
use Rattle.types.specs.declared.refusals.Refusal.{Refusal}
use Rattle.types.specs.declared.rules.Requirement.{Requirement}
use Rattle.types.specs.declared.rules.Requirements.{Requirements}
use Rattle.acceptance.specs.Image.{is_start, is_formed, length_fits, base_fits, mark_at, reset_fits}
use Rattle.acceptance.specs.Rules.{owed_there, return_fits, instruction_at, StartRules}

-- a requirement is among what is owed
abbrev pub Among : Requirement → Requirements → Type 0
Among w Requirements.Nothing = ⊥
Among w (Requirements.One v) = w ≡ v
Among w (Requirements.Two u v) = (w ≡ u) ⊎ (w ≡ v)

module _ (image marks : List ℕ) (base at : ℕ) where
  -- no start on the later bytes of an instruction
  abbrev pub Clear : Instruction → Type 0
  Clear i = (k : ℕ) → at < k → k < at + i.length → is_start (get_or marks k 0) ≡ false

  -- every required address is a marked start
  abbrev pub AllStarts : Instruction → Type 0
  AllStarts i = (w : Requirement) → Among w (owed_there marks base at i)
      → is_start (mark_at marks base w.address) ≡ true

  -- the refusal at a start
  pub data StartBreaks : Refusal → Type 0 where
    code : instruction_at image marks at ≡ Err Undecoded.NotCarried → StartBreaks Refusal.Code
    cut_off : instruction_at image marks at ≡ Err Undecoded.CutOff → StartBreaks Refusal.CutOff
    overlap : (i : Instruction) → instruction_at image marks at ≡ Ok i
        → (k : ℕ) → at < k → k < at + i.length → is_start (get_or marks k 0) ≡ true → StartBreaks Refusal.Overlap
    return : (i : Instruction) → instruction_at image marks at ≡ Ok i → Clear i
        → return_fits i.entry.flow (get_or marks at 0) ≡ false → StartBreaks Refusal.Return
    flow : (i : Instruction) → instruction_at image marks at ≡ Ok i → Clear i
        → return_fits i.entry.flow (get_or marks at 0) ≡ true
        → (w : Requirement) → Among w (owed_there marks base at i) → is_start (mark_at marks base w.address) ≡ false
        → StartBreaks Refusal.Flow
    widths : (i : Instruction) → instruction_at image marks at ≡ Ok i → Clear i
        → return_fits i.entry.flow (get_or marks at 0) ≡ true → AllStarts i
        → (w : Requirement) → Among w (owed_there marks base at i) → (mark_at marks base w.address ≡ w.mark → ⊥)
        → StartBreaks Refusal.Widths

module _ (image marks : List ℕ) (base reset : ℕ) where
  -- every mark below a place has the form
  abbrev pub FormedBelow : ℕ → Type 0
  FormedBelow end = (k : ℕ) → k < end → is_formed (get_or marks k 0) ≡ true

  -- a refusal and its offset
  pub data Breaks : Refusal → ℕ → Type 0 where
    wrong_length : length_fits (length image) (length marks) ≡ false → Breaks Refusal.Length 0
    wrong_base : length_fits (length image) (length marks) ≡ true → base_fits base (length image) ≡ false
        → Breaks Refusal.Base 0
    wrong_mark : length_fits (length image) (length marks) ≡ true → base_fits base (length image) ≡ true
        → (at : ℕ) → at < length marks → is_formed (get_or marks at 0) ≡ false → FormedBelow at → Breaks Refusal.Mark at
    wrong_reset : length_fits (length image) (length marks) ≡ true → base_fits base (length image) ≡ true
        → FormedBelow (length marks) → reset_fits marks base reset ≡ false → Breaks Refusal.Reset 0
    wrong_start : length_fits (length image) (length marks) ≡ true → base_fits base (length image) ≡ true
        → FormedBelow (length marks) → reset_fits marks base reset ≡ true
        → (at : ℕ) (why : Refusal) → at < length marks → is_start (get_or marks at 0) ≡ true
        → StartBreaks image marks base at why
        → ((k : ℕ) → k < at → is_start (get_or marks k 0) ≡ true → StartRules image marks base k) → Breaks why at
