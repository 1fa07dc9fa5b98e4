-- 01, 'Numbers': what it is to answer 'the first such number', and the grounds of 1 to 4, in the words of the table,
-- 'Given when'. Which grounds a call has, and in which order, stands with the call's definitions. Nothing here says
-- how a ground is tested.
-- Assumes nothing.
use Rattle.std.specs.Prelude.{◌≡◌, ◌↔◌, ◌⊎◌, ℕ, ◌+◌, ◌^◌, ◌≤◌, ◌<◌, true, false, List, [], ◌∷◌, eqb, length, get_or}
use Rattle.types.specs.declared.refusals.Refusal.{Refusal}
use Rattle.types.specs.Refusals.{refusal_number}
use Rattle.types.specs.Addresses.{address_limit, image_limit}
use Rattle.acceptance.specs.Image.{is_start, mark_m, mark_x, mark_kind, return_m, return_x, mark_at}

-- ---- the first ground that holds

-- grounds in their order, each with what it refuses by
abbrev pub Grounds : Type 1
Grounds = List (Type 0 × Refusal)

-- the ground of a refusal holds, and none before it: of 12 in a run, those of 1, 2 and 11 don't hold and 12's does
abbrev pub FirstGround : Grounds → Refusal → Type 0
FirstGround [] why = ⊥
FirstGround (first ∷ rest) why =
    elim (eqb (refusal_number first.1) (refusal_number why))
    [ true ↦ first.0 | false ↦ (first.0 → ⊥) × FirstGround rest why ]

-- no ground holds
abbrev pub NoGround : Grounds → Type 0
NoGround [] = Unit {0}
NoGround (first ∷ rest) = (first.0 → ⊥) × NoGround rest

-- An answer is `done` or a refusal: the refusal of the first ground that holds, and `done` exactly where none holds.
pub record AnswersBy {A : Type 0} (grounds : Grounds) (refused : Refusal → A) (done answer : A) : Type 0 where
  pub one_of : (answer ≡ done) ⊎ ((why : Refusal) × (answer ≡ refused why))
  pub by_first : (why : Refusal) → (answer ≡ refused why) ↔ FirstGround grounds why
  pub by_none : (answer ≡ done) ↔ NoGround grounds

-- ---- the grounds

-- 1: 'image empty or over 16,384', by R-7 65,536
abbrev pub WrongSize : ℕ → Type 0
WrongSize image = (image ≡ 0) ⊎ (image_limit < image)

-- '.. marks (where taken) of another length'
abbrev pub WrongLength : ℕ → ℕ → Type 0
WrongLength image marks = WrongSize image ⊎ (marks ≡ image → ⊥)

-- 2: 'above FFFFFF', or, by R-7, an image that does not end 'at or below FFFFFF'
abbrev pub WrongBase : ℕ → ℕ → Type 0
WrongBase base image = (address_limit ≤ base) ⊎ (address_limit < base + image)

-- 3: 'reset address lacks the required start'. 'At the reset address stands a start with m=0, x=0, return kind 0.'
abbrev pub IsResetStart : ℕ → Type 0
IsResetStart mark = (is_start mark ≡ true) × (mark_m mark ≡ 0) × (mark_x mark ≡ 0) × (mark_kind mark ≡ 0)

abbrev pub WrongReset : List ℕ → ℕ → ℕ → Type 0
WrongReset marks base reset = IsResetStart (mark_at marks base reset) → ⊥

-- 4: 'a mark not of the form above'. Of the kinds '3 is unused. .. Bit 7 is 0. A byte without a start has mark 00, and
-- return kind 0 has bits 5 and 6 clear.'
pub record IsMark (mark : ℕ) : Type 0 where
  pub kind_used : mark_kind mark ≡ 3 → ⊥
  pub bit_7_clear : mark < 2 ^ 7
  pub no_start : is_start mark ≡ false → mark ≡ 0
  pub no_return : mark_kind mark ≡ 0 → (return_m mark ≡ 0) × (return_x mark ≡ 0)

abbrev pub WrongMark : List ℕ → Type 0
WrongMark marks = (at : ℕ) × (at < length marks) × (IsMark (get_or marks at 0) → ⊥)
