-- 02, R-4: on which grounds a list of addresses is refused. Nothing here says how a ground is tested.
-- Assumes nothing.
use Rattle.std.specs.Prelude.{List, [], ◌∷◌, ◌⊎◌, ℕ, suc, ◌≤◌, ◌<◌, ◌+◌, length, get_or, Ok}
use Rattle.types.specs.declared.refusals.Refusal.{Refusal}
use Rattle.types.specs.Answers.{refused_at}
use Rattle.reports.specs.Locate.{address_count, pass_over, located}
use Rattle.acceptance.specs.Grounds.{Grounds, AnswersBy}
use Rattle.lists.specs.ListGrounds.{WrongPage}
use Rattle.acceptance.specs.Rules.{Accepts}

-- ---- the grounds

-- 16: 'the list is too long, unordered, or holds an address outside the image'
abbrev pub Unordered : List ℕ → Type 0
Unordered addresses =
    (k : ℕ) × (suc k < length addresses) × (get_or addresses (suc k) 0 ≤ get_or addresses k 0)

abbrev pub HoldsOutside : ℕ → ℕ → List ℕ → Type 0
HoldsOutside base size addresses =
    (k : ℕ) × (k < length addresses) × ((get_or addresses k 0 < base) ⊎ (base + size ≤ get_or addresses k 0))

abbrev pub WrongAddresses : ℕ → ℕ → List ℕ → Type 0
WrongAddresses base size addresses =
    (address_count < length addresses) ⊎ Unordered addresses ⊎ HoldsOutside base size addresses

-- ---- addresses of an accepted image

-- 16, 'tested after the check's own refusals', then 15
abbrev pub locate_grounds : ℕ → ℕ → List ℕ → ℕ → Grounds
locate_grounds base size addresses room =
    (WrongAddresses base size addresses, Refusal.Addresses)
    ∷ (WrongPage room (length addresses), Refusal.Page)
    ∷ []

abbrev pub LocateAnswers : Type 0
LocateAnswers =
    (image marks : List ℕ) (base reset : ℕ) (addresses places : List ℕ) → Accepts image marks base reset
    → AnswersBy (locate_grounds base (length image) addresses (length places)) (λ why. refused_at why 0)
    (Ok (pass_over image marks base addresses).read)
    (located image marks base reset addresses places)
