-- Every verdict fits its packing, and what a packed refusal shows.
-- Assumes nothing.
use Rattle.std.specs.Prelude.{Ok, Err}
use Rattle.std.proofs.Common.{◌≡◌, ℕ, ◌+◌, ◌*◌, List, refl, ap, ◌∙◌}
use Rattle.types.specs.Answers.{Verdict, refused_at}
use Rattle.types.specs.declared.refusals.Refusal.{Refusal}
use Rattle.acceptance.specs.Verdict.{verdict}
use Rattle.packing.specs.Packed.{Fits, packed_verdict, passed_result}
use Rattle.types.specs.Refusals.{refusal_number}
use Rattle.acceptance.proofs.Meaning.{refused_small}
use Rattle.packing.proofs.Unpacked.{passed_on}

pub verdict_fits : (image marks : List ℕ) (base reset : ℕ) → Fits (verdict image marks base reset)
verdict_fits image marks base reset = by (verdict image marks base reset) refl
  where
    by : (v : Verdict) → verdict image marks base reset ≡ v → Fits v
    by (Ok _) e = tt
    by (Err r) e = refused_small image marks base reset r.offset r.why e

-- what a function that passes a refusal of the check on may use: which it is, and what is packed
pub when_refused : {P : Type 0} (image marks : List ℕ) (base reset result : ℕ)
    → result ≡ packed_verdict (verdict image marks base reset) → (result ≡ 0 → ⊥)
    → ((why : Refusal) (at : ℕ) → verdict image marks base reset ≡ refused_at why at
    → passed_result result ≡ refusal_number why + at * 256 → P)
    → P
when_refused {P} image marks base reset result told some shows =
    by (verdict image marks base reset) refl (verdict_fits image marks base reset)
  where
    by : (v : Verdict) → verdict image marks base reset ≡ v → Fits v → P
    by (Ok _) e fits = absurd (some (told ∙ ap packed_verdict e))
    by (Err r) e fits =
        shows r.why r.offset e (ap passed_result (told ∙ ap packed_verdict e) ∙ passed_on r.why r.offset fits)
