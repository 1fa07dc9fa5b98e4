-- R-6's claims: the number in a result is that of the answer, of which the theorems of `lists` speak; the marks left
-- are those delivered.
-- Assumes nothing.
use Rattle.std.specs.Prelude.{Ok, Err}
use mathlib.Core.Path.{◌≡◌, refl, sym, ap, ◌∙◌}
use mathlib.Core.Logic.{◌↔◌}
use mathlib.Core.List.{List}
use Prim.Native.Nat.{ℕ, ◌<◌}
use native.Mathlib.Omega.{arith}
use Rattle.packing.specs.Packed.{packed_verdict, packed_built, built_number}
use Rattle.types.specs.declared.refusals.Refusal.{Refusal}
use Rattle.types.specs.Answers.{TestResult}
use Rattle.types.specs.Refusals.{refusal_number}
use Rattle.acceptance.specs.Grounds.{AnswersBy}
use Rattle.lists.specs.ListGrounds.{build_grounds}
use Rattle.lists.specs.Routines.{Least, WithinLimits}
use Rattle.types.proofs.TestResults.{refusal_range, same_refusal}
use Rattle.acceptance.proofs.FirstGround.{numbers_by}
use Rattle.lists.proofs.ListGrounds.{build_answers}
use Rattle.lists.proofs.LeastMarks.{refused_exactly, refused_keeps, delivers_least}
use Rattle.demands.specs.Calls.{holds, CheckCall, BuildCall}
use Rattle.demands.specs.Requests.{routines_of, AdmittedBy, ChecksBuilt, BuildsMarks}
use Rattle.demands.proofs.Calls.{verdict_of, built_of, build_number}

-- an answer by its number
none_refused : (a : TestResult) → packed_built a ≡ 0 → a ≡ Ok tt
none_refused (Ok _) e = refl
none_refused (Err why) e = absurd (omega (arith, e, (refusal_range why).0))

one_refused : (a : TestResult) (why : Refusal) → packed_built a ≡ refusal_number why → a ≡ Err why
one_refused (Ok _) why e = absurd (omega (arith, e, (refusal_range why).0))
one_refused (Err other) why e = ap Err (same_refusal other why e)

module _ (c : BuildCall) where
  abbrev image : List ℕ
  image = holds c.image

  abbrev routines : List ℕ
  routines = holds c.routines

  abbrev marks : List ℕ
  marks = holds c.marks

  refuses : AnswersBy (build_grounds image c.base c.reset routines marks) refusal_number 0 (built_number c.result)
  refuses =
      rw (build_number c)
      (numbers_by packed_built (build_answers image c.base c.reset routines marks) (λ why. refl) refl)

  exactly : WithinLimits image c.base routines marks
      → (built_number c.result ≡ 17) ↔ ((others : List ℕ) → AdmittedBy c others → ⊥)
  exactly within =
      let so = refused_exactly image c.base c.reset routines marks within in (
        λ e. so.0 (one_refused (built_of c) Refusal.Routines (sym (build_number c) ∙ e)),
        λ none. build_number c ∙ ap packed_built (so.1 none),
      )

  refused : 0 < built_number c.result → c.marks_left ≡ marks
  refused some = by (built_of c) refl (build_number c)
    where
      by : (a : TestResult) → built_of c ≡ a → built_number c.result ≡ packed_built a → c.marks_left ≡ marks
      by (Err why) e told =
          c.kept.1 ∙ refused_keeps image c.base c.reset routines marks why e
      by (Ok _) e told = absurd (omega (arith, some, told))

  delivered : built_number c.result ≡ 0 → Least image c.base c.reset (routines_of c) c.marks_left
  delivered zero =
      rw c.kept.1 (delivers_least image c.base c.reset routines marks
      (none_refused (built_of c) (sym (build_number c) ∙ zero)))

checked : (c : BuildCall) (d : CheckCall) → built_number c.result ≡ 0 → ChecksBuilt c d → d.result ≡ 0
checked c d zero same =
    let accepted : verdict_of d ≡ Ok tt =
    rw (same.0, same.1, same.2, same.3) (delivered c zero).admitted.passes in
    d.kept ∙ ap packed_verdict accepted

pub builds_marks : BuildsMarks
builds_marks = record {
  refuses = refuses;
  refused_exactly = exactly;
  refused = refused;
  delivered = delivered;
  checked = checked;
}
