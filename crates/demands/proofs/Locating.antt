-- R-4's claims: the numbers in a result are those of the answer, which goes by the verdict and the tests of the
-- addresses; the places are those of `locates_as_alone`.
-- Assumes nothing.
use Rattle.std.specs.Prelude.{Ok, Err}
use mathlib.Core.Path.{◌≡◌, refl, sym, ap, ◌∙◌}
use mathlib.Core.List.{List, [], ◌∷◌, ◌++◌, map}
use Prim.Native.Nat.{ℕ, ◌+◌, ◌-◌, ◌≤◌, ◌<◌}
use native.Mathlib.Omega.{arith}
use lib.ListN.{length, get_or, drop}
use Rattle.packing.specs.Packed.{verdict_numbers, check_numbers, addresses_located_numbers, located_numbers}
use Rattle.types.specs.Answers.{Verdict, Located}
use Rattle.types.specs.Refusals.{refusal_number}
use Rattle.acceptance.specs.Rules.{Accepts}
use Rattle.acceptance.specs.Grounds.{AnswersBy}
use Rattle.reports.specs.LocateGrounds.{locate_grounds}
use Rattle.reports.specs.Locate.{place_number, place_of, marks_to, places_located}
use Rattle.types.proofs.TestResults.{refusal_range}
use Rattle.acceptance.proofs.FirstGround.{numbers_by}
use Rattle.reports.proofs.LocateGrounds.{locate_answers}
use Rattle.reports.proofs.Locate.{located_refused, refused_leaves, locates_as_alone}
use Rattle.demands.specs.Calls.{holds, listed, CheckCall, LocateCall}
use Rattle.demands.specs.Requests.{ChecksAlike, LocatesAlike, LocatesAddresses}
use Rattle.demands.proofs.Calls.{verdict_of, located_of, numbers_of_check, locate_numbers}

check_first : (c : LocateCall) (d : CheckCall) → ChecksAlike c d → 0 < d.result
    → ((located_numbers c.result).number ≡ (check_numbers d.result).number)
    × ((located_numbers c.result).offset ≡ (check_numbers d.result).offset)
check_first c d same some = by (verdict_of d) refl (numbers_of_check d)
  where
    by : (v : Verdict) → verdict_of d ≡ v → check_numbers d.result ≡ verdict_numbers v
        → ((located_numbers c.result).number ≡ (check_numbers d.result).number)
        × ((located_numbers c.result).offset ≡ (check_numbers d.result).offset)
    by (Ok _) e told = absurd (omega (arith, some, ap (λ n. n.number) told, ap (λ n. n.offset) told))
    by (Err r) e told =
        let refused = located_refused (holds c.image) (holds c.marks) c.base c.reset
        (listed c.addresses) (listed c.places) r.why r.offset (rw (same.0, same.1, same.2, same.3) at e) in
        let answer = locate_numbers c ∙ ap addresses_located_numbers refused in (
          ap (λ n. n.number) answer ∙ sym (ap (λ n. n.number) told),
          ap (λ n. n.offset) answer ∙ sym (ap (λ n. n.offset) told),
        )

module _ (c : LocateCall) where
  abbrev image : List ℕ
  image = holds c.image

  abbrev marks : List ℕ
  marks = holds c.marks

  abbrev addresses : List ℕ
  addresses = listed c.addresses

  abbrev places : List ℕ
  places = listed c.places

  refuses : Accepts image marks c.base c.reset
      → AnswersBy (locate_grounds c.base (length image) addresses (length places)) refusal_number 0
      (located_numbers c.result).number
  refuses rules =
      rw (ap (λ n. n.number) (locate_numbers c))
      (numbers_by (λ a. (addresses_located_numbers a).number)
      (locate_answers image marks c.base c.reset addresses places rules) (λ why. refl) refl)

  refused : 0 < (located_numbers c.result).number
      → (c.places_left ≡ places) × ((located_numbers c.result).read ≡ 0)
  refused some = by (located_of c) refl (locate_numbers c)
    where
      by : (a : Located) → located_of c ≡ a → located_numbers c.result ≡ addresses_located_numbers a
          → (c.places_left ≡ places) × ((located_numbers c.result).read ≡ 0)
      by (Err r) e told = (
        c.kept.1 ∙ refused_leaves image marks c.base c.reset addresses places r.why r.offset e,
        ap (λ n. n.read) told,
      )
      by (Ok n) e told = absurd (omega (arith, some, ap (λ n. n.number) told))

  -- a call that is not refused, by its answer
  when_located : {P : Type 0} → (located_numbers c.result).number ≡ 0
      → ((n : ℕ) → located_of c ≡ Ok n → (located_numbers c.result).read ≡ n → P) → P
  when_located {P} zero shows = by (located_of c) refl (locate_numbers c)
    where
      by : (a : Located) → located_of c ≡ a → located_numbers c.result ≡ addresses_located_numbers a → P
      by (Err r) e told =
          absurd (omega (arith, zero, ap (λ n. n.number) told, (refusal_range r.why).0))
      by (Ok n) e told = shows n e (ap (λ n. n.read) told)

  places_found : (located_numbers c.result).number ≡ 0
      → (c.places_left
      ≡ map place_number (map (place_of image marks c.base) addresses) ++ drop (length addresses) places)
      × ((located_numbers c.result).read ≡ marks_to c.base addresses)
  places_found zero = when_located zero (λ n e read.
      let so = locates_as_alone image marks c.base c.reset addresses places n e in
      (c.kept.1 ∙ so.each, read ∙ so.marks_counted))

alone : (c d : LocateCall) (k : ℕ) → (located_numbers c.result).number ≡ 0 → LocatesAlike c d
    → k < length (listed c.addresses) → listed d.addresses ≡ get_or (listed c.addresses) k 0 ∷ []
    → 1 ≤ length (listed d.places)
    → ((located_numbers d.result).number ≡ 0) × (get_or d.places_left 0 0 ≡ get_or c.places_left k 0)
alone c d k zero same inside one room = when_located c zero (λ n e read.
    let own = (locates_as_alone (image c) (marks c) c.base c.reset (addresses c) (places c) n e).own_call k
    (places d) inside room in
    let a = get_or (addresses c) k 0 in
    let answer : located_of d ≡ Ok (a - c.base + 1) =
    rw (same.0, same.1, same.2, same.3, one) own.0 in
    let left : d.places_left
    ≡ places_located (image c) (marks c) c.base c.reset (a ∷ []) (places d) =
    rw (same.0, same.1, same.2, same.3, one) at d.kept.1 in (
      ap (λ n. n.number) (locate_numbers d ∙ ap addresses_located_numbers answer),
      ap (λ l. get_or l 0 0) left ∙ own.1 ∙ sym (ap (λ l. get_or l k 0) c.kept.1),
    ))

pub locates_addresses : LocatesAddresses
locates_addresses = record {
  check_first = check_first;
  refuses = refuses;
  refused = refused;
  located = places_found;
  alone = alone;
}
