-- The pass and asking alone give the same places: the last start passed is the highest among the marks that are read,
-- and addresses that climb lie at or behind the mark that is read next, so that none is passed over. The rest is what
-- the tests of a call show.
-- Assumes nothing.
use Rattle.std.specs.Prelude.{Ok, Err}
use mathlib.Core.Path.{◌≡◌, refl, sym, ap, ◌∙◌}
use mathlib.Core.Logic.{◌↔◌}
use mathlib.Core.Bool.{Bool, true, false, true≢false, ◌&&◌}
use mathlib.Core.List.{List, [], ◌∷◌, ◌++◌, map}
use Prim.Native.Nat.{ℕ, zero, suc, ◌+◌, ◌-◌, ◌≤◌, ◌<◌}
use native.Mathlib.Numerals.{add-one}
use native.Mathlib.Omega.{arith}
use borrow.Author.Tests.{eqb-true, eqb-false, ltb-true, ltb-false, leb-true, lt-ltb, le-leb}
use lib.Dec.{eqb, ltb, leb}
use lib.ListN.{length, get_or, drop, length-map, get_or-append}
use lib.Seq.{drop-cons}
use Rattle.types.specs.declared.refusals.Refusal.{Refusal}
use Rattle.types.specs.Answers.{TestResult, refused_at, Verdict, Located}
use Rattle.types.specs.Refusals.{Tests, first_refusal}
use Rattle.prelude.specs.Choice.{pick}
use Rattle.prelude.specs.First.{first_from, last_before}
use Rattle.prelude.proofs.Choice.{both_true}
use Rattle.prelude.proofs.First.{first_is, last_is}
use Rattle.prelude.proofs.First as first
use Rattle.types.specs.Addresses.{image_limit}
use Rattle.acceptance.specs.Rules.{instruction_at, Accepts}
use Rattle.acceptance.specs.Verdict.{start_at, verdict}
use Rattle.reports.specs.PageReading.{bytes_of, covers, is_covered}
use Rattle.reports.specs.Locate.{Place, within, behind, place_number, place_from, place_of, Last, none, start}
use Rattle.reports.specs.Locate.{last_after, place_by, Pass, one_read, pass, pass_over, address_count, is_ascending}
use Rattle.reports.specs.Locate.{all_inside, addresses_fit, locate_tests, located_by, located, places_after}
use Rattle.reports.specs.Locate.{places_located, highest, marks_to, LocatesAsAlone, WithinCovers}
use Rattle.acceptance.proofs.Image.{right_length}
use Rattle.acceptance.proofs.Meaning.{refused_small}
use Rattle.types.proofs.TestResults.{shown, none_fails, all_passed}
use Rattle.acceptance.proofs.Verdict.{accepts_exactly, start_inside}

-- ---- addresses that climb

-- each is at least a bound, or one more than the address before it, and below the end
abbrev pub Climbs : ℕ → ℕ → List ℕ → Type 0
Climbs low end [] = Unit {0}
Climbs low end (a ∷ rest) = (low ≤ a) × (a < end) × Climbs (a + 1) end rest

-- by the two tests
module _ (base size : ℕ) where
  inside_first : (a : ℕ) (rest : List ℕ) → all_inside base size (a ∷ rest) ≡ true
      → (base ≤ a) × (a < base + size) × (all_inside base size rest ≡ true)
  unfolding all_inside
  inside_first a rest h =
      let outer = both_true (leb base a && ltb a (base + size)) (all_inside base size rest) h in
      let inner = both_true (leb base a) (ltb a (base + size)) outer.0 in
      (leb-true base a inner.0, ltb-true a (base + size) inner.1, outer.1)

  climbs_from : (a : ℕ) (rest : List ℕ) → is_ascending (a ∷ rest) ≡ true → all_inside base size (a ∷ rest) ≡ true
      → (a < base + size) × Climbs (a + 1) (base + size) rest
  unfolding is_ascending
  climbs_from a [] up inside = ((inside_first a [] inside).1, tt)
  climbs_from a (b ∷ rest) up inside =
      let here = inside_first a (b ∷ rest) inside in
      let next = both_true (ltb a b) (is_ascending (b ∷ rest)) up in
      let more = climbs_from b rest next.1 here.2 in
      let above = ltb-true a b next.0 in
      (here.1, (omega arith, more.0, more.1))

  pub climbs : (addresses : List ℕ) → addresses_fit base size addresses ≡ true → Climbs base (base + size) addresses
  unfolding addresses_fit
  climbs [] h = tt
  climbs (a ∷ rest) h =
      let outer = both_true (leb (length (a ∷ rest)) address_count && is_ascending (a ∷ rest))
      (all_inside base size (a ∷ rest)) h in
      let inner = both_true (leb (length (a ∷ rest)) address_count) (is_ascending (a ∷ rest)) outer.0 in
      let from = climbs_from a rest inner.1 outer.1 in
      ((inside_first a rest outer.1).0, from.0, from.1)

-- behind the mark at an offset, where the first may have lain
pub climbs_on : (base at end a : ℕ) (rest : List ℕ) (here : Bool) → eqb a (base + at) ≡ here
    → Climbs (base + at) end (a ∷ rest) → Climbs (base + (at + 1)) end (pick here rest (a ∷ rest))
climbs_on base at end a rest true e c =
    let same : a + 1 ≡ base + (at + 1) = omega (arith, eqb-true a (base + at) e) in
    rw (← same) c.2
climbs_on base at end a rest false e c =
    let other = eqb-false a (base + at) e in
    (by (ltb (base + at) a) refl other, c.1, c.2)
  where
    by : (b : Bool) → ltb (base + at) a ≡ b → (a ≡ base + at → ⊥) → base + (at + 1) ≤ a
    by true h other = omega (arith, ltb-true (base + at) a h)
    by false h other = absurd (other (omega (arith, ltb-false (base + at) a h, c.0)))

-- ---- the pass

module _ (image : List ℕ) (base : ℕ) where
  -- without an address no mark is read
  pub pass_none : (at : ℕ) (last : Last) (marks : List ℕ) → pass image base at last marks []
      ≡ record { places = []; read = 0 }
  unfolding pass
  pass_none at last [] = refl
  pass_none at last (mark ∷ marks) = refl

  -- the mark at an offset is read
  pub pass_one : (marks : List ℕ) (at : ℕ) (last : Last) (a : ℕ) (rest : List ℕ) → at < length marks
      → pass image base at last (drop at marks) (a ∷ rest)
      ≡ one_read (eqb a (base + at)) (place_by image base (last_after last at (get_or marks at 0)) at)
      (pass image base (at + 1) (last_after last at (get_or marks at 0)) (drop (at + 1) marks)
      (pick (eqb a (base + at)) rest (a ∷ rest)))
  unfolding pass
  pass_one marks at last a rest inside =
      let first : drop at marks ≡ get_or marks at 0 ∷ drop (at + 1) marks = rw add-one (drop-cons marks at 0 inside) in
      rw first

-- ---- the last start passed

module _ (image marks : List ℕ) (base : ℕ) where
  -- by one more than its offset
  abbrev last_of : ℕ → Last
  last_of zero = none
  last_of (suc at) = start at (get_or marks at 0)

  -- before an offset
  abbrev last_at : ℕ → Last
  last_at at = last_of (last_before (start_at marks) at)

  last_on : (at : ℕ) → last_after (last_at at) at (get_or marks at 0) ≡ last_at (at + 1)
  unfolding last_before
  last_on at = rw add-one (by (start_at marks at))
    where
      by : (b : Bool)
          → pick b (start at (get_or marks at 0)) (last_at at) ≡ last_of
          (pick b (suc at) (last_before (start_at marks) at))
      by true = refl
      by false = refl

  place_by_lem : (n k : ℕ) → place_by image base (last_of n) k ≡ place_from image marks base n k
  unfolding place_by place_from
  place_by_lem zero k = refl
  place_by_lem (suc at) k = refl

  place_here : (at a : ℕ) → a ≡ base + at → place_by image base (last_at (at + 1)) at ≡ place_of image marks base a
  unfolding place_of
  place_here at a e =
      let offset : a - base ≡ at = omega arith in
      rw offset (place_by_lem (last_before (start_at marks) (at + 1)) at)

  -- ---- what a pass gives from an offset on

  -- it reads the marks up to the highest address
  abbrev Reads : ℕ → List ℕ → ℕ → Type 0
  Reads at [] read = read ≡ 0
  Reads at (a ∷ rest) read = read + at ≡ highest (a ∷ rest) - base + 1

  record Serves (at : ℕ) (addresses : List ℕ) (p : Pass) : Type 0 where
    places : p.places ≡ map (place_of image marks base) addresses
    reads : Reads at addresses p.read

  reads_here : (at a read : ℕ) (rest : List ℕ) (end : ℕ) → a ≡ base + at → Climbs (a + 1) end rest
      → Reads (at + 1) rest read → read + 1 + at ≡ highest (a ∷ rest) - base + 1
  reads_here at a read [] end e c r = omega arith
  reads_here at a read (b ∷ rest) end e c r = omega arith

  one_served : (at a : ℕ) (rest : List ℕ) (end : ℕ) (here : Bool) (p : Pass) → eqb a (base + at) ≡ here
      → Climbs (base + at) end (a ∷ rest) → Serves (at + 1) (pick here rest (a ∷ rest)) p
      → Serves at (a ∷ rest) (one_read here (place_by image base (last_at (at + 1)) at) p)
  one_served at a rest end true p e c s =
      let same = eqb-true a (base + at) e in
      record {
        places = rw (place_here at a same, s.places);
        reads = reads_here at a p.read rest end same c.2 s.reads;
      }
  one_served at a rest end false p e c s = record {
    places = s.places;
    reads = omega (arith, s.reads);
  }

  abbrev ServesAt : ℕ → List ℕ → Type 0
  ServesAt at addresses =
      Climbs (base + at) (base + length marks) addresses
      → Serves at addresses (pass image base at (last_at at) (drop at marks) addresses)

  serves_none : (at : ℕ) → ServesAt at []
  serves_none at c =
      rw (pass_none image base at (last_at at) (drop at marks)) (record { places = refl; reads = refl })

  serves_on : (at : ℕ) → at < length marks → ((addresses : List ℕ) → ServesAt (at + 1) addresses)
      → (addresses : List ℕ) → ServesAt at addresses
  serves_on at inside more [] c = serves_none at c
  serves_on at inside more (a ∷ rest) c =
      let here = eqb a (base + at) in
      rw (pass_one image base marks at (last_at at) a rest inside, last_on at)
      (one_served at a rest (base + length marks) here
      (pass image base (at + 1) (last_at (at + 1)) (drop (at + 1) marks) (pick here rest (a ∷ rest))) refl c
      (more (pick here rest (a ∷ rest)) (climbs_on base at (base + length marks) a rest here refl c)))

  serves_past : (at : ℕ) → at ≡ length marks → (addresses : List ℕ) → ServesAt at addresses
  serves_past at e [] c = serves_none at c
  serves_past at e (a ∷ rest) c = absurd (omega arith)

  serves : (n at : ℕ) (addresses : List ℕ) → at + n ≡ length marks → ServesAt at addresses
  serves zero at addresses e = serves_past at (omega arith) addresses
  serves (suc n) at addresses e =
      serves_on at (omega arith) (λ l. serves n (at + 1) l (omega arith)) addresses

  -- of the whole pass
  pub passed : (addresses : List ℕ) → length marks ≡ length image → addresses_fit base (length image) addresses ≡ true
      → ((pass_over image marks base addresses).places ≡ map (place_of image marks base) addresses)
      × ((pass_over image marks base addresses).read ≡ marks_to base addresses)
  unfolding last_before
  passed addresses same fit =
      let low : base + 0 ≡ base = omega arith in
      let c : Climbs (base + 0) (base + length marks) addresses = rw (low, same) (climbs base (length image) addresses
      fit) in
      let s = serves (length marks) 0 addresses (omega arith) c in
      (s.places, by addresses (pass_over image marks base addresses).read s.reads)
    where
      by : (addresses : List ℕ) (read : ℕ) → Reads 0 addresses read → read ≡ marks_to base addresses
      by [] read r = r
      by (a ∷ rest) read r = omega arith

-- ---- the answer

module _ (image marks : List ℕ) (base reset : ℕ) (addresses places : List ℕ) where
  abbrev tests : Tests
  tests = locate_tests base (length image) addresses (length places)

  -- a call that is not refused
  pub record Done (read : ℕ) : Type 0 where
    pub accepted : verdict image marks base reset ≡ Ok tt
    pub fit : addresses_fit base (length image) addresses ≡ true
    pub room : leb (length addresses) (length places) ≡ true
    pub reads : read ≡ (pass_over image marks base addresses).read

  refused_reads : (why : Refusal) (at read : ℕ) → ◌≡◌ {A = Located} (refused_at why at) (Ok read) → ⊥
  refused_reads why at read e = let z : ◌≡◌ {A = ℕ} 0 1 = cc in absurd (omega arith)

  same_read : (one other : ℕ) → ◌≡◌ {A = Located} (Ok one) (Ok other) → other ≡ one
  same_read one other e = cc

  pub is_done : (read : ℕ) → located image marks base reset addresses places ≡ Ok read → Done read
  unfolding located located_by
  is_done read e = by (verdict image marks base reset) refl e
    where
      by : (v : Verdict) → verdict image marks base reset ≡ v
          → located_by v (first_refusal tests) (pass_over image marks base addresses).read ≡ Ok read
          → Done read
      by (Ok _) v told =
          let all = all_passed (first_refusal tests) (λ why. refused_at why 0)
          (λ why f. refused_reads why 0 read f) told in
          let held = shown tests all.0 in
          record {
            accepted = v;
            fit = held.0;
            room = held.1.0;
            reads = same_read (pass_over image marks base addresses).read read all.1;
          }
      by (Err r) v told = absurd (refused_reads r.why r.offset read told)

  pub done_is : verdict image marks base reset ≡ Ok tt → addresses_fit base (length image) addresses ≡ true
      → leb (length addresses) (length places) ≡ true
      → located image marks base reset addresses places
      ≡ Ok (pass_over image marks base addresses).read
  unfolding located located_by
  done_is accepted fit room = rw (accepted, none_fails tests (fit, (room, tt)))

  pub located_refused : (why : Refusal) (at : ℕ) → verdict image marks base reset ≡ refused_at why at
      → located image marks base reset addresses places ≡ refused_at why at
  unfolding located located_by
  located_refused why at e = rw e

  -- what a call leaves of the places
  pub refused_leaves : (why : Refusal) (at : ℕ)
      → located image marks base reset addresses places ≡ refused_at why at
      → places_located image marks base reset addresses places ≡ places
  unfolding places_located places_after
  refused_leaves why at e = rw e refl

  pub done_leaves : (read : ℕ) → located image marks base reset addresses places ≡ Ok read
      → places_located image marks base reset addresses places
      ≡ map place_number (map (place_of image marks base) addresses) ++ drop (length addresses) places
  unfolding places_located places_after
  done_leaves read e =
      let done = is_done read e in
      let rules = (accepts_exactly image marks base reset).0 done.accepted in
      let same = (right_length (length image) (length marks) rules.right_length).same in
      rw (e, (passed image marks base addresses same done.fit).0, length-map, length-map)

-- ---- small numbers

abbrev offset_in : Located → ℕ
offset_in (Err r) = r.offset
offset_in (Ok n) = 0

reads_most : (image : List ℕ) (base at : ℕ) (last : Last) (marks addresses : List ℕ)
    → (pass image base at last marks addresses).read ≤ length marks
unfolding pass
reads_most image base at last [] addresses = omega arith
reads_most image base at last (mark ∷ marks) [] = omega arith
reads_most image base at last (mark ∷ marks) (a ∷ rest) =
    omega (
      arith,
      reads_most image base (at + 1) (last_after last at mark) marks (pick (eqb a (base + at)) rest (a ∷ rest)),
    )

module _ (image marks : List ℕ) (base reset : ℕ) (addresses places : List ℕ) where
  -- no more marks are read than an image has
  pub read_few : (read : ℕ) → located image marks base reset addresses places ≡ Ok read
      → read ≤ image_limit
  read_few read e =
      let done = is_done image marks base reset addresses places read e in
      let rules = (accepts_exactly image marks base reset).0 done.accepted in
      let long = right_length (length image) (length marks) rules.right_length in
      omega (arith, done.reads, reads_most image base 0 none marks addresses, long.same, long.few)

  -- an offset fits 16 bits
  pub offset_small : (why : Refusal) (at : ℕ)
      → located image marks base reset addresses places ≡ refused_at why at → at < 65_536
  unfolding located located_by
  offset_small why at e =
      by (verdict image marks base reset)
      (first_refusal (tests image marks base reset addresses places)) refl (ap offset_in e)
    where
      by : (v : Verdict) (so : TestResult) → verdict image marks base reset ≡ v
          → offset_in (located_by v so (pass_over image marks base addresses).read) ≡ at → at < 65_536
      by (Ok _) (Ok _) v told = omega arith
      by (Ok _) (Err why) v told = omega arith
      by (Err r) so v told = omega (arith, refused_small image marks base reset r.offset r.why v)

-- ---- an address of many, and by a call of its own

number_at : (f : ℕ → Place) (addresses : List ℕ) (k : ℕ) → k < length addresses
    → get_or (map place_number (map f addresses)) k 0 ≡ place_number (f (get_or addresses k 0))
number_at f [] k h = absurd (omega arith)
number_at f (a ∷ rest) zero h = refl
number_at f (a ∷ rest) (suc k) h = number_at f rest k (omega arith)

inside_at : (base size : ℕ) (addresses : List ℕ) (k : ℕ) → all_inside base size addresses ≡ true → k < length addresses
    → all_inside base size (get_or addresses k 0 ∷ []) ≡ true
unfolding all_inside
inside_at base size [] k h inside = absurd (omega arith)
inside_at base size (a ∷ rest) zero h inside =
    rw (both_true (leb base a && ltb a (base + size)) (all_inside base size rest) h).0
inside_at base size (a ∷ rest) (suc k) h inside =
    inside_at base size rest k (both_true (leb base a && ltb a (base + size)) (all_inside base size rest) h).1
    (omega arith)

one_fits : (base size : ℕ) (addresses : List ℕ) (k : ℕ) → addresses_fit base size addresses ≡ true
    → k < length addresses → addresses_fit base size (get_or addresses k 0 ∷ []) ≡ true
unfolding addresses_fit is_ascending
one_fits base size addresses k h inside =
    inside_at base size addresses k
    (both_true (leb (length addresses) address_count && is_ascending addresses) (all_inside base size addresses) h).1
    inside

-- the place of an address of a call that is not refused
pub place_at : (image marks : List ℕ) (base reset : ℕ) (addresses places : List ℕ) (read k : ℕ)
    → located image marks base reset addresses places ≡ Ok read → k < length addresses
    → get_or (places_located image marks base reset addresses places) k 0
    ≡ place_number (place_of image marks base (get_or addresses k 0))
place_at image marks base reset addresses places read k e inside =
    let found = map (place_of image marks base) addresses in
    let many : length (map place_number found) ≡ length addresses =
    length-map found place_number ∙ length-map addresses (place_of image marks base) in
    rw (done_leaves image marks base reset addresses places read e)
    (get_or-append (map place_number found) (drop (length addresses) places) 0 k (omega arith)
    ∙ number_at (place_of image marks base) addresses k inside)

pub locates_as_alone : LocatesAsAlone
locates_as_alone image marks base reset addresses places read e =
    let done = is_done image marks base reset addresses places read e in
    let rules = (accepts_exactly image marks base reset).0 done.accepted in
    let same = (right_length (length image) (length marks) rules.right_length).same in
    record {
      each = done_leaves image marks base reset addresses places read e;
      marks_counted = done.reads ∙ (passed image marks base addresses same done.fit).1;
      own_call = λ k one inside room.
          let a = get_or addresses k 0 in
          let fits = one_fits base (length image) addresses k done.fit inside in
          let reads : (pass_over image marks base (a ∷ [])).read ≡ a - base + 1 =
          omega (arith, (passed image marks base (a ∷ []) same fits).1) in
          let alone = done_is image marks base reset (a ∷ []) one done.accepted fits (le-leb 1 (length one) room)
          ∙ ap Ok reads in (
            alone,
            place_at image marks base reset (a ∷ []) one (a - base + 1) 0 alone (omega arith)
                ∙ sym (place_at image marks base reset addresses places read k e inside),
          );
    }

-- ---- within an instruction, or in a gap

module _ (image marks : List ℕ) (base reset : ℕ) (rules : Accepts image marks base reset) (k : ℕ)
    (inside : k < length image)
  where
    abbrev nearest : ℕ
    nearest = last_before (start_at marks) (k + 1)

    abbrev bytes_at : ℕ → ℕ
    bytes_at at = bytes_of (instruction_at image marks at)

    -- the place behind a start, by whether its instruction reaches so far
    abbrev placed : ℕ → Bool → Place
    placed at reaches = pick reaches (within (base + at)) (behind (base + at))

    place_reached : (at : ℕ) → place_from image marks base (suc at) k ≡ placed at (ltb k (at + bytes_at at))
    unfolding place_from
    place_reached at = refl

    place_is : place_of image marks base (base + k) ≡ place_from image marks base nearest k
    unfolding place_of
    place_is = let offset : base + k - base ≡ k = omega arith in rw offset

    covering : (at : ℕ) → start_at marks at ≡ true → at ≤ k → k < at + bytes_at at → covers image marks k at ≡ true
    covering at s low high = rw (s, le-leb at k low, lt-ltb k (at + bytes_at at) high)

    covered_at : (at : ℕ) → at ≤ k → covers image marks k at ≡ true → is_covered image marks k ≡ true
    unfolding is_covered
    covered_at at low h = by (ltb (first_from (covers image marks k) 0 (k + 1)) (k + 1)) refl
      where
        by : (b : Bool) → ltb (first_from (covers image marks k) 0 (k + 1)) (k + 1) ≡ b → b ≡ true
        by true e = refl
        by false e =
            let never = (first_is (covers image marks k) 0 (k + 1)).before at (omega arith)
            (omega (arith, ltb-false (first_from (covers image marks k) 0 (k + 1)) (k + 1) e)) in
            absurd (true≢false (sym h ∙ never))

    -- the start that covers a place is the nearest: none stands on the later bytes of an instruction
    covering_nearest : (at n : ℕ) → n ≡ nearest → covers image marks k at ≡ true → n ≡ suc at
    covering_nearest at n e h =
        let outer = both_true (start_at marks at) (leb at k && ltb k (at + bytes_at at)) h in
        let inner = both_true (leb at k) (ltb k (at + bytes_at at)) outer.1 in
        let low = leb-true at k inner.0 in
        let high = ltb-true k (at + bytes_at at) inner.1 in
        let found = rw (← e) at (last_is (start_at marks) (k + 1)) in
        by n found outer.0 low high (ltb at n) (ltb (suc at) n) refl refl
      where
        by : (n : ℕ) → first.Last (start_at marks) (k + 1) n → start_at marks at ≡ true → at ≤ k → k < at + bytes_at at
            → (a b : Bool) → ltb at n ≡ a → ltb (suc at) n ≡ b → n ≡ suc at
        by n f s low high false b e e' =
            absurd (true≢false (sym s ∙ f.after at (ltb-false at n e) (omega arith)))
        by n f s low high true false e e' = omega (arith, ltb-true at n e, ltb-false (suc at) n e')
        by zero f s low high true true e e' = absurd (omega (arith, ltb-true (suc at) 0 e'))
        by (suc last) f s low high true true e e' =
            let there = rules.at_starts at (start_inside marks at s) s in
            let behind = ltb-true (suc at) (suc last) e' in
            let long : k < at + there.instruction.length = rw there.whole at high in
            let clear = there.no_overlap last (omega arith) (omega (arith, f.at_most)) in
            absurd (true≢false (sym (f.found last refl) ∙ clear))

    covered_within : is_covered image marks k ≡ true → (start : ℕ) ×
        (place_of image marks base (base + k) ≡ within start)
    unfolding is_covered
    covered_within h =
        let at = first_from (covers image marks k) 0 (k + 1) in
        let low = ltb-true at (k + 1) h in
        let here = (first_is (covers image marks k) 0 (k + 1)).found (omega arith) in
        let near = covering_nearest at nearest refl here in
        let outer = both_true (start_at marks at) (leb at k && ltb k (at + bytes_at at)) here in
        let inner = both_true (leb at k) (ltb k (at + bytes_at at)) outer.1 in
        let place = ap (λ n. place_from image marks base n k) near ∙ place_reached at ∙ ap (placed at) inner.1 in
        (base + at, place_is ∙ place)

    within_covered : (n from : ℕ) → first.Last (start_at marks) (k + 1) n → place_from image marks base n k ≡ within
        from
        → is_covered image marks k ≡ true
    unfolding place_from
    within_covered zero from f e = let z : ◌≡◌ {A = ℕ} 0 1 = cc in absurd (omega arith)
    within_covered (suc at) from f e = by (ltb k (at + bytes_at at)) refl (sym (place_reached at) ∙ e)
      where
        by : (b : Bool) → ltb k (at + bytes_at at) ≡ b → placed at b ≡ within from
            → is_covered image marks k ≡ true
        by true h told =
            let low : at ≤ k = omega (arith, f.at_most) in
            covered_at at low (covering at (f.found at refl) low (ltb-true k (at + bytes_at at) h))
        by false h told = let z : ◌≡◌ {A = ℕ} 0 1 = cc in absurd (omega arith)

    pub covers_exactly : (is_covered image marks k ≡ true)
        ↔ ((start : ℕ) × (place_of image marks base (base + k) ≡ within start))
    covers_exactly = (
      covered_within,
      λ w. within_covered nearest w.0 (last_is (start_at marks) (k + 1)) (sym place_is ∙ w.1),
    )

pub within_covers : (image marks : List ℕ) (base reset : ℕ) → Accepts image marks base reset
    → WithinCovers image marks base
within_covers = covers_exactly
