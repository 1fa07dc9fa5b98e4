-- The loop of the pass: the places that stand already, and those of the pass over what is left, are those of the whole
-- pass; so are the marks read. What the code keeps of the last start says what the definition carries.
-- Assumes nothing.
use Rattle.types.specs.declared.code.Undecoded.{Undecoded}
use Rattle.std.specs.Prelude.{Ok, Err}
use mathlib.Core.Path.{◌≡◌, refl, sym, ap, subst, ◌∙◌}
use mathlib.Core.Logic.{inl, inr}
use mathlib.Core.Bool.{Bool, true, false}
use mathlib.Core.List.{List, [], ◌∷◌, ◌++◌, append-nil, map}
use Prim.Native.Nat.{ℕ, ◌+◌, ◌*◌, ◌≤◌, ◌<◌}
use native.Mathlib.Numerals.{add-one}
use native.Mathlib.Omega.{arith}
use borrow.Author.Tests.{eq-eqb}
use lib.Dec.{eqb, ltb}
use lib.ListN.{length, get_or, take, drop, set, take-append-drop, length-set, drop_of_length-le}
use lib.Seq.{drop-cons, append_snoc, take-suc-set, drop-set-lt, drop-drop}
use Rattle.prelude.specs.Choice.{pick}
use Rattle.types.specs.Addresses.{address_limit}
use Rattle.decoder.specs.declared.Layout.{Layout}
use Rattle.decoder.specs.Layout.{LayoutRead, layout_read}
use Rattle.decoder.proofs.Layouts.{decoded_layout}
use Rattle.acceptance.specs.Image.{is_start, mark_m, mark_x}
use Rattle.reports.specs.Locate.{place_number, Last, none, start, last_after, place_by, Pass, one_read, pass, pass_over}
use Rattle.reports.specs.Locate.{addresses_fit}
use Rattle.reports.proofs.Locate.{Climbs, climbs, climbs_on, pass_none, pass_one}
use Rattle.locator.specs.declared.pass.Passing.{Passing}
use Rattle.locator.specs.Passing.{last_of, marked, end_at, KnownEnd, number_from, OneServed}

-- ---- a mark is read

-- what is then known
module _ (image : List ℕ) (p : Passing) (at mark : ℕ) where
  pub record Marked (q : Passing) : Type 0 where
    pub served : q.served ≡ p.served
    pub last : last_of q ≡ last_after (last_of p) at mark
    pub low : q.start ≤ at
    pub known : KnownEnd image q

  pub is_marked : (q : Passing) → q ≡ marked p at mark → p.start ≤ at → KnownEnd image p → Marked q
  is_marked q e low known = rw e (by (is_start mark) refl)
    where
      by : (b : Bool) → is_start mark ≡ b
          → Marked (pick b (record { served = p.served; start = at; mark = mark; end = 0 }) p)
      by true s = record { served = refl; last = rw s refl; low = omega arith; known = inl refl }
      by false s = record { served = refl; last = rw s refl; low = low; known = known }

-- ---- the end of an instruction

module _ (image : List ℕ) (at mark m x : ℕ) (here : LayoutRead) (is-layout : here ≡ layout_read (drop at image) m x)
    (is_m : m ≡ mark_m mark) (is_x : x ≡ mark_x mark)
  where
    pub end_fits : (f : Layout) → here ≡ Ok f → at + f.length ≡ end_at image at mark
    end_fits f e = rw (← is_m, ← is_x, decoded_layout (drop at image) m x, ← is-layout, e)

    pub end_at_none : (why : Undecoded) → here ≡ Err why → at ≡ end_at image at mark
    end_at_none Undecoded.NotCarried e =
        rw (← is_m, ← is_x, decoded_layout (drop at image) m x, ← is-layout, e) (omega arith)
    end_at_none Undecoded.CutOff e =
        rw (← is_m, ← is_x, decoded_layout (drop at image) m x, ← is-layout, e) (omega arith)

pub end_kept : (image : List ℕ) (p : Passing) → KnownEnd image p → (p.end ≡ 0 → ⊥)
    → p.end ≡ end_at image p.start p.mark
end_kept image p (inl e) h = absurd (h e)
end_kept image p (inr e) h = e

-- ---- the number of a place

number_by : (image : List ℕ) (p : Passing) (base at : ℕ)
    → number_from p (end_at image p.start p.mark) base at ≡ place_number (place_by image base (last_of p) at)
unfolding place_by
number_by image p base at = by (is_start p.mark) (ltb at (end_at image p.start p.mark)) refl
  where
    by : (a b : Bool) → ltb at (end_at image p.start p.mark) ≡ b
        → pick a (pick b (base + p.start + address_limit) (base + p.start + 2 * address_limit)) 0
        ≡ place_number (place_by image base (pick a (start p.start p.mark) none) at)
    by false b e = refl
    by true true e = rw e
    by true false e = rw e

-- ---- an address is served, or not yet

module _ (image : List ℕ) (base address at : ℕ) (p : Passing) (places : List ℕ) where
  pub served_here : (end number : ℕ) → address ≡ base + at → end ≡ end_at image p.start p.mark
      → number ≡ number_from p end base at
      → OneServed image base address at p
      (record { served = p.served + 1; start = p.start; mark = p.mark; end = end }) places
      (set places p.served number)
  served_here end number same is-end is_number =
      let yes = eq-eqb address (base + at) same in
      let is-place : number ≡ place_number (place_by image base (last_of p) at) =
      is_number ∙ ap (λ end. number_from p end base at) is-end ∙ number_by image p base at in
      record {
        served = rw yes;
        same_start = refl;
        same_mark = refl;
        known = inr is-end;
        stored = rw (yes, is-place);
      }

same_last : (p q : Passing) → q.start ≡ p.start → q.mark ≡ p.mark → last_of q ≡ last_of p
same_last p q e f = rw (e, f)

-- ---- the loop

module _ (image marks : List ℕ) (base : ℕ) (addresses given : List ℕ) where
  -- the pass over what is left
  abbrev left : ℕ → Last → ℕ → Pass
  left k last i = pass image base i last (drop i marks) (drop k addresses)

  pub record Passes (places : List ℕ) (k : ℕ) (last : Last) (i : ℕ) : Type 0 where
    pub climb : Climbs (base + i) (base + length marks) (drop k addresses)
    pub some : k ≤ length addresses
    pub size : length places ≡ length given
    pub rest : drop k places ≡ drop k given
    pub found : map place_number (pass_over image marks base addresses).places
        ≡ take k places ++ map place_number (left k last i).places
    pub read : (pass_over image marks base addresses).read ≡ i + (left k last i).read

  pub begins : length marks ≡ length image → addresses_fit base (length image) addresses ≡ true
      → Passes given 0 none 0
  begins same fit =
      let low : base + 0 ≡ base = omega arith in
      record {
        climb = rw (low, same) (climbs base (length image) addresses fit);
        some = omega arith;
        size = refl;
        rest = refl;
        found = refl;
        read = omega arith;
      }

  -- the next address
  module _ (places : List ℕ) (k : ℕ) (last : Last) (i : ℕ) (so : Passes places k last i)
      (more : k < length addresses)
    where
      abbrev address : ℕ
      address = get_or addresses k 0

      first : drop k addresses ≡ address ∷ drop (k + 1) addresses
      first = rw add-one (drop-cons addresses k 0 more)

      climbing : Climbs (base + i) (base + length marks) (address ∷ drop (k + 1) addresses)
      climbing = rw first at so.climb

      -- lies in the image, at or behind the mark that is read next
      pub mark_left : i < length marks
      mark_left = omega (arith, climbing.0, climbing.1)

      abbrev now : Last
      now = last_after last i (get_or marks i 0)

      one_read_lem : left k last i
          ≡ one_read (eqb address (base + i)) (place_by image base now i)
          (pass image base (i + 1) now (drop (i + 1) marks)
          (pick (eqb address (base + i)) (drop (k + 1) addresses) (address ∷ drop (k + 1) addresses)))
      one_read_lem = rw first (pass_one image base marks i last address (drop (k + 1) addresses) mark_left)

      -- its place, if it lies where the mark is read
      abbrev number : ℕ
      number = place_number (place_by image base now i)

      here_served : length addresses ≤ length given → eqb address (base + i) ≡ true
          → Passes (set places k number) (k + 1) now (i + 1)
      here_served room e =
          let inside : k < length places = omega (arith, so.size) in
          let next : left k last i ≡ one_read true (place_by image base now i) (left (k + 1) now (i + 1)) =
          rw e at one_read_lem in
          let front : take (k + 1) (set places k number) ≡ take k places ++ (number ∷ []) =
          rw add-one (take-suc-set places k number inside) in
          record {
            climb = climbs_on base i (base + length marks) address (drop (k + 1) addresses) true e climbing;
            some = omega arith;
            size = length-set places k number ∙ so.size;
            rest = drop-set-lt (k + 1) places k number (omega arith)
                ∙ sym (drop-drop 1 k places) ∙ ap (drop 1) so.rest ∙ drop-drop 1 k given;
            found = so.found ∙ ap (λ p. take k places ++ map place_number p.places) next
                ∙ sym (append_snoc (take k places) number (map place_number (left (k + 1) now (i + 1)).places))
                ∙ ap (λ l. l ++ map place_number (left (k + 1) now (i + 1)).places) (sym front);
            read = omega (arith, so.read, ap (λ p. p.read) next);
          }

      not_here : eqb address (base + i) ≡ false → Passes places k now (i + 1)
      not_here e =
          let next : left k last i ≡ one_read false (place_by image base now i) (left k now (i + 1)) =
          rw (← first) at (rw e at one_read_lem) in
          record {
            climb = rw first (climbs_on base i (base + length marks) address (drop (k + 1) addresses) false e climbing);
            some = so.some;
            size = so.size;
            rest = so.rest;
            found = so.found ∙ ap (λ p. take k places ++ map place_number p.places) next;
            read = omega (arith, so.read, ap (λ p. p.read) next);
          }

      -- the code reads the mark, and serves the address
      pub goes_on : (p q : Passing) (after : List ℕ) → length addresses ≤ length given → p.served ≡ k
          → last_of p ≡ now → OneServed image base (get_or addresses p.served 0) i p q places after
          → Passes after q.served (last_of q) (i + 1)
      goes_on p q after room served is_last given-one =
          let one = subst (λ n. OneServed image base (get_or addresses n 0) i p q places after) served given-one in
          let same = same_last p q one.same_start one.same_mark ∙ is_last in
          by (eqb address (base + i)) refl (rw served at one.served) (rw (is_last, served) at one.stored) same
        where
          by : (b : Bool) → eqb address (base + i) ≡ b → q.served ≡ pick b (k + 1) k
              → after ≡ pick b (set places k number) places → last_of q ≡ now
              → Passes after q.served (last_of q) (i + 1)
          by true e count stored same = rw (count, stored, same) (here_served room e)
          by false e count stored same = rw (count, stored, same) (not_here e)

  -- no address is left
  pub ends : (places : List ℕ) (k : ℕ) (last : Last) (i : ℕ) → Passes places k last i → length addresses ≤ k
      → (i ≡ (pass_over image marks base addresses).read)
      × (places
      ≡ map place_number (pass_over image marks base addresses).places ++ drop (length addresses) given)
  ends places k last i so all =
      let none_left : left k last i ≡ record { places = []; read = 0 } =
      rw (drop_of_length-le addresses all) (pass_none image base i last (drop i marks)) in
      let count : length addresses ≡ k = omega (arith, so.some) in
      let front : map place_number (pass_over image marks base addresses).places ≡ take k places =
      so.found ∙ ap (λ p. take k places ++ map place_number p.places) none_left ∙ append-nil (take k places) in (
        omega (arith, so.read, ap (λ p. p.read) none_left),
        rw (front, count, ← so.rest) (sym (take-append-drop k places)),
      )
