-- The order gone through. What is put is required in every admitted marking, and so stands there; and what such a
-- marking requires behind a start that has been gone through has a start then. So where the whole order has been gone
-- through, nothing is lacking.
-- Assumes nothing.
use Rattle.types.specs.declared.code.Undecoded.{Undecoded}
use Rattle.std.specs.Prelude.{Ok, Err}
use mathlib.Core.Path.{◌≡◌, refl, sym, ap, subst, ◌∙◌}
use mathlib.Core.Bool.{Bool, true, false, true≢false}
use mathlib.Core.List.{List}
use Prim.Native.Nat.{ℕ, ◌+◌, ◌-◌, ◌≤◌, ◌<◌}
use native.Mathlib.Omega.{arith}
use borrow.Author.Tests.{eqb-true, eqb-false, leb-true, lt-ltb, le-leb, not-false}
use lib.Dec.{eqb, leb}
use lib.ListN.{length, get_or, length-set}
use lib.Seq.{get_or-set_same, get_or-set_other}
use Rattle.types.specs.Answers.{Decoded}
use Rattle.types.specs.declared.rules.Requirements.{Requirements}
use Rattle.prelude.specs.Choice.{pick}
use Rattle.prelude.proofs.Choice.{both_true}
use Rattle.acceptance.specs.Image.{is_start, mark_of, mark_at}
use Rattle.acceptance.specs.Rules.{instruction_at, Met, AllMet}
use Rattle.acceptance.specs.Verdict.{start_at, is_start_at, all_starts}
use Rattle.lists.specs.Routines.{StandsIn, Admitted}
use Rattle.acceptance.proofs.Verdict.{start_inside}
use Rattle.lists.proofs.Routines.{stands_through, same_at, admitted_length, reset_met, whole_there, owed_met}
use Rattle.lists.proofs.LeastMarks.{Complete}
use Rattle.builder.specs.Order.{is_free_at, put, put_owed, owed_of, owed_behind, Queue, Kept, Working, Closed}
use Rattle.builder.proofs.Putting.{is_free, put_free, put_taken}

-- ---- one start put

-- a start at an address is one at its place
at_place : (marks : List ℕ) (base address : ℕ) → is_start (mark_at marks base address) ≡ true
    → (base ≤ address) × (mark_at marks base address ≡ get_or marks (address - base) 0)
unfolding mark_at
at_place marks base address s = by (leb base address) refl s
  where
    by : (b : Bool) → leb base address ≡ b → is_start (pick b (get_or marks (address - base) 0) 0) ≡ true
        → (base ≤ address) × (pick b (get_or marks (address - base) 0) 0 ≡ get_or marks (address - base) 0)
    by true e s = (leb-true base address e, refl)
    by false e s = absurd (true≢false (sym s))

module _ (marks : List ℕ) (base address mark : ℕ) where
  abbrev place : ℕ
  place = address - base

  pub put_length : length (put marks base address mark) ≡ length marks
  put_length = by (is_free_at marks base address) refl
    where
      by : (b : Bool) → is_free_at marks base address ≡ b → length (put marks base address mark) ≡ length marks
      by true e = rw (put_free marks base address mark e) (length-set marks place mark)
      by false e = rw (put_taken marks base address mark e)

  -- what stood stands
  pub put_kept : StandsIn marks (put marks base address mark)
  put_kept at s = by (is_free_at marks base address) refl
    where
      by : (b : Bool) → is_free_at marks base address ≡ b → get_or (put marks base address mark) at 0 ≡ get_or marks at
          0
      by true e =
          rw (put_free marks base address mark e)
          (get_or-set_other marks place at mark 0
          (λ same. true≢false (sym s ∙ ap (start_at marks) same ∙ (is_free marks base address e).none)))
      by false e = rw (put_taken marks base address mark e)

  module _ (others : List ℕ) (met : Met others base (record { address = address; mark = mark })) where
    required : is_start mark ≡ true
    required = rw met.has_mark at met.start_there

    there : (base ≤ address) × (get_or others place 0 ≡ mark)
    there =
        let t = at_place others base address met.start_there in
        (t.0, sym t.1 ∙ met.has_mark)

    pub put_within : StandsIn marks others → StandsIn (put marks base address mark) others
    put_within stands at s = by (is_free_at marks base address) (eqb at place) refl refl
      where
        by : (b c : Bool) → is_free_at marks base address ≡ b → eqb at place ≡ c
            → get_or others at 0 ≡ get_or (put marks base address mark) at 0
        by true true e same =
            let here = eqb-true at place same in
            rw (
              put_free marks base address mark e,
              here,
              get_or-set_same marks place mark 0 (is_free marks base address e).inside,
            ) there.1
        by true false e other =
            let old : get_or (put marks base address mark) at 0 ≡ get_or marks at 0 =
            ap (λ l. get_or l at 0) (put_free marks base address mark e)
            ∙ get_or-set_other marks place at mark 0 (eqb-false at place other) in
            stands at (rw old at s) ∙ sym old
        by false c e other =
            let old = put_taken marks base address mark e in
            stands at (rw old at s) ∙ ap (λ l. get_or l at 0) (sym old)

    pub put_there : length others ≡ length marks
        → is_start (mark_at (put marks base address mark) base address) ≡ true
    unfolding mark_at is_free_at
    put_there long = rw (le-leb base address there.0) (by (is_free_at marks base address) refl)
      where
        inside : place < length marks
        inside = omega (arith, start_inside others place (rw there.1 required), long)

        taken : is_free_at marks base address ≡ false → start_at marks place ≡ true
        taken e = not-false (start_at marks place)
            (rw (le-leb base address there.0, lt-ltb place (length marks) inside) at e)

        by : (b : Bool) → is_free_at marks base address ≡ b → start_at (put marks base address mark) place ≡ true
        by true e =
            rw (put_free marks base address mark e, get_or-set_same marks place mark 0 inside) required
        by false e = rw (put_taken marks base address mark e) (taken e)

-- ---- all that is required

start_kept : (marks after : List ℕ) (base address : ℕ) → StandsIn marks after
    → is_start (mark_at marks base address) ≡ true → is_start (mark_at after base address) ≡ true
start_kept marks after base address kept s = rw (same_at marks after base address kept s) s

all_kept : (marks after : List ℕ) (base : ℕ) (o : Requirements) → StandsIn marks after
    → all_starts marks base o ≡ true → all_starts after base o ≡ true
unfolding all_starts is_start_at
all_kept marks after base Requirements.Nothing kept s = refl
all_kept marks after base (Requirements.One w) kept s = start_kept marks after base w.address kept s
all_kept marks after base (Requirements.Two v w) kept s =
    let both = both_true (is_start (mark_at marks base v.address)) _ s in
    rw (
      start_kept marks after base v.address kept both.0,
      start_kept marks after base w.address kept both.1,
    )

module _ (marks : List ℕ) (base : ℕ) where
  pub owed_length : (o : Requirements) → length (put_owed marks base o) ≡ length marks
  unfolding put_owed
  owed_length Requirements.Nothing = refl
  owed_length (Requirements.One w) = put_length marks base w.address w.mark
  owed_length (Requirements.Two v w) =
      put_length (put marks base v.address v.mark) base w.address w.mark
      ∙ put_length marks base v.address v.mark

  owed_kept : (o : Requirements) → StandsIn marks (put_owed marks base o)
  unfolding put_owed
  owed_kept Requirements.Nothing = λ at s. refl
  owed_kept (Requirements.One w) = put_kept marks base w.address w.mark
  owed_kept (Requirements.Two v w) =
      let one = put marks base v.address v.mark in
      stands_through marks one (put one base w.address w.mark) (put_kept marks base v.address v.mark)
      (put_kept one base w.address w.mark)

  module _ (others : List ℕ) where
    owed_within : (o : Requirements) → StandsIn marks others → AllMet others base o
        → StandsIn (put_owed marks base o) others
    unfolding put_owed
    owed_within Requirements.Nothing stands met = stands
    owed_within (Requirements.One w) stands met = put_within marks base w.address w.mark others met stands
    owed_within (Requirements.Two v w) stands met =
        put_within (put marks base v.address v.mark) base w.address w.mark others met.1
        (put_within marks base v.address v.mark others met.0 stands)

    owed_there_lem : (o : Requirements) → length others ≡ length marks → AllMet others base o
        → all_starts (put_owed marks base o) base o ≡ true
    unfolding put_owed all_starts is_start_at
    owed_there_lem Requirements.Nothing long met = refl
    owed_there_lem (Requirements.One w) long met = put_there marks base w.address w.mark others met long
    owed_there_lem (Requirements.Two v w) long met =
        let one = put marks base v.address v.mark in
        let two = put one base w.address w.mark in
        rw (
          start_kept one two base v.address (put_kept one base w.address w.mark)
              (put_there marks base v.address v.mark others met.0 long),
          put_there one base w.address w.mark others met.1
              (long ∙ sym (put_length marks base v.address v.mark)),
        )

-- ---- the order

module _ (image : List ℕ) (base reset : ℕ) (routines : List ℕ) where
  -- what is required behind a start of marks that stand in an admitted marking is required there too, and met
  behind_met : (marks others : List ℕ) (at : ℕ) → Admitted image base reset routines others → StandsIn marks others
      → StandsIn routines marks → start_at marks at ≡ true
      → (owed_behind image marks base at ≡ owed_behind image others base at)
      × AllMet others base (owed_behind image marks base at)
  unfolding owed_of
  behind_met marks others at v stands listed s =
      rw (stands at s) (by (instruction_at image marks at) refl)
    where
      by : (d : Decoded) → instruction_at image marks at ≡ d
          → (owed_of marks base at d ≡ owed_of others base at d) × AllMet others base (owed_of marks base at d)
      by (Err Undecoded.NotCarried) e = (refl, tt)
      by (Err Undecoded.CutOff) e = (refl, tt)
      by (Ok i) e = owed_met image base reset routines marks others v stands at s i listed e

  -- the start at the reset address
  abbrev with_reset : List ℕ
  with_reset = put routines base reset (mark_of 0 0 0 0 0)

  module _ (others : List ℕ) (v : Admitted image base reset routines others) where
    reset_within : StandsIn with_reset others
    reset_within =
        put_within routines base reset (mark_of 0 0 0 0 0) others (reset_met image base reset routines others v)
        v.as_listed

    reset_there : length routines ≡ length image → is_start (mark_at with_reset base reset) ≡ true
    reset_there long =
        put_there routines base reset (mark_of 0 0 0 0 0) others (reset_met image base reset routines others v)
        (admitted_length image base reset routines others v ∙ sym long)

  pub begins : (marks order : List ℕ) (count : ℕ) → length routines ≡ length image → marks ≡ with_reset
      → Queue marks order count → Working image base reset routines marks order count 0
  begins marks order count long is-put q = rw is-put (record {
    queue = rw is-put at q;
    some = omega arith;
    as_listed = put_kept routines base reset (mark_of 0 0 0 0 0);
    within = reset_within;
    at_reset = λ others v. reset_there others v long;
    answered = λ others v k low. absurd (omega arith);
  })

  module _ (marks order after later : List ℕ) (count more done : ℕ)
      (w : Working image base reset routines marks order count done) (low : done < count)
      (long : length marks ≡ length image)
      (is-after : after ≡ put_owed marks base (owed_behind image marks base (get_or order done 0)))
      (q : Queue after later more) (kept : Kept order count later more) where
    abbrev at : ℕ
    at = get_or order done 0

    abbrev owed : Requirements
    owed = owed_behind image marks base at

    started : start_at marks at ≡ true
    started = w.queue.started done low

    stood : StandsIn marks after
    stood = rw is-after (owed_kept marks base owed)

    module _ (others : List ℕ) (v : Admitted image base reset routines others) where
      behind : (owed ≡ owed_behind image others base at) × AllMet others base owed
      behind = behind_met marks others at v (w.within others v) w.as_listed started

      within_more : StandsIn after others
      within_more = rw is-after (owed_within marks base others owed (w.within others v) behind.1)

      here : all_starts after base (owed_behind image others base at) ≡ true
      here =
          rw (← behind.0, is-after)
          (owed_there_lem marks base others owed
          (admitted_length image base reset routines others v ∙ sym long) behind.1)

      answered_more : (k : ℕ) → k < done + 1
          → all_starts after base (owed_behind image others base (get_or later k 0)) ≡ true
      answered_more k below = by (eqb k done) refl
        where
          by : (b : Bool) → eqb k done ≡ b
              → all_starts after base (owed_behind image others base (get_or later k 0)) ≡ true
          by true e = let last = eqb-true k done e in rw (last, kept.1 done low) here
          by false e =
              let other = eqb-false k done e in
              rw (kept.1 k (omega (arith, other)))
              (all_kept marks after base (owed_behind image others base (get_or order k 0)) stood
              (w.answered others v k (omega (arith, other))))

    pub worked_on : Working image base reset routines after later more (done + 1)
    worked_on = record {
      queue = q;
      some = omega (arith, kept.0);
      as_listed = stands_through routines marks after w.as_listed stood;
      within = within_more;
      at_reset = λ others v. start_kept marks after base reset stood (w.at_reset others v);
      answered = answered_more;
    }

  -- where none of the order is left, all of it has been gone through
  pub worked_all : (marks order : List ℕ) (count done : ℕ) → Working image base reset routines marks order count done
      → count ≤ done → Working image base reset routines marks order count count
  worked_all marks order count done w none =
      let all : done ≡ count = omega (arith, w.some) in
      subst (Working image base reset routines marks order count) all w

  pub closed : (marks order : List ℕ) (count : ℕ) → Working image base reset routines marks order count count
      → Closed image base reset routines marks
  closed marks order count w = record {
    plain = w.queue.plain;
    as_listed = w.as_listed;
    within = w.within;
    at_reset = w.at_reset;
    answered = λ others v at s. let c = w.queue.covered at s in rw (← c.2) (w.answered others v c.0 c.1);
  }

  -- marks that are closed up lack nothing
  pub complete : (marks : List ℕ) → length marks ≡ length image → Closed image base reset routines marks
      → Complete image base reset routines marks
  unfolding owed_of
  complete marks long c others v = record {
    size = long;
    plain = c.plain;
    within = c.within others v;
    listed = c.as_listed;
    at_reset = c.at_reset others v;
    owed = λ at i s whole.
        let there = whole_there image base reset routines marks others v (c.within others v) at s i whole in
        rw there at (c.answered others v at s);
  }
