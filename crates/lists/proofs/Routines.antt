-- What is forced in every admitted marking. Marks that stand in an admitted marking owe at each start what that marking
-- owes there, since the target of a call is on the list, and so already stands as listed; and what is owed is met there
-- (`owed_met`). So marks that lack nothing that is owed are admitted themselves (`complete_admitted`).
-- Assumes nothing.
use Rattle.std.specs.Prelude.{Ok}
use mathlib.Core.Path.{◌≡◌, refl, sym, ◌∙◌}
use mathlib.Core.Logic.{◌⊎◌, inl, inr}
use mathlib.Core.Bool.{Bool, true, false, true≢false}
use mathlib.Core.List.{List}
use Prim.Native.Nat.{ℕ, ◌+◌, ◌-◌, ◌<◌}
use borrow.Author.Tests.{eqb-true, ltb-true, ltb-false}
use lib.Dec.{ltb, leb}
use lib.ListN.{length, get_or, get_or-eq_default}
use lib.Seq.{ext_get_or}
use Rattle.types.specs.declared.code.Kind.{Kind}
use Rattle.types.specs.declared.code.Flow.{Flow}
use Rattle.types.specs.declared.code.Instruction.{Instruction}
use Rattle.types.specs.declared.rules.Requirement.{Requirement}
use Rattle.types.specs.declared.rules.Requirements.{Requirements}
use Rattle.prelude.specs.Choice.{pick}
use Rattle.prelude.proofs.Choice.{both_true}
use Rattle.acceptance.specs.Image.{is_start, mark_of, is_formed, mark_at, reset_fits}
use Rattle.acceptance.specs.Rules.{instruction_at, requirement, owed_by, owed_at, owed_there, Met, AllMet}
use Rattle.instructions.specs.Successors.{target_address}
use Rattle.acceptance.specs.Rules.{StartRules, Accepts}
use Rattle.acceptance.specs.Verdict.{start_at, is_start_at, all_starts}
use Rattle.lists.specs.Routines.{StandsIn, Plain, is_listed, Admitted, LeastOnly}
use Rattle.instructions.proofs.Decode.{same_whole}
use Rattle.acceptance.proofs.Image.{right_length}
use Rattle.lists.proofs.MarkList.{formed_mark}
use Rattle.acceptance.proofs.Verdict.{accepted_rules, rules_accepted, start_inside}

-- ---- marks that stand in others

pub stands_through : (a b c : List ℕ) → StandsIn a b → StandsIn b c → StandsIn a c
stands_through a b c one two at s = two at (rw (one at s) s) ∙ one at s

-- the same by addresses
pub same_at : (marks others : List ℕ) (base address : ℕ) → StandsIn marks others
    → is_start (mark_at marks base address) ≡ true → mark_at others base address ≡ mark_at marks base address
unfolding mark_at
same_at marks others base address stands = by (leb base address)
  where
    by : (b : Bool) → is_start (pick b (get_or marks (address - base) 0) 0) ≡ true
        → pick b (get_or others (address - base) 0) 0 ≡ pick b (get_or marks (address - base) 0) 0
    by true s = stands (address - base) s
    by false s = refl

-- marks that stand in one another are the same
same_marks : (marks others : List ℕ) → length marks ≡ length others → Plain marks → Plain others
    → StandsIn marks others → StandsIn others marks → marks ≡ others
same_marks marks others long plain plain' one two = ext_get_or 0 marks others long (λ at inside. here at)
  where
    here : (at : ℕ) → get_or marks at 0 ≡ get_or others at 0
    here at = by (start_at marks at) (start_at others at) refl refl
      where
        by : (a b : Bool) → start_at marks at ≡ a → start_at others at ≡ b → get_or marks at 0 ≡ get_or others at 0
        by true b s t = sym (one at s)
        by false true s t = two at t
        by false false s t = plain at s ∙ sym (plain' at t)

-- ---- what is owed

-- where the flow is a call, what is owed hangs on the mark at the target; else it doesn't
owed_same : (flow : Flow) (mark after next target there other : ℕ)
    → ((kind : Kind) → flow ≡ Flow.Call kind → there ≡ other)
    → owed_by flow mark after next target there ≡ owed_by flow mark after next target other
unfolding owed_by
owed_same Flow.Next mark after next target there other same = refl
owed_same Flow.Branch mark after next target there other same = refl
owed_same Flow.Jump mark after next target there other same = refl
owed_same (Flow.Call kind) mark after next target there other same = rw (same kind refl)
owed_same (Flow.Return kind) mark after next target there other same = refl
owed_same Flow.Halt mark after next target there other same = refl

-- a call's target is among what it owes
target_started : (marks others : List ℕ) (base at : ℕ) (i : Instruction) (kind : Kind)
    → i.entry.flow ≡ Flow.Call kind → all_starts marks base (owed_there others base at i) ≡ true
    → is_start (mark_at marks base (target_address i (base + at))) ≡ true
unfolding owed_at owed_by all_starts is_start_at
target_started marks others base at i kind call all =
    (both_true (is_start (mark_at marks base (target_address i (base + at)))) _ (rw call at all)).0

met_within : (marks others : List ℕ) (base : ℕ) (w : Requirement) → StandsIn marks others
    → is_start_at marks base w ≡ true → Met others base w → Met marks base w
unfolding is_start_at
met_within marks others base w stands s met = record {
  start_there = s;
  has_mark = sym (same_at marks others base w.address stands s) ∙ met.has_mark;
}

all_within : (marks others : List ℕ) (base : ℕ) (o : Requirements) → StandsIn marks others
    → all_starts marks base o ≡ true → AllMet others base o → AllMet marks base o
unfolding all_starts
all_within marks others base Requirements.Nothing stands s met = tt
all_within marks others base (Requirements.One w) stands s met = met_within marks others base w stands s met
all_within marks others base (Requirements.Two v w) stands s met =
    let both = both_true (is_start_at marks base v) (is_start_at marks base w) s in (
      met_within marks others base v stands both.0 met.0,
      met_within marks others base w stands both.1 met.1,
    )

module _ (image : List ℕ) (base reset : ℕ) (routines : List ℕ) where
  -- ---- an admitted marking

  pub admitted_rules : (others : List ℕ) → Admitted image base reset routines others → Accepts image others base reset
  admitted_rules others v = accepted_rules image others base reset v.passes

  pub admitted_length : (others : List ℕ) → Admitted image base reset routines others → length others ≡ length image
  admitted_length others v =
      (right_length (length image) (length others) (admitted_rules others v).right_length).same

  pub admitted_formed : (others : List ℕ) → Admitted image base reset routines others → (at : ℕ) → at < length others
      → (get_or others at 0 ≡ 0) ⊎ ((start_at others at ≡ true) × (get_or others at 0 < 128))
  admitted_formed others v at inside = formed_mark (get_or others at 0) ((admitted_rules others v).formed at inside)

  pub admitted_plain : (others : List ℕ) → Admitted image base reset routines others → Plain others
  admitted_plain others v at none = by (ltb at (length others)) refl
    where
      formed : (get_or others at 0 ≡ 0) ⊎ ((start_at others at ≡ true) × (get_or others at 0 < 128)) → get_or others at
          0 ≡ 0
      formed (inl e) = e
      formed (inr s) = absurd (true≢false (sym s.0 ∙ none))

      by : (b : Bool) → ltb at (length others) ≡ b → get_or others at 0 ≡ 0
      by true e = formed (admitted_formed others v at (ltb-true at (length others) e))
      by false e = get_or-eq_default others 0 (ltb-false at (length others) e)

  -- the reset is met
  pub reset_met : (others : List ℕ) → Admitted image base reset routines others
      → Met others base (requirement reset (mark_of 0 0 0 0 0))
  unfolding reset_fits
  reset_met others v =
      let same = eqb-true (mark_at others base reset) (mark_of 0 0 0 0 0) (admitted_rules others v).at_reset in
      record { start_there = rw same refl; has_mark = same }

  -- the rules at a start that marks have in common with an admitted marking
  module _ (marks others : List ℕ) (v : Admitted image base reset routines others)
      (stands : StandsIn marks others) (at : ℕ) (s : start_at marks at ≡ true) where
    abbrev here : start_at others at ≡ true
    here = rw (stands at s) s

    pub rules_there : StartRules image others base at
    rules_there = (admitted_rules others v).at_starts at (start_inside others at here) here

    pub whole_there : (i : Instruction) → instruction_at image marks at ≡ Ok i
        → instruction_at image others at ≡ Ok i
    whole_there i whole = rw (stands at s) whole

    pub listed_there : (i : Instruction) (kind : Kind) → instruction_at image marks at ≡ Ok i
        → i.entry.flow ≡ Flow.Call kind → is_listed routines base (target_address i (base + at)) ≡ true
    listed_there i kind whole call = v.calls_listed at i kind here (whole_there i whole) call

    same_owed : (i : Instruction)
        → ((kind : Kind) → i.entry.flow ≡ Flow.Call kind
        → is_start (mark_at marks base (target_address i (base + at))) ≡ true)
        → owed_there marks base at i ≡ owed_there others base at i
    unfolding owed_at
    same_owed i started =
        rw (stands at s)
        (owed_same i.entry.flow _ _ _ _ _ _
        (λ kind call. sym (same_at marks others base (target_address i (base + at)) stands (started kind call))))

    -- what is owed in that marking is met there
    pub owed_there_lem : (i : Instruction) → instruction_at image marks at ≡ Ok i
        → AllMet others base (owed_there others base at i)
    owed_there_lem i whole =
        let r = rules_there in
        let same : r.instruction ≡ i = same_whole r.instruction i (sym r.whole ∙ whole_there i whole) in
        rw same at r.successors

    -- Where the routines stand already, the same is owed here.
    pub owed_met : (i : Instruction) → StandsIn routines marks → instruction_at image marks at ≡ Ok i
        → (owed_there marks base at i ≡ owed_there others base at i) × AllMet others base (owed_there marks base at i)
    owed_met i listed whole =
        let same = same_owed i (λ kind call.
        let l = listed_there i kind whole call in
        rw (same_at routines marks base (target_address i (base + at)) listed l) l) in
        (same, rw same (owed_there_lem i whole))

  -- ---- marks that lack nothing

  pub record CompleteIn (others marks : List ℕ) : Type 0 where
    pub size : length marks ≡ length image
    pub plain : Plain marks
    pub within : StandsIn marks others
    pub listed : StandsIn routines marks
    pub at_reset : is_start (mark_at marks base reset) ≡ true
    -- what the marking owes at a start of the marks is a start of them
    pub owed : (at : ℕ) (i : Instruction) → start_at marks at ≡ true → instruction_at image marks at ≡ Ok i
        → all_starts marks base (owed_there others base at i) ≡ true

  module _ (marks others : List ℕ) (v : Admitted image base reset routines others)
      (c : CompleteIn others marks) where
    complete_formed : (at : ℕ) → at < length marks → is_formed (get_or marks at 0) ≡ true
    unfolding is_formed
    complete_formed at inside = by (start_at marks at) refl
      where
        by : (b : Bool) → start_at marks at ≡ b → is_formed (get_or marks at 0) ≡ true
        by true s =
            rw (← c.within at s)
            ((admitted_rules others v).formed at (start_inside others at (here marks others v c.within at s)))
        by false s = rw (c.plain at s) refl

    complete_reset : reset_fits marks base reset ≡ true
    unfolding reset_fits
    complete_reset =
        rw (← same_at marks others base reset c.within c.at_reset)
        (admitted_rules others v).at_reset

    complete_start : (at : ℕ) → start_at marks at ≡ true → StartRules image marks base at
    complete_start at s =
        let r = rules_there marks others v c.within at s in
        let whole : instruction_at image marks at ≡ Ok r.instruction = rw (← c.within at s) r.whole in
        let started = c.owed at r.instruction s whole in
        let same = same_owed marks others v c.within at s r.instruction
        (λ kind call. target_started marks others base at r.instruction kind call started) in
        record {
          instruction = r.instruction;
          whole = whole;
          no_overlap = λ k low high. clear k (r.no_overlap k low high);
          returns = rw (← c.within at s) r.returns;
          successors = rw same (all_within marks others base _ c.within started r.successors);
        }
      where
        clear : (k : ℕ) → start_at others k ≡ false → start_at marks k ≡ false
        clear k none = by (start_at marks k) refl
          where
            by : (b : Bool) → start_at marks k ≡ b → b ≡ false
            by true t = sym (rw (c.within k t) t) ∙ none
            by false t = refl

    -- they are an admitted marking themselves
    pub complete_admitted : Admitted image base reset routines marks
    complete_admitted = record {
      passes = rules_accepted image marks base reset (record {
        right_length = rw (c.size ∙ sym (admitted_length others v)) (admitted_rules others v).right_length;
        right_base = (admitted_rules others v).right_base;
        formed = complete_formed;
        at_reset = complete_reset;
        at_starts = λ at inside s. complete_start at s;
      });
      as_listed = c.listed;
      calls_listed = λ at i kind s whole call. listed_there marks others v c.within at s i kind whole call;
    }

-- ---- the least is one

pub least_only : LeastOnly
least_only image base reset routines marks others one two =
    same_marks marks others
    (admitted_length image base reset routines marks one.admitted
    ∙ sym (admitted_length image base reset routines others two.admitted))
    (admitted_plain image base reset routines marks one.admitted)
    (admitted_plain image base reset routines others two.admitted) (one.least others two.admitted)
    (two.least marks one.admitted)
