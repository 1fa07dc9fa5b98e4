-- What a start owes, met, gives the paper's rules of successors, calls and returns.
-- Assumes nothing.
use mathlib.Core.Path.{◌≡◌, sym, ◌∙◌}
use mathlib.Core.Bool.{true, Bool, ◌&&◌}
use mathlib.Core.List.{List}
use Prim.Native.Nat.{ℕ, ◌+◌, ◌≤◌}
use native.Mathlib.Omega.{arith}
use lib.ListN.{get_or}
use lib.Dec.{eqb}
use borrow.Author.Tests.{eqb-true}
use Rattle.types.specs.declared.code.Kind.{Kind}
use Rattle.types.specs.declared.code.Flow.{Flow}
use Rattle.types.specs.declared.code.Instruction.{Instruction}
use Rattle.acceptance.specs.Image.{mark_m, mark_x, mark_kind, return_m, return_x, mark_of, mark_at}
use Rattle.instructions.specs.Successors.{next_address, target_address, m_after, x_after, kind_number}
use Rattle.acceptance.specs.Rules.{requirement, mark_of_routine, mark_on_return, mark_after, owed_by, owed_at}
use Rattle.acceptance.specs.Rules.{return_fits, Met, AllMet, returns_by}
use Rattle.acceptance.specs.SuccessorRules.{StartWith, IsSuccessor, CallRule, FlowRule, SuccessorRules}
use Rattle.instructions.proofs.Decode.{same_whole}
use Rattle.acceptance.proofs.Widths.{fields, m_after_bit, x_after_bit, kind_bits}
use Rattle.prelude.proofs.Choice.{both_true}

pub both_three : (a b c : Bool) → a && b && c ≡ true → (a ≡ true) × (b ≡ true) × (c ≡ true)
both_three a b c h =
    let outer = both_true (a && b) c h in
    let inner = both_true a b outer.0 in
    (inner.0, inner.1, outer.1)

-- the rule of a return: its own kind, at the marked return widths
pub returns_marked : (kind : Kind) (mark : ℕ) → returns_by kind mark ≡ true
    → (mark_kind mark ≡ kind_number kind) × (mark_m mark ≡ return_m mark) × (mark_x mark ≡ return_x mark)
unfolding returns_by
returns_marked kind mark rule =
    let own = both_three (eqb (mark_kind mark) (kind_number kind)) (eqb (mark_m mark) (return_m mark))
    (eqb (mark_x mark) (return_x mark)) rule in (
      eqb-true (mark_kind mark) (kind_number kind) own.0,
      eqb-true (mark_m mark) (return_m mark) own.1,
      eqb-true (mark_x mark) (return_x mark) own.2,
    )

-- a requirement that is met is a start with the fields of its mark
met_with : (marks : List ℕ) (base address m x kind rm rx : ℕ)
    → Met marks base (requirement address (mark_of m x kind rm rx)) → m ≤ 1 → x ≤ 1 → kind ≤ 3 → rm ≤ 1 → rx ≤ 1
    → StartWith marks base address m x kind rm rx
met_with marks base address m x kind rm rx met hm hx hk hrm hrx =
    let f = fields (mark_at marks base address) m x kind rm rx met.has_mark hm hx hk hrm hrx in
    record {
      start_there = met.start_there;
      has_m = f.has_m;
      has_x = f.has_x;
      has_kind = f.has_kind;
      has_return_m = f.has_return_m;
      has_return_x = f.has_return_x;
    }

owed_successor : (marks : List ℕ) (base : ℕ) (i : Instruction) (mark address : ℕ)
    → Met marks base (requirement address (mark_after i.entry.effect i.operand mark))
    → IsSuccessor marks base i mark address
unfolding mark_after
owed_successor marks base i mark address met =
    met_with marks base address (m_after i.entry.effect (mark_m mark) i.operand)
    (x_after i.entry.effect (mark_x mark) i.operand) (mark_kind mark) (return_m mark) (return_x mark) met
    (m_after_bit i.entry.effect (mark_m mark) i.operand (omega arith))
    (x_after_bit i.entry.effect (mark_x mark) i.operand (omega arith)) (omega arith) (omega arith) (omega arith)

owed_call : (marks : List ℕ) (base : ℕ) (kind : Kind) (mark next target there : ℕ)
    → Met marks base (requirement target (mark_of_routine kind mark there))
    → Met marks base (requirement next (mark_on_return mark there)) → CallRule marks base kind mark next target
unfolding mark_of_routine mark_on_return
owed_call marks base kind mark next target there into after = record {
  returning_m = return_m there;
  returning_x = return_x there;
  into = met_with marks base target (mark_m mark) (mark_x mark) (kind_number kind) (return_m there) (return_x there)
      into
      (omega arith) (omega arith) (kind_bits kind) (omega arith) (omega arith);
  behind = met_with marks base next (return_m there) (return_x there) (mark_kind mark) (return_m mark) (return_x mark)
      after
      (omega arith) (omega arith) (omega arith) (omega arith) (omega arith);
}

owed_rule : (flow : Flow) (marks : List ℕ) (base : ℕ) (i : Instruction) (mark next target there : ℕ)
    → AllMet marks base (owed_by flow mark (mark_after i.entry.effect i.operand mark) next target there)
    → return_fits flow mark ≡ true → FlowRule flow marks base i mark next target
unfolding owed_by return_fits
owed_rule Flow.Next marks base i mark next target there met fits = owed_successor marks base i mark next met
owed_rule Flow.Branch marks base i mark next target there met fits =
    (owed_successor marks base i mark next met.0, owed_successor marks base i mark target met.1)
owed_rule Flow.Jump marks base i mark next target there met fits = owed_successor marks base i mark target met
owed_rule (Flow.Call kind) marks base i mark next target there met fits =
    owed_call marks base kind mark next target there met.0 met.1
owed_rule (Flow.Return kind) marks base i mark next target there met fits =
    let own = returns_marked kind mark fits in record { own_kind = own.0; at_m = own.1; at_x = own.2 }
owed_rule Flow.Halt marks base i mark next target there met fits = tt

pub successor_rules : SuccessorRules
unfolding owed_at
successor_rules image marks base reset at i accepts inside started whole =
    let rules = accepts.at_starts at inside started in
    let same : rules.instruction ≡ i = same_whole rules.instruction i (sym rules.whole ∙ whole) in
    owed_rule i.entry.flow marks base i (get_or marks at 0) (next_address (base + at) i.length)
    (target_address i (base + at)) (mark_at marks base (target_address i (base + at))) (rw same at rules.successors)
    (rw same at rules.returns)
