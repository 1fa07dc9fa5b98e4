-- Bounds of the widths after an instruction, for the code that makes marks of them; the marks that an instruction
-- requires are those of starts.
-- Assumes nothing.
use mathlib.Core.Path.{◌≡◌, refl}
use mathlib.Core.Bool.{true, Bool, false}
use mathlib.Core.List.{List}
use Prim.Native.Nat.{ℕ, ◌+◌, ◌*◌, ◌/◌, ◌%◌, ◌≤◌, ◌<◌, ◌-◌}
use native.Mathlib.Omega.{arith}
use lib.Dec.{eqb, eqb→eq, ltb, leb}
use lib.ListN.{length, get_or, get_or-eq_default}
use borrow.Author.Tests.{eq-eqb, ltb-true, ltb-false, leb-true}
use Rattle.types.specs.declared.code.WidthEffect.{WidthEffect}
use Rattle.types.specs.declared.code.Kind.{Kind}
use Rattle.acceptance.specs.Image.{is_start, mark_m, mark_x, mark_kind, return_m, return_x, mark_of, mark_at}
use Rattle.types.specs.Status.{mask_x, mask_m}
use Rattle.instructions.specs.Successors.{m_after, x_after, kind_number}
use Rattle.acceptance.specs.Rules.{mark_of_routine, mark_on_return, mark_after}
use Rattle.prelude.specs.Choice.{pick}
use Rattle.prelude.proofs.Choice.{one_of}
use Rattle.prelude.proofs.Table.{below_all}

pub m_after_bit : (e : WidthEffect) (m operand : ℕ) → m ≤ 1 → m_after e m operand ≤ 1
unfolding m_after
m_after_bit WidthEffect.KeepWidths m operand h = h
m_after_bit WidthEffect.SetM m operand h = omega arith
m_after_bit WidthEffect.ClearM m operand h = omega arith
m_after_bit WidthEffect.SetBits m operand h = one_of (eqb (operand / mask_m % 2) 1) 1 m (omega arith) h
m_after_bit WidthEffect.ClearBits m operand h = one_of (eqb (operand / mask_m % 2) 1) 0 m (omega arith) h

pub x_after_bit : (e : WidthEffect) (x operand : ℕ) → x ≤ 1 → x_after e x operand ≤ 1
unfolding x_after
x_after_bit WidthEffect.KeepWidths x operand h = h
x_after_bit WidthEffect.SetM x operand h = h
x_after_bit WidthEffect.ClearM x operand h = h
x_after_bit WidthEffect.SetBits x operand h = one_of (eqb (operand / mask_x % 2) 1) 1 x (omega arith) h
x_after_bit WidthEffect.ClearBits x operand h = one_of (eqb (operand / mask_x % 2) 1) 0 x (omega arith) h

pub kind_bits : (k : Kind) → kind_number k ≤ 3
kind_bits Kind.ByRts = omega arith
kind_bits Kind.ByRtl = omega arith

-- the fields of a mark, put together again, are its bits 1 to 6 with the start's bit
abbrev remade : ℕ → ℕ
remade mark = mark_of (mark_m mark) (mark_x mark) (mark_kind mark) (return_m mark) (return_x mark)

pub same_fields : (mark : ℕ) → mark < 256 → mark / 2 % 64 * 2 + 1 ≡ remade mark
same_fields mark h =
    eqb→eq (mark / 2 % 64 * 2 + 1) (remade mark) (below_all (λ k. eqb (k / 2 % 64 * 2 + 1) (remade k)) 256 tt mark h)

-- the marks that are required are those of starts
pub made_start : (m x kind rm rx : ℕ) → is_start (mark_of m x kind rm rx) ≡ true
made_start m x kind rm rx = eq-eqb (mark_of m x kind rm rx % 2) 1 (omega arith)

pub after_start : (effect : WidthEffect) (operand mark : ℕ) → is_start (mark_after effect operand mark) ≡ true
unfolding mark_after
after_start effect operand mark =
    made_start (m_after effect (mark_m mark) operand) (x_after effect (mark_x mark) operand) (mark_kind mark)
    (return_m mark)
    (return_x mark)

pub on_return_start : (mark there : ℕ) → is_start (mark_on_return mark there) ≡ true
unfolding mark_on_return
on_return_start mark there =
    made_start (return_m there) (return_x there) (mark_kind mark) (return_m mark) (return_x mark)

pub routine_start : (kind : Kind) (mark there : ℕ) → is_start (mark_of_routine kind mark there) ≡ true
unfolding mark_of_routine
routine_start kind mark there =
    made_start (mark_m mark) (mark_x mark) (kind_number kind) (return_m there) (return_x there)

-- where a marked start lies
pub record Located (marks : List ℕ) (base address : ℕ) : Type 0 where
  pub at : ℕ
  pub place : address ≡ base + at
  pub inside : at < length marks
  pub mark : mark_at marks base address ≡ get_or marks at 0

none_started : is_start 0 ≡ true → ⊥
none_started h = let z : ◌≡◌ {A = ℕ} 0 1 = cc in absurd (omega arith)

pub located : (marks : List ℕ) (base address : ℕ) → is_start (mark_at marks base address) ≡ true
    → Located marks base address
unfolding mark_at
located marks base address h = by (leb base address) (ltb (address - base) (length marks)) refl refl h
  where
    by : (a b : Bool) → leb base address ≡ a → ltb (address - base) (length marks) ≡ b
        → is_start (pick a (get_or marks (address - base) 0) 0) ≡ true → Located marks base address
    by false b e f s = absurd (none_started s)
    by true false e f s =
        absurd (none_started (rw (get_or-eq_default marks 0 (ltb-false (address - base) (length marks) f)) at s))
    by true true e f s =
        let above : base ≤ address = leb-true base address e in
        record {
          at = address - base;
          place = omega arith;
          inside = ltb-true (address - base) (length marks) f;
          mark = rw e refl;
        }

-- the fields of a mark that is made of them
pub record Fields (mark m x kind rm rx : ℕ) : Type 0 where
  pub has_m : mark_m mark ≡ m
  pub has_x : mark_x mark ≡ x
  pub has_kind : mark_kind mark ≡ kind
  pub has_return_m : return_m mark ≡ rm
  pub has_return_x : return_x mark ≡ rx

pub fields : (mark m x kind rm rx : ℕ) → mark ≡ mark_of m x kind rm rx → m ≤ 1 → x ≤ 1 → kind ≤ 3 → rm ≤ 1 → rx ≤ 1
    → Fields mark m x kind rm rx
fields mark m x kind rm rx e hm hx hk hrm hrx = record {
  has_m = rw e (omega arith);
  has_x = rw e (omega arith);
  has_kind = rw e (omega arith);
  has_return_m = rw e (omega arith);
  has_return_x = rw e (omega arith);
}
