-- The status register's number with some flags changed is the number of the changed status.
-- Assumes nothing.
use Rattle.std.proofs.Common.{◌≡◌, ℕ, zero, suc, ◌+◌, ◌-◌, ◌*◌, ◌/◌, ◌%◌, ◌≤◌, Bool, eqb, refl, arith}
use native.Mathlib.Nat.{div-div-eq-div-mul}
use Rattle.types.specs.declared.machine.Status.{Status}
use Rattle.anywidth.specs.AnyWidth.{low, is_negative}
use Rattle.semantics.specs.Arithmetic.{with_carry, with_overflow, with_widths, with_result}
use Rattle.prelude.specs.Choice.{bit}
use Rattle.types.specs.Status.{is_set, status_of, number_of}
use Rattle.semantics.proofs.Status.{status_number, number_status}

bit_small : (n : ℕ) → n ≤ 1 → bit (eqb n 1) ≡ n
bit_small zero h = refl
bit_small (suc zero) h = refl
bit_small (suc (suc n)) h = absurd (omega arith)

pub bit_of : (mask n : ℕ) → bit (is_set mask n) ≡ n / mask % 2
bit_of mask n = bit_small (n / mask % 2) (omega arith)

-- a number differs from another as their statuses' numbers do
changed : (n r : ℕ) (s : Status) → r + number_of (status_of n) ≡ n + number_of s → status_of r ≡ s
changed n r s h = rw same (number_status s)
  where
    same : r ≡ number_of s
    same = omega (arith, status_number n)

pub carry_changed : (flag : Bool) (n : ℕ) → status_of (n - n / 1 % 2 * 1 + 1 * bit flag) ≡ with_carry flag (status_of n)
carry_changed flag n = changed n _ (with_carry flag (status_of n)) (omega (arith, bit_of 1 n))

pub overflow_changed : (flag : Bool) (n : ℕ)
    → status_of (n - n / 64 % 2 * 64 + 64 * bit flag) ≡ with_overflow flag (status_of n)
overflow_changed flag n = changed n _ (with_overflow flag (status_of n)) (omega (arith, bit_of 64 n))

width_bits : (n : ℕ) → n / 16 % 4 ≡ bit (is_set 16 n) + 2 * bit (is_set 32 n)
width_bits n = rw (bit_of 16 n, bit_of 32 n, ← div-div-eq-div-mul n 16 2) (two (n / 16))
  where
    two : (q : ℕ) → q % 4 ≡ q % 2 + 2 * (q / 2 % 2)
    two q = omega arith

pub widths_changed : (m x n : ℕ) → m ≤ 1 → x ≤ 1
    → status_of (n - n / 16 % 4 * 16 + 32 * m + 16 * x) ≡ with_widths (eqb m 1) (eqb x 1) (status_of n)
widths_changed m x n h h' =
    changed n _ (with_widths (eqb m 1) (eqb x 1) (status_of n))
    (omega (arith, width_bits n, bit_small m h, bit_small x h'))

pub result_changed : (bits v n : ℕ)
    → status_of
    (n - (n / 2 % 2 * 2 + n / 128 % 2 * 128) + 2 * bit (eqb (low bits v) 0)
    + 128 * bit (is_negative bits (low bits v)))
    ≡ with_result bits v (status_of n)
result_changed bits v n = changed n _ (with_result bits v (status_of n)) (omega (arith, bit_of 2 n, bit_of 128 n))
