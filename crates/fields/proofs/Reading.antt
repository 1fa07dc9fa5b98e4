-- Bytes as one number, worked from the last byte to the first: each byte shifts what is read and stands in front of it,
-- and the ninth byte is shifted out.
-- Assumes nothing.
use mathlib.Core.Path.{◌≡◌, refl}
use mathlib.Core.List.{List, [], ◌∷◌, ◌++◌, reverse}
use Prim.Native.Nat.{ℕ, suc, ◌+◌, ◌*◌, ◌%◌, ◌^◌, ◌≤◌}
use native.Mathlib.Omega.{arith}
use lib.ListN.{length, take}
use lib.Seq.{take_all}
use Rattle.std.specs.List.{fold}
use Rattle.std.proofs.lemmas.List.{reverse-append}
use Rattle.std.proofs.lemmas.List.Sums.{fold-append}
use Rattle.prelude.specs.Bytes.{AllBytes}
use Rattle.fields.specs.Fields.{number}
use Rattle.fields.proofs.Fields.{number_first}

-- what is read so far, in 64 bits, and a byte in front of it
abbrev pub with_byte : ℕ → ℕ → ℕ
with_byte value byte = value * 256 % 18446744073709551616 + byte

pub read_from_last : (bytes : List ℕ) → AllBytes bytes → fold with_byte 0 (reverse bytes) ≡ number (take 8 bytes)
read_from_last [] small = refl
read_from_last (b ∷ bs) small =
    let first_seven : number (take 8 bs) % 256 ^ 7 ≡ number (take 7 bs) =
    number_first bs 8 7 (λ k. small (suc k)) (omega arith) in
    let turned : reverse (b ∷ bs) ≡ reverse bs ++ (b ∷ []) = reverse-append (b ∷ []) bs in
    rw (turned, fold-append with_byte 0 (reverse bs) (b ∷ []), read_from_last bs (λ k. small (suc k)))
    (omega (arith, first_seven))

-- no more than eight bytes are their own first eight
pub first_eight : (bytes : List ℕ) → length bytes ≤ 8 → number (take 8 bytes) ≡ number bytes
first_eight bytes few = rw (take_all 8 bytes few) refl
