-- An operand is the low bytes of six where these are there to be read, so that it needs no loop, and a part of the
-- image near its end.
-- Assumes nothing.
use mathlib.Core.Path.{◌≡◌, ◌∙◌}
use mathlib.Core.List.{List}
use Prim.Native.Nat.{ℕ, ◌+◌, ◌-◌, ◌%◌, ◌^◌, ◌≤◌, ◌<◌}
use native.Mathlib.Nat.{add_assoc, pow-le-pow_right}
use native.Mathlib.Omega.{arith}
use lib.ListN.{length, take, drop, length-take}
use lib.Seq.{drop-drop}
use Rattle.prelude.specs.Bytes.{AllBytes}
use Rattle.prelude.proofs.Bytes.{bytes_drop}
use Rattle.fields.specs.Fields.{number}
use Rattle.fields.proofs.Fields.{field_bound, number_first}
use Rattle.fields.proofs.Reading.{first_eight}
use Rattle.instructions.specs.Decode.{operand_of}

module _ (image : List ℕ) (at prefix n value : ℕ) where
  abbrev behind : ℕ
  behind = at + prefix + 1

  same_part : drop (prefix + 1) (drop at image) ≡ drop behind image
  same_part = rw (drop-drop (prefix + 1) at image, ← add_assoc at prefix 1)

  same_count : n - (prefix + 1) ≡ n - prefix - 1
  same_count = omega arith

  -- the operand as the low bytes of six
  pub operand_of_six : AllBytes image → prefix < n → n ≤ 6
      → value ≡ number (take 6 (drop behind image)) % 256 ^ (n - prefix - 1)
      → value ≡ operand_of (drop at image) prefix n
  operand_of_six small some few e =
      rw (same_part, same_count)
      (e ∙ number_first (drop behind image) 6 (n - prefix - 1) (bytes_drop behind image small) (omega arith))

  -- the operand as five bytes at most
  pub operand_small : AllBytes image → n ≤ 6 → operand_of (drop at image) prefix n < 1_099_511_627_776
  operand_small small few =
      let k = n - (prefix + 1) in
      let below = field_bound (prefix + 1) k (drop at image) (bytes_drop at image small) in
      let short : k ≤ 5 = omega arith in
      let top : 256 ^ k ≤ 256 ^ 5 = pow-le-pow_right (omega arith) short in
      omega arith

  -- the operand as a part of the image
  pub operand_of_part : prefix < n → n ≤ 6 → value ≡ number (take 8 (take (at + n - behind) (drop behind image)))
      → value ≡ operand_of (drop at image) prefix n
  operand_of_part some few e =
      let count : n - (prefix + 1) ≡ at + n - behind = omega arith in
      let part = take (at + n - behind) (drop behind image) in
      let short : length part ≤ 8 = rw (length-take (at + n - behind) (drop behind image)) (omega arith) in
      rw (same_part, count) (e ∙ first_eight part short)
