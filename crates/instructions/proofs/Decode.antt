-- What a decoded instruction is, for users of the decoder that need not open its definition: its code is carried, it
-- has 1 to 6 bytes, they lie within the bytes that it was read from, and its operand is below the bound of its bytes.
-- Each test on the way to `Whole` must have passed, and the length's bounds are the code map's rule.
-- Assumes nothing.
use Rattle.types.specs.declared.code.Undecoded.{Undecoded}
use Rattle.std.specs.Prelude.{Ok, Err}
use mathlib.Core.Path.{◌≡◌, refl}
use mathlib.Core.Bool.{Bool, true, false}
use mathlib.Core.List.{List, [], ◌∷◌}
use Prim.Native.Nat.{ℕ, ◌+◌, ◌-◌, ◌^◌, ◌≤◌, ◌<◌}
use native.Mathlib.Omega.{arith}
use borrow.Author.Tests.{leb-true}
use lib.Dec.{ltb, leb}
use lib.ListN.{length, get_or, take, drop, length-take, length-drop}
use lib.Seq.{take_all}
use Rattle.prelude.proofs.Bytes.{bytes_take, bytes_drop}
use Rattle.fields.proofs.Fields.{number_bound}
use Rattle.types.specs.declared.code.Entry.{Entry}
use Rattle.types.specs.declared.code.Instruction.{Instruction}
use Rattle.types.specs.Answers.{Decoded}
use Rattle.prelude.specs.Choice.{pick}
use Rattle.instructions.specs.CodeMap.{prefix_bytes, entry_at, length_at}
use Rattle.prelude.specs.Bytes.{AllBytes}
use Rattle.instructions.specs.Decode.{page_of, operand_of, judged, decode_on, decode}
use Rattle.instructions.proofs.CodeMap.{carried_length}

passed_or_cut : (t : Bool) (d : Decoded) (i : Instruction) → pick t d (Err Undecoded.CutOff) ≡ Ok i
    → (t ≡ true) × (d ≡ Ok i)
passed_or_cut true d i h = (refl, h)
passed_or_cut false d i h = let z : ◌≡◌ {A = ℕ} 0 1 = cc in absurd (omega arith)

passed_or_not_carried : (t : Bool) (d : Decoded) (i : Instruction) → pick t d (Err Undecoded.NotCarried) ≡ Ok i
    → (t ≡ true) × (d ≡ Ok i)
passed_or_not_carried true d i h = (refl, h)
passed_or_not_carried false d i h = let z : ◌≡◌ {A = ℕ} 0 1 = cc in absurd (omega arith)

-- what the tests on the way to an instruction have shown
pub record Passed (page : ℕ) (bytes : List ℕ) (m x : ℕ) (i : Instruction) : Type 0 where
  pub entry : i.entry ≡ entry_at page (get_or bytes (prefix_bytes page) 0)
  pub carried : (entry_at page (get_or bytes (prefix_bytes page) 0)).carried ≡ true
  pub long : i.length ≡ length_at (entry_at page (get_or bytes (prefix_bytes page) 0)) m x
  pub inside : i.length ≤ length bytes
  pub operand : i.operand ≡ operand_of bytes (prefix_bytes page) i.length

pub same_whole : (i j : Instruction) → ◌≡◌ {A = Decoded} (Ok i) (Ok j) → i ≡ j
same_whole i j h = cc

made : (page : ℕ) (bytes : List ℕ) (m x : ℕ) (e : Entry) (n : ℕ) → e ≡ entry_at page
    (get_or bytes (prefix_bytes page) 0)
    → n ≡ length_at e m x → e.carried ≡ true → n ≤ length bytes
    → Passed page bytes m x (record { entry = e; length = n; operand = operand_of bytes (prefix_bytes page) n })
made page bytes m x e n at_code at_widths carried inside =
    record {
      entry = at_code;
      carried = rw (← at_code) carried;
      long = rw (← at_code) at_widths;
      inside = inside;
      operand = refl;
    }

passed : (page : ℕ) (bytes : List ℕ) (m x : ℕ) (i : Instruction) → decode_on page bytes m x ≡ Ok i
    → Passed page bytes m x i
unfolding decode_on judged
passed page bytes m x i h =
    let e = entry_at page (get_or bytes (prefix_bytes page) 0) in
    let n = length_at e m x in
    let code = passed_or_cut (ltb (prefix_bytes page) (length bytes)) _ i h in
    let known = passed_or_not_carried e.carried _ i code.1 in
    let whole = passed_or_cut (leb n (length bytes)) _ i known.1 in
    rw (same_whole _ i whole.1) at (made page bytes m x e n refl refl known.0 (leb-true n (length bytes)
    whole.0))

-- the laws of an instruction that was decoded from these bytes
pub record Decodes (bytes : List ℕ) (i : Instruction) : Type 0 where
  pub carried : i.entry.carried ≡ true
  pub at_least : 1 ≤ i.length
  pub at_most : i.length ≤ 6
  pub inside : i.length ≤ length bytes

decodes_on : (page : ℕ) (bytes : List ℕ) (m x : ℕ) (i : Instruction) → Passed page bytes m x i → Decodes bytes i
decodes_on page bytes m x i p =
    let code = get_or bytes (prefix_bytes page) 0 in
    let rule = carried_length page code m x p.carried in
    record {
      carried = rw p.entry p.carried;
      at_least = rw p.long (omega arith);
      at_most = rw p.long rule.1;
      inside = p.inside;
    }

pub decodes : (bytes : List ℕ) (m x : ℕ) (i : Instruction) → decode bytes m x ≡ Ok i → Decodes bytes i
unfolding decode
decodes bytes m x i h =
    let page = page_of (get_or bytes 0 0) in
    decodes_on page bytes m x i (passed page bytes m x i h)

-- an instruction's entry is the code map's, and its length what the code map counts at these widths
pub decoded_entry : (bytes : List ℕ) (m x : ℕ) (i : Instruction) → decode bytes m x ≡ Ok i
    → (i.entry ≡ entry_at (page_of (get_or bytes 0 0)) (get_or bytes (prefix_bytes (page_of (get_or bytes 0 0))) 0))
    × (i.length ≡ length_at i.entry m x)
unfolding decode
decoded_entry bytes m x i h =
    let p = passed (page_of (get_or bytes 0 0)) bytes m x i h in
    (p.entry, rw p.entry p.long)

part_length : (n k : ℕ) (bytes : List ℕ) → n ≤ length bytes → length (take (n - k) (drop k bytes)) ≡ n - k
part_length n k bytes h = simp (length-take, length-drop) (omega arith)

-- the operand is below the bound of its bytes
pub operand_bound : (bytes : List ℕ) (m x : ℕ) (i : Instruction) → AllBytes bytes → decode bytes m x ≡ Ok i
    → i.operand < 256 ^ (i.length - (prefix_bytes (page_of (get_or bytes 0 0)) + 1))
unfolding decode
operand_bound bytes m x i small h =
    let page = page_of (get_or bytes 0 0) in
    let k = prefix_bytes page + 1 in
    let n = i.length in
    let p = passed page bytes m x i h in
    let part = take (n - k) (drop k bytes) in
    let below = number_bound part (bytes_take (n - k) (drop k bytes) (bytes_drop k bytes small)) in
    rw p.operand (rw (part_length n k bytes p.inside) at below)

pub decode_nothing : (bytes : List ℕ) (m x : ℕ) → length bytes ≡ 0 → Err Undecoded.CutOff ≡ decode bytes m x
unfolding decode decode_on
decode_nothing [] m x h = refl
decode_nothing (b ∷ bs) m x h = absurd (omega arith)

-- the rest of a list, as a part that ends where the list does
pub rest_whole : (l : List ℕ) (at : ℕ) → take (length l - at) (drop at l) ≡ drop at l
rest_whole l at = take_all (length l - at) (drop at l) (rw length-drop (omega arith))
