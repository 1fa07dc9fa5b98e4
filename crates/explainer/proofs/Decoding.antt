-- What is decoded at a start, for what is said of it: a code that is not carried is there, one that is cut off has few
-- bytes.
-- Assumes nothing.
use Rattle.types.specs.declared.code.Undecoded.{Undecoded}
use Rattle.std.specs.Prelude.{Ok, Err}
use Rattle.std.proofs.Common.{◌≡◌, refl, ℕ, ◌≤◌, ◌<◌, Bool, true, false, List, eqb, ltb, leb, length, get_or, arith}
use borrow.Author.Tests.{ltb-true, ltb-false, leb-false}
use Rattle.types.specs.Answers.{Decoded}
use Rattle.prelude.specs.Choice.{pick}
use Rattle.prelude.proofs.Choice.{one_of}
use Rattle.instructions.specs.CodeMap.{length_at}
use Rattle.instructions.specs.Decode.{page_of, operand_of, judged, decode_on, decode}
use Rattle.reports.specs.Explanation.{prefix_of, code_entry}
use Rattle.instructions.proofs.CodeMap.{carried_length}

module _ (bytes : List ℕ) (m x : ℕ) where
  abbrev prefix : ℕ
  prefix = prefix_of bytes

  abbrev size : ℕ
  size = length_at (code_entry bytes) m x

  abbrev there : Decoded
  there = judged bytes prefix (code_entry bytes) size

  abbrev whole : Decoded
  whole = Ok (record { entry = code_entry bytes; length = size; operand = operand_of bytes prefix size })

  pub uncarried_code : decode bytes m x ≡ Err Undecoded.NotCarried → prefix < length bytes
  unfolding decode decode_on
  uncarried_code h = by (ltb prefix (length bytes)) refl h
    where
      by : (b : Bool) → ltb prefix (length bytes) ≡ b → pick b there (Err Undecoded.CutOff) ≡ Err Undecoded.NotCarried
          → prefix < length bytes
      by true e h = ltb-true prefix (length bytes) e
      by false e h = let z : ◌≡◌ {A = ℕ} 0 1 = cc in absurd (omega arith)

  pub few_left : decode bytes m x ≡ Err Undecoded.CutOff → length bytes ≤ 6
  unfolding decode decode_on judged
  few_left h = by (ltb prefix (length bytes)) (code_entry bytes).carried (leb size (length bytes)) refl refl refl h
    where
      by : (a b c : Bool) → ltb prefix (length bytes) ≡ a → (code_entry bytes).carried ≡ b → leb size (length bytes) ≡ c
          → pick a (pick b (pick c whole (Err Undecoded.CutOff)) (Err Undecoded.NotCarried)) (Err Undecoded.CutOff)
          ≡ Err Undecoded.CutOff
          → length bytes ≤ 6
      by false b c e e' e'' h =
          let one = one_of (eqb (page_of (get_or bytes 0 0)) 0) 0 1 (omega arith) (omega arith) in
          omega (arith, ltb-false prefix (length bytes) e)
      by true true true e e' e'' h = let z : ◌≡◌ {A = ℕ} 0 1 = cc in absurd (omega arith)
      by true true false e e' e'' h =
          omega (
            arith,
            leb-false size (length bytes) e'',
            (carried_length (page_of (get_or bytes 0 0)) (get_or bytes prefix 0) m x e').1,
          )
      by true false c e e' e'' h = let z : ◌≡◌ {A = ℕ} 0 1 = cc in absurd (omega arith)
