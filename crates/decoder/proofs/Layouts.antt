-- A layout decides what is decoded, and keeps the bounds of the code map's rule. Both go by the tests of the
-- definition, which are the tests of the decoder; the number of a page keeps the entry of the definition.
-- Assumes nothing.
use Rattle.types.specs.declared.code.Undecoded.{Undecoded}
use Rattle.std.specs.Prelude.{Ok, Err}
use mathlib.Core.Path.{◌≡◌, refl, sym, ◌∙◌}
use mathlib.Core.Bool.{Bool, true, false}
use mathlib.Core.List.{List, [], ◌∷◌}
use Prim.Native.Nat.{ℕ, ◌+◌, ◌-◌, ◌≤◌, ◌<◌}
use native.Mathlib.Nat.{add-zero}
use native.Mathlib.Omega.{arith}
use borrow.Author.Tests.{leb-true, lt-ltb, le-ltb, eqb-true, ne_eqb}
use lib.Dec.{eqb, ltb, leb}
use lib.ListN.{length, get_or, drop, length-drop}
use lib.Seq.{get_or-drop}
use Rattle.types.specs.declared.code.Instruction.{Instruction}
use Rattle.prelude.specs.Choice.{pick}
use Rattle.instructions.specs.CodeMap.{prefix_bytes, length_at}
use Rattle.instructions.specs.CodePages.{plain}
use Rattle.instructions.specs.Decode.{page_of, judged, decode_on, decode}
use Rattle.prelude.proofs.Choice.{one_of}
use Rattle.instructions.proofs.CodeMap.{carried_length}
use Rattle.codepages.specs.Packing.{unpacked, packed_pages, packed_at}
use Rattle.codepages.proofs.Unpacked.{unpacked_at}
use Rattle.decoder.specs.declared.Layout.{Layout}
use Rattle.decoder.specs.Layout.{LayoutRead, CodeRead, fitted, layout_on, layout_read, code_on, code_read, layout_by}
use Rattle.decoder.specs.Layout.{instruction_of}
use Rattle.decoder.specs.Layout.{decoded_of, Fitting, FittingIn}

abbrev pub coded : ℕ → ℕ → CodeRead
coded n prefix = Ok (record { number = n; prefix = prefix })

chosen : (bytes : List ℕ) (f : Layout) (a b c : Bool)
    → pick a
    (pick b (pick c (Ok (instruction_of bytes f)) (Err Undecoded.CutOff)) (Err Undecoded.NotCarried))
    (Err Undecoded.CutOff)
    ≡ decoded_of bytes
    (pick a (pick b (pick c (Ok f) (Err Undecoded.CutOff)) (Err Undecoded.NotCarried)) (Err Undecoded.CutOff))
chosen bytes f true true true = refl
chosen bytes f true true false = refl
chosen bytes f true false c = refl
chosen bytes f false b c = refl

module _ (page : ℕ) (bytes : List ℕ) (m x : ℕ) where
  abbrev prefix : ℕ
  prefix = prefix_bytes page

  abbrev at_code : ℕ
  at_code = packed_at packed_pages page (get_or bytes prefix 0)

  abbrev long : ℕ
  long = length_at (unpacked at_code) m x

  abbrev the_frame : Layout
  the_frame = record { number = at_code; prefix = prefix; length = long }

  decoded_on : decode_on page bytes m x ≡ decoded_of bytes (layout_on page bytes m x)
  unfolding decode_on judged layout_on fitted
  decoded_on =
      rw (← unpacked_at page (get_or bytes prefix 0))
      (chosen bytes the_frame (ltb prefix (length bytes)) (unpacked at_code).carried (leb long (length bytes)))

  fitting_on : FittingIn (length bytes) (layout_on page bytes m x)
  unfolding layout_on fitted
  fitting_on =
      by (ltb prefix (length bytes)) (unpacked at_code).carried (leb long (length bytes)) refl refl
    where
      by : (a b c : Bool) → (unpacked at_code).carried ≡ b → leb long (length bytes) ≡ c
          → FittingIn (length bytes)
          (pick a
          (pick b (pick c (Ok the_frame) (Err Undecoded.CutOff)) (Err Undecoded.NotCarried))
          (Err Undecoded.CutOff))
      by true true true carried inside =
          let same = unpacked_at page (get_or bytes prefix 0) in
          let rule = carried_length page (get_or bytes prefix 0) m x (rw same at carried) in
          let rule' : (prefix < long) × (long ≤ 6) = rw same rule in
          (one_of (eqb page 0) 0 1 (omega arith) (omega arith), rule'.0, rule'.1, leb-true long (length bytes) inside)
      by true true false carried inside = tt
      by true false c carried inside = tt
      by false b c carried inside = tt

-- what is decoded is the layout's instruction
pub decoded_layout : (bytes : List ℕ) (m x : ℕ) → decode bytes m x ≡ decoded_of bytes (layout_read bytes m x)
unfolding decode layout_read
decoded_layout bytes m x = decoded_on (page_of (get_or bytes 0 0)) bytes m x

pub fitting : (bytes : List ℕ) (m x : ℕ) → FittingIn (length bytes) (layout_read bytes m x)
unfolding layout_read
fitting bytes m x = fitting_on (page_of (get_or bytes 0 0)) bytes m x

layout_nothing : (bytes : List ℕ) (m x : ℕ) → length bytes ≡ 0 → Err Undecoded.CutOff ≡ layout_read bytes m x
unfolding layout_read layout_on
layout_nothing [] m x h = refl
layout_nothing (b ∷ bs) m x h = absurd (omega arith)

-- what a layout at a place of an image says of it
module _ (image : List ℕ) (at m x : ℕ) (layout-here : LayoutRead)
    (is-layout : layout-here ≡ layout_read (drop at image) m x)
  where
    pub fits_in : FittingIn (length image - at) layout-here
    fits_in = rw (is-layout, ← length-drop at image) (fitting (drop at image) m x)

    pub fits_at : (f : Layout) → layout-here ≡ Ok f → Fitting (length image - at) f
    fits_at f e = rw e at fits_in

    pub decoded_fits : (f : Layout) (i : Instruction) → layout-here ≡ Ok f
        → i ≡ instruction_of (drop at image) f
        → Ok i ≡ decode (drop at image) m x
    decoded_fits f i e same = rw (decoded_layout (drop at image) m x, ← is-layout, e, same)

    pub decoded_not : {why : Undecoded} → layout-here ≡ Err why → Err why ≡ decode (drop at image) m x
    decoded_not e = rw (decoded_layout (drop at image) m x, ← is-layout, e)

-- a layout goes by its code
layout_by_lem : (left n before m x : ℕ) (a b : Bool)
    → pick a (pick b (layout_by left (coded n before) m x) (Err Undecoded.NotCarried)) (Err Undecoded.CutOff)
    ≡ layout_by left (pick a (pick b (coded n before) (Err Undecoded.NotCarried)) (Err Undecoded.CutOff)) m x
layout_by_lem left n before m x true true = refl
layout_by_lem left n before m x true false = refl
layout_by_lem left n before m x false b = refl

layout_coded : (bytes : List ℕ) (m x : ℕ) → layout_read bytes m x ≡ layout_by (length bytes) (code_read bytes) m x
unfolding layout_read layout_on fitted code_read code_on
layout_coded bytes m x =
    let page = page_of (get_or bytes 0 0) in
    let n = packed_at packed_pages page (get_or bytes (prefix_bytes page) 0) in
    layout_by_lem (length bytes) n (prefix_bytes page) m x (ltb (prefix_bytes page) (length bytes)) (unpacked n).carried

differ : false ≡ true → ⊥
differ e = let z : ◌≡◌ {A = ℕ} 0 1 = cc in absurd (omega arith)

-- no prefix is a carried code of the first page
plain_page : (first : ℕ) → (unpacked (packed_at packed_pages 0 first)).carried ≡ true → page_of first ≡ 0
unfolding unpacked packed_pages plain
plain_page first carried = by (eqb first 0x42) (eqb first 0x89) refl refl
  where
    by : (a b : Bool) → eqb first 0x42 ≡ a → eqb first 0x89 ≡ b → ◌≡◌ {A = ℕ} (pick a 1 (pick b 2 0)) 0
    by true b e e' = let same = eqb-true first 0x42 e in absurd (differ (rw same at carried))
    by false true e e' = let same = eqb-true first 0x89 e' in absurd (differ (rw same at carried))
    by false false e e' = refl

-- a page behind a prefix has one prefix byte
pub one_prefix : (page : ℕ) → (page ≡ 0 → ⊥) → 1 ≡ prefix_bytes page
one_prefix page h = rw (ne_eqb page 0 h)

-- The definition's cases, a law each, for the code that walks them.
module _ (image : List ℕ) (at : ℕ) where
  pub layout_past : (m x : ℕ) → length image ≤ at → Err Undecoded.CutOff ≡ layout_read (drop at image) m x
  layout_past m x h = layout_nothing (drop at image) m x (rw length-drop (omega arith))

  pub layout_at_lem : (looked : CodeRead) (m x : ℕ) (here : LayoutRead) → looked ≡ code_read (drop at image)
      → here ≡ layout_by (length image - at) looked m x → here ≡ layout_read (drop at image) m x
  layout_at_lem looked m x here at_code e = rw (layout_coded (drop at image) m x, ← at_code, length-drop) e

  abbrev first : ℕ
  first = get_or image at 0

  coded_on : (page : ℕ) (here : CodeRead) → page_of first ≡ page → here ≡ code_on page (drop at image)
      → here ≡ code_read (drop at image)
  unfolding code_read
  coded_on page here at-page e =
      let same : page_of (get_or (drop at image) 0 0) ≡ page = rw (get_or-drop, add-zero, at-page) in
      rw same e

  module _ (page prefix : ℕ) (at-prefix : prefix ≡ prefix_bytes page) (at-page : page_of first ≡ page) where
    pub coded_short : length image - at ≤ prefix → Err Undecoded.CutOff ≡ code_read (drop at image)
    unfolding code_on
    coded_short few =
        coded_on page (Err Undecoded.CutOff) at-page
        (rw (length-drop, ← at-prefix, le-ltb prefix (length image - at) few) refl)

    module _ (n : ℕ) (some : prefix < length image - at)
        (at_code : n ≡ packed_at packed_pages page (get_or image (at + prefix) 0))
      where
        by_carried : (b : Bool) → (unpacked n).carried ≡ b
            → pick b (coded n prefix) (Err Undecoded.NotCarried) ≡ code_on page (drop at image)
        unfolding code_on
        by_carried b e =
            rw (length-drop, ← at-prefix, lt-ltb prefix (length image - at) some, get_or-drop, ← at_code, e) refl

        pub coded_carried : (unpacked n).carried ≡ true → coded n prefix ≡ code_read (drop at image)
        coded_carried e = coded_on page (coded n prefix) at-page (by_carried true e)

        pub coded_uncarried : (unpacked n).carried ≡ false → Err Undecoded.NotCarried ≡ code_read (drop at image)
        coded_uncarried e = coded_on page (Err Undecoded.NotCarried) at-page (by_carried false e)

  pub coded_plain : (n : ℕ) → at < length image → n ≡ packed_at packed_pages 0 first → (unpacked n).carried ≡ true
      → coded n 0 ≡ code_read (drop at image)
  coded_plain n inside at_code e =
      coded_carried 0 0 refl (plain_page first (rw (← at_code) e)) n (omega arith) (rw add-zero at_code) e

  pub coded_nothing : (page : ℕ) → page ≡ page_of first → page ≡ 0 → at < length image
      → (unpacked (packed_at packed_pages 0 first)).carried ≡ false
      → Err Undecoded.NotCarried ≡ code_read (drop at image)
  coded_nothing page is-page zero inside e =
      coded_uncarried 0 0 refl (sym is-page ∙ zero) (packed_at packed_pages 0 first) (omega arith) (rw add-zero refl) e
