-- 01: 'One rule holds for every entry: a carried code has 1 to 6 bytes at each of the four widths.' The rule is one
-- test over the 768 entries, which antt computes, and a lemma that turns it into the rule at any page, code and widths.
-- The test asks a little more, that the prefix and the code are among the bytes, which the decoder needs.
-- Assumes nothing.
use mathlib.Core.Path.{◌≡◌, refl}
use mathlib.Core.Bool.{Bool, true, false, not, ◌&&◌, ◌||◌}
use mathlib.Core.List.{List, []}
use Prim.Native.Nat.{ℕ, zero, suc, ◌≤◌, ◌<◌, ◌/◌, ◌%◌}
use native.Mathlib.Omega.{arith}
use lib.Dec.{T, leb, leb→le, ltb, eqb, eqb-suc-zero}
use lib.ListN.{length, get_or}
use Rattle.types.specs.declared.code.Entry.{Entry}
use Rattle.types.specs.declared.code.Kind.{Kind}
use Rattle.types.specs.declared.code.Flow.{Flow}
use Rattle.types.specs.declared.code.WidthEffect.{WidthEffect}
use Rattle.types.specs.declared.code.LengthRule.{LengthRule}
use Rattle.instructions.specs.Words.{syntax_word}
use Rattle.instructions.specs.CodePages.{Form, none, plain, behind42, behind89, pages}
use Rattle.instructions.specs.CodeMap.{prefix_bytes, entry_of, entry_at, more_bytes, length_at}
use Rattle.prelude.proofs.Choice.{one_or_none}
use Rattle.prelude.proofs.Table.{every, everywhere, and_left, and_right}

-- the bytes of an entry at the widths m and x: more than its prefix bytes, and at most six
abbrev within : ℕ → Entry → ℕ → ℕ → Bool
within prefix e m x = ltb prefix (length_at e m x) && leb (length_at e m x) 6

-- the rule at one entry, at each of the four widths
abbrev ruled : ℕ → Entry → Bool
ruled prefix e =
    not e.carried || (within prefix e 0 0 && within prefix e 0 1 && within prefix e 1 0 && within prefix e 1 1)

-- a test of entries, told the prefix bytes, over the three pages
module _ (test : ℕ → Entry → Bool) where
  abbrev form_test : ℕ → ℕ → Form → Bool
  form_test page column f = test (prefix_bytes page) (entry_of (prefix_bytes page) f)

  abbrev row_test : ℕ → ℕ → List Form → Bool
  row_test page row = every (form_test page) 0

  abbrev pub page_test : ℕ → List (List Form) → Bool
  page_test page = every (row_test page) 0

  -- where the test passes at every entry and at an unassigned code, it passes at any page and code
  pub tested_at : ((page : ℕ) → T (form_test page 0 none)) → T (every page_test 0 pages)
      → (page code : ℕ) → T (test (prefix_bytes page) (entry_at page code))
  unfolding entry_at
  tested_at past all page code =
      everywhere (form_test page) none (λ k. past page) (get_or (get_or pages page []) (code / 16) [])
      (everywhere (row_test page) [] (λ k. tt) (get_or pages page [])
      (everywhere page_test [] (λ k. tt) pages all page) (code / 16))
      (code % 16)

all_ruled : T (every (page_test ruled) 0 pages)
unfolding pages plain behind42 behind89
all_ruled = tt

ruled_at : (page code : ℕ) → T (ruled (prefix_bytes page) (entry_at page code))
ruled_at = tested_at ruled (λ page. tt) all_ruled

-- every entry, carried or not, has at most six bytes at m=1 and x=1
abbrev short : ℕ → Entry → Bool
short prefix e = leb e.bytes 6

all_short : T (every (page_test short) 0 pages)
unfolding pages plain behind42 behind89
all_short = tt

pub bytes_at_most : (page code : ℕ) → (entry_at page code).bytes ≤ 6
bytes_at_most page code = leb→le (entry_at page code).bytes 6 (tested_at short (λ p. tt) all_short page code)

-- the word of every entry, carried or not, has at most four letters
abbrev worded : ℕ → Entry → Bool
worded prefix e = leb (length (syntax_word e)) 4

all_worded : T (every (page_test worded) 0 pages)
unfolding pages plain behind42 behind89
all_worded = tt

pub word_at_most : (page code : ℕ) → length (syntax_word (entry_at page code)) ≤ 4
word_at_most page code =
    leb→le (length (syntax_word (entry_at page code))) 4 (tested_at worded (λ p. tt) all_worded page code)

-- 'Only SEM, CLM, SEP and CLP change them': no branch, jump, call or return does
abbrev keeps_widths : WidthEffect → Bool
keeps_widths WidthEffect.KeepWidths = true
keeps_widths WidthEffect.SetM = false
keeps_widths WidthEffect.ClearM = false
keeps_widths WidthEffect.SetBits = false
keeps_widths WidthEffect.ClearBits = false

abbrev keeps_by : Flow → WidthEffect → Bool
keeps_by Flow.Next effect = true
keeps_by Flow.Branch effect = keeps_widths effect
keeps_by Flow.Jump effect = keeps_widths effect
keeps_by (Flow.Call kind) effect = keeps_widths effect
keeps_by (Flow.Return kind) effect = keeps_widths effect
keeps_by Flow.Halt effect = true

abbrev keeping : ℕ → Entry → Bool
keeping prefix e = keeps_by e.flow e.effect

all_keeping : T (every (page_test keeping) 0 pages)
unfolding pages plain behind42 behind89
all_keeping = tt

kept : (effect : WidthEffect) → T (keeps_widths effect) → effect ≡ WidthEffect.KeepWidths
kept WidthEffect.KeepWidths t = refl
kept WidthEffect.SetM t = absurd t
kept WidthEffect.ClearM t = absurd t
kept WidthEffect.SetBits t = absurd t
kept WidthEffect.ClearBits t = absurd t

module _ (page code : ℕ) where
  abbrev entry : Entry
  entry = entry_at page code

  kept_by : (flow : Flow) → entry.flow ≡ flow → T (keeps_by flow entry.effect)
  kept_by flow same = rw same at (tested_at keeping (λ p. tt) all_keeping page code)

  pub branch_keeps : entry.flow ≡ Flow.Branch → entry.effect ≡ WidthEffect.KeepWidths
  branch_keeps h = kept entry.effect (kept_by Flow.Branch h)

  pub jump_keeps : entry.flow ≡ Flow.Jump → entry.effect ≡ WidthEffect.KeepWidths
  jump_keeps h = kept entry.effect (kept_by Flow.Jump h)

  pub call_keeps : (kind : Kind) → entry.flow ≡ Flow.Call kind → entry.effect ≡ WidthEffect.KeepWidths
  call_keeps kind h = kept entry.effect (kept_by (Flow.Call kind) h)

  pub return_keeps : (kind : Kind) → entry.flow ≡ Flow.Return kind → entry.effect ≡ WidthEffect.KeepWidths
  return_keeps kind h = kept entry.effect (kept_by (Flow.Return kind) h)

-- a length hangs on no more of a width than whether it is 0
narrow : ℕ → ℕ
narrow zero = 0
narrow (suc n) = 1

more_narrow : (r : LengthRule) (m x : ℕ) → more_bytes r m x ≡ more_bytes r (narrow m) (narrow x)
unfolding narrow
more_narrow LengthRule.Fixed m x = refl
more_narrow LengthRule.MoreByM zero x = refl
more_narrow LengthRule.MoreByM (suc m) x = rw eqb-suc-zero
more_narrow LengthRule.MoreByX m zero = refl
more_narrow LengthRule.MoreByX m (suc x) = rw eqb-suc-zero

four : (a b c d : Bool) → T (a && b && c && d) → T a × T b × T c × T d
four true true true true t = (tt, tt, tt, tt)
four true true true false t = absurd t
four true true false d t = absurd t
four true false c d t = absurd t
four false b c d t = absurd t

within_four : (prefix : ℕ) (e : Entry)
    → T (within prefix e 0 0 && within prefix e 0 1 && within prefix e 1 0 && within prefix e 1 1)
    → (m x : ℕ) → T (within prefix e (narrow m) (narrow x))
unfolding narrow
within_four prefix e t m x =
    let w : ℕ → ℕ → Bool = within prefix e in
    let all = four (w 0 0) (w 0 1) (w 1 0) (w 1 1) t in
    elim m as (λ k. T (w (narrow k) (narrow x))) [
      | zero ↦ elim x as (λ k. T (w (narrow 0) (narrow k))) [ zero ↦ all.0 | suc x' ↦ all.1 ]
      | suc m' ↦ elim x as (λ k. T (w (narrow (suc m')) (narrow k))) [ zero ↦ all.2 | suc x' ↦ all.3 ]
    ]

ruled_within : (prefix : ℕ) (e : Entry) → T (ruled prefix e) → e.carried ≡ true → (m x : ℕ) → T (within prefix e m x)
ruled_within prefix e t h m x = rw (more_narrow e.rule m x) (within_four prefix e (rw h at t) m x)

-- the rule: a carried code has more bytes than its prefix, and at most six
pub carried_length : (page code m x : ℕ) → (entry_at page code).carried ≡ true
    → (prefix_bytes page < length_at (entry_at page code) m x) × (length_at (entry_at page code) m x ≤ 6)
carried_length page code m x h =
    let n = length_at (entry_at page code) m x in
    let t = ruled_within (prefix_bytes page) (entry_at page code) (ruled_at page code) h m x in (
      leb→le (suc (prefix_bytes page)) n (and_left (ltb (prefix_bytes page) n) (leb n 6) t),
      leb→le n 6 (and_right (ltb (prefix_bytes page) n) (leb n 6) t),
    )

-- the widths add one byte at most
pub more_at_most : (r : LengthRule) (m x : ℕ) → more_bytes r m x ≤ 1
more_at_most LengthRule.Fixed m x = omega arith
more_at_most LengthRule.MoreByM m x = one_or_none (eqb m 0)
more_at_most LengthRule.MoreByX m x = one_or_none (eqb x 0)
