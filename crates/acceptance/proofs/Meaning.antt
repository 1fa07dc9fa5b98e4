-- Each refusal means what its number says. The tests of the verdict are taken in their order: the first that fails
-- gives the number, and those before it have passed.
-- Assumes nothing.
use Rattle.types.specs.declared.code.Undecoded.{Undecoded}
use Rattle.std.specs.Prelude.{Ok, Err}
use mathlib.Core.Path.{◌≡◌, refl, sym}
use mathlib.Core.Logic.{inl, inr, ⊎_elim}
use mathlib.Core.Bool.{Bool, true, false, ◌&&◌}
use mathlib.Core.List.{List}
use Prim.Native.Nat.{ℕ, ◌+◌, ◌-◌, ◌≤◌, ◌<◌}
use native.Mathlib.Nat.{eq-or-lt_of_le}
use native.Mathlib.Omega.{arith}
use borrow.Author.Tests.{eqb-false, not-true, not-false}
use lib.Dec.{eqb}
use lib.ListN.{length, get_or}
use Rattle.types.specs.declared.code.Instruction.{Instruction}
use Rattle.types.specs.Answers.{Decoded, refused_at, TestResult, Verdict}
use Rattle.types.specs.declared.refusals.Refusal.{Refusal}
use Rattle.types.specs.declared.rules.Requirement.{Requirement}
use Rattle.types.specs.declared.rules.Requirements.{Requirements}
use Rattle.prelude.specs.Choice.{pick}
use Rattle.types.specs.Addresses.{bank_size, image_limit}
use Rattle.acceptance.specs.Image.{is_start, is_formed, length_fits, mark_at}
use Rattle.types.specs.Refusals.{Tests, first_refusal, answered}
use Rattle.acceptance.specs.Rules.{owed_there, instruction_at}
use Rattle.acceptance.specs.Meaning.{Among, StartBreaks, Breaks}
use Rattle.prelude.specs.First.{first_from}
use Rattle.acceptance.specs.Verdict.{start_at, is_clear, is_start_at, all_starts, has_mark_at, all_marks, whole_tests}
use Rattle.acceptance.specs.Verdict.{decoded_result, start_result, broken_at, bad_start, starts_verdict, unformed_at}
use Rattle.acceptance.specs.Verdict.{bad_mark, marks_tests, offset_of, verdict}
use Rattle.prelude.proofs.First.{first_is}
use Rattle.acceptance.proofs.Image.{right_length}
use Rattle.types.proofs.TestResults.{AllHold, FirstFails, shown, failed_passed, same_why, not_failed, same_refused}
use Rattle.prelude.proofs.Choice.{both_true}
use Rattle.acceptance.proofs.Verdict.{clear_all, formed_all, start_inside, start_rules}

below_end : (j n : ℕ) → j ≤ n → (j ≡ n → ⊥) → j < n
below_end j n h ne = ⊎_elim (λ (e : j ≡ n). absurd (ne e)) (λ (below : j < n). below) (eq-or-lt_of_le h)

-- ---- 8 and 9

-- a requirement among those owed
abbrev Failing : (Requirement → Type 0) → Requirements → Type 0
Failing bad o = (w : Requirement) × Among w o × bad w

one_of_two : (test : Requirement → Bool) (v w : Requirement) → test v && test w ≡ false
    → Failing (λ u. test u ≡ false) (Requirements.Two v w)
one_of_two test v w h = by (test v) refl h
  where
    by : (b : Bool) → test v ≡ b → b && test w ≡ false → Failing (λ u. test u ≡ false) (Requirements.Two v w)
    by true e h' = (w, inr refl, h')
    by false e h' = (v, inl refl, e)

module _ (marks : List ℕ) (base : ℕ) where
  no_start : (o : Requirements) → all_starts marks base o ≡ false
      → Failing (λ w. is_start (mark_at marks base w.address) ≡
      false) o
  unfolding all_starts is_start_at
  no_start Requirements.Nothing h = let z : ◌≡◌ {A = ℕ} 0 1 = cc in absurd (omega arith)
  no_start (Requirements.One w) h = (w, refl, h)
  no_start (Requirements.Two v w) h = one_of_two (is_start_at marks base) v w h

  other_mark : (o : Requirements) → all_marks marks base o ≡ false
      → Failing (λ w. mark_at marks base w.address ≡ w.mark →
      ⊥) o
  unfolding all_marks has_mark_at
  other_mark Requirements.Nothing h = let z : ◌≡◌ {A = ℕ} 0 1 = cc in absurd (omega arith)
  other_mark (Requirements.One w) h = (w, refl, eqb-false (mark_at marks base w.address) w.mark h)
  other_mark (Requirements.Two v w) h =
      let f = one_of_two (has_mark_at marks base) v w h in
      (f.0, f.1, eqb-false (mark_at marks base f.0.address) f.0.mark f.2)

  every_start : (o : Requirements) → all_starts marks base o ≡ true
      → (w : Requirement) → Among w o → is_start (mark_at marks base w.address) ≡ true
  unfolding all_starts is_start_at
  every_start Requirements.Nothing h w a = absurd a
  every_start (Requirements.One v) h w a = rw a h
  every_start (Requirements.Two u v) h w (inl e) =
      rw e (both_true (is_start_at marks base u) (is_start_at marks base v) h).0
  every_start (Requirements.Two u v) h w (inr e) =
      rw e (both_true (is_start_at marks base u) (is_start_at marks base v) h).1

-- ---- 7

not_clear : (marks : List ℕ) (at n : ℕ) → is_clear marks at n ≡ false
    → (k : ℕ) × (at < k) × (k < at + n) × (start_at marks k ≡ true)
unfolding is_clear
not_clear marks at n h =
    let j = first_from (start_at marks) (at + 1) (n - 1) in
    let f = first_is (start_at marks) (at + 1) (n - 1) in
    let ne = eqb-false j (at + 1 + (n - 1)) h in
    let below : j < at + 1 + (n - 1) = below_end j (at + 1 + (n - 1)) f.at_most ne in
    (j, omega (arith, f.at_least), omega (arith, f.at_least), f.found below)

-- ---- the refusal at a start

module _ (image marks : List ℕ) (base at : ℕ) where
  whole_breaks : (i : Instruction) (why : Refusal) → instruction_at image marks at ≡ Ok i
      → FirstFails why (whole_tests marks base at i) → StartBreaks image marks base at why
  whole_breaks i why whole (inl (ec, w)) =
      let f = not_clear marks at i.length ec in
      rw (← w) (StartBreaks.overlap i whole f.0 f.1 f.2 f.3)
  whole_breaks i why whole (inr (ec, inl (er, w))) =
      rw (← w) (StartBreaks.return i whole (clear_all marks at i.length ec) er)
  whole_breaks i why whole (inr (ec, inr (er, inl (es, w)))) =
      let f = no_start marks base (owed_there marks base at i) es in
      rw (← w) (StartBreaks.flow i whole (clear_all marks at i.length ec) er f.0 f.1 f.2)
  whole_breaks i why whole (inr (ec, inr (er, inr (es, inl (em, w))))) =
      let f = other_mark marks base (owed_there marks base at i) em in
      rw (← w) (StartBreaks.widths i whole (clear_all marks at i.length ec) er
      (every_start marks base (owed_there marks base at i) es) f.0 f.1 f.2)
  whole_breaks i why whole (inr (ec, inr (er, inr (es, inr (em, none))))) = absurd none

  -- a place that breaks a rule is a start
  start_breaks : (why : Refusal) → start_result image marks base at ≡ Err why
      → (start_at marks at ≡ true) × StartBreaks image marks base at why
  unfolding start_result decoded_result
  start_breaks why h = by (start_at marks at) (instruction_at image marks at) refl refl h
    where
      by : (b : Bool) (d : Decoded) → start_at marks at ≡ b → instruction_at image marks at ≡ d
          → pick b (decoded_result marks base at d) (Ok tt) ≡ Err why
          → (start_at marks at ≡ true) × StartBreaks image marks base at why
      by false d s e r = absurd (failed_passed (sym r))
      by true (Err Undecoded.NotCarried) s e r = (s, rw (← same_why r) (StartBreaks.code e))
      by true (Err Undecoded.CutOff) s e r = (s, rw (← same_why r) (StartBreaks.cut_off e))
      by true (Ok i) s e r = (s, whole_breaks i why e (shown (whole_tests marks base at i) r))

-- ---- the refusals

pub found_at : (test : ℕ → Bool) (n : ℕ) → eqb (first_from test 0 n) n ≡ false
    → (first_from test 0 n < n) × (test (first_from test 0 n) ≡ true) × ((k : ℕ) → k < first_from test 0 n → test k ≡
    false)
found_at test n h =
    let f = first_is test 0 n in
    let below = below_end (first_from test 0 n) n (omega (arith, f.at_most)) (eqb-false (first_from test 0 n) n h) in
    (below, f.found (omega arith), λ k high. f.before k (omega arith) high)

module _ (image marks : List ℕ) (base reset : ℕ) where
  tests_break : (why : Refusal) → FirstFails why (marks_tests (length image) marks base reset)
      → Breaks image marks base reset why (offset_of marks why)
  unfolding bad_mark
  tests_break why (inl (el, w)) = rw (← w) (Breaks.wrong_length el)
  tests_break why (inr (el, inl (eb, w))) = rw (← w) (Breaks.wrong_base el eb)
  tests_break why (inr (el, inr (eb, inl (ef, w)))) =
      let f = found_at (unformed_at marks) (length marks) ef in
      rw (← w) (Breaks.wrong_mark el eb (bad_mark marks) f.0
      (not-true (is_formed (get_or marks (bad_mark marks) 0)) f.1)
      (λ k high. not-false (is_formed (get_or marks k 0)) (f.2 k high)))
  tests_break why (inr (el, inr (eb, inr (ef, inl (er, w))))) =
      rw (← w) (Breaks.wrong_reset el eb (formed_all marks ef) er)
  tests_break why (inr (el, inr (eb, inr (ef, inr (er, none))))) = absurd none

  starts_break : AllHold (marks_tests (length image) marks base reset) → (why : Refusal)
      → start_result image marks base (bad_start image marks base) ≡ Err why
      → Breaks image marks base reset why (bad_start image marks base)
  unfolding bad_start
  starts_break held why e =
      let at = bad_start image marks base in
      let here = start_breaks image marks base at why e in
      Breaks.wrong_start held.0 held.1.0 (formed_all marks held.1.1.0) held.1.1.1.0 at why
      (start_inside marks at here.0) here.0 here.1
      (λ k high s. start_rules image marks base k s (not_failed (start_result image marks base k)
      ((first_is (broken_at image marks base) 0 (length marks)).before k (omega arith) high)))

  same : (why why' : Refusal) (at at' : ℕ) → Breaks image marks base reset why at
      → ◌≡◌ {A = Verdict} (refused_at why at) (refused_at why' at')
      → Breaks image marks base reset why' at'
  same why why' at at' b e = rw ((same_refused e).0, (same_refused e).1) at b

  -- each refusal means what its number says
  pub refused_means : (why : Refusal) (at : ℕ) → verdict image marks base reset ≡ refused_at why at
      → Breaks image marks base reset why at
  unfolding verdict starts_verdict
  refused_means why at =
      by (first_refusal tests) (start_result image marks base (bad_start image marks base)) refl refl
    where
      tests : Tests
      tests = marks_tests (length image) marks base reset

      by : (so starts : TestResult) → first_refusal tests ≡ so
          → start_result image marks base (bad_start image marks base) ≡ starts
          → answered {A = Verdict} so (λ w. refused_at w (offset_of marks w))
          (answered starts (λ w. refused_at w (bad_start image marks base)) (Ok tt))
          ≡ refused_at why at
          → Breaks image marks base reset why at
      by (Err w) starts t s e = same w why _ at (tests_break w (shown tests t)) e
      by (Ok _) (Err w) t s e = same w why _ at (starts_break (shown tests t) w s) e
      by (Ok _) (Ok _) t s e = let z : ◌≡◌ {A = ℕ} 0 1 = cc in absurd (omega arith)

-- ---- the range of an offset

few_marks : (image marks : List ℕ) → length_fits (length image) (length marks) ≡ true → length marks ≤ image_limit
few_marks image marks h = let r = right_length (length image) (length marks) h in omega (arith, r.few, r.same)

offset_range : (image marks : List ℕ) (base reset at : ℕ) (why : Refusal)
    → Breaks image marks base reset why at → at < bank_size
offset_range image marks base reset at why (Breaks.wrong_length l) = omega arith
offset_range image marks base reset at why (Breaks.wrong_base l b) = omega arith
offset_range image marks base reset at why (Breaks.wrong_mark l b at' inside f below) =
    omega (arith, few_marks image marks l)
offset_range image marks base reset at why (Breaks.wrong_reset l b f r) = omega arith
offset_range image marks base reset at why (Breaks.wrong_start l b f r at' why' inside s breaks below) =
    omega (arith, few_marks image marks l)

pub tests_small : (image marks : List ℕ) (base reset : ℕ) (why : Refusal)
    → first_refusal (marks_tests (length image) marks base reset) ≡ Err why → offset_of marks why <
    bank_size
tests_small image marks base reset why e =
    offset_range image marks base reset _ why
    (tests_break image marks base reset why (shown (marks_tests (length image) marks base reset) e))

pub refused_small : (image marks : List ℕ) (base reset at : ℕ) (why : Refusal)
    → verdict image marks base reset ≡ refused_at why at
    → at < bank_size
refused_small image marks base reset at why h =
    offset_range image marks base reset at why (refused_means image marks base reset why at h)
