-- 02, R-6, 'Marks worked out from a routine list': which texts are routine lists, which markings an image admits with
-- one, the answer, the marks delivered, and what R-6 claims of them. Nothing here says how marks are worked out: the
-- definitions try every list of bytes.
-- Assumes nothing.
use Rattle.types.specs.declared.code.Undecoded.{Undecoded}
use Rattle.std.specs.Prelude.{◌≡◌, ◌↔◌, ℕ, ◌+◌, ◌^◌, Bool, true, false, not, ◌&&◌, eqb, ltb, leb, length, get_or, Ok}
use Rattle.std.specs.Prelude.{Err}
use mathlib.Core.List.{List, [], ◌∷◌, ◌++◌, head_d}
use Rattle.types.specs.declared.code.Kind.{Kind}
use Rattle.types.specs.declared.code.Flow.{Flow}
use Rattle.types.specs.declared.code.Instruction.{Instruction}
use Rattle.types.specs.Answers.{Decoded, TestResult, Verdict}
use Rattle.types.specs.declared.refusals.Refusal.{Refusal}
use Rattle.types.specs.Refusals.{Tests, first_refusal}
use Rattle.prelude.specs.First.{first_from}
use Rattle.prelude.specs.Lists.{passing, all_pass, all_lists}
use Rattle.acceptance.specs.Image.{is_start, mark_at, start_count, length_fits}
use Rattle.acceptance.specs.Rules.{instruction_at}
use Rattle.instructions.specs.Successors.{target_address}
use Rattle.acceptance.specs.Verdict.{start_at, verdict}
use Rattle.lists.specs.MarkList.{old_digits, digits_by, lines, first_address, tab_at, marks_shown, lines_left}
use Rattle.lists.specs.MarkList.{list_base_fits, list_tests}
use Rattle.lists.specs.ListForm.{StartLines}

-- ---- the list

-- 'a list in our line form, without the first line, strictly ascending, with a line for each routine': lines of starts,
-- at any addresses of four digits or of six
pub record IsRoutineList (text : List ℕ) : Type 0 where
  pub old : Bool
  pub starts : StartLines (digits_by old) (16 ^ digits_by old) 0 text

-- a routine list is old by its first line, which goes on with a tab behind four digits; R-7: 'a routine list without
-- lines counts as six'
unfoldable pub has_old_lines : List ℕ → Bool
has_old_lines text = tab_at text old_digits

abbrev pub routine_digits : List ℕ → ℕ
routine_digits text = digits_by (has_old_lines text)

-- 14: 'Malformed text' unless the addresses of so many digits in turn take all lines
unfoldable pub is_routine_list : List ℕ → Bool
is_routine_list text = eqb (length (lines_left (routine_digits text) 0 (16 ^ routine_digits text) text)) 0

-- the first of the image's addresses, as far as the list's digits show it
abbrev pub first_routine : ℕ → List ℕ → ℕ
first_routine base text = first_address (routine_digits text) base

-- the listed routines beside an image of n bytes: at the place of each the mark that its line shows, 00 elsewhere
unfoldable pub routine_marks : ℕ → ℕ → List ℕ → List ℕ
routine_marks base n text = marks_shown (routine_digits text) (first_routine base text) n text

-- 17: 'an address outside the image', unless the image's addresses take all lines
unfoldable pub routines_inside : ℕ → ℕ → List ℕ → Bool
routines_inside base n text = eqb (length (lines_left (routine_digits text) (first_routine base text) n text)) 0

-- 'up to 256 routines'
abbrev pub routine_limit : ℕ
routine_limit = 256

-- 17: 'an address outside the image', 'too many routines'
unfoldable pub routines_fit : ℕ → ℕ → List ℕ → Bool
routines_fit base n text =
    routines_inside base n text && leb (start_count (routine_marks base n text)) routine_limit

-- ---- which markings are asked for

-- each start of some marks stands, equally marked, in others
abbrev pub StandsIn : List ℕ → List ℕ → Type 0
StandsIn marks others = (at : ℕ) → start_at marks at ≡ true → get_or others at 0 ≡ get_or marks at 0

-- a byte without a start is 00
abbrev pub Plain : List ℕ → Type 0
Plain marks = (at : ℕ) → start_at marks at ≡ false → get_or marks at 0 ≡ 0

-- an address is that of a listed routine
abbrev pub is_listed : List ℕ → ℕ → ℕ → Bool
is_listed routines base address = is_start (mark_at routines base address)

module _ (image : List ℕ) (base reset : ℕ) (routines : List ℕ) where
  -- a marking that 'passes the check, holds every listed routine as listed, and has all call targets on the list'
  pub record Admitted (marks : List ℕ) : Type 0 where
    pub passes : verdict image marks base reset ≡ Ok tt
    pub as_listed : StandsIn routines marks
    pub calls_listed : (at : ℕ) (i : Instruction) (kind : Kind) → start_at marks at ≡ true
        → instruction_at image marks at ≡ Ok i → i.entry.flow ≡ Flow.Call kind
        → is_listed routines base (target_address i (base + at)) ≡ true

  -- 'the least: each start in them stands, equally marked, in every such marking'
  pub record Least (marks : List ℕ) : Type 0 where
    pub admitted : Admitted marks
    pub least : (others : List ℕ) → Admitted others → StandsIn marks others

-- ---- the same as tests

abbrev pub missing_at : List ℕ → List ℕ → ℕ → Bool
missing_at marks others at = start_at marks at && not (eqb (get_or others at 0) (get_or marks at 0))

unfoldable pub stands_in : List ℕ → List ℕ → Bool
stands_in marks others = eqb (first_from (missing_at marks others) 0 (length marks)) (length marks)

-- the target of an instruction is on the list, where that is a call
unfoldable pub flow_listed : Flow → Bool → Bool
flow_listed Flow.Next listed = true
flow_listed Flow.Branch listed = true
flow_listed Flow.Jump listed = true
flow_listed (Flow.Call kind) listed = listed
flow_listed (Flow.Return kind) listed = true
flow_listed Flow.Halt listed = true

unfoldable pub target_listed : List ℕ → ℕ → ℕ → Decoded → Bool
target_listed routines base at (Ok i) =
    flow_listed i.entry.flow (is_listed routines base (target_address i (base + at)))
target_listed routines base at (Err Undecoded.NotCarried) = true
target_listed routines base at (Err Undecoded.CutOff) = true

abbrev pub stray_at : List ℕ → List ℕ → ℕ → List ℕ → ℕ → Bool
stray_at image marks base routines at =
    start_at marks at && not (target_listed routines base at (instruction_at image marks at))

unfoldable pub all_are_listed : List ℕ → List ℕ → ℕ → List ℕ → Bool
all_are_listed image marks base routines =
    eqb (first_from (stray_at image marks base routines) 0 (length marks)) (length marks)

abbrev pub accepted_by : Verdict → Bool
accepted_by (Ok _) = true
accepted_by (Err r) = false

unfoldable pub is_admitted : List ℕ → ℕ → ℕ → List ℕ → List ℕ → Bool
is_admitted image base reset routines marks =
    accepted_by (verdict image marks base reset) && stands_in routines marks && all_are_listed image marks base routines

-- ---- all of them, and the least

unfoldable pub admitted_markings : List ℕ → ℕ → ℕ → List ℕ → List (List ℕ)
admitted_markings image base reset routines = passing (is_admitted image base reset routines) (all_lists (length image))

unfoldable pub has_marking : List ℕ → ℕ → ℕ → List ℕ → Bool
has_marking image base reset routines = ltb 0 (length (admitted_markings image base reset routines))

-- each start of some marks stands, equally marked, in every marking of many
unfoldable pub stands_in_all : List (List ℕ) → List ℕ → Bool
stands_in_all markings marks = all_pass (stands_in marks) markings

-- those of many that do: at most one
unfoldable pub least_of : List (List ℕ) → List (List ℕ)
least_of markings = passing (stands_in_all markings) markings

-- ---- the answer

-- 14, 1 and 2; 'a wrong image, base or marks length is as in the check'
abbrev pub form_tests : List ℕ → ℕ → ℕ → ℕ → Tests
form_tests text image marks base = (is_routine_list text, Refusal.List) ∷ list_tests (has_old_lines text) image marks
    base

-- 'no such marking or too many routines, after 14, 1 and 2'
abbrev pub build_tests : List ℕ → ℕ → ℕ → List ℕ → ℕ → Tests
build_tests image base reset text marks =
    form_tests text (length image) marks base
    ++ ((
      routines_fit base (length image) text
          && has_marking image base reset (routine_marks base (length image) text),
      Refusal.Routines,
    ) ∷ [])

unfoldable pub built : List ℕ → ℕ → ℕ → List ℕ → List ℕ → TestResult
built image base reset text marks = first_refusal (build_tests image base reset text (length marks))

-- the marks delivered; 01: 'A refusal leaves every buffer .. as given'
unfoldable pub marks_after : TestResult → List (List ℕ) → List ℕ → List ℕ
marks_after (Err why) least marks = marks
marks_after (Ok _) least marks = head_d least marks

unfoldable pub marks_built : List ℕ → ℕ → ℕ → List ℕ → List ℕ → List ℕ
marks_built image base reset text marks =
    marks_after (built image base reset text marks)
    (least_of (admitted_markings image base reset (routine_marks base (length image) text))) marks

-- ---- the claims

-- 'Input in form and within these limits'
pub record WithinLimits (image : List ℕ) (base : ℕ) (text marks : List ℕ) : Type 0 where
  pub form : is_routine_list text ≡ true
  pub right_length : length_fits (length image) (length marks) ≡ true
  pub right_base : list_base_fits (has_old_lines text) base (length image) ≡ true
  pub all_fit : routines_fit base (length image) text ≡ true

-- '.. is refused exactly if no marking passes the check, holds every listed routine as listed, and has all call targets
-- on the list'
abbrev pub RefusedExactly : Type 0
RefusedExactly =
    (image : List ℕ) (base reset : ℕ) (text marks : List ℕ) → WithinLimits image base text marks
    → (built image base reset text marks ≡ Err Refusal.Routines)
    ↔ ((others : List ℕ) → Admitted image base reset (routine_marks base (length image) text) others → ⊥)

-- 'The marks delivered are the least'
abbrev pub DeliversLeast : Type 0
DeliversLeast =
    (image : List ℕ) (base reset : ℕ) (text marks : List ℕ)
    → built image base reset text marks ≡ Ok tt
    → Least image base reset (routine_marks base (length image) text) (marks_built image base reset text marks)

-- there is only one
abbrev pub LeastOnly : Type 0
LeastOnly =
    (image : List ℕ) (base reset : ℕ) (routines marks others : List ℕ)
    → Least image base reset routines marks → Least image base reset routines others → marks ≡ others

-- a text is a routine list exactly if it passes the test, and one within the image is the lines of its routines
abbrev pub RoutinesExactly : Type 0
RoutinesExactly = (text : List ℕ) → (is_routine_list text ≡ true) ↔ IsRoutineList text

abbrev pub RoutinesWhole : Type 0
RoutinesWhole =
    (base n : ℕ) (text : List ℕ) → routines_inside base n text ≡ true
    → text ≡ lines (routine_digits text) (first_routine base text) (routine_marks base n text)
