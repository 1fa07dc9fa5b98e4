-- 02, R-7: 'a mixture gets 14', of four digits and six in one list of marks or of routines.
-- Assumes nothing.
use Rattle.std.specs.Prelude.{◌≡◌, ℕ, Bool, not, List, ◌++◌}
use Rattle.types.specs.declared.lists.Header.{Header}
use Rattle.lists.specs.MarkList.{digits_by, header_text, line}
use Rattle.lists.specs.ListForm.{StartLines, IsMarkList}
use Rattle.lists.specs.Routines.{IsRoutineList, has_old_lines}

-- lines of starts in four digits, or in six, that go on with a line in the other ones
pub record Mixed (old : Bool) (text : List ℕ) : Type 0 where
  pub end : ℕ
  pub low : ℕ
  pub before : List ℕ
  pub starts : StartLines (digits_by old) end low before
  pub address : ℕ
  pub mark : ℕ
  pub rest : List ℕ
  pub whole : text ≡ before ++ (line (digits_by (not old)) address mark ++ rest)

pub record MixturesFail : Type 0 where
  -- behind a first line the lines have the digits of its reset
  pub lists : (old : Bool) (h : Header) (lines : List ℕ) → Mixed old lines
      → IsMarkList (header_text (digits_by old) h ++ lines) → ⊥
  -- without one they have the digits of the first of them
  pub routines : (old : Bool) (text : List ℕ) → Mixed old text → has_old_lines text ≡ old → IsRoutineList text → ⊥
