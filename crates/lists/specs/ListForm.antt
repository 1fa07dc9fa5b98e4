-- 01, 'The mark list', and 02, R-7: which texts are mark lists. Nothing here says how a text is read.
-- Assumes nothing.
use Rattle.std.specs.Prelude.{◌≡◌, ℕ, ◌+◌, ◌^◌, ◌≤◌, ◌<◌, Bool, true, List, [], ◌++◌}
use Rattle.types.specs.declared.lists.Header.{Header}
use Rattle.acceptance.specs.Image.{is_start, is_formed}
use Rattle.lists.specs.MarkList.{digits_by, header_text, line, first_address}

-- 'one line for each start, ascending': lines of starts in form, the first at `low` or above, each further one above
-- the one before, all below `end` and, with so many digits, 'without wrap'
pub data StartLines (count end : ℕ) : ℕ → List ℕ → Type 0 where
  none : (low : ℕ) → StartLines count end low []
  start : (low address mark : ℕ) (rest : List ℕ) → low ≤ address → address < end → address < 16 ^ count
      → is_start mark ≡ true → is_formed mark ≡ true
      → StartLines count end (address + 1) rest → StartLines count end low (line count address mark ++ rest)

pub record IsMarkList (text : List ℕ) : Type 0 where
  -- R-7: 'wholly in four digits', or 'all addresses with six digits, reset included'
  pub old : Bool
  -- 'First line: I, base (six hex digits), image length (decimal, no leading zero), reset'; 'The length has 1 to 5
  -- digits'
  pub header : Header
  pub base_digits : header.base < 16 ^ 6
  pub length_digits : header.length < 10 ^ 5
  pub reset_digits : header.reset < 16 ^ digits_by old
  -- 'Then one line for each start', each 'among the length's many addresses from the base's low 16 bits on'; in six
  -- digits that 'counts from the whole base'
  pub lines : List ℕ
  pub starts : let first = first_address (digits_by old) header.base in
      StartLines (digits_by old) (first + header.length) first lines
  pub whole : text ≡ header_text (digits_by old) header ++ lines
