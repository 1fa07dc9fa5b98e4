-- `./check --explain` (docs/requests/explain.md), of files: what the program writes for the bytes of an image file and
-- a list file.
-- Assumes nothing.
use Rattle.std.specs.Prelude.{ℕ, ◌+◌, List, [], ◌++◌, length, Ok, Err}
use Rattle.types.specs.Answers.{ListRead}
use Rattle.prelude.specs.Choice.{pick}
use Rattle.lists.specs.MarkList.{is_old, address_digits, header_shown, marks_of, read_as}
use Rattle.reports.specs.Explanation.{line_limit, explanation}
use Rattle.answer.specs.AnswerLine as answer
use Rattle.answer.specs.AnswerLine.{are_within_limits, answer_line}

-- by the marks, the base and the reset address of a list; a list that is refused has none, and nothing is explained
unfoldable pub explanation_as : ListRead → List ℕ → List ℕ → List ℕ
explanation_as (Err why) image text = []
explanation_as (Ok h) image text =
    explanation image (marks_of (address_digits text) h text) h.base h.reset

-- the list is read for as many marks as the image has bytes
unfoldable pub list_explanation : List ℕ → List ℕ → List ℕ
list_explanation image text = explanation_as (read_as (is_old text) (header_shown text) text (length image)) image text

-- nor is anything of a file over its limit
unfoldable pub files_explanation : List ℕ → List ℕ → List ℕ
files_explanation image text =
    pick (are_within_limits image text) (list_explanation image text) []

-- 'the same one line', which is that of the program check, and 'the explanation' behind it
unfoldable pub answer_explained : List ℕ → List ℕ → List ℕ
answer_explained image text = answer_line image text ++ files_explanation image text

-- no text is longer
abbrev pub text_limit : ℕ
text_limit = answer.line_limit + line_limit
