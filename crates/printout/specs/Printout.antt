-- 02, R-1, of files: what the program print writes for the bytes of an image file and a list file.
-- Assumes nothing.
use Rattle.std.specs.Prelude.{ℕ, ◌*◌, ◌/◌, List, length, Ok, Err}
use Rattle.types.specs.Answers.{ListRead, refused_at, Printed}
use Rattle.lists.specs.MarkList.{is_old, address_digits, header_shown, marks_of, read_as}
use Rattle.reports.specs.PrintedPage.{row_size, page_text, printed}
use Rattle.answer.specs.AnswerLine.{FileAnswer, list_limit, answer_for, answer_line}

-- the page of an image by the marks and the base that a list shows
unfoldable pub files_page : List ℕ → List ℕ → List ℕ
files_page image text =
    page_text image (marks_of (address_digits text) (header_shown text) text) (header_shown text).base

-- 'From accepted image and marks, print ..'; for others the line of the program check
unfoldable pub printout_by : FileAnswer → List ℕ → List ℕ → List ℕ
printout_by (Ok count) image text = files_page image text
printout_by (Err why) image text = answer_line image text

-- what is written for the bytes of an image file and of a list file
unfoldable pub printout : List ℕ → List ℕ → List ℕ
printout image text = printout_by (answer_for image text) image text

-- no page is longer: 'one 35-column row for each start', and a list file has a line of 15 bytes or more for each
abbrev pub page_limit : ℕ
page_limit = row_size * (list_limit / 15)

-- what printing by a list is answered with: the list is read for as many marks as the image has bytes, and where it is
-- refused nothing is printed
unfoldable pub printed_as : ListRead → List ℕ → List ℕ → List ℕ → Printed
printed_as (Err why) image text page = refused_at why 0
printed_as (Ok h) image text page =
    printed image (marks_of (address_digits text) h text) h.base h.reset page

unfoldable pub files_printed : List ℕ → List ℕ → List ℕ → Printed
files_printed image text page =
    printed_as (read_as (is_old text) (header_shown text) text (length image)) image text page
