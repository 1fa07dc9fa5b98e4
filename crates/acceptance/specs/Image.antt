-- 01, 'Image and marks': the image's limits, the fields and the form of a mark, the mark at an address.
-- Assumes nothing.
use Rattle.std.specs.Prelude.{ℕ, ◌+◌, ◌-◌, ◌*◌, ◌/◌, ◌%◌, Bool, not, ◌&&◌, ◌||◌, List, [], ◌∷◌, eqb, ltb, leb, get_or}
use Rattle.prelude.specs.Choice.{pick}
use Rattle.types.specs.Addresses.{address_limit, image_limit}

-- 'Bit 0: an instruction starts here'
abbrev pub is_start : ℕ → Bool
is_start mark = eqb (mark % 2) 1

-- 'Bit 1: m there. Bit 2: x there.'
abbrev pub mark_m : ℕ → ℕ
mark_m mark = mark / 2 % 2

abbrev pub mark_x : ℕ → ℕ
mark_x mark = mark / 4 % 2

-- 'Bits 3 and 4: how the routine returns (0 not, 1 by RTS, 2 by RTL; 3 is unused)'
abbrev pub mark_kind : ℕ → ℕ
mark_kind mark = mark / 8 % 4

-- 'Bits 5 and 6: m and x at that return'
abbrev pub return_m : ℕ → ℕ
return_m mark = mark / 32 % 2

abbrev pub return_x : ℕ → ℕ
return_x mark = mark / 64 % 2

-- the mark of a start with these fields
abbrev pub mark_of : ℕ → ℕ → ℕ → ℕ → ℕ → ℕ
mark_of m x kind rm rx = 1 + 2 * m + 4 * x + 8 * kind + 32 * rm + 64 * rx

-- 'Bit 7 is 0. A byte without a start has mark 00, and return kind 0 has bits 5 and 6 clear.' Kind 3 is unused.
unfoldable pub is_formed : ℕ → Bool
is_formed mark =
    eqb mark 0
    || (is_start mark && ltb mark 128 && not (eqb (mark_kind mark) 3)
    && (not (eqb (mark_kind mark) 0) || (eqb (return_m mark) 0 && eqb (return_x mark) 0)))

-- number 1: 'image empty or over 16,384', by R-7 65,536; 'marks (where taken) of another length'
unfoldable pub length_fits : ℕ → ℕ → Bool
length_fits image marks = ltb 0 image && leb image image_limit && eqb marks image

-- number 2: 'above FFFFFF', or, by R-7, unless the image is 'ending at or below FFFFFF'
unfoldable pub base_fits : ℕ → ℕ → Bool
base_fits base n = ltb base address_limit && leb (base + n) address_limit

-- the mark at a 24-bit address; outside the image there is none
unfoldable pub mark_at : List ℕ → ℕ → ℕ → ℕ
mark_at marks base address = pick (leb base address) (get_or marks (address - base) 0) 0

-- number 3: 'At the reset address stands a start with m=0, x=0, return kind 0.' With the form of a mark that is mark
-- 01. R-7: 'the reset becomes a 24-bit address'; one above FFFFFF is no address of an image, which 2 has tested.
unfoldable pub reset_fits : List ℕ → ℕ → ℕ → Bool
reset_fits marks base reset = eqb (mark_at marks base reset) (mark_of 0 0 0 0 0)

-- how many instructions the marks start
unfoldable pub start_count : List ℕ → ℕ
start_count [] = 0
start_count (mark ∷ marks) = pick (is_start mark) 1 0 + start_count marks
