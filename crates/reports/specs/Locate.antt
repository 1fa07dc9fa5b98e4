-- 02, R-4, 'Many addresses in one reading': where an address lies, asked alone; the one pass over the marks that places
-- many; the answer; and what the pass has to do with asking alone.
-- Assumes nothing.
use Rattle.std.specs.Prelude.{◌≡◌, ◌↔◌, ℕ, zero, suc, ◌+◌, ◌-◌, ◌*◌, max, ◌≤◌, ◌<◌, Bool, true, ◌&&◌, List, [], ◌∷◌}
use Rattle.std.specs.Prelude.{Ok, Err}
use Rattle.std.specs.Prelude.{◌++◌, map, eqb, ltb, leb, length, get_or, drop}
use Rattle.types.specs.declared.refusals.Refusal.{Refusal}
use Rattle.types.specs.Answers.{TestResult, refused_at, Verdict, Located}
use Rattle.types.specs.Addresses.{address_limit}
use Rattle.types.specs.Refusals.{Tests, first_refusal, answered}
use Rattle.prelude.specs.Choice.{pick}
use Rattle.prelude.specs.First.{last_before}
use Rattle.instructions.specs.Decode.{decode}
use Rattle.acceptance.specs.Image.{is_start, mark_m, mark_x}
use Rattle.acceptance.specs.Rules.{instruction_at}
use Rattle.acceptance.specs.Verdict.{start_at, verdict}
use Rattle.reports.specs.PageReading.{bytes_of, is_covered}

-- ---- where an address lies

-- 'the address of the nearest start at or below it in the marks, and whether the address belongs to that instruction or
-- to a gap; below the first start, say so'
pub data Place : Type 0 where
  below : Place
  within : ℕ → Place
  behind : ℕ → Place

-- a place as a number: the start's address in 24 bits; above them 1 in the instruction, 2 in the gap behind it
abbrev pub place_number : Place → ℕ
place_number below = 0
place_number (within start) = start + address_limit
place_number (behind start) = start + 2 * address_limit

-- the place of the byte at offset k, whose nearest start is at offset `at`, of an instruction of n bytes
abbrev pub place_behind : ℕ → ℕ → ℕ → ℕ → Place
place_behind base at n k = pick (ltb k (at + n)) (within (base + at)) (behind (base + at))

-- the same, by one more than the offset of the nearest start, 0 where there is none
unfoldable pub place_from : List ℕ → List ℕ → ℕ → ℕ → ℕ → Place
place_from image marks base zero k = below
place_from image marks base (suc at) k = place_behind base at (bytes_of (instruction_at image marks at)) k

-- an address 'asked alone': the highest start among the marks up to its own
unfoldable pub place_of : List ℕ → List ℕ → ℕ → ℕ → Place
place_of image marks base address =
    place_from image marks base (last_before (start_at marks) (address - base + 1)) (address - base)

-- ---- the pass

-- the last start passed: its offset and its mark
pub data Last : Type 0 where
  none : Last
  start : ℕ → ℕ → Last

-- the same after the mark at an offset
abbrev pub last_after : Last → ℕ → ℕ → Last
last_after last at mark = pick (is_start mark) (start at mark) last

-- the place of the byte at an offset, by the last start passed
unfoldable pub place_by : List ℕ → ℕ → Last → ℕ → Place
place_by image base none k = below
place_by image base (start at mark) k =
    place_behind base at (bytes_of (decode (drop at image) (mark_m mark) (mark_x mark))) k

-- what a pass gives: the places of the addresses, and how many marks it read
pub record Pass : Type 0 where
  pub places : List Place
  pub read : ℕ

-- one mark more is read, where an address may lie
abbrev pub one_read : Bool → Place → Pass → Pass
one_read here place more = record {
  places = pick here (place ∷ more.places) more.places;
  read = more.read + 1;
}

-- 'The marks are passed over once from low to high': from an offset on, each mark is read while an address is left; the
-- next address has its place if it lies there.
unfoldable pub pass : List ℕ → ℕ → ℕ → Last → List ℕ → List ℕ → Pass
pass image base at last [] addresses = record { places = []; read = 0 }
pass image base at last (mark ∷ marks) [] = record { places = []; read = 0 }
pass image base at last (mark ∷ marks) (address ∷ rest) =
    one_read (eqb address (base + at)) (place_by image base (last_after last at mark) at)
    (pass image base (at + 1) (last_after last at mark) marks (pick (eqb address (base + at)) rest (address ∷ rest)))

abbrev pub pass_over : List ℕ → List ℕ → ℕ → List ℕ → Pass
pass_over image marks base addresses = pass image base 0 none marks addresses

-- ---- the answer

-- 'up to 256 addresses'
abbrev pub address_count : ℕ
address_count = 256

-- 'strictly ascending'
unfoldable pub is_ascending : List ℕ → Bool
is_ascending [] = true
is_ascending (a ∷ []) = true
is_ascending (a ∷ b ∷ rest) = ltb a b && is_ascending (b ∷ rest)

-- none is 'an address outside the image', of so many bytes
unfoldable pub all_inside : ℕ → ℕ → List ℕ → Bool
all_inside base size [] = true
all_inside base size (a ∷ rest) = leb base a && ltb a (base + size) && all_inside base size rest

-- 16: 'when the list is too long, unordered, or holds an address outside the image'
unfoldable pub addresses_fit : ℕ → ℕ → List ℕ → Bool
addresses_fit base size addresses =
    leb (length addresses) address_count && is_ascending addresses && all_inside base size addresses

-- 16, then 15 where there is no room for the places
abbrev pub locate_tests : ℕ → ℕ → List ℕ → ℕ → Tests
locate_tests base size addresses room =
    (addresses_fit base size addresses, Refusal.Addresses)
    ∷ (leb (length addresses) room, Refusal.Page)
    ∷ []

-- 'tested after the check's own refusals'; 'the number of marks read in it is reported'
unfoldable pub located_by : Verdict → TestResult → ℕ → Located
located_by (Err r) tested read = refused_at r.why r.offset
located_by (Ok _) tested read =
    answered tested (λ why. refused_at why 0) (Ok read)

unfoldable pub located : List ℕ → List ℕ → ℕ → ℕ → List ℕ → List ℕ → Located
located image marks base reset addresses places =
    located_by (verdict image marks base reset)
    (first_refusal (locate_tests base (length image) addresses (length places)))
    (pass_over image marks base addresses).read

-- the places of the addresses stand in front, the others stay as given; 01: 'A refusal leaves every buffer .. as given'
unfoldable pub places_after : Located → List ℕ → List ℕ → List ℕ
places_after (Err r) found places = places
places_after (Ok n) found places = found ++ drop (length found) places

unfoldable pub places_located : List ℕ → List ℕ → ℕ → ℕ → List ℕ → List ℕ → List ℕ
places_located image marks base reset addresses places =
    places_after (located image marks base reset addresses places)
    (map place_number (pass_over image marks base addresses).places) places

-- ---- the claims

-- 'the offset of the highest address plus one, or 0 for no addresses'
abbrev pub highest : List ℕ → ℕ
highest [] = 0
highest (a ∷ rest) = max a (highest rest)

abbrev pub marks_to : ℕ → List ℕ → ℕ
marks_to base [] = 0
marks_to base (a ∷ rest) = highest (a ∷ rest) - base + 1

module _ (image marks : List ℕ) (base reset : ℕ) where
  -- of a call that is not refused
  pub record AsAlone (addresses places : List ℕ) (read : ℕ) : Type 0 where
    -- the places are those of the addresses asked alone, each by the definition
    pub each : places_located image marks base reset addresses places
        ≡ map place_number (map (place_of image marks base) addresses) ++ drop (length addresses) places
    pub marks_counted : read ≡ marks_to base addresses
    -- 'each address's result equals that of asking it alone', by a call of its own
    pub own_call : (k : ℕ) (one : List ℕ) → k < length addresses → 1 ≤ length one
        → (located image marks base reset (get_or addresses k 0 ∷ []) one
        ≡ Ok (get_or addresses k 0 - base + 1))
        × (get_or (places_located image marks base reset (get_or addresses k 0 ∷ []) one) 0 0
        ≡ get_or (places_located image marks base reset addresses places) k 0)

abbrev pub LocatesAsAlone : Type 0
LocatesAsAlone =
    (image marks : List ℕ) (base reset : ℕ) (addresses places : List ℕ) (read : ℕ)
    → located image marks base reset addresses places ≡ Ok read
    → AsAlone image marks base reset addresses places read

-- an address of an accepted image lies within an instruction exactly where an instruction covers its byte
abbrev pub WithinCovers : List ℕ → List ℕ → ℕ → Type 0
WithinCovers image marks base =
    (k : ℕ) → k < length image
    → (is_covered image marks k ≡ true) ↔ ((start : ℕ) × (place_of image marks base (base + k) ≡ within start))
