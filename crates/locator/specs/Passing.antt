-- How the code keeps what the pass of reports/specs/Locate.antt carries. Assumes nothing.
use Rattle.std.specs.Prelude.{◌≡◌, ◌⊎◌, ℕ, ◌+◌, ◌*◌, List, eqb, ltb, drop, set}
use Rattle.prelude.specs.Choice.{pick}
use Rattle.types.specs.Addresses.{address_limit}
use Rattle.instructions.specs.Decode.{decode}
use Rattle.acceptance.specs.Image.{is_start, mark_m, mark_x}
use Rattle.reports.specs.PageReading.{bytes_of}
use Rattle.reports.specs.Locate.{place_number, Last, none, start, place_by}
use Rattle.locator.specs.declared.pass.Passing.{Passing}

-- the last start passed; mark 0 is no start's
abbrev pub last_of : Passing → Last
last_of p = pick (is_start p.mark) (start p.start p.mark) none

-- after the mark at an offset
abbrev pub marked : Passing → ℕ → ℕ → Passing
marked p at mark =
    pick (is_start mark) (record { served = p.served; start = at; mark = mark; end = 0 }) p

-- where the instruction at an offset ends, at the widths of a mark
abbrev pub end_at : List ℕ → ℕ → ℕ → ℕ
end_at image at mark = at + bytes_of (decode (drop at image) (mark_m mark) (mark_x mark))

-- the end is kept, or 0
abbrev pub KnownEnd : List ℕ → Passing → Type 0
KnownEnd image p = (p.end ≡ 0) ⊎ (p.end ≡ end_at image p.start p.mark)

-- the number of the place of the byte at an offset, by the last start and the end of its instruction
abbrev pub number_from : Passing → ℕ → ℕ → ℕ → ℕ
number_from p end base at =
    pick (is_start p.mark)
    (pick (ltb at end) (base + p.start + address_limit) (base + p.start + 2 * address_limit))
    0

-- an address has its place if it lies at an offset
pub record OneServed (image : List ℕ) (base address at : ℕ) (p q : Passing) (places left : List ℕ) : Type 0 where
  pub served : q.served ≡ pick (eqb address (base + at)) (p.served + 1) p.served
  pub same_start : q.start ≡ p.start
  pub same_mark : q.mark ≡ p.mark
  pub known : KnownEnd image q
  pub stored : left
      ≡ pick (eqb address (base + at)) (set places p.served (place_number (place_by image base (last_of p) at))) places
