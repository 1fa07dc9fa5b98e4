-- What the rows of an accepted image have that the printer relies on.
-- Assumes nothing.
use Rattle.std.specs.Prelude.{◌≡◌, ℕ, ◌+◌, ◌*◌, ◌≤◌, List, length}
use Rattle.types.specs.Addresses.{address_limit, image_limit}
use Rattle.reports.specs.PrintedPage.{row_size, page_text}

-- its rows have the bytes of so many, which are few; it has a mark for each byte, and ends within the addresses
pub record Printable (image marks : List ℕ) (base starts : ℕ) : Type 0 where
  pub size : starts * row_size ≡ length (page_text image marks base)
  pub few : starts ≤ image_limit
  pub same : length marks ≡ length image
  pub low : base + length marks ≤ address_limit
