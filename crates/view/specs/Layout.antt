-- What a view gives at an offset. Assumes nothing.
use Rattle.std.specs.Prelude.{ℕ, List, get_or, drop}
use Rattle.acceptance.specs.Image.{mark_m, mark_x}
use Rattle.decoder.specs.Layout.{LayoutRead}
use Rattle.decoder.specs.Layout.{layout_read}

-- the layout of what stands at an offset of an image, at the widths marked there
abbrev pub layout_at : List ℕ → List ℕ → ℕ → LayoutRead
layout_at image marks at = layout_read (drop at image) (mark_m (get_or marks at 0)) (mark_x (get_or marks at 0))
