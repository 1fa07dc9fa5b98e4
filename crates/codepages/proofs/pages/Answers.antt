-- The constants of src/lib.rt add up to the numbers of the definition's 768 entries: antt compares them number by
-- number.
use Rattle.prelude.proofs.Table.{same_pages_lem}
use Rattle.codepages.specs.Packing.{packed_pages}
use Rattle.codepages.proofs.pages.Goals as goal

pub returns : goal.returns
unfolding packed_pages
returns c = same_pages_lem _ _ tt
