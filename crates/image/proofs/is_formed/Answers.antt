-- A mark is not malformed exactly when it has the form.
use Rattle.image.proofs.Form.{no_malformed}
use Rattle.acceptance.specs.Image.{is_formed}
use Rattle.image.proofs.is_formed.Goals as goal

pub returns : goal.returns
returns c = rw c.malformed.ensures (no_malformed (is_formed c.args.mark))
