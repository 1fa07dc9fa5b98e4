-- A number that is no action's is 0 or past the list of actions, and leaves.
use mathlib.Core.Path.{refl}
use Rattle.prelude.proofs.Match.{no_key}
use Rattle.actions.specs.Tasks.{actions, unpacked_task}
use Rattle.actions.proofs.tasks.action_of.Goals as goal

pub returns-in_default : goal.returns-in_default
returns-in_default c = unfold unpacked_task in no_key actions _ _ refl c.in_default.in_default-own.rest
