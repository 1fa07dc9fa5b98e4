-- antt computes what each task of the table does, and what its operation does: they are the same.
use mathlib.Core.Path.{refl}
use Rattle.semantics.specs.Effects.{effect_of}
use Rattle.actions.specs.Tasks.{unpacked_task}
use Rattle.actions.specs.ActionEffects.{by_action}
use Rattle.operations.proofs.Tables.{tasked}
use Rattle.operations.proofs.table.tasks.Goals as goal

pub returns : goal.returns
unfolding unpacked_task by_action effect_of
returns c =
    tasked _ refl refl (λ short operand next d file. refl) (λ short operand next d file. refl)
    (λ short operand next d file. refl)
