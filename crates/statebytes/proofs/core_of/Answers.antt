-- Each register is the field at its own place, and the rewriting takes them from the last to the first.
use Rattle.execution.specs.StateBytes.{core_of, state_of}
use Rattle.statebytes.proofs.core_of.Goals as goal

pub returns : goal.returns
unfolding state_of core_of
returns c =
    rw (
      c.word_at-9.ensures,
      c.single_at-2.ensures,
      c.word_at-8.ensures,
      c.from.ensures,
      c.word_at-7.ensures,
      c.single_at.ensures,
      c.word_at-6.ensures,
      c.word_at-5.ensures,
      c.word_at-4.ensures,
      c.word_at-3.ensures,
      c.word_at-2.ensures,
      c.word_at.ensures,
    )
