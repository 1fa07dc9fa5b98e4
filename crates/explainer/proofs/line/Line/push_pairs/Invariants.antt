-- The invariant: the pairs of the bytes so far are added.
use Rattle.std.proofs.Common.{◌≡◌, ◌++◌}
use Rattle.explainer.proofs.Lengths.{pairs_to}
use Rattle.explainer.proofs.line.Line.push_pairs.Given as goal

abbrev pub invariant-loop-byte : goal.invariant-loop-byte
invariant-loop-byte l = l.self ≡ l.initial.self ++ pairs_to l.bytes l.byte-index
