-- A blank and the digits of a byte are its pair.
use Rattle.std.proofs.Common.{arith, append-nil, sym}
use Rattle.std.proofs.lemmas.Grind.{common_steps}
use Rattle.text.proofs.DigitLaws.{length_digits}
use Rattle.prelude.specs.Concat.{concat_from}
use Rattle.explainer.proofs.Lengths.{next_pair, pairs_left, all_pairs}
use Rattle.explainer.proofs.line.Line.push_pairs.Goals as goal

pub loop-byte-init : goal.loop-byte-init
unfolding concat_from
loop-byte-init c = sym (append-nil c.args.self.now)

pub push_text-requires : goal.push_text-requires
push_text-requires c =
    let left = pairs_left c.args.bytes.now c.loop-byte.byte-index c.loop-byte-test.true in
    grind (arith, common_steps)

pub push_hex-requires : goal.push_hex-requires
push_hex-requires c =
    let left = pairs_left c.args.bytes.now c.loop-byte.byte-index c.loop-byte-test.true in
    grind (arith, common_steps, length_digits)

pub loop-byte-preserved : goal.loop-byte-preserved
loop-byte-preserved c =
    let next = next_pair c.args.bytes.now c.loop-byte.byte-index in
    grind (arith, common_steps)

pub returns : goal.returns
returns c =
    let all = all_pairs c.args.bytes.now c.loop-byte.byte-index (omega arith) in
    grind (arith, common_steps)
