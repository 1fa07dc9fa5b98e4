use Rattle.std.proofs.Common.{arith, ◌-◌, ◌+◌, ◌≡◌}
use lib.Seq.{drop-drop, sets-eq}
use mathlib.Core.List.{append_assoc}
use Rattle.fields.specs.Fields.{low_bytes}
use Rattle.fields.proofs.Fields.{length_low}
use Rattle.fields.proofs.Writing.{one_less, none_left}
use Rattle.fields.proofs.put_field.Goals as goal

pub loop-byte-preserved : goal.loop-byte-preserved
loop-byte-preserved c =
    let loop = c.loop-byte in
    one_less _ c.args.size c.args.given loop.byte-items loop.value loop.byte-index (omega arith) loop.invariant

pub returns : goal.returns
returns c =
    let loop = c.loop-byte in
    let a = c.args in
    let written = none_left _ a.size a.given loop.byte-items loop.value loop.byte-index (omega arith) (omega arith)
    loop.invariant in
    let long = length_low a.size a.given in
    let size : a.at + a.size - a.at ≡ a.size = omega arith in
    let put = sets-eq (low_bytes a.size a.given) a.bytes.now a.at (omega (arith, long, c.requires)) in
    rw (written, size, put, long, append_assoc, drop-drop)
