-- The numbers that the functions of include/m7700.h take out of a result are those of the answer that was packed: each
-- number is below the bound of its bits.
-- Assumes nothing.
use Rattle.std.specs.Prelude.{Ok, Err, Some, None}
use mathlib.Core.Path.{◌≡◌, refl, ap}
use mathlib.Core.Bool.{false}
use Prim.Native.Nat.{ℕ, ◌+◌, ◌*◌, ◌/◌, ◌%◌, ◌^◌, ◌<◌}
use native.Mathlib.Omega.{arith}
use borrow.Author.Tests.{ne_eqb}
use lib.Dec.{eqb}
use Rattle.types.specs.Answers.{Verdict, refused_at, ListRead, ListWritten, Printed, Located, TestResult, End}
use Rattle.types.specs.Answers.{RunAnswer}
use Rattle.types.specs.declared.refusals.Refusal.{Refusal}
use Rattle.types.specs.Refusals.{refusal_number}
use Rattle.types.specs.Runs.{end_number}
use Rattle.types.proofs.TestResults.{refusal_range}
use Rattle.types.proofs.Stops.{stop_range}
use Rattle.packing.specs.Packed.{packed_verdict, Fits, verdict_numbers, check_numbers, packed_read, ReadFits}
use Rattle.packing.specs.Packed.{list_read_numbers, read_numbers, packed_written, list_written_numbers, written_numbers}
use Rattle.packing.specs.Packed.{passed_result, packed_printed, page_printed_numbers, printed_numbers, packed_located}
use Rattle.packing.specs.Packed.{addresses_located_numbers, located_numbers, packed_built, built_number, packed_run}
use Rattle.packing.specs.Packed.{RunFits, answer_numbers, run_numbers}

pub verdict_unpacked : (v : Verdict) → Fits v → check_numbers (packed_verdict v) ≡ verdict_numbers v
verdict_unpacked (Ok _) f = refl
verdict_unpacked (Err r) f =
    let result = refusal_number r.why * 65_536 + r.offset in
    let number : (check_numbers result).number ≡ refusal_number r.why = omega arith in
    let offset : (check_numbers result).offset ≡ r.offset = omega arith in
    λ j. record { number = number j; offset = offset j }

pub read_unpacked : (a : ListRead) → ReadFits a → read_numbers (packed_read a) ≡ list_read_numbers a
read_unpacked (Err why) f =
    let result = refusal_number why in
    let below = (refusal_range why).1 in
    let number : (read_numbers result).number ≡ result = omega arith in
    let base : (read_numbers result).base ≡ 0 = omega arith in
    let reset : (read_numbers result).reset ≡ 0 = omega arith in
    λ j. record { number = number j; base = base j; reset = reset j }
read_unpacked (Ok h) f =
    let result = h.base * 256 + h.reset * 4_294_967_296 in
    let above : result / 2 ^ 8 ≡ h.base + 2 ^ 24 * h.reset = omega arith in
    let higher : result / 2 ^ 32 ≡ h.reset = omega arith in
    let number : (read_numbers result).number ≡ 0 = omega arith in
    let base : (read_numbers result).base ≡ h.base = rw above (omega arith) in
    let reset : (read_numbers result).reset ≡ h.reset = rw higher (omega arith) in
    λ j. record { number = number j; base = base j; reset = reset j }

pub written_unpacked : (a : ListWritten) → written_numbers (packed_written a) ≡ list_written_numbers a
written_unpacked (Err why) =
    let result = refusal_number why in
    let below = (refusal_range why).1 in
    let number : (written_numbers result).number ≡ result = omega arith in
    let length : (written_numbers result).length ≡ 0 = omega arith in
    λ j. record { number = number j; length = length j }
written_unpacked (Ok n) =
    let number : (written_numbers (n * 256)).number ≡ 0 = omega arith in
    let length : (written_numbers (n * 256)).length ≡ n = omega arith in
    λ j. record { number = number j; length = length j }

-- a refusal that is passed on is that of the check; what is 0 is accepted
pub passed_on : (why : Refusal) (at : ℕ) → Fits (refused_at why at)
    → passed_result (packed_verdict (refused_at why at)) ≡ refusal_number why + at * 256
passed_on why at f =
    let same = verdict_unpacked (refused_at why at) f in
    rw (ap (λ n. n.number) same, ap (λ n. n.offset) same)

pub accepted_zero : (v : Verdict) → packed_verdict v ≡ 0 → v ≡ Ok tt
accepted_zero (Ok _) e = refl
accepted_zero (Err r) e = absurd (omega (arith, (refusal_range r.why).0))

-- a number with another above it: which one it is, is told by the low byte
module _ (why : Refusal) (at : ℕ) where
  abbrev refused : ℕ
  refused = refusal_number why + at * 256

  refused_low : refused % 2 ^ 8 ≡ refusal_number why
  refused_low = omega (arith, (refusal_range why).1)

  refused_above : refused / 2 ^ 8 ≡ at
  refused_above = omega (arith, (refusal_range why).1)

  refused_so : eqb (refusal_number why) 0 ≡ false
  refused_so = ne_eqb (refusal_number why) 0 (λ e. omega (arith, (refusal_range why).0, e))

count_low : (n : ℕ) → n * 256 % 2 ^ 8 ≡ 0
count_low n = omega arith

count_above : (n : ℕ) → n * 256 / 2 ^ 8 ≡ n
count_above n = omega arith

pub printed_unpacked : (a : Printed) → printed_numbers (packed_printed a) ≡ page_printed_numbers a
printed_unpacked (Err r) = rw (refused_low r.why r.offset, refused_above r.why r.offset, refused_so r.why r.offset)
printed_unpacked (Ok n) = rw (count_low n, count_above n)

pub located_unpacked : (a : Located) → located_numbers (packed_located a) ≡ addresses_located_numbers a
located_unpacked (Err r) = rw (refused_low r.why r.offset, refused_above r.why r.offset, refused_so r.why r.offset)
located_unpacked (Ok n) = rw (count_low n, count_above n)

pub built_unpacked : (a : TestResult) → built_number (packed_built a) ≡ packed_built a
built_unpacked (Err why) = omega (arith, (refusal_range why).1)
built_unpacked (Ok _) = refl

end_below : (end : End) → end_number end < 256
end_below None = omega arith
end_below (Some stop) = omega (arith, (stop_range stop).1)

pub run_unpacked : (a : RunAnswer) → RunFits a → run_numbers (packed_run a) ≡ answer_numbers a
run_unpacked (Err why) f =
    let result = refusal_number why in
    let below = (refusal_range why).1 in
    let refusal : (run_numbers result).refusal ≡ result = omega arith in
    let end : (run_numbers result).end ≡ 0 = omega arith in
    let steps : (run_numbers result).steps ≡ 0 = omega arith in
    let calls : (run_numbers result).calls ≡ 0 = omega arith in
    λ j. record { refusal = refusal j; end = end j; steps = steps j; calls = calls j }
run_unpacked (Ok e) f =
    let result = 256 * end_number e.end + 65_536 * e.steps + 1_099_511_627_776 * e.calls in
    let below = end_below e.end in
    let above : result / 2 ^ 8 ≡ end_number e.end + 2 ^ 8 * (e.steps + 2 ^ 24 * e.calls) = omega arith in
    let higher : result / 2 ^ 16 ≡ e.steps + 2 ^ 24 * e.calls = omega arith in
    let refusal : (run_numbers result).refusal ≡ 0 = omega arith in
    let end : (run_numbers result).end ≡ end_number e.end = rw above (omega arith) in
    let steps : (run_numbers result).steps ≡ e.steps = rw higher (omega arith) in
    let calls : (run_numbers result).calls ≡ e.calls = omega arith in
    λ j. record { refusal = refusal j; end = end j; steps = steps j; calls = calls j }
