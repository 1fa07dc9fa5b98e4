-- The answers of the C interface as numbers: how an answer is packed into a result, and the numbers that the
-- functions of include/m7700.h take out of a result. That these are the numbers of the answer: proofs/Unpacked.antt.
-- Assumes nothing.
use Rattle.std.specs.Prelude.{ℕ, ◌+◌, ◌*◌, ◌/◌, ◌%◌, ◌^◌, ◌≤◌, ◌<◌, eqb, Result, Ok, Err}
use Rattle.types.specs.declared.refusals.Refused.{Refused}
use Rattle.prelude.specs.Choice.{pick}
use Rattle.types.specs.Answers.{Verdict, ListRead, ListWritten, Printed, Located, TestResult, RunAnswer}
use Rattle.types.specs.Addresses.{address_limit}
use Rattle.types.specs.Refusals.{refusal_number}
use Rattle.types.specs.Runs.{step_limit, end_number}

-- ---- the check: the number in the upper 16 bits, the offset in the lower; 0 is accepted

abbrev pub packed_verdict : Verdict → ℕ
packed_verdict (Ok _) = 0
packed_verdict (Err r) = refusal_number r.why * 65_536 + r.offset

-- an answer that fits so
abbrev pub Fits : Verdict → Type 0
Fits (Ok _) = Unit {0}
Fits (Err r) = r.offset < 65_536

pub record CheckNumbers : Type 0 where
  pub number : ℕ
  pub offset : ℕ

abbrev pub verdict_numbers : Verdict → CheckNumbers
verdict_numbers (Ok _) = record { number = 0; offset = 0 }
verdict_numbers (Err r) = record { number = refusal_number r.why; offset = r.offset }

-- as `m7700_check_image` takes them
abbrev pub check_numbers : ℕ → CheckNumbers
check_numbers result = record { number = result / 2 ^ 16; offset = result % 2 ^ 16 }

-- ---- the reader: the number in bits 0 to 7; where that is 0, the base in bits 8 to 31 and the reset address in bits
-- 32 to 55

abbrev pub packed_read : ListRead → ℕ
packed_read (Err why) = refusal_number why
packed_read (Ok h) = h.base * 256 + h.reset * 4_294_967_296

abbrev pub ReadFits : ListRead → Type 0
ReadFits (Err why) = Unit {0}
ReadFits (Ok h) = (h.base < address_limit) × (h.reset < address_limit)

pub record ReadNumbers : Type 0 where
  pub number : ℕ
  pub base : ℕ
  pub reset : ℕ

abbrev pub list_read_numbers : ListRead → ReadNumbers
list_read_numbers (Err why) = record { number = refusal_number why; base = 0; reset = 0 }
list_read_numbers (Ok h) = record { number = 0; base = h.base; reset = h.reset }

-- as `m7700_read_mark_list` takes them
abbrev pub read_numbers : ℕ → ReadNumbers
read_numbers result = record {
  number = result % 2 ^ 8;
  base = result / 2 ^ 8 % 2 ^ 24;
  reset = result / 2 ^ 32 % 2 ^ 24;
}

-- ---- the writer: the number in bits 0 to 7; where that is 0, the list's length in bits 8 to 63

abbrev pub packed_written : ListWritten → ℕ
packed_written (Err why) = refusal_number why
packed_written (Ok n) = n * 256

abbrev pub WrittenFits : ListWritten → Type 0
WrittenFits (Err why) = Unit {0}
WrittenFits (Ok n) = n < 72_057_594_037_927_936

pub record WrittenNumbers : Type 0 where
  pub number : ℕ
  pub length : ℕ

abbrev pub list_written_numbers : ListWritten → WrittenNumbers
list_written_numbers (Err why) = record { number = refusal_number why; length = 0 }
list_written_numbers (Ok n) = record { number = 0; length = n }

-- as `m7700_write_mark_list` takes them
abbrev pub written_numbers : ℕ → WrittenNumbers
written_numbers result = record { number = result % 2 ^ 8; length = result / 2 ^ 8 }

-- ---- a count: the number in bits 0 to 7; above it the count where that is 0, else the offset

abbrev pub packed_count : Result ℕ Refused → ℕ
packed_count (Err r) = refusal_number r.why + r.offset * 256
packed_count (Ok n) = n * 256

abbrev pub CountFits : Result ℕ Refused → Type 0
CountFits (Err r) = r.offset < 65_536
CountFits (Ok n) = n < 72_057_594_037_927_936

-- ---- the printed page: so, with the length of the rows

abbrev pub packed_printed : Printed → ℕ
packed_printed = packed_count

abbrev pub PrintedFits : Printed → Type 0
PrintedFits = CountFits

pub record PrintedNumbers : Type 0 where
  pub number : ℕ
  pub offset : ℕ
  pub length : ℕ

abbrev pub page_printed_numbers : Printed → PrintedNumbers
page_printed_numbers (Err r) = record
    { number = refusal_number r.why; offset = r.offset; length = 0 }
page_printed_numbers (Ok n) = record { number = 0; offset = 0; length = n }

-- the check's refusal as the printer gives it, of the numbers in the check's result
abbrev pub passed_result : ℕ → ℕ
passed_result result = (check_numbers result).number + (check_numbers result).offset * 256

-- as `m7700_print_page` takes them
abbrev pub printed_numbers : ℕ → PrintedNumbers
printed_numbers result = record {
  number = result % 2 ^ 8;
  offset = pick (eqb (result % 2 ^ 8) 0) 0 (result / 2 ^ 8);
  length = pick (eqb (result % 2 ^ 8) 0) (result / 2 ^ 8) 0;
}

-- ---- the places of addresses: so, with the number of marks read

abbrev pub packed_located : Located → ℕ
packed_located = packed_count

abbrev pub LocatedFits : Located → Type 0
LocatedFits = CountFits

pub record LocatedNumbers : Type 0 where
  pub number : ℕ
  pub offset : ℕ
  pub read : ℕ

abbrev pub addresses_located_numbers : Located → LocatedNumbers
addresses_located_numbers (Err r) =
    record { number = refusal_number r.why; offset = r.offset; read = 0 }
addresses_located_numbers (Ok n) = record { number = 0; offset = 0; read = n }

-- as `m7700_locate_addresses` takes them
abbrev pub located_numbers : ℕ → LocatedNumbers
located_numbers result = record {
  number = result % 2 ^ 8;
  offset = pick (eqb (result % 2 ^ 8) 0) 0 (result / 2 ^ 8);
  read = pick (eqb (result % 2 ^ 8) 0) (result / 2 ^ 8) 0;
}

-- a place, as `M7700_PLACE_START` and `M7700_PLACE_KIND` take it
abbrev pub place_start : ℕ → ℕ
place_start place = place % 2 ^ 24

abbrev pub place_kind : ℕ → ℕ
place_kind place = place / 2 ^ 24

-- ---- marks built from a routine list: the number in bits 0 to 7, and nothing above it

abbrev pub packed_built : TestResult → ℕ
packed_built (Err why) = refusal_number why
packed_built (Ok _) = 0

-- as `m7700_build_image_marks` takes it
abbrev pub built_number : ℕ → ℕ
built_number result = result % 2 ^ 8

-- ---- a run: the refusal in bits 0 to 7; where that is 0, the end in bits 8 to 15, the steps in bits 16 to 39 and the
-- calls in bits 40 to 63

abbrev pub packed_run : RunAnswer → ℕ
packed_run (Err why) = refusal_number why
packed_run (Ok e) = 256 * end_number e.end + 65_536 * e.steps + 1_099_511_627_776 * e.calls

abbrev pub RunFits : RunAnswer → Type 0
RunFits (Err why) = Unit {0}
RunFits (Ok e) = (e.steps ≤ step_limit) × (e.calls ≤ step_limit)

pub record RunNumbers : Type 0 where
  pub refusal : ℕ
  pub end : ℕ
  pub steps : ℕ
  pub calls : ℕ

abbrev pub answer_numbers : RunAnswer → RunNumbers
answer_numbers (Err why) = record { refusal = refusal_number why; end = 0; steps = 0; calls = 0 }
answer_numbers (Ok e) =
    record { refusal = 0; end = end_number e.end; steps = e.steps; calls = e.calls }

-- as `m7700_unpacked_run` takes them
abbrev pub run_numbers : ℕ → RunNumbers
run_numbers result = record {
  refusal = result % 2 ^ 8;
  end = result / 2 ^ 8 % 2 ^ 8;
  steps = result / 2 ^ 16 % 2 ^ 24;
  calls = result / 2 ^ 40;
}
