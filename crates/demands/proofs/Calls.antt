-- What a call's contract says, as one equation for each number and buffer: the numbers in a result are those of the
-- answer, since every answer fits its packing.
-- Assumes nothing.
use mathlib.Core.Path.{◌≡◌, ap, ◌∙◌}
use Rattle.packing.specs.Packed.{verdict_numbers, check_numbers, list_read_numbers, read_numbers, list_written_numbers}
use Rattle.packing.specs.Packed.{written_numbers, page_printed_numbers, printed_numbers, packed_run, answer_numbers}
use Rattle.packing.specs.Packed.{addresses_located_numbers, located_numbers, packed_built, built_number, run_numbers}
use Rattle.checker.proofs.Packing.{verdict_fits}
use Rattle.loader.proofs.Answers.{read_fits}
use Rattle.loader.proofs.Counts.{run_fits}
use Rattle.packing.proofs.Unpacked.{verdict_unpacked, read_unpacked, written_unpacked, printed_unpacked}
use Rattle.packing.proofs.Unpacked.{located_unpacked, built_unpacked, run_unpacked}
use Rattle.types.specs.Answers.{Verdict, ListRead, ListWritten, Printed, Located, TestResult}
use Rattle.acceptance.specs.Verdict.{verdict}
use Rattle.lists.specs.MarkList.{read_list, write_list}
use Rattle.reports.specs.PrintedPage.{printed}
use Rattle.reports.specs.Locate.{located}
use Rattle.lists.specs.Routines.{built}
use Rattle.execution.specs.RunBytes.{RanBytes, ran_bytes}
use Rattle.demands.specs.Calls.{holds, CheckCall, ReadCall, WriteCall, PrintCall, MachineContract, run, step}
use Rattle.demands.specs.Calls.{RunCall, numbers, memory_of, listed, LocateCall, BuildCall}

-- the answer of each function to what a call is given
abbrev pub verdict_of : CheckCall → Verdict
verdict_of c = verdict (holds c.image) (holds c.marks) c.base c.reset

abbrev pub read_of : ReadCall → ListRead
read_of c = read_list (holds c.text) (holds c.marks)

abbrev pub written_of : WriteCall → ListWritten
written_of c = write_list (holds c.marks) c.base c.reset (holds c.page)

abbrev pub printed_of : PrintCall → Printed
printed_of c = printed (holds c.image) (holds c.marks) c.base c.reset (holds c.page)

abbrev pub located_of : LocateCall → Located
located_of c =
    located (holds c.image) (holds c.marks) c.base c.reset (listed c.addresses) (listed c.places)

abbrev pub built_of : BuildCall → TestResult
built_of c = built (holds c.image) c.base c.reset (holds c.routines) (holds c.marks)

abbrev pub ran_of : RunCall → RanBytes
ran_of c = ran_bytes (memory_of c) (holds c.state) c.steps

-- what the contracts of `m7700_run` and `m7700_step` say
pub record Promised (c : RunCall) : Type 0 where
  pub result : c.result ≡ packed_run (ran_of c).answer
  pub state : c.left_state ≡ (ran_of c).state
  pub ram : c.left_ram ≡ (ran_of c).ram

pub promised : (c : RunCall) → Promised c
promised c = by c.kept
  where
    by : MachineContract c.image c.base c.state c.ram c.steps c.result c.left_state c.left_ram
        → Promised c
    by (run k) = record { result = k.0; state = k.1.0; ram = k.1.1 }
    by (step one k) = record { result = rw one k.0; state = rw one k.1.0; ram = rw one k.1.1 }

-- the numbers in each result
pub numbers_of_check : (c : CheckCall) → check_numbers c.result ≡ verdict_numbers (verdict_of c)
numbers_of_check c =
    ap check_numbers c.kept
    ∙ verdict_unpacked (verdict_of c) (verdict_fits (holds c.image) (holds c.marks) c.base c.reset)

pub numbers_of_read : (c : ReadCall) → read_numbers c.result ≡ list_read_numbers (read_of c)
numbers_of_read c = ap read_numbers c.kept.0 ∙ read_unpacked (read_of c) (read_fits (holds c.text) (holds c.marks))

pub numbers_of_write : (c : WriteCall) → written_numbers c.result ≡ list_written_numbers (written_of c)
numbers_of_write c = ap written_numbers c.kept.0 ∙ written_unpacked (written_of c)

pub print_numbers : (c : PrintCall) → printed_numbers c.result ≡ page_printed_numbers (printed_of c)
print_numbers c = ap printed_numbers c.kept.0 ∙ printed_unpacked (printed_of c)

pub locate_numbers : (c : LocateCall) → located_numbers c.result ≡ addresses_located_numbers (located_of c)
locate_numbers c = ap located_numbers c.kept.0 ∙ located_unpacked (located_of c)

pub build_number : (c : BuildCall) → built_number c.result ≡ packed_built (built_of c)
build_number c = ap built_number c.kept.0 ∙ built_unpacked (built_of c)

pub numbers_of_run : (c : RunCall) → numbers c ≡ answer_numbers (ran_of c).answer
numbers_of_run c =
    ap run_numbers (promised c).result
    ∙ run_unpacked (ran_of c).answer (run_fits (memory_of c) (holds c.state) c.steps)
