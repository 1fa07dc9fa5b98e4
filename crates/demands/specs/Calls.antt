-- The nine functions of the C interface (loader/src/lib.rt; loader_c exports each) and their calls: what a call is
-- given, its result, what it leaves, and that it keeps its function's contract. Each contract is the function's own:
-- `Learnt` is what a caller learns by the `ensures` that stand there, `Asked` what its `requires` ask, and `statement`
-- the theorem that its code keeps it, all made by the toolchain from the text there. So whoever weakens a promise
-- weakens what is known of a call here.
-- Assumes nothing.
use Rattle.std.specs.Prelude.{◌≡◌, ℕ, List}
use base.Fml.{Lft}
use contract.Lifetimes.{Lfts}
use Rattle.std.specs.Borrow.{Bor, MutBor}
use denote.MutBor.{as_bor}
use denote.Triple.Entry.{Args}
use denote.Triple.Clauses.{Lasts, at_exit}
use Rattle.loader.specs.contracts.m7700_check as Check
use Rattle.loader.proofs.m7700_check.Reads as CheckReads
use Rattle.loader.proofs.m7700_check.Statement as CheckStatement
use Rattle.loader.specs.contracts.m7700_read_list as Read
use Rattle.loader.proofs.m7700_read_list.Reads as ReadReads
use Rattle.loader.proofs.m7700_read_list.Statement as ReadStatement
use Rattle.loader.specs.contracts.m7700_write_list as Write
use Rattle.loader.proofs.m7700_write_list.Reads as WriteReads
use Rattle.loader.proofs.m7700_write_list.Statement as WriteStatement
use Rattle.loader.specs.contracts.m7700_build_marks as Build
use Rattle.loader.proofs.m7700_build_marks.Reads as BuildReads
use Rattle.loader.proofs.m7700_build_marks.Statement as BuildStatement
use Rattle.loader.specs.contracts.m7700_print as Print
use Rattle.loader.proofs.m7700_print.Reads as PrintReads
use Rattle.loader.proofs.m7700_print.Statement as PrintStatement
use Rattle.loader.specs.contracts.m7700_explain as Explain
use Rattle.loader.proofs.m7700_explain.Reads as ExplainReads
use Rattle.loader.proofs.m7700_explain.Statement as ExplainStatement
use Rattle.loader.specs.contracts.m7700_locate as Locate
use Rattle.loader.proofs.m7700_locate.Reads as LocateReads
use Rattle.loader.proofs.m7700_locate.Statement as LocateStatement
use Rattle.loader.specs.contracts.m7700_run as Run
use Rattle.loader.proofs.m7700_run.Reads as RunReads
use Rattle.loader.proofs.m7700_run.Statement as RunStatement
use Rattle.loader.specs.contracts.m7700_step as Step
use Rattle.loader.proofs.m7700_step.Reads as StepReads
use Rattle.loader.proofs.m7700_step.Statement as StepStatement
use Rattle.packing.specs.Packed.{RunNumbers, run_numbers}
use Rattle.types.specs.declared.machine.State.{State}
use Rattle.prelude.specs.Bytes.{AllBytes}
use Rattle.semantics.specs.Memory.{Memory, memory}
use Rattle.execution.specs.Run.{Event, run_history}
use Rattle.execution.specs.StateBytes.{state_of}

-- ---- the functions

-- Each function's own code, called with anything that its contract allows, ends without an error and keeps the
-- contract.
pub record AllReturn : Type 2 where
  pub check : {M : Type 1} → CheckStatement.statement M
  pub read : {M : Type 1} → ReadStatement.statement M
  pub write : {M : Type 1} → WriteStatement.statement M
  pub build : {M : Type 1} → BuildStatement.statement M
  pub print : {M : Type 1} → PrintStatement.statement M
  pub explain : {M : Type 1} → ExplainStatement.statement M
  pub locate : {M : Type 1} → LocateStatement.statement M
  pub run : {M : Type 1} → RunStatement.statement M
  pub step : {M : Type 1} → StepStatement.statement M

-- No contract asks anything of what its function is given.
pub record NothingAsked : Type 0 where
  pub check : (κs : Lfts 2) (given : Args Check.signature κs) → CheckReads.Asked κs given
  pub read : (κs : Lfts 2) (given : Args Read.signature κs) → ReadReads.Asked κs given
  pub write : (κs : Lfts 2) (given : Args Write.signature κs) → WriteReads.Asked κs given
  pub build : (κs : Lfts 3) (given : Args Build.signature κs) → BuildReads.Asked κs given
  pub print : (κs : Lfts 3) (given : Args Print.signature κs) → PrintReads.Asked κs given
  pub explain : (κs : Lfts 3) (given : Args Explain.signature κs) → ExplainReads.Asked κs given
  pub locate : (κs : Lfts 4) (given : Args Locate.signature κs) → LocateReads.Asked κs given
  pub run : (κs : Lfts 3) (given : Args Run.signature κs) → RunReads.Asked κs given
  pub step : (κs : Lfts 3) (given : Args Step.signature κs) → StepReads.Asked κs given

-- What is lent by `&` is after a call as it was given: all that the check is lent, the text of a list that is read, the
-- marks of one that is written, image and routine list where marks are built, image and marks of a page that is
-- printed and of an explanation, these and the addresses where addresses are located, the image of the machine. `last`
-- is what the buffers lent by `&mut` hold then.
pub record SharedStays : Type 0 where
  pub check : (κs : Lfts 2) (given : Args Check.signature κs) (last : Lasts Check.ended κs given)
      → at_exit Check.ended κs given last ≡ given
  pub read : (κs : Lfts 2) (given : Args Read.signature κs) (last : Lasts Read.ended κs given)
      → (at_exit Read.ended κs given last).0 ≡ given.0
  pub write : (κs : Lfts 2) (given : Args Write.signature κs) (last : Lasts Write.ended κs given)
      → (at_exit Write.ended κs given last).0 ≡ given.0
  pub build : (κs : Lfts 3) (given : Args Build.signature κs) (last : Lasts Build.ended κs given)
      → ((at_exit Build.ended κs given last).0 ≡ given.0)
      × ((at_exit Build.ended κs given last).1.1.1.0 ≡ given.1.1.1.0)
  pub print : (κs : Lfts 3) (given : Args Print.signature κs) (last : Lasts Print.ended κs given)
      → ((at_exit Print.ended κs given last).0 ≡ given.0) × ((at_exit Print.ended κs given last).1.0 ≡ given.1.0)
  pub explain : (κs : Lfts 3) (given : Args Explain.signature κs) (last : Lasts Explain.ended κs given)
      → ((at_exit Explain.ended κs given last).0 ≡ given.0) × ((at_exit Explain.ended κs given last).1.0 ≡ given.1.0)
  pub locate : (κs : Lfts 4) (given : Args Locate.signature κs) (last : Lasts Locate.ended κs given)
      → ((at_exit Locate.ended κs given last).0 ≡ given.0) × ((at_exit Locate.ended κs given last).1.0 ≡ given.1.0)
      × ((at_exit Locate.ended κs given last).1.1.1.1.0 ≡ given.1.1.1.1.0)
  pub run : (κs : Lfts 3) (given : Args Run.signature κs) (last : Lasts Run.ended κs given)
      → (at_exit Run.ended κs given last).0 ≡ given.0
  pub step : (κs : Lfts 3) (given : Args Step.signature κs) (last : Lasts Step.ended κs given)
      → (at_exit Step.ended κs given last).0 ≡ given.0

-- ---- the contracts, of what a call is given, its result and what its buffers hold after it

-- a lent buffer: for how long, where it lies and what it holds, which are bytes
pub record Buffer : Type 0 where
  pub lifetime : Lft
  pub lent : MutBor (List ℕ)
  pub bytes : AllBytes lent.now

-- it as what is lent by `&`, which has no name under which its changes are tracked
abbrev pub shared : Buffer → Bor (List ℕ)
shared b = as_bor b.lent

abbrev pub holds : Buffer → List ℕ
holds b = b.lent.now

-- lent numbers of 32 bits, as addresses and places are
pub record Words : Type 0 where
  pub lifetime : Lft
  pub lent : MutBor (List ℕ)

abbrev pub listed : Words → List ℕ
listed w = w.lent.now

abbrev pub CheckContract : Buffer → Buffer → ℕ → ℕ → ℕ → Type 0
CheckContract image marks base reset result =
    let κs : Lfts 2 = (image.lifetime, (marks.lifetime, tt)) in
    let given : Args Check.signature κs = (shared image, (shared marks, (base, (reset, tt)))) in
    CheckReads.Learnt κs given result (at_exit Check.ended κs given (tt, (tt, (tt, (tt, tt)))))

abbrev pub ReadContract : Buffer → Buffer → ℕ → List ℕ → Type 0
ReadContract text marks result marks_left =
    let κs : Lfts 2 = (text.lifetime, (marks.lifetime, tt)) in
    let given : Args Read.signature κs = (shared text, (marks.lent, tt)) in
    ReadReads.Learnt κs given result (at_exit Read.ended κs given (tt, (marks_left, tt)))

abbrev pub WriteContract : Buffer → ℕ → ℕ → Buffer → ℕ → List ℕ → Type 0
WriteContract marks base reset page result page_left =
    let κs : Lfts 2 = (marks.lifetime, (page.lifetime, tt)) in
    let given : Args Write.signature κs = (shared marks, (base, (reset, (page.lent, tt)))) in
    WriteReads.Learnt κs given result (at_exit Write.ended κs given (tt, (tt, (tt, (page_left, tt)))))

abbrev pub BuildContract : Buffer → ℕ → ℕ → Buffer → Buffer → ℕ → List ℕ → Type 0
BuildContract image base reset routines marks result marks_left =
    let κs : Lfts 3 = (image.lifetime, (routines.lifetime, (marks.lifetime, tt))) in
    let given : Args Build.signature κs = (shared image, (base, (reset, (shared routines, (marks.lent, tt))))) in
    BuildReads.Learnt κs given result (at_exit Build.ended κs given (tt, (tt, (tt, (tt, (marks_left, tt))))))

abbrev pub PrintContract : Buffer → Buffer → ℕ → ℕ → Buffer → ℕ → List ℕ → Type 0
PrintContract image marks base reset page result page_left =
    let κs : Lfts 3 = (image.lifetime, (marks.lifetime, (page.lifetime, tt))) in
    let given : Args Print.signature κs = (shared image, (shared marks, (base, (reset, (page.lent, tt))))) in
    PrintReads.Learnt κs given result (at_exit Print.ended κs given (tt, (tt, (tt, (tt, (page_left, tt))))))

abbrev pub ExplainContract : Buffer → Buffer → ℕ → ℕ → Buffer → ℕ → List ℕ → Type 0
ExplainContract image marks base reset page result page_left =
    let κs : Lfts 3 = (image.lifetime, (marks.lifetime, (page.lifetime, tt))) in
    let given : Args Explain.signature κs = (shared image, (shared marks, (base, (reset, (page.lent, tt))))) in
    ExplainReads.Learnt κs given result (at_exit Explain.ended κs given (tt, (tt, (tt, (tt, (page_left, tt))))))

abbrev pub LocateContract : Buffer → Buffer → ℕ → ℕ → Words → Words → ℕ → List ℕ → Type 0
LocateContract image marks base reset addresses places result places_left =
    let κs : Lfts 4 = (image.lifetime, (marks.lifetime, (addresses.lifetime, (places.lifetime, tt)))) in
    let given : Args Locate.signature κs =
    (shared image, (shared marks, (base, (reset, (as_bor addresses.lent, (places.lent, tt)))))) in
    LocateReads.Learnt κs given result (at_exit Locate.ended κs given (tt, (tt, (tt, (tt, (tt, (places_left, tt)))))))

abbrev pub RunContract : Buffer → ℕ → Buffer → Buffer → ℕ → ℕ → List ℕ → List ℕ → Type 0
RunContract image base state ram steps result left_state left_ram =
    let κs : Lfts 3 = (image.lifetime, (state.lifetime, (ram.lifetime, tt))) in
    let given : Args Run.signature κs = (shared image, (base, (state.lent, (ram.lent, (steps, tt))))) in
    RunReads.Learnt κs given result (at_exit Run.ended κs given (tt, (tt, (left_state, (left_ram, (tt, tt))))))

abbrev pub StepContract : Buffer → ℕ → Buffer → Buffer → ℕ → List ℕ → List ℕ → Type 0
StepContract image base state ram result left_state left_ram =
    let κs : Lfts 3 = (image.lifetime, (state.lifetime, (ram.lifetime, tt))) in
    let given : Args Step.signature κs = (shared image, (base, (state.lent, (ram.lent, tt)))) in
    StepReads.Learnt κs given result (at_exit Step.ended κs given (tt, (tt, (left_state, (left_ram, tt)))))

-- ---- the calls

-- of `m7700_check`
pub record CheckCall : Type 0 where
  pub image : Buffer
  pub marks : Buffer
  pub base : ℕ
  pub reset : ℕ
  pub result : ℕ
  pub kept : CheckContract image marks base reset result

-- of `m7700_read_list`
pub record ReadCall : Type 0 where
  pub text : Buffer
  pub marks : Buffer
  pub result : ℕ
  pub marks_left : List ℕ
  pub kept : ReadContract text marks result marks_left

-- of `m7700_write_list`
pub record WriteCall : Type 0 where
  pub marks : Buffer
  pub base : ℕ
  pub reset : ℕ
  pub page : Buffer
  pub result : ℕ
  pub page_left : List ℕ
  pub kept : WriteContract marks base reset page result page_left

-- of `m7700_build_marks`
pub record BuildCall : Type 0 where
  pub image : Buffer
  pub base : ℕ
  pub reset : ℕ
  pub routines : Buffer
  pub marks : Buffer
  pub result : ℕ
  pub marks_left : List ℕ
  pub kept : BuildContract image base reset routines marks result marks_left

-- of `m7700_print`
pub record PrintCall : Type 0 where
  pub image : Buffer
  pub marks : Buffer
  pub base : ℕ
  pub reset : ℕ
  pub page : Buffer
  pub result : ℕ
  pub page_left : List ℕ
  pub kept : PrintContract image marks base reset page result page_left

-- of `m7700_explain`
pub record ExplainCall : Type 0 where
  pub image : Buffer
  pub marks : Buffer
  pub base : ℕ
  pub reset : ℕ
  pub page : Buffer
  pub result : ℕ
  pub page_left : List ℕ
  pub kept : ExplainContract image marks base reset page result page_left

-- of `m7700_locate`
pub record LocateCall : Type 0 where
  pub image : Buffer
  pub marks : Buffer
  pub base : ℕ
  pub reset : ℕ
  pub addresses : Words
  pub places : Words
  pub result : ℕ
  pub places_left : List ℕ
  pub kept : LocateContract image marks base reset addresses places result places_left

-- of `m7700_run`; or of `m7700_step`, which asks for one step
pub data MachineContract (image : Buffer) (base : ℕ) (state ram : Buffer) (steps result : ℕ)
    (left_state left_ram : List ℕ) : Type 0 where
  run : RunContract image base state ram steps result left_state left_ram
      → MachineContract image base state ram steps result left_state left_ram
  step : steps ≡ 1 → StepContract image base state ram result left_state left_ram
      → MachineContract image base state ram steps result left_state left_ram

pub record RunCall : Type 0 where
  pub image : Buffer
  pub base : ℕ
  pub state : Buffer
  pub ram : Buffer
  pub steps : ℕ
  pub result : ℕ
  pub left_state : List ℕ
  pub left_ram : List ℕ
  pub kept : MachineContract image base state ram steps result left_state left_ram

-- the numbers that m7700.h takes out of its result
abbrev pub numbers : RunCall → RunNumbers
numbers c = run_numbers c.result

-- its run (execution/specs/Run.antt): the memory, the state that the given bytes say, and the history
abbrev pub memory_of : RunCall → Memory
memory_of c = memory (holds c.ram) (holds c.image) c.base

abbrev pub state_given : RunCall → State
state_given c = state_of (holds c.state)

abbrev pub history_of : RunCall → List Event
history_of c = run_history (memory_of c) (state_given c) c.steps
