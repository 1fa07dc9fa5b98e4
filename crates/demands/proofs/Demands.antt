-- The three conditions. What is said of a call's result is said of the numbers of its answer (Calls.antt), and of
-- these it is what the definitions are proved to mean: what a run of bytes leaves, `accepts_exactly`, `refused_means`,
-- the grounds of refusal, the round trips, and the guarantee of a list of runs. For the last, the state that a call's
-- bytes say is the one that the run before left, by induction over the list.
-- Assumes nothing.
use Rattle.std.specs.Prelude.{Ok, Err}
use mathlib.Core.Path.{◌≡◌, refl, sym, ap, ◌∙◌}
use mathlib.Core.Logic.{◌⊎◌, inl, inr}
use mathlib.Core.Bool.{false}
use mathlib.Core.List.{List, [], ◌∷◌, ◌++◌}
use Prim.Native.Nat.{ℕ, ◌≤◌, ◌<◌}
use native.Mathlib.Omega.{arith}
use lib.ListN.{length, take, drop}
use Rattle.loader.proofs.m7700_check.Met as CheckMet
use Rattle.loader.proofs.m7700_read_list.Met as ReadMet
use Rattle.loader.proofs.m7700_write_list.Met as WriteMet
use Rattle.loader.proofs.m7700_build_marks.Met as BuildMet
use Rattle.loader.proofs.m7700_print.Met as PrintMet
use Rattle.loader.proofs.m7700_explain.Met as ExplainMet
use Rattle.loader.proofs.m7700_locate.Met as LocateMet
use Rattle.loader.proofs.m7700_run.Met as RunMet
use Rattle.loader.proofs.m7700_step.Met as StepMet
use Rattle.packing.specs.Packed.{packed_verdict, verdict_numbers, check_numbers, list_read_numbers, read_numbers}
use Rattle.packing.specs.Packed.{list_written_numbers, written_numbers, answer_numbers}
use Rattle.packing.proofs.Unpacked.{accepted_zero}
use Rattle.types.specs.Answers.{Verdict, ended_by, ListRead, ListWritten, TestResult, RunAnswer}
use Rattle.types.specs.declared.lists.Header.{Header}
use Rattle.types.specs.Refusals.{refusal_number}
use Rattle.acceptance.specs.Grounds.{AnswersBy}
use Rattle.execution.specs.RunGrounds.{WrongBytes, run_grounds}
use Rattle.lists.specs.ListGrounds.{read_grounds, write_grounds}
use Rattle.lists.specs.MarkList.{is_old, marks_by, marks_read, page_by, page_written}
use Rattle.semantics.specs.Memory.{memory}
use Rattle.types.specs.Runs.{stop_number}
use Rattle.semantics.specs.Step.{step}
use Rattle.execution.specs.Run.{Event, with_ram, history, end_of, completed_steps, calls_among, executed, ran}
use Rattle.types.specs.Runs.{end_number}
use Rattle.execution.specs.Run.{one_step, runs_from_within, admission, admitted_history, run_history, Run, runs_from}
use Rattle.execution.specs.Run.{admitted_history_within}
use Rattle.execution.specs.StateBytes.{state_size, state_of, state_bytes}
use Rattle.execution.specs.RunBytes.{as_bytes}
use Rattle.prelude.specs.Lists.{Every}
use Rattle.execution.specs.Guarantee.{EndsWell, done, stopped, RunOutcome, admitted, refused}
use Rattle.instructions.proofs.CodeMap.{carried_length}
use Rattle.acceptance.proofs.Verdict.{accepts_exactly}
use Rattle.acceptance.proofs.Meaning.{refused_means}
use Rattle.types.proofs.TestResults.{refusal_range}
use Rattle.acceptance.proofs.FirstGround.{numbers_by}
use Rattle.execution.proofs.RunGrounds.{run_bytes_answers}
use Rattle.lists.proofs.ListGrounds.{read_answers, write_answers}
use Rattle.lists.proofs.RoundTrips.{six_again, written_then_read}
use Rattle.execution.proofs.Run.{stops_leave, executed_one}
use Rattle.execution.proofs.RunBytes.{bytes_ran, said_left, long_left, taken, refused_leaves, none_leaves}
use Rattle.execution.proofs.Guarantee.{guarantee}
use Rattle.demands.specs.Calls.{holds, CheckCall, ReadCall, WriteCall, RunCall, numbers, memory_of, state_given}
use Rattle.demands.specs.Calls.{history_of}
use Rattle.demands.specs.Demands.{Untouched, Undone, Demand1, RefusedCheck, ByHistory, Demand2, RefusedRun}
use Rattle.demands.specs.Demands.{EndedRun, PassedOn, runs_of, asked_of, Demand3}
use Rattle.demands.proofs.Calls.{verdict_of, read_of, written_of, ran_of, promised, numbers_of_check, numbers_of_read}
use Rattle.demands.proofs.Calls.{numbers_of_write, numbers_of_run}

-- ---- 1

read_refused : (c : ReadCall) → 0 < (read_numbers c.result).number
    → (c.marks_left ≡ holds c.marks) × ((read_numbers c.result).base ≡ 0) × ((read_numbers c.result).reset ≡ 0)
unfolding marks_read marks_by
read_refused c some = by (read_of c) c.kept.1 (numbers_of_read c)
  where
    by : (a : ListRead) → c.marks_left ≡ marks_by a (holds c.text) (holds c.marks)
        → read_numbers c.result ≡ list_read_numbers a
        → (c.marks_left ≡ holds c.marks)
        × ((read_numbers c.result).base ≡ 0) × ((read_numbers c.result).reset ≡ 0)
    by (Err why) left told = (left, ap (λ n. n.base) told, ap (λ n. n.reset) told)
    by (Ok h) left told = absurd (omega (arith, ap (λ n. n.number) told))

write_refused : (c : WriteCall) → 0 < (written_numbers c.result).number
    → (c.page_left ≡ holds c.page) × ((written_numbers c.result).length ≡ 0)
unfolding page_written page_by
write_refused c some = by (written_of c) c.kept.1 (numbers_of_write c)
  where
    by : (a : ListWritten) → c.page_left ≡ page_by a (holds c.marks) c.base c.reset (holds c.page)
        → written_numbers c.result ≡ list_written_numbers a
        → (c.page_left ≡ holds c.page) × ((written_numbers c.result).length ≡ 0)
    by (Err why) left told = (left, ap (λ n. n.length) told)
    by (Ok n) left told = absurd (omega (arith, ap (λ n. n.number) told))

module _ (c : RunCall) where
  untouched : ((ran_of c).state ≡ holds c.state) × ((ran_of c).ram ≡ holds c.ram) → Untouched c
  untouched left = ((promised c).state ∙ left.0, (promised c).ram ∙ left.1)

  run_refused : 0 < (numbers c).refusal
      → Untouched c × ((numbers c).end ≡ 0) × ((numbers c).steps ≡ 0) × ((numbers c).calls ≡ 0)
  run_refused some = by (ran_of c).answer refl (numbers_of_run c)
    where
      by : (a : RunAnswer) → (ran_of c).answer ≡ a → numbers c ≡ answer_numbers a
          → Untouched c × ((numbers c).end ≡ 0) × ((numbers c).steps ≡ 0) × ((numbers c).calls ≡ 0)
      by (Err why) e told = (
        untouched (refused_leaves (memory_of c) (holds c.state) c.steps why e),
        ap (λ n. n.end) told,
        ap (λ n. n.steps) told,
        ap (λ n. n.calls) told,
      )
      by (Ok ended) e told = absurd (omega (arith, ap (λ n. n.refusal) told))

  step_stopped : Every Undone (history_of c)
  unfolding admitted_history_within
  step_stopped = by (admission (memory_of c) (state_given c) c.steps)
    where
      by : (a : TestResult) → Every Undone (admitted_history a (memory_of c) (state_given c) c.steps)
      by (Ok _) = stops_leave c.steps (memory_of c) (state_given c)
      by (Err why) = tt

  run_stopped : (numbers c).steps ≡ 0 → Untouched c
  run_stopped none = by (ran_of c).answer refl (numbers_of_run c)
    where
      by : (a : RunAnswer) → (ran_of c).answer ≡ a → numbers c ≡ answer_numbers a → Untouched c
      by (Err why) e told = untouched (refused_leaves (memory_of c) (holds c.state) c.steps why e)
      by (Ok ended) e told =
          let zero : ended.steps ≡ 0 = sym (ap (λ n. n.steps) told) ∙ none in
          untouched (none_leaves (memory_of c) (holds c.state) c.steps c.state.bytes ended.end ended.calls
          (e ∙ ap (λ n. ended_by ended.end n ended.calls) zero))

pub demand_1 : Demand1
demand_1 = record {
  any_input =
      record {
        check = λ κs given. tt;
        read = λ κs given. tt;
        write = λ κs given. tt;
        build = λ κs given. tt;
        print = λ κs given. tt;
        explain = λ κs given. tt;
        locate = λ κs given. tt;
        run = λ κs given. tt;
        step = λ κs given. tt;
      };
  shared_stays =
      record {
        check = λ κs given last. refl;
        read = λ κs given last. refl;
        write = λ κs given last. refl;
        build = λ κs given last. (refl, refl);
        print = λ κs given last. (refl, refl);
        explain = λ κs given last. (refl, refl);
        locate = λ κs given last. (refl, refl, refl);
        run = λ κs given last. refl;
        step = λ κs given last. refl;
      };
  marks_hold = λ c. c.kept.1;
  page_holds = λ c. c.kept.1;
  state_holds = λ c. (promised c).state;
  ram_holds = λ c. (promised c).ram;
  read_refused = read_refused;
  write_refused = write_refused;
  run_refused = run_refused;
  step_stopped = step_stopped;
  run_stopped = run_stopped;
  returns =
      record {
        check = CheckMet.met;
        read = ReadMet.met;
        write = WriteMet.met;
        build = BuildMet.met;
        print = PrintMet.met;
        explain = ExplainMet.met;
        locate = LocateMet.met;
        run = RunMet.met;
        step = StepMet.met;
      };
}

-- ---- 2

zero_accepted : (c : CheckCall) → c.result ≡ 0 → verdict_of c ≡ Ok tt
zero_accepted c zero = accepted_zero (verdict_of c) (sym c.kept ∙ zero)

refuses : (c : CheckCall) → 0 < c.result → RefusedCheck c
refuses c some = by (verdict_of c) refl (numbers_of_check c)
  where
    by : (v : Verdict) → verdict_of c ≡ v → check_numbers c.result ≡ verdict_numbers v → RefusedCheck c
    by (Ok _) e told = absurd (omega (arith, some, ap (λ n. n.number) told, ap (λ n. n.offset) told))
    by (Err r) e told = record {
      why = r.why;
      number = ap (λ n. n.number) told;
      breaks =
          rw (ap (λ n. n.offset) told)
          (refused_means (holds c.image) (holds c.marks) c.base c.reset r.why r.offset e);
    }

module _ (c : RunCall) (zero : (numbers c).refusal ≡ 0) where
  -- what is shown of a call that is not refused
  when_taken : {P : Type 0}
      → (run_history (memory_of c) (state_given c) c.steps ≡ history (memory_of c) (state_given c) c.steps
      → ran_of c ≡ as_bytes (executed (memory_of c) (state_given c) c.steps) → P) → P
  when_taken {P} shows = by (ran_of c).answer refl (numbers_of_run c)
    where
      by : (a : RunAnswer) → (ran_of c).answer ≡ a → numbers c ≡ answer_numbers a → P
      by (Err why) e told = absurd (omega (arith, zero, ap (λ n. n.refusal) told, (refusal_range why).0))
      by (Ok ended) e told =
          let t = taken (memory_of c) (holds c.state) c.steps ended.end ended.steps ended.calls e in
          shows t.history_is t.ran_is

  by_history : ByHistory c
  by_history = when_taken (λ same run. record {
    answer = rw same (numbers_of_run c ∙ ap (λ r. answer_numbers r.answer) run);
    state = rw same ((promised c).state ∙ ap (λ r. r.state) run);
    ram = rw same ((promised c).ram ∙ ap (λ r. r.ram) run);
  })

  single_step : c.steps ≡ 1
      → (numbers c ≡ answer_numbers (one_step (step (memory_of c) (state_given c))).answer)
      × (c.left_state ≡ state_bytes (step (memory_of c) (state_given c)).state)
      × (c.left_ram ≡ (step (memory_of c) (state_given c)).ram)
  single_step one = when_taken (λ same run.
      let m = memory_of c in
      let s = state_given c in
      let stepped : ran_of c ≡ as_bytes (one_step (step m s)) =
      run ∙ ap (λ n. as_bytes (executed m s n)) one ∙ ap as_bytes (executed_one m s) in (
        numbers_of_run c ∙ ap (λ r. answer_numbers r.answer) stepped,
        (promised c).state ∙ ap (λ r. r.state) stepped,
        (promised c).ram ∙ ap (λ r. r.ram) stepped,
      ))

run_refuses : (c : RunCall)
    → AnswersBy (run_grounds (memory_of c) (WrongBytes (holds c.state)) c.steps) refusal_number 0
    (numbers c).refusal
run_refuses c =
    rw (ap (λ n. n.refusal) (numbers_of_run c))
    (numbers_by (λ a. (answer_numbers a).refusal) (run_bytes_answers (memory_of c) (holds c.state) c.steps)
    (λ why. refl) refl)

read_refuses : (c : ReadCall)
    → AnswersBy (read_grounds (holds c.text) (holds c.marks)) refusal_number 0 (read_numbers c.result).number
read_refuses c =
    rw (ap (λ n. n.number) (numbers_of_read c))
    (numbers_by (λ a. (list_read_numbers a).number) (read_answers (holds c.text) (holds c.marks)) (λ why. refl) refl)

write_refuses : (c : WriteCall)
    → AnswersBy (write_grounds (holds c.marks) c.base c.reset (holds c.page)) refusal_number 0
    (written_numbers c.result).number
write_refuses c =
    rw (ap (λ n. n.number) (numbers_of_write c))
    (numbers_by (λ a. (list_written_numbers a).number)
    (write_answers (holds c.marks) c.base c.reset (holds c.page)) (λ why. refl) refl)

read_written : (r : ReadCall) (w : WriteCall) → (read_numbers r.result).number ≡ 0
    → is_old (holds r.text) ≡ false → holds w.marks ≡ r.marks_left → w.base ≡ (read_numbers r.result).base
    → w.reset ≡ (read_numbers r.result).reset → length (holds r.text) ≤ length (holds w.page)
    → (written_numbers w.result ≡ record { number = 0; length = length (holds r.text) })
    × (w.page_left ≡ holds r.text ++ drop (length (holds r.text)) (holds w.page))
read_written r w zero six marks base reset room = by (read_of r) refl (numbers_of_read r)
  where
    by : (a : ListRead) → read_of r ≡ a → read_numbers r.result ≡ list_read_numbers a
        → (written_numbers w.result ≡ record { number = 0; length = length (holds r.text) })
        × (w.page_left ≡ holds r.text ++ drop (length (holds r.text)) (holds w.page))
    by (Err why) e told = absurd (omega (arith, ap (λ n. n.number) told, (refusal_range why).0))
    by (Ok h) e told =
        let same = six_again (holds r.text) (holds r.marks) (holds w.page) h e six room in
        let marks' : holds w.marks ≡ marks_read (holds r.text) (holds r.marks) = marks ∙ r.kept.1 in
        let base' : w.base ≡ h.base = base ∙ ap (λ n. n.base) told in
        let reset' : w.reset ≡ h.reset = reset ∙ ap (λ n. n.reset) told in
        let text = holds r.text in
        let written : written_of w ≡ Ok (length text) = rw (marks', base', reset') same.0 in
        let page : page_written (holds w.marks) w.base w.reset (holds w.page)
        ≡ text ++ drop (length text) (holds w.page) = rw (marks', base', reset') same.1 in
        (numbers_of_write w ∙ ap list_written_numbers written, w.kept.1 ∙ page)

written_read : (w : WriteCall) (r : ReadCall) → (written_numbers w.result).number ≡ 0
    → holds r.text ≡ take (written_numbers w.result).length w.page_left
    → length (holds r.marks) ≡ length (holds w.marks)
    → (read_numbers r.result ≡ record { number = 0; base = w.base; reset = w.reset })
    × (r.marks_left ≡ holds w.marks)
written_read w r zero text long = by (written_of w) refl (numbers_of_write w)
  where
    by : (a : ListWritten) → written_of w ≡ a → written_numbers w.result ≡ list_written_numbers a
        → (read_numbers r.result ≡ record { number = 0; base = w.base; reset = w.reset })
        × (r.marks_left ≡ holds w.marks)
    by (Err why) e told = absurd (omega (arith, ap (λ n. n.number) told, (refusal_range why).0))
    by (Ok n) e told =
        let given = holds w.marks in
        let same = written_then_read given w.base w.reset n (holds w.page) (holds r.marks) e long in
        let text' : holds r.text ≡ take n (page_written given w.base w.reset (holds w.page)) =
        text ∙ ap (λ k. take k w.page_left) (ap (λ n. n.length) told) ∙ ap (take n) w.kept.1 in
        let h : Header = record { base = w.base; length = length given; reset = w.reset } in
        let read : read_of r ≡ Ok h = rw text' same.0 in
        let marks : marks_read (holds r.text) (holds r.marks) ≡ given = rw text' same.1 in
        (numbers_of_read r ∙ ap list_read_numbers read, r.kept.1 ∙ marks)

pub demand_2 : Demand2
demand_2 = record {
  accepts =
      λ c. let exactly = accepts_exactly (holds c.image) (holds c.marks) c.base c.reset in (
        λ zero. exactly.0 (zero_accepted c zero),
        λ rules. c.kept ∙ ap packed_verdict (exactly.1 rules),
      );
  refuses = refuses;
  single_step = λ c one zero. single_step c zero one;
  each_step = by_history;
  lengths = λ page code m x carried. let l = carried_length page code m x carried in (omega (arith, l.0), l.1);
  run_refuses = run_refuses;
  read_refuses = read_refuses;
  write_refuses = write_refuses;
  read_written = read_written;
  written_read = written_read;
  numbers_of_check = numbers_of_check;
  numbers_of_read = numbers_of_read;
  numbers_of_write = numbers_of_write;
  numbers_of_run = numbers_of_run;
}

-- ---- 3

-- a call that is given a whole state
abbrev Long : RunCall → Type 0
Long c = length (holds c.state) ≡ state_size

-- what it leaves says what its run left
record Left (c : RunCall) : Type 0 where
  answer : numbers c ≡ answer_numbers (ran (memory_of c) (state_given c) c.steps).answer
  state : state_of c.left_state ≡ (ran (memory_of c) (state_given c) c.steps).state
  ram : c.left_ram ≡ (ran (memory_of c) (state_given c) c.steps).ram
  long : length c.left_state ≡ state_size

left : (c : RunCall) → Long c → Left c
left c whole =
    let m = memory_of c in
    let given = holds c.state in
    let same = bytes_ran m given c.steps whole c.state.bytes in
    let said = said_left m given c.steps whole c.state.bytes c.image.bytes c.ram.bytes in
    let long = long_left m given c.steps whole c.state.bytes c.image.bytes c.ram.bytes in
    record {
      answer = numbers_of_run c ∙ ap (λ r. answer_numbers r.answer) same;
      state = ap state_of (promised c).state ∙ said;
      ram = (promised c).ram ∙ ap (λ r. r.ram) same;
      long = ap length (promised c).state ∙ long;
    }

-- a run that is accounted for, as its call tells it
told : (c : RunCall) → Long c → RunOutcome (memory_of c) (state_given c) c.steps → RefusedRun c ⊎ EndedRun c
told c whole (admitted a kept) =
    let zero : (numbers c).refusal ≡ 0 = ap (λ n. n.refusal) answer in
    inr (record { not_refused = zero; ends = by kept.ends; exactly = by_history c zero })
  where
    h : List Event
    h = history (memory_of c) (state_given c) c.steps

    answer : numbers c ≡ answer_numbers (ended_by (end_of h) (completed_steps h) (calls_among h))
    answer = (left c whole).answer ∙ ap answer_numbers kept.answer

    by : EndsWell h c.steps
        → (((numbers c).end ≡ 0) × ((numbers c).steps ≡ c.steps)) ⊎ ((22 ≤ (numbers c).end) × ((numbers c).end ≤ 27))
    by (done e all) = inl (ap (λ n. n.end) answer ∙ ap end_number e, ap (λ n. n.steps) answer ∙ all)
    by (stopped stop e low high) =
        let end : (numbers c).end ≡ stop_number stop = ap (λ n. n.end) answer ∙ ap end_number e in
        inr (rw end low, rw end high)
told c whole (refused why a idle) =
    let answer = (left c whole).answer ∙ ap answer_numbers idle.answer in
    let some : 0 < (numbers c).refusal = rw (ap (λ n. n.refusal) answer) (refusal_range why).0 in
    inl (record { refused = some; no_step = idle.steps; untouched = (run_refused c some).0 })

module _ (image : List ℕ) (base : ℕ) where
  -- a call over this image and base
  abbrev Here : RunCall → Type 0
  Here c = (holds c.image ≡ image) × (c.base ≡ base)

  -- the calls are 01's list of runs, and each is given a whole state
  listed : (calls : List RunCall) → Every Here calls → (state ram : List ℕ) → length state ≡ state_size
      → PassedOn state ram calls
      → (runs_of calls ≡ runs_from (memory ram image base) (state_of state) (asked_of calls)) × Every Long calls
  unfolding runs_from_within
  listed [] here state ram long passed = (refl, tt)
  listed (c ∷ rest) here state ram long passed =
      let whole : Long c = rw passed.0 long in
      let l = left c whole in
      let others = listed rest here.1 c.left_state c.left_ram l.long passed.2 in
      let next : runs_of rest ≡ runs_from (with_ram (ran (memory_of c) (state_given c) c.steps).ram (memory_of c))
      (ran (memory_of c) (state_given c) c.steps).state (asked_of rest) =
      rw (l.ram, l.state, ← here.0.0, ← here.0.1) at others.0 in
      (rw (← passed.0, ← passed.1, ← here.0.0, ← here.0.1) (ap (λ t. run_of c ∷ t) next), (whole, others.1))
    where
      run_of : RunCall → Run
      run_of c = record { ram = holds c.ram; state = state_given c; asked = c.steps }

  all_told : (calls : List RunCall) → Every Here calls → Every Long calls
      → Every (λ r. RunOutcome (memory r.ram image base) r.state r.asked) (runs_of calls)
      → Every (λ c. RefusedRun c ⊎ EndedRun c) calls
  all_told [] here long accounted = tt
  all_told (c ∷ rest) here long accounted = (
    told c long.0 (rw (here.0.0, here.0.1) accounted.0),
    all_told rest here.1 long.1 accounted.1,
  )

pub demand_3 : Demand3
demand_3 check zero calls over state ram long begins passed =
    let image = holds check.image in
    let base = check.base in
    let list = listed image base calls over state ram long passed in
    let all = guarantee image (holds check.marks) base check.reset (zero_accepted check zero) ram (state_of state)
    begins (asked_of calls) in
    record {
      list = list.0;
      every_step = rw list.0 all.every_step;
      every_run = all_told image base calls over list.1 (rw list.0 all.every_run);
    }
