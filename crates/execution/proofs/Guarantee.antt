-- Demand 3, as specs/Guarantee.antt has it.
--
-- The machine stands at a marked start with its widths, and its open calls form a chain: the mark's kind is that of the
-- call opened last, its return widths are those marked at that call's address, and so on down from the mark there. What
-- an instruction owes by its flow keeps it so, whatever its operation does; the rest is induction over steps and runs.
-- Assumes nothing.
use Rattle.types.specs.declared.machine.Completion.{Completion}
use Rattle.std.specs.Prelude.{Ok, Err, Some, None}
use mathlib.Core.Path.{◌≡◌, refl, sym, ap, ◌∙◌}
use mathlib.Core.Bool.{Bool, true, false}
use mathlib.Core.List.{List, [], ◌∷◌, ◌++◌}
use Prim.Native.Nat.{ℕ, zero, suc, ◌+◌, ◌-◌, ◌*◌, ◌/◌, ◌%◌, ◌≤◌, ◌<◌}
use native.Mathlib.Nat.{mod-eq_of_lt}
use native.Mathlib.Numerals.{add-one}
use native.Mathlib.Omega.{arith}
use borrow.Author.Tests.{eqb-true, ltb-true, leb-true, leb-false}
use lib.Dec.{eqb, ltb, leb}
use lib.ListN.{length, get_or, set, drop, length-set, length-drop, get_or-eq_default}
use lib.Seq.{get_or-set_same, get_or-set_other}
use Rattle.types.specs.declared.code.Kind.{Kind}
use Rattle.types.specs.declared.code.Flow.{Flow}
use Rattle.types.specs.declared.code.WidthEffect.{WidthEffect}
use Rattle.types.specs.declared.code.Instruction.{Instruction}
use Rattle.types.specs.Answers.{Served, StepAnswer, TestResult, End}
use Rattle.types.specs.declared.machine.State.{State}
use Rattle.types.specs.declared.machine.Data.{Data}
use Rattle.types.specs.declared.machine.Store.{Store}
use Rattle.types.specs.declared.machine.Stop.{Stop}
use Rattle.types.specs.declared.machine.CallChange.{CallChange}
use Rattle.prelude.specs.Choice.{pick, bit}
use Rattle.instructions.specs.CodeMap.{prefix_bytes, entry_at}
use Rattle.types.specs.Addresses.{bank_size, address_limit}
use Rattle.acceptance.specs.Image.{is_start, mark_m, mark_x, mark_kind, return_m, return_x, mark_at}
use Rattle.instructions.specs.Decode.{page_of, decode}
use Rattle.instructions.specs.Successors.{next_address, m_after, x_after, kind_number}
use Rattle.acceptance.specs.Rules.{requirement, mark_of_routine, mark_on_return, mark_after, owed_by, owed_at}
use Rattle.acceptance.specs.Rules.{returns_by}
use Rattle.acceptance.specs.Rules.{return_fits, Met, AllMet, StartRules, Accepts}
use Rattle.semantics.specs.Memory.{Memory, memory, in_ram, is_in_image, Outcome, done, unmapped, evaluate, served_at}
use Rattle.semantics.specs.Memory.{and_then}
use Rattle.semantics.specs.Memory.{served}
use Rattle.semantics.specs.Addressing.{data_of}
use Rattle.semantics.specs.Arithmetic.{with_s}
use Rattle.semantics.specs.Effects.{pushed_at}
use Rattle.semantics.specs.Step.{call_limit, record_unit, call_record, return_of, kind_of, place_of, bytes_from}
use Rattle.semantics.specs.Step.{fetched}
use Rattle.semantics.specs.Step.{Change, change, Plan, stops, changes, on_read, is_decimal, next, target, short, access}
use Rattle.semantics.specs.Step.{works, operates, pushes_return, return_bytes, calls, pulls_return, is_return}
use Rattle.semantics.specs.Step.{returns_to}
use Rattle.semantics.specs.Step.{plan_by, last_opened, plan, depth_after, calls_after, answer_of, state_after}
use Rattle.semantics.specs.Step.{on_served}
use Rattle.semantics.specs.Step.{finish, step, calls_within, plan_by_within, step_within}
use Rattle.types.specs.Runs.{stop_number}
use Rattle.execution.specs.Run.{Event, event, with_ram, history, completed_steps, end_after, end_of, state_left}
use Rattle.execution.specs.Run.{admission, run_history, ran, Run, runs_from, joined_history, history_within}
use Rattle.execution.specs.Run.{runs_from_within, joined_history_within}
use Rattle.prelude.specs.Lists.{Every}
use Rattle.execution.specs.Guarantee.{Marked, WholeInside, Safe, EndsWell, RunOutcome, Begins, Guarantee, OwnKind}
use Rattle.execution.specs.Guarantee.{OwnKinds}
use Rattle.instructions.proofs.CodeMap.{call_keeps, return_keeps}
use Rattle.instructions.proofs.Decode.{same_whole, decodes, decoded_entry}
use Rattle.acceptance.proofs.Widths.{m_after_bit, x_after_bit, kind_bits, located, fields, Located}
use Rattle.acceptance.proofs.Verdict.{accepted_rules}
use Rattle.acceptance.proofs.Image.{right_length, base_whole}
use Rattle.semantics.proofs.Step.{bytes_inside, is_inside_lem}
use Rattle.execution.proofs.Run.{onward, by_first_step, state_passes, all_asked, admitted_ran, refused_ran}
use Rattle.acceptance.proofs.SuccessorRules.{both_three, returns_marked}

-- ---- marks

bit_of : (v : ℕ) → v ≤ 1 → bit (eqb v 1) ≡ v
bit_of zero h = refl
bit_of (suc zero) h = refl
bit_of (suc (suc v)) h = absurd (omega arith)

-- a 24-bit address out of its two parts
remade : (a : ℕ) → a < address_limit → a / bank_size % 256 * bank_size + a % bank_size ≡ a
remade a h = omega arith

-- an entry's parts
kind_of_entry : (address kind : ℕ) → address < record_unit → kind ≤ 3 → kind_of (call_record address kind) ≡ kind
kind_of_entry address kind h hk = omega arith

return_of_entry : (address kind : ℕ) → address < record_unit → return_of (call_record address kind) ≡ address
return_of_entry address kind h = omega arith

-- ---- the open calls

module _ (marks : List ℕ) (base : ℕ) where
  abbrev pub there : ℕ → ℕ
  there address = mark_at marks base address

  -- What a mark has of the call opened last: its kind is that call's, and its return widths are those marked at the
  -- call's address, a marked start.
  pub record Answers (mark entry : ℕ) : Type 0 where
    same_kind : mark_kind mark ≡ kind_of entry
    start : is_start (there (return_of entry)) ≡ true
    same_m : mark_m (there (return_of entry)) ≡ return_m mark
    same_x : mark_x (there (return_of entry)) ≡ return_x mark

  -- The chain of open calls, from the one opened last down; an entry past the list's end matches no return.
  abbrev pub Chain : List ℕ → ℕ → ℕ → Type 0
  Chain opened zero mark = Unit {0}
  Chain opened (suc n) mark =
      n < length opened → (Answers mark (get_or opened n 0) × Chain opened n (there (return_of (get_or opened n 0))))

  -- a chain asks only for a mark's kind and return widths
  chain_same : (opened : List ℕ) (n mark other : ℕ) → mark_kind other ≡ mark_kind mark → return_m other ≡ return_m mark
      → return_x other ≡ return_x mark → Chain opened n mark → Chain opened n other
  chain_same opened zero mark other k m x c = tt
  chain_same opened (suc n) mark other k m x c = λ inside.
      let a = (c inside).0 in (
        record {
          same_kind = k ∙ a.same_kind;
          start = a.start;
          same_m = a.same_m ∙ sym m;
          same_x = a.same_x ∙ sym x;
        },
        (c inside).1,
      )

  -- an entry above a chain is not part of it
  chain_below : (opened : List ℕ) (n k entry mark : ℕ) → n ≤ k → Chain opened n mark → Chain (set opened k entry) n mark
  chain_below opened zero k entry mark h c = tt
  chain_below opened (suc n) k entry mark h c = λ inside.
      let same = get_or-set_other opened k n entry 0 (λ e. absurd (omega arith)) in
      let own = c (rw (length-set opened k entry) at inside) in
      rw same (own.0, chain_below opened n k entry (there (return_of (get_or opened n 0))) (omega arith) own.1)

  -- a call opened on a chain
  chain_opened : (opened : List ℕ) (n address kind mark : ℕ) → address < record_unit → kind ≤ 3 → mark_kind mark ≡ kind
      → is_start (there address) ≡ true → mark_m (there address) ≡ return_m mark → mark_x (there address) ≡ return_x
      mark
      → Chain opened n (there address) → Chain (set opened n (call_record address kind)) (suc n) mark
  chain_opened opened n address kind mark h hk k s m x c = λ inside.
      let entry = call_record address kind in
      let short : n < length opened = rw (length-set opened n entry) at inside in
      rw (get_or-set_same opened n entry 0 short, return_of_entry address kind h) (
        record {
          same_kind = k ∙ sym (kind_of_entry address kind h hk);
          start = rw (return_of_entry address kind h) s;
          same_m = rw (return_of_entry address kind h) m;
          same_x = rw (return_of_entry address kind h) x;
        },
        chain_below opened n n entry (there address) (omega arith) c,
      )

  -- the call opened last, where it is there
  chain_top : (opened : List ℕ) (depth mark : ℕ) → 0 < depth → depth ≤ length opened → Chain opened depth mark
      → Answers mark (get_or opened (depth - 1) 0)
      × Chain opened (depth - 1) (there (return_of (get_or opened (depth - 1) 0)))
  chain_top opened zero mark some inside c = absurd (omega arith)
  chain_top opened (suc n) mark some inside c = let e : suc n - 1 ≡ n = omega arith in rw e (c inside)

  -- an entry that has a return's kind is there
  entry_there : (opened : List ℕ) (depth : ℕ) (kind : Kind) → kind_of (get_or opened (depth - 1) 0) ≡ kind_number kind
      → depth ≤ length opened
  entry_there opened depth kind e = by (leb depth (length opened)) refl
    where
      some : (k : Kind) → 0 ≡ kind_number k → ⊥
      some Kind.ByRts h = absurd (omega arith)
      some Kind.ByRtl h = absurd (omega arith)

      by : (b : Bool) → leb depth (length opened) ≡ b → depth ≤ length opened
      by true h = leb-true depth (length opened) h
      by false h =
          let past : length opened < depth = leb-false depth (length opened) h in
          absurd (some kind (rw (get_or-eq_default opened 0 {n = depth - 1} (omega arith)) at e))

  -- ---- where the machine stands

  -- at a marked start, with its widths, and its open calls in a chain
  pub record Stands (s : State) : Type 0 where
    pub start : is_start (there (place_of s.core)) ≡ true
    pub m_marked : bit s.core.registers.status.m ≡ mark_m (there (place_of s.core))
    pub x_marked : bit s.core.registers.status.x ≡ mark_x (there (place_of s.core))
    pub chain : Chain s.calls s.core.depth (there (place_of s.core))

  -- what a change must bring for the machine to stand so after it
  record Arrives (s : State) (i : Instruction) (place : ℕ) (change : CallChange) : Type 0 where
    start : is_start (there place) ≡ true
    m_after_lem : mark_m (there place) ≡ m_after i.entry.effect (bit s.core.registers.status.m) i.operand
    x_after_lem : mark_x (there place) ≡ x_after i.entry.effect (bit s.core.registers.status.x) i.operand
    chain : Chain (calls_after change s.core.depth s.calls) (depth_after change s.core.depth) (there place)

  module _ (whole : base + length marks ≤ address_limit) where
    -- a marked start has a 24-bit address
    start_below : (address : ℕ) → is_start (there address) ≡ true → address < address_limit
    start_below address h = let l = located marks base address h in omega (arith, l.place, l.inside)

    arrived : (s : State) (i : Instruction) (d : Change) → Arrives s i d.place d.calls → Stands (state_after i s d)
    arrived s i d a =
        let m = m_after i.entry.effect (bit s.core.registers.status.m) i.operand in
        let x = x_after i.entry.effect (bit s.core.registers.status.x) i.operand in
        let few-m : m ≤ 1 = rw (← a.m_after_lem) (omega arith) in
        let few-x : x ≤ 1 = rw (← a.x_after_lem) (omega arith) in
        let same = remade d.place (start_below d.place a.start) in
        record {
          start = rw same a.start;
          m_marked = rw same (bit_of m few-m ∙ sym a.m_after_lem);
          x_marked = rw same (bit_of x few-x ∙ sym a.x_after_lem);
          chain = rw same a.chain;
        }

-- ---- stops

-- 22 to 27
abbrev Late : Stop → Type 0
Late stop = (22 ≤ stop_number stop) × (stop_number stop ≤ 27)

served_at_late : (m : Memory) (address : ℕ) (stop : Stop) → served_at m address ≡ Err stop → Late stop
unfolding served_at
served_at_late m address stop = by (in_ram m address) (is_in_image m address)
  where
    same : (other : Stop) → Late other → ◌≡◌ {A = Served} (Err other) (Err stop) → Late stop
    same other l e = let o : other ≡ stop = cc in rw o at l

    by : (a b : Bool)
        → pick {A = Served} a (Ok tt) (pick b (Err Stop.ImageStore) (Err Stop.Unmapped))
        ≡ Err stop → Late stop
    by true b e = let z : ◌≡◌ {A = ℕ} 0 1 = cc in absurd (omega arith)
    by false true e = same Stop.ImageStore (omega arith) e
    by false false e = same Stop.Unmapped (omega arith) e

-- a store that can't be served stops by 23 or 26
served_late : (m : Memory) (stores : List Store) (stop : Stop) → served m stores ≡ Err stop → Late stop
served_late m [] stop e = let z : ◌≡◌ {A = ℕ} 0 1 = cc in absurd (omega arith)
served_late m (a ∷ rest) stop e =
    by (served_at m a.address) refl e (served_late m rest stop)
  where
    by : (v : Served) → served_at m a.address ≡ v → and_then v (served m rest) ≡ Err stop
        → (served m rest ≡ Err stop → Late stop) → Late stop
    by (Ok _) f h more = more h
    by (Err other) f h more = served_at_late m a.address stop (f ∙ h)

-- what an answer must be
abbrev AnswersLate : StepAnswer → Type 0
AnswersLate (Ok Completion.Ordinary) = Unit {0}
AnswersLate (Ok Completion.Call) = Unit {0}
AnswersLate (Err stop) = Late stop

change_answers : (change : CallChange) → AnswersLate (answer_of change)
change_answers CallChange.Keep = tt
change_answers (CallChange.Open address kind) = tt
change_answers CallChange.Close = tt

-- ---- a plan that keeps the machine at its marks

module _ (marks : List ℕ) (base : ℕ) (s : State) (i : Instruction) where
  -- a stop is one of 22 to 27, a change arrives at a marked start
  abbrev Good : Plan → Type 0
  Good (stops stop) = Late stop
  Good (changes d) = Arrives marks base s i d.place d.calls

  finished : base + length marks ≤ address_limit → (m : Memory) (p : Plan) → Stands marks base s → Good p
      → AnswersLate (finish p i m s).answer × Stands marks base (finish p i m s).state
  finished whole m (stops stop) st g = (g, st)
  finished whole m (changes d) st g = by (served m d.stores) refl
    where
      by : (v : Served) → served m d.stores ≡ v
          → AnswersLate (on_served v i d m s).answer × Stands marks base (on_served v i d m s).state
      by (Ok _) e = (change_answers d.calls, arrived marks base whole s i d g)
      by (Err stop) e = (served_late m d.stores stop e, st)

  -- an operation goes on where its flow says
  operates_good : (m : Memory) (goes : Bool → ℕ)
      → ((taken : Bool) → Arrives marks base s i (goes taken) CallChange.Keep)
      → Good (operates s.core i m goes)
  unfolding operates
  operates_good m goes there-too =
      by (is_decimal (access s.core i) s.core.registers)
      (evaluate m (data_of (access s.core i) i.entry.mode i.entry.accumulator s.core.registers
      (short s.core i) i.operand))
    where
      by : (b : Bool) (o : Outcome Data) → Good (pick b (stops Stop.Decimal) (on_read o (works s.core i goes)))
      by true o = omega arith
      by false unmapped = omega arith
      by false (done d) = there-too _

-- ---- by flow

module _ (marks : List ℕ) (base : ℕ) (s : State) (i : Instruction) (st : Stands marks base s) where
  abbrev place : ℕ
  place = place_of s.core

  abbrev mark : ℕ
  mark = mark_at marks base place

  -- a successor with the mark that it is owed
  owed_arrives : (address : ℕ) → Met marks base (requirement address (mark_after i.entry.effect i.operand mark))
      → Arrives marks base s i address CallChange.Keep
  unfolding mark_after
  owed_arrives address met =
      let m = m_after i.entry.effect (mark_m mark) i.operand in
      let x = x_after i.entry.effect (mark_x mark) i.operand in
      let hm : m ≤ 1 = m_after_bit i.entry.effect (mark_m mark) i.operand (omega arith) in
      let hx : x ≤ 1 = x_after_bit i.entry.effect (mark_x mark) i.operand (omega arith) in
      let f = fields (mark_at marks base address) m x (mark_kind mark) (return_m mark) (return_x mark) met.has_mark hm
      hx
      (omega arith) (omega arith) (omega arith) in
      record {
        start = met.start_there;
        m_after_lem = rw st.m_marked f.has_m;
        x_after_lem = rw st.x_marked f.has_x;
        chain = chain_same marks base s.calls s.core.depth mark (mark_at marks base address) f.has_kind
            f.has_return_m f.has_return_x st.chain;
      }

  -- a call whose target and address after have the marks that they are owed
  call_arrives : (kind : Kind) (target next there-marked : ℕ) → i.entry.effect ≡ WidthEffect.KeepWidths
      → next < address_limit
      → there-marked ≡ mark_at marks base target
      → Met marks base (requirement target (mark_of_routine kind mark there-marked))
      → Met marks base (requirement next (mark_on_return mark there-marked))
      → Arrives marks base s i target (CallChange.Open next kind)
  unfolding mark_of_routine mark_on_return m_after x_after
  call_arrives kind target next t keeps low e into after =
      let k = kind_number kind in
      let f = fields (mark_at marks base target) (mark_m mark) (mark_x mark) k (return_m t) (return_x t) into.has_mark
      (omega arith) (omega arith) (kind_bits kind) (omega arith) (omega arith) in
      let g = fields (mark_at marks base next) (return_m t) (return_x t) (mark_kind mark) (return_m mark)
      (return_x mark)
      after.has_mark (omega arith) (omega arith) (omega arith) (omega arith) (omega arith) in
      record {
        start = into.start_there;
        m_after_lem = rw (keeps, st.m_marked) f.has_m;
        x_after_lem = rw (keeps, st.x_marked) f.has_x;
        chain = rw add-one
            (chain_opened marks base s.calls s.core.depth next k (mark_at marks base target) (omega arith)
            (kind_bits kind) f.has_kind after.start_there (g.has_m ∙ ap return_m e) (g.has_x ∙ ap return_x e)
            (chain_same marks base s.calls s.core.depth mark (mark_at marks base next) g.has_kind
            g.has_return_m g.has_return_x st.chain));
      }

  calls_good : (kind : Kind) → i.entry.effect ≡ WidthEffect.KeepWidths
      → Met marks base
      (requirement (target s.core i) (mark_of_routine kind mark (mark_at marks base (target s.core i))))
      → Met marks base (requirement (next s.core i) (mark_on_return mark (mark_at marks base (target s.core i))))
      → Good marks base s i (calls s.core i kind)
  unfolding calls_within
  calls_good kind keeps into after = by (ltb s.core.depth call_limit)
    where
      by : (b : Bool) → Good marks base s i
          (pick b
          (changes (change (with_s (pushed_at s.core.registers (return_bytes kind)) s.core.registers)
          (target s.core i) (CallChange.Open (next s.core i) kind) (pushes_return s.core i kind)))
          (stops Stop.Deep))
      by true =
          call_arrives kind (target s.core i) (next s.core i) (mark_at marks base (target s.core i)) keeps
          (omega arith) refl into after
      by false = omega arith

  -- a return to the address of the call opened last
  return_arrives : (kind : Kind) (address : ℕ) → i.entry.effect ≡ WidthEffect.KeepWidths → returns_by kind mark ≡ true
      → is_return s.core i (last_opened s) kind address ≡ true → Arrives marks base s i address CallChange.Close
  unfolding m_after x_after
  return_arrives kind address keeps rule matches =
      let entry = last_opened s in
      let test = both_three (ltb 0 s.core.depth) (eqb (kind_of entry) (kind_number kind))
      (eqb (return_of entry) address) matches in
      let own = returns_marked kind mark rule in
      let kinds = eqb-true (kind_of entry) (kind_number kind) test.1 in
      let top = chain_top marks base s.calls s.core.depth mark (ltb-true 0 s.core.depth test.0)
      (entry_there marks base s.calls s.core.depth kind kinds) st.chain in
      let goes : address ≡ return_of entry = sym (eqb-true (return_of entry) address test.2) in
      record {
        start = rw goes top.0.start;
        m_after_lem = rw (keeps, st.m_marked, goes) (top.0.same_m ∙ sym own.1);
        x_after_lem = rw (keeps, st.x_marked, goes) (top.0.same_x ∙ sym own.2);
        chain = rw goes top.1;
      }

  returns_good : (m : Memory) (kind : Kind) → i.entry.effect ≡ WidthEffect.KeepWidths → returns_by kind mark ≡ true
      → Good marks base s i
      (on_read (evaluate m (pulls_return s.core i kind)) (returns_to s.core i (last_opened s) kind))
  unfolding returns_to
  returns_good m kind keeps rule = by (evaluate m (pulls_return s.core i kind))
    where
      to : (address : ℕ) (b : Bool) → is_return s.core i (last_opened s) kind address ≡ b
          → Good marks base s i (returns_to s.core i (last_opened s) kind address)
      to address true e = rw e (return_arrives kind address keeps rule e)
      to address false e = rw e (omega arith)

      by : (o : Outcome ℕ) → Good marks base s i (on_read o (returns_to s.core i (last_opened s) kind))
      by unmapped = omega arith
      by (done address) = to address (is_return s.core i (last_opened s) kind address) refl

  -- the mark's kind is a return's own, and so is that of the call opened last
  own_kind : (kind : Kind) → returns_by kind mark ≡ true → 0 < s.core.depth → s.core.depth ≤ length s.calls
      → kind_of (last_opened s) ≡ kind_number kind
  own_kind kind rule some inside =
      let top = chain_top marks base s.calls s.core.depth mark some inside st.chain in
      sym top.0.same_kind ∙ (returns_marked kind mark rule).0

  -- by flow: what an instruction owes keeps the machine at its marks
  plan_good : (m : Memory) (flow : Flow)
      → ((kind : Kind) → flow ≡ Flow.Call kind → i.entry.effect ≡ WidthEffect.KeepWidths)
      → ((kind : Kind) → flow ≡ Flow.Return kind → i.entry.effect ≡ WidthEffect.KeepWidths)
      → return_fits flow mark ≡ true
      → AllMet marks base (owed_by flow mark (mark_after i.entry.effect i.operand mark) (next s.core i)
      (target s.core i) (mark_at marks base (target s.core i)))
      → Good marks base s i (plan_by s.core i m (last_opened s) flow)
  unfolding plan_by_within owed_by return_fits
  plan_good m Flow.Next call return fits met =
      operates_good marks base s i m (λ taken. next s.core i) (λ taken. owed_arrives (next s.core i) met)
  plan_good m Flow.Branch call return fits met =
      operates_good marks base s i m (λ taken. pick taken (target s.core i) (next s.core i)) goes
    where
      goes : (taken : Bool)
          → Arrives marks base s i (pick taken (target s.core i) (next s.core i)) CallChange.Keep
      goes true = owed_arrives (target s.core i) met.1
      goes false = owed_arrives (next s.core i) met.0
  plan_good m Flow.Jump call return fits met = owed_arrives (target s.core i) met
  plan_good m (Flow.Call kind) call return fits met = calls_good kind (call kind refl) met.0 met.1
  plan_good m (Flow.Return kind) call return fits met = returns_good m kind (return kind refl) fits
  plan_good m Flow.Halt call return fits met = omega arith

-- ---- a step

-- a call and a return keep the widths
module _ (bytes : List ℕ) (m x : ℕ) (i : Instruction) (whole : decode bytes m x ≡ Ok i) (kind : Kind) where
  abbrev page : ℕ
  page = page_of (get_or bytes 0 0)

  abbrev code : ℕ
  code = get_or bytes (prefix_bytes page) 0

  call_kept : i.entry.flow ≡ Flow.Call kind → i.entry.effect ≡ WidthEffect.KeepWidths
  call_kept h =
      let e : i.entry ≡ entry_at page code = (decoded_entry bytes m x i whole).0 in
      rw e (call_keeps page code kind (rw e at h))

  return_kept : i.entry.flow ≡ Flow.Return kind → i.entry.effect ≡ WidthEffect.KeepWidths
  return_kept h =
      let e : i.entry ≡ entry_at page code = (decoded_entry bytes m x i whole).0 in
      rw e (return_keeps page code kind (rw e at h))

-- what a step shows
record Steps (image marks : List ℕ) (base : ℕ) (ram : List ℕ) (s : State) : Type 0 where
  safe : Safe image marks base (event (memory ram image base) s)
  own : OwnKind image base (event (memory ram image base) s)
  late : AnswersLate (step (memory ram image base) s).answer
  stands : Stands marks base (step (memory ram image base) s).state

module _ (image marks : List ℕ) (base reset : ℕ) (rules : Accepts image marks base reset) (ram : List ℕ) (s : State)
    (st : Stands marks base s) where
  abbrev m : Memory
  m = memory ram image base

  abbrev address : ℕ
  address = place_of s.core

  same_length : length marks ≡ length image
  same_length = (right_length (length image) (length marks) rules.right_length).same

  small : length image < address_limit
  small = let r = right_length (length image) (length marks) rules.right_length in omega (arith, r.few)

  in_space : base + length image ≤ address_limit
  in_space = base_whole base (length image) rules.right_base

  here : Located marks base address
  here = located marks base address st.start

  within_image : here.at < length image
  within_image = rw (← same_length) here.inside

  at_start : StartRules image marks base here.at
  at_start = rules.at_starts here.at here.inside (rw here.mark at st.start)

  abbrev instruction : Instruction
  instruction = at_start.instruction

  fetches : fetched m s.core ≡ Ok instruction
  fetches =
      read (place_of s.core) (bit s.core.registers.status.m) (bit s.core.registers.status.x) here.place
      (st.m_marked ∙ ap mark_m here.mark) (st.x_marked ∙ ap mark_x here.mark)
    where
      read : (a w v : ℕ) → a ≡ base + here.at → w ≡ mark_m (get_or marks here.at 0)
          → v ≡ mark_x (get_or marks here.at 0)
          → decode (bytes_from m a (length image)) w v ≡ Ok instruction
      read a w v ea ew ev =
          rw (ea, ew, ev, bytes_inside m in_space small (length image) here.at within_image (omega arith))
          at_start.whole

  -- every byte of the instruction lies within the image
  byte_inside : (k : ℕ) → k < instruction.length → is_in_image m (next_address address k) ≡ true
  byte_inside k h =
      let d = decodes (drop here.at image) (mark_m (get_or marks here.at 0)) (mark_x (get_or marks here.at 0))
      instruction at_start.whole in
      let room : instruction.length ≤ length image - here.at = rw length-drop at d.inside in
      let on : next_address address k ≡ base + (here.at + k) =
      rw here.place (mod-eq_of_lt (omega (arith, within_image, in_space)) ∙ omega arith) in
      rw on (is_inside_lem m in_space small (here.at + k) (omega (arith, within_image)))

  marked : Marked marks m s
  marked = record {
    in_image = rw here.place (is_inside_lem m in_space small here.at within_image);
    start_there = st.start;
    m_marked = st.m_marked;
    x_marked = st.x_marked;
  }

  whole_inside : WholeInside m s
  whole_inside =
      let b = bytes_from m address (length image) in
      let w = bit s.core.registers.status.m in
      let v = bit s.core.registers.status.x in
      record {
        instruction = instruction;
        fetches = fetches;
        carried = (decodes b w v instruction fetches).carried;
        counted = (decoded_entry b w v instruction fetches).1;
        inside = byte_inside;
      }

  -- the rule of a return, and what the instruction owes, at the machine's own place
  rule : return_fits instruction.entry.flow (mark_at marks base address) ≡ true
  rule = rw here.mark at_start.returns

  owed : AllMet marks base (owed_at marks base instruction address (mark_at marks base address))
  owed = moved address (mark_at marks base address) here.place here.mark
    where
      moved : (a k : ℕ) → a ≡ base + here.at → k ≡ get_or marks here.at 0
          → AllMet marks base (owed_at marks base instruction a k)
      moved a k ea ek = rw (ea, ek) at_start.successors

  good : Good marks base s instruction (plan m s instruction)
  unfolding owed_at
  good =
      let b = bytes_from m address (length image) in
      let w = bit s.core.registers.status.m in
      let v = bit s.core.registers.status.x in
      plan_good marks base s instruction st m instruction.entry.flow (call_kept b w v instruction fetches)
      (return_kept b w v instruction fetches) rule owed

  -- where the machine stands at its marks, its step is safe and keeps it there
  steps : Steps image marks base ram s
  unfolding step_within return_fits
  steps =
      let marks-whole : base + length marks ≤ address_limit = rw same_length in_space in
      let after = finished marks base s instruction marks-whole m (plan m s instruction) st good in
      record {
        safe = record { marked = marked; whole = whole_inside };
        own = λ i kind fetched-too flow some inside.
            let same : instruction ≡ i = same_whole instruction i (sym fetches ∙ fetched-too) in
            own_kind marks base s instruction st kind (rw (ap (λ j. j.entry.flow) same ∙ flow) at rule) some inside;
        late = rw fetches after.0;
        stands = rw fetches after.1;
      }

-- ---- a history

pub every_append : {A : Type 0} (P : A → Type 0) (xs ys : List A) → Every P xs → Every P ys → Every P (xs ++ ys)
every_append P [] ys h k = k
every_append P (x ∷ xs) ys h k = (h.0, every_append P xs ys h.1 k)

pub every_parts : {A : Type 0} (P : A → Type 0) (xs ys : List A) → Every P (xs ++ ys) → Every P xs × Every P ys
every_parts P [] ys h = (tt, h)
every_parts P (x ∷ xs) ys h = let parts = every_parts P xs ys h.1 in ((h.0, parts.0), parts.1)

pub every_map : {A : Type 0} (P Q : A → Type 0) → ((x : A) → P x → Q x) → (xs : List A) → Every P xs → Every Q xs
every_map P Q f [] h = tt
every_map P Q f (x ∷ xs) h = (f x h.0, every_map P Q f xs h.1)

abbrev EndsLate : End → Type 0
EndsLate None = Unit {0}
EndsLate (Some stop) = Late stop

end_late : (a : StepAnswer) (end : End) → AnswersLate a → EndsLate end → EndsLate (end_after a end)
end_late (Ok Completion.Ordinary) end a e = e
end_late (Ok Completion.Call) end a e = e
end_late (Err stop) end a e = a

module _ (image marks : List ℕ) (base reset : ℕ) (rules : Accepts image marks base reset) where
  pub record Sound (e : Event) : Type 0 where
    pub safe : Safe image marks base e
    own : OwnKind image base e

  -- what a history shows that begins where the machine stands at its marks
  record Shown (s : State) (h : List Event) : Type 0 where
    every : Every Sound h
    late : EndsLate (end_of h)
    stands : Stands marks base (state_left s h)

  shown : (n : ℕ) (ram : List ℕ) (s : State) → Stands marks base s → Shown s (history (memory ram image base) s n)
  unfolding history_within
  shown zero ram s st = record { every = tt; late = tt; stands = st }
  shown (suc n) ram s st =
      let before = memory ram image base in
      let now = steps image marks base reset rules ram s st in
      let later = shown n (step before s).ram (step before s).state now.stands in
      let sound : Sound (event before s) = record { safe = now.safe; own = now.own } in
      by_first_step before s n (Shown s)
      (λ c. record {
        every = (sound, later.every);
        late = end_late (step before s).answer (end_of (onward before s n)) now.late later.late;
        stands = rw (state_passes s (event before s) (onward before s n) c) later.stands;
      })
      (λ c. record {
        every = (sound, tt);
        late = end_late (step before s).answer None now.late tt;
        stands = rw c st;
      })

  -- ---- a run

  ends_well : (h : List Event) (asked : ℕ) → (end_of h ≡ None → completed_steps h ≡ asked) → EndsLate (end_of h)
      → EndsWell h asked
  ends_well h asked all late = by (end_of h) refl late
    where
      by : (end : End) → end_of h ≡ end → EndsLate end → EndsWell h asked
      by None e l = EndsWell.done e (all e)
      by (Some stop) e l = EndsWell.stopped stop e l.0 l.1

  -- what a run shows, refused or not
  pub record Runs (m : Memory) (s : State) (asked : ℕ) : Type 0 where
    pub every : Every Sound (run_history m s asked)
    pub stands : Stands marks base (ran m s asked).state
    pub accounted : RunOutcome m s asked

  pub runs : (asked : ℕ) (ram : List ℕ) (s : State) → Stands marks base s → Runs (memory ram image base) s asked
  runs asked ram s st = by (admission m' s asked) refl
    where
      m' : Memory
      m' = memory ram image base

      by : (a : TestResult) → admission m' s asked ≡ a → Runs m' s asked
      by (Ok _) a =
          let same = admitted_ran m' s asked a in
          let h = shown asked ram s st in
          record {
            every = rw same.0 h.every;
            stands = rw same.1 h.stands;
            accounted = RunOutcome.admitted a (record {
              steps = same.0;
              ends = ends_well (history m' s asked) asked (all_asked m' s asked) h.late;
              answer = ap (λ r. r.answer) same.1;
              state = ap (λ r. r.state) same.1;
              ram = ap (λ r. r.ram) same.1;
            });
          }
      by (Err why) a =
          let same = refused_ran m' s asked why a in
          record {
            every = rw same.0 tt;
            stands = rw same.1 st;
            accounted = RunOutcome.refused why a (record {
              steps = same.0;
              answer = ap (λ r. r.answer) same.1;
              state = ap (λ r. r.state) same.1;
              ram = ap (λ r. r.ram) same.1;
            });
          }

  -- ---- a list of runs

  record Lists (listed : List Run) : Type 0 where
    every_step : Every Sound (joined_history image base listed)
    every_run : Every (λ r. RunOutcome (memory r.ram image base) r.state r.asked) listed

  lists : (asked : List ℕ) (ram : List ℕ) (s : State) → Stands marks base s
      → Lists (runs_from (memory ram image base) s asked)
  unfolding runs_from_within joined_history_within
  lists [] ram s st = record { every_step = tt; every_run = tt }
  lists (n ∷ rest) ram s st =
      let given = memory ram image base in
      let first = runs n ram s st in
      let others = lists rest (ran given s n).ram (ran given s n).state first.stands in
      record {
        every_step = every_append Sound (run_history given s n)
            (joined_history image base (runs_from (with_ram (ran given s n).ram given) (ran given s n).state rest))
            first.every others.every_step;
        every_run = (first.accounted, others.every_run);
      }

-- ---- the guarantee

pub begun : (image marks : List ℕ) (base : ℕ) (ram : List ℕ) (s : State) → Begins marks (memory ram image base) s
    → Stands marks base s
begun image marks base ram s b = record {
  start = b.marked.start_there;
  m_marked = b.marked.m_marked;
  x_marked = b.marked.x_marked;
  chain = rw b.no_call tt;
}

pub guarantee : Guarantee
guarantee image marks base reset accepted ram s b asked =
    let rules = accepted_rules image marks base reset accepted in
    let listed = runs_from (memory ram image base) s asked in
    let l = lists image marks base reset rules asked ram s (begun image marks base ram s b) in
    record {
      every_step = every_map (Sound image marks base reset rules) (Safe image marks base) (λ e sound. sound.safe)
          (joined_history image base listed) l.every_step;
      every_run = l.every_run;
    }

pub own_kinds : OwnKinds
own_kinds image marks base reset accepted ram s b asked =
    let rules = accepted_rules image marks base reset accepted in
    let listed = runs_from (memory ram image base) s asked in
    let l = lists image marks base reset rules asked ram s (begun image marks base ram s b) in
    every_map (Sound image marks base reset rules) (OwnKind image base) (λ e sound. sound.own)
    (joined_history image base listed) l.every_step
