-- 01, 'Proved set': every row of the table holds. Verdicts, the list and the steps of a run compute, whatever stands
-- where 01 is silent; a run that stops computes for any number of steps above those that it completes. Case 6 goes step
-- by step, since its entries do not compute where the number of open calls is not known; case 10 is one computed step
-- and the law of a step that changes nothing.
-- Assumes nothing.
use Rattle.types.specs.declared.machine.Completion.{Completion}
use Rattle.std.specs.Prelude.{Ok, Err}
use mathlib.Core.Path.{◌≡◌, refl, ap}
use mathlib.Core.Bool.{Bool, true, false}
use mathlib.Core.List.{List, [], ◌∷◌}
use Prim.Native.Nat.{ℕ, zero, suc, ◌+◌, ◌-◌, ◌≤◌}
use native.Mathlib.Omega.{arith}
use borrow.Author.Tests.{lt-ltb, le-leb}
use lib.Dec.{eqb, ltb}
use lib.ListN.{length, get_or, set}
use lib.Seq.{get_or-set_same}
use Rattle.types.specs.declared.machine.State.{State}
use Rattle.types.specs.declared.machine.Stop.{Stop}
use Rattle.instructions.specs.CodePages.{plain, pages}
use Rattle.instructions.specs.CodeMap.{entry_at}
use Rattle.instructions.specs.Decode.{judged, decode_on, decode}
use Rattle.acceptance.specs.Image.{is_formed, length_fits, base_fits, mark_at, reset_fits}
use Rattle.instructions.specs.Successors.{target_of, m_after, x_after}
use Rattle.acceptance.specs.Rules.{mark_of_routine, mark_on_return, mark_after, owed_by, owed_at, returns_by}
use Rattle.acceptance.specs.Rules.{return_fits}
use Rattle.types.specs.Refusals.{first_refusal}
use Rattle.prelude.specs.First.{first_from}
use Rattle.acceptance.specs.Verdict.{is_clear, is_start_at, all_starts, has_mark_at, all_marks, decoded_result}
use Rattle.acceptance.specs.Verdict.{start_result}
use Rattle.acceptance.specs.Verdict.{bad_mark, bad_start, starts_verdict, verdict}
use Rattle.text.specs.Digits.{digit, digits, digit_value, value, digit_count}
use Rattle.text.specs.Text.{starts_with}
use Rattle.lists.specs.MarkList.{header_text, kind_letter, fields, length_digits_shown, is_old, header_shown}
use Rattle.lists.specs.MarkList.{list_base_fits}
use Rattle.lists.specs.MarkList.{is_header, bit_shown, kind_shown, fields_mark, is_line, mark_shown, line_size}
use Rattle.lists.specs.MarkList.{marks_shown}
use Rattle.lists.specs.MarkList.{lines_left, lines_text, marks_of, left_of, is_list, read_as, read_list, marks_by}
use Rattle.lists.specs.MarkList.{marks_read}
use Rattle.prelude.specs.Choice.{bit}
use Rattle.semantics.specs.Memory.{Memory, memory, byte_at, served_at}
use Rattle.semantics.specs.Addressing.{operand_by, data_of}
use Rattle.semantics.specs.Effects.{effect_of}
use Rattle.semantics.specs.Step.{call_limit, call_record, bytes_from, operates, calls_within, returns_to}
use Rattle.semantics.specs.Step.{plan_by_within}
use Rattle.semantics.specs.Step.{stepped, step_within, step}
use Rattle.types.specs.Runs.{step_limit}
use Rattle.execution.specs.Run.{level_limit, history_within, ram_fits, calls_fit, state_fits_within, state_fits}
use Rattle.execution.specs.Run.{admission}
use Rattle.execution.specs.Run.{executed, ran}
use Rattle.execution.specs.StateBytes.{core_of}
use Rattle.prelude.specs.Lists.{Every}
use Rattle.prelude.proofs.Choice.{both_true}
use Rattle.lists.proofs.RoundTrips.{six_again}
use Rattle.execution.proofs.Run.{admitted_ran}
use Rattle.cases.specs.Rows.{list_of, Unspecified, Named, Claim, listed, listed_old, does, stops, returns, Row}
use Rattle.cases.specs.Rows.{IsRead, Listed, RanTo, Claimed, Holds}
use Rattle.cases.specs.ProvedSet.{width_marks, width_list_in_six, ram, from_reset, begun, case1, case2, case3, case4}
use Rattle.cases.specs.ProvedSet.{case5, case6, case7, case8, case9, case10, table, ProvedSet}
use Rattle.cases.proofs.Returning.{goes_by, stops_by, returning}

-- what unfolds this computes with the definitions that the cases reach
computed : Unit {0}
unfolding plain pages entry_at judged decode_on decode is_formed length_fits base_fits mark_at reset_fits
    target_of m_after x_after mark_of_routine mark_on_return mark_after owed_by owed_at returns_by return_fits
    first_from is_clear
    is_start_at all_starts has_mark_at all_marks decoded_result start_result bad_mark bad_start first_refusal
    starts_verdict verdict digit digits digit_value value digit_count starts_with header_text kind_letter fields
    length_digits_shown is_old header_shown is_header bit_shown kind_shown fields_mark is_line mark_shown line_size
    marks_shown
    lines_left
    lines_text marks_of left_of is_list list_base_fits read_as read_list marks_by marks_read byte_at served_at
    operand_by data_of
    effect_of
    bytes_from operates calls_within returns_to plan_by_within step_within history_within ram_fits calls_fit
    state_fits_within
computed = tt

-- ---- from what computes to what is claimed

-- k more than n, in a form that computes whatever k is
abbrev more : ℕ → ℕ → ℕ
more zero k = k
more (suc n) k = suc (more n k)

more_is : (n k : ℕ) → more n k ≡ n + k
more_is zero k = omega arith
more_is (suc n) k = omega (arith, more_is n k)

module _ (r : Row) where
  abbrev on : List ℕ → Memory
  on ram = memory ram r.image r.base

  -- no run from a state and RAM is refused but for its steps
  abbrev Taken : State → List ℕ → Type 0
  Taken s ram = (n : ℕ) → n ≤ step_limit → admission (on ram) s n ≡ Ok tt

  -- what is computed for a claim
  abbrev Computes : Claim → Type 0
  Computes (listed text) = Listed r text
  Computes (listed_old text) = IsRead r text
  Computes (does s ram asked calls after) =
      Taken s ram × (asked ≤ step_limit) × RanTo s ram (executed (on ram) s asked) 0 asked calls after
  Computes (stops s ram stop steps calls after) =
      Taken s ram × ((k : ℕ) → RanTo s ram (executed (on ram) s (more steps (suc k))) stop steps calls after)
  Computes (returns s ram) = Taken s ram × (step (on ram) s ≡ stepped (Ok Completion.Ordinary) s ram)

  ran_so : (s : State) (ram : List ℕ) (n end steps calls : ℕ) (after : List Named) → Taken s ram → n ≤ step_limit
      → RanTo s ram (executed (on ram) s n) end steps calls after → RanTo s ram (ran (on ram) s n) end steps calls after
  ran_so s ram n end steps calls after taken few so = rw (admitted_ran (on ram) s n (taken n few)).1 so

  claimed : (c : Claim) → Computes c → Claimed r c
  claimed (listed text) l = l
  claimed (listed_old text) l = l
  claimed (does s ram asked calls after) (taken, few, so) = ran_so s ram asked 0 asked calls after taken few so
  claimed (stops s ram stop steps calls after) (taken, so) = λ n above few.
      let k = n - steps - 1 in
      let same : n ≡ more steps (suc k) = rw (more_is steps (suc k)) (omega arith) in
      ran_so s ram n stop steps calls after taken few (rw same (so k))
  claimed (returns s ram) (taken, same) = returning (on ram) s same taken

  all_claimed : (claims : List Claim) → Every Computes claims → Every (Claimed r) claims
  all_claimed [] each = tt
  all_claimed (c ∷ claims) (first, rest) = (claimed c first, all_claimed claims rest)

-- ---- the cases

-- a list of so many numbers has that length
length_list_of : (n : ℕ) (f : ℕ → ℕ) → length (list_of n f) ≡ n
length_list_of zero f = refl
length_list_of (suc n) f = ap suc (length_list_of n (λ k. f (suc k)))

-- a flag out of its bit again
same_flag : (flag : Bool) → eqb (bit flag) 1 ≡ flag
same_flag true = refl
same_flag false = refl

module _ (v : Unspecified) where
  -- a state that fits is taken
  taken : (r : Row) (size : ℕ) (s : State) → length_fits (length r.image) (length r.image) ≡ true
      → base_fits r.base (length r.image) ≡ true → ram_fits size r.base ≡ true → state_fits s ≡ true
      → Taken r s (ram v size)
  unfolding first_refusal
  taken r size s long based sized fits n few =
      rw (long, based, length_list_of size v.bytes, sized, fits, le-leb n step_limit few)

  -- and so is one with another number of open calls, where these fit
  begun_taken : (pc s depth : ℕ) → depth ≤ call_limit → calls_fit (list_of call_limit v.entries) depth ≡ true
      → Taken (case6 v) (begun v pc s depth) (ram v 512)
  unfolding computed
  begun_taken pc s depth few fit = taken (case6 v) 512 (begun v pc s depth) refl refl refl fits
    where
      fits : state_fits (begun v pc s depth) ≡ true
      fits =
          rw (
            (both_true (ltb v.core.registers.status.level level_limit) _ (both_true _ _ v.fits_state).0).0,
            le-leb depth call_limit few,
          ) fit

  fewer_taken : (s : ℕ) → Taken (case6 v) (begun v 0xC000 s v.fewer) (ram v 512)
  fewer_taken s = begun_taken 0xC000 s v.fewer (omega (arith, v.fewer_below)) v.fewer_fit

  -- a call is not 25
  room : ltb v.fewer call_limit ≡ true
  room = lt-ltb v.fewer call_limit v.fewer_below

  same_m : eqb (bit v.core.registers.status.m) 1 ≡ v.core.registers.status.m
  same_m = same_flag v.core.registers.status.m

  same_x : eqb (bit v.core.registers.status.x) 1 ≡ v.core.registers.status.x
  same_x = same_flag v.core.registers.status.x

  holds1 : Holds (case1 v)
  unfolding computed
  holds1 = (
    refl,
    (
      λ lent same. (rw same refl, rw same refl),
      (
        record {
          written = λ page room. six_again width_list_in_six width_marks page _ refl refl room;
          read = λ lent same. (rw same refl, rw same refl);
        },
        tt,
      ),
    ),
  )

  -- from reset
  reset_taken : (a : ℕ) → Taken (case2 v) (from_reset v a) (ram v v.size)
  unfolding computed
  reset_taken a = taken (case2 v) v.size (from_reset v a) refl refl v.size_fits v.fits_state

  holds2 : Holds (case2 v)
  unfolding computed
  holds2 = (
    refl,
    all_claimed (case2 v) (case2 v).claims ((reset_taken 0x0000, λ k. ((refl, refl, refl), (refl, tt))), tt),
  )

  holds3 : Holds (case3 v)
  unfolding computed
  holds3 = (
    refl,
    all_claimed (case3 v) (case3 v).claims (
      (reset_taken v.core.registers.a, omega arith, ((refl, refl, refl), tt)),
      ((reset_taken v.core.registers.a, omega arith, ((refl, refl, refl), ((refl, refl), tt))), tt),
    ),
  )

  holds4 : Holds (case4 v)
  unfolding computed
  holds4 = (refl, tt)

  holds5 : Holds (case5 v)
  unfolding computed
  holds5 = (refl, tt)

  -- case 6: the entries, the state and the RAM from its call on, then its steps
  abbrev opened : List ℕ
  opened = set (list_of call_limit v.entries) v.fewer (call_record 0xC003 1)

  abbrev since : ℕ → ℕ → ℕ → State
  since pc s depth = record { core = (begun v pc s depth).core; calls = opened }

  abbrev pushed : List ℕ
  pushed = set (set (ram v 512) 0x01FF 0xC0) 0x01FE 0x03

  -- what RTS finds opened last
  last_opened_lem : get_or opened (v.fewer + 1 - 1) 0 ≡ call_record 0xC003 1
  last_opened_lem =
      let back : v.fewer + 1 - 1 ≡ v.fewer = omega arith in
      rw back
      (get_or-set_same (list_of call_limit v.entries) v.fewer (call_record 0xC003 1) 0
      (rw (length_list_of call_limit v.entries) v.fewer_below))

  jsr : step (on (case6 v) (ram v 512)) (begun v 0xC000 0x01FF v.fewer)
      ≡ stepped (Ok Completion.Call) (since 0xC004 0x01FD (v.fewer + 1)) pushed
  unfolding computed
  jsr = rw (room, same_m, same_x)

  rts : step (on (case6 v) pushed) (since 0xC004 0x01FD (v.fewer + 1))
      ≡ stepped (Ok Completion.Ordinary) (since 0xC003 0x01FF (v.fewer + 1 - 1)) pushed
  unfolding computed
  rts = rw (lt-ltb 0 (v.fewer + 1) (omega arith), last_opened_lem, same_m, same_x)

  stp : step (on (case6 v) pushed) (since 0xC003 0x01FF (v.fewer + 1 - 1))
      ≡ stepped (Err Stop.Halt) (since 0xC003 0x01FF (v.fewer + 1 - 1)) pushed
  unfolding computed
  stp = refl

  runs6 : Every (Computes (case6 v)) (case6 v).claims
  runs6 = (
    (
      fewer_taken 0x01FF,
      λ k.
          rw (goes_by _ _ _ _ jsr refl _ (goes_by _ _ _ _ rts refl _ (stops_by _ _ k _ stp refl)))
          ((refl, refl, refl), (refl, (refl, tt))),
    ),
    tt,
  )

  holds6 : Holds (case6 v)
  unfolding computed
  holds6 = (refl, all_claimed (case6 v) (case6 v).claims runs6)

  holds7 : Holds (case7 v)
  unfolding computed
  holds7 = (
    refl,
    all_claimed (case7 v) (case7 v).claims
        ((fewer_taken 0x0000, λ k. rw room ((refl, refl, refl), ((refl, refl), tt))), tt),
  )

  holds8 : Holds (case8 v)
  unfolding computed
  holds8 = (refl, tt)

  holds9 : Holds (case9 v)
  unfolding computed
  holds9 = (
    refl,
    all_claimed (case9 v) (case9 v).claims (
      (begun_taken 0xC004 0x01FD 0 (omega arith) refl, λ k. ((refl, refl, refl), tt)),
      (
        (
          taken (case9 v) 512 (begun v 0xC004 0x01FF v.core.depth) refl refl refl v.fits_state,
          λ k. ((refl, refl, refl), tt),
        ),
        tt,
      ),
    ),
  )

  holds10 : Holds (case10 v)
  unfolding computed
  holds10 = (
    refl,
    let s = begun v 0xC000 v.core.registers.s v.core.depth in
        all_claimed (case10 v) (case10 v).claims (
          (taken (case10 v) v.size s refl refl v.size_fits v.fits_state, rw (same_m, same_x)),
          tt,
        ),
  )

  all_hold : Every Holds (table v)
  all_hold =
      (holds1, (holds2, (holds3, (holds4, (holds5, (holds6, (holds7, (holds8, (holds9, (holds10, tt))))))))))

-- there are such a state and such a RAM: the theorem is not empty
pub some_silent : Unspecified
unfolding computed core_of
some_silent = record {
  core = core_of [];
  entries = λ k. 0;
  fits_state = refl;
  fewer = 0;
  fewer_below = omega arith;
  fewer_fit = refl;
  size = 1;
  size_fits = refl;
  bytes = λ k. 0;
}

pub proved_set : ProvedSet
proved_set = all_hold
