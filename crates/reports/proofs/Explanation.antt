-- The line of a refusal names what has to be mended: its number and place are the verdict's; the address that 8 names
-- has no start; the mark that 9 names, put where it is named, mends that requirement. A mark that is put may be the
-- start's own (a call of itself) or the target's, on which what a call requires hangs: the start is then read, and its
-- requirement met, all the same, unless it calls the address behind it.
-- Assumes nothing.
use Rattle.types.specs.declared.code.Undecoded.{Undecoded}
use Rattle.std.specs.Prelude.{Ok, Err}
use mathlib.Core.Path.{◌≡◌, refl, ◌∙◌}
use mathlib.Core.Logic.{◌⊎◌, inl, inr}
use mathlib.Core.Bool.{Bool, true, false}
use mathlib.Core.List.{List, [], ◌∷◌, ◌++◌, append_assoc}
use Prim.Native.Nat.{ℕ, zero, suc, ◌+◌, ◌-◌, ◌*◌, ◌/◌, ◌%◌, ◌≤◌, ◌<◌}
use native.Mathlib.Nat.{mod-eq_of_lt}
use native.Mathlib.Omega.{arith}
use borrow.Author.Tests.{eqb-true, eqb-false, ne_eqb, leb-true, le-leb}
use lib.Dec.{eqb, ltb, leb}
use lib.ListN.{length, get_or, take, drop}
use lib.Seq.{drop-append_seam, get_or-set_same, get_or-set_other}
use Rattle.types.specs.declared.code.Kind.{Kind}
use Rattle.types.specs.declared.code.Flow.{Flow}
use Rattle.types.specs.declared.code.WidthEffect.{WidthEffect}
use Rattle.types.specs.declared.code.Entry.{Entry}
use Rattle.types.specs.declared.code.Instruction.{Instruction}
use Rattle.types.specs.Answers.{Decoded, refused_at}
use Rattle.types.specs.declared.refusals.Refusal.{Refusal}
use Rattle.types.specs.declared.rules.Requirement.{Requirement}
use Rattle.types.specs.declared.rules.Requirements.{Requirements}
use Rattle.types.specs.Refusals.{refusal_number}
use Rattle.types.specs.Addresses.{address_limit}
use Rattle.prelude.specs.Choice.{pick}
use Rattle.text.specs.Digits.{digits, value}
use Rattle.text.specs.Text.{starts_with}
use Rattle.text.proofs.Text.{starts_append}
use Rattle.text.proofs.DigitLaws.{value_digits}
use Rattle.instructions.specs.CodeMap.{prefix_bytes, entry_at}
use Rattle.instructions.specs.Decode.{page_of}
use Rattle.acceptance.specs.Image.{is_start, mark_m, mark_x, return_m, return_x, mark_of, is_formed, mark_at}
use Rattle.acceptance.specs.Image.{length_fits}
use Rattle.acceptance.specs.Image.{base_fits}
use Rattle.acceptance.specs.Rules.{instruction_at, requirement, mark_of_routine}
use Rattle.instructions.specs.Successors.{next_address, m_after, x_after, kind_number}
use Rattle.acceptance.specs.Rules.{mark_on_return, mark_after, owed_by, owed_at, owed_there, Met}
use Rattle.instructions.specs.Successors.{target_address}
use Rattle.acceptance.specs.Meaning.{Among, StartBreaks, Breaks}
use Rattle.acceptance.specs.Verdict.{start_at, is_start_at, has_mark_at, verdict}
use Rattle.lists.specs.MarkList.{line_end}
use Rattle.reports.specs.Explanation.{ascii, decimal, address_text, pairs, word_text, start_text, prefix_of}
use Rattle.reports.specs.Explanation.{code_entry, missing, mark_text, code_text, cut_off_text, requirement_at}
use Rattle.reports.specs.Explanation.{first_broken, flow_at, is_free_at, widths_at, whole_detail, start_detail, detail}
use Rattle.reports.specs.Explanation.{heading, refused_line, line_by, explanation, Named, shown_mark, put_mark}
use Rattle.reports.specs.Explanation.{CallsNext, Mended, ShowsVerdict, NamesNoStart, NamesMark, ShowsVerdicts}
use Rattle.reports.specs.Explanation.{ExplainsFlow, ExplainsWidths}
use Rattle.instructions.proofs.CodeMap.{branch_keeps, jump_keeps}
use Rattle.instructions.proofs.Decode.{decodes, decoded_entry}
use Rattle.acceptance.proofs.Image.{right_length, base_whole}
use Rattle.acceptance.proofs.Widths.{kind_bits, same_fields, made_start, routine_start, on_return_start, after_start}
use Rattle.acceptance.proofs.Meaning.{refused_means}
use Rattle.acceptance.proofs.Grounds.{formed_is}
use Rattle.acceptance.proofs.Widths.{Located, located, Fields, fields}

-- ---- number and place

-- a text begins with the digits of an address
abbrev Begins : ℕ → List ℕ → Type 0
Begins address text = (rest : List ℕ) × (text ≡ address_text address ++ rest)

begins_with : (address : ℕ) (rest : List ℕ) → Begins address (address_text address ++ rest)
begins_with address rest = (rest, refl)

start_first : (address : ℕ) (bytes : List ℕ) (e : Entry) (rest : List ℕ)
    → Begins address (start_text address bytes e ++ rest)
unfolding start_text
start_first address bytes e rest = (_, append_assoc (address_text address) (pairs bytes ++ word_text e) rest)

-- whatever is decoded at a start, what is said begins with its address
decoded_first : (address : ℕ) (bytes : List ℕ) (mark : ℕ) (rest : Instruction → List ℕ) (d : Decoded)
    → Begins address (start_detail address bytes mark rest d)
unfolding start_detail code_text cut_off_text
decoded_first address bytes mark rest (Err Undecoded.NotCarried) = start_first address _ _ _
decoded_first address bytes mark rest (Ok i) = start_first address _ _ _
decoded_first address bytes mark rest (Err Undecoded.CutOff) = by (ltb (prefix_of bytes) (length bytes))
  where
    by : (b : Bool) → Begins address (pick b
        (start_text address bytes (code_entry bytes) ++ (decimal (missing bytes mark) ++ ascii " missing"))
        (address_text address ++ (pairs bytes ++ ascii ": the code is missing")))
    by true = start_first address bytes _ _
    by false = begins_with _ _

-- from 5 on it goes by what is decoded at the start
pub start_said : (image marks : List ℕ) (base reset at number : ℕ) → 4 < number
    → detail image marks base reset at number
    ≡ start_detail (base + at) (drop at image) (get_or marks at 0) (whole_detail marks base at number)
    (instruction_at image marks at)
unfolding detail
start_said image marks base reset at number high =
    rw (
      ne_eqb number 1 (λ e. absurd (omega arith)),
      ne_eqb number 2 (λ e. absurd (omega arith)),
      ne_eqb number 3 (λ e. absurd (omega arith)),
      ne_eqb number 4 (λ e. absurd (omega arith)),
    )
    refl

-- a place of the image has an address of 24 bits
place_low : (image marks : List ℕ) (base at : ℕ) → length_fits (length image) (length marks) ≡ true
    → base_fits base (length image) ≡ true → at < length marks → base + at < address_limit
place_low image marks base at l b inside =
    omega (arith, (right_length (length image) (length marks) l).same, base_whole base (length image) b)

module _ (image marks : List ℕ) (base reset : ℕ) where
  abbrev said : ℕ → Refusal → List ℕ
  said at why = detail image marks base reset at (refusal_number why)

  line_said : (why : Refusal) (at : ℕ) → verdict image marks base reset ≡ refused_at why at
      → explanation image marks base reset ≡ refused_line (refusal_number why) (said at why)
  unfolding explanation line_by
  line_said why at h = rw h

  start_begins : (why : Refusal) (at : ℕ) → StartBreaks image marks base at why → Begins (base + at) (said at why)
  unfolding detail
  start_begins why at (StartBreaks.code e) = decoded_first _ _ _ _ _
  start_begins why at (StartBreaks.cut_off e) = decoded_first _ _ _ _ _
  start_begins why at (StartBreaks.overlap i whole k low high s) = decoded_first _ _ _ _ _
  start_begins why at (StartBreaks.return i whole clear r) = decoded_first _ _ _ _ _
  start_begins why at (StartBreaks.flow i whole clear r w a s) = decoded_first _ _ _ _ _
  start_begins why at (StartBreaks.widths i whole clear r all w a m) = decoded_first _ _ _ _ _

  -- where the check has a place, what is said begins with its address
  begins : (why : Refusal) (at : ℕ) → Breaks image marks base reset why at → 4 ≤ refusal_number why
      → Begins (base + at) (said at why) × (base + at < address_limit)
  unfolding detail mark_text
  begins why at (Breaks.wrong_length l) h = absurd (omega arith)
  begins why at (Breaks.wrong_base l b) h = absurd (omega arith)
  begins why at (Breaks.wrong_mark l b at' inside f below) h =
      (begins_with _ _, place_low image marks base at' l b inside)
  begins why at (Breaks.wrong_reset l b f r) h = absurd (omega arith)
  begins why at (Breaks.wrong_start l b f r at' why' inside s breaks below) h =
      (start_begins why' at' breaks, place_low image marks base at' l b inside)

  place_shown : (number at : ℕ) (text : List ℕ) → Begins (base + at) text → base + at < address_limit
      → value 16 6 (drop (length (heading number)) (refused_line number text)) ≡ base + at
  unfolding refused_line
  place_shown number at text b low =
      rw (
        drop-append_seam (heading number) (text ++ (line_end ∷ [])),
        b.1,
        append_assoc (digits 16 6 (base + at)) b.0 (line_end ∷ []),
      ) (value_digits 16 6 (base + at) (b.0 ++ (line_end ∷ [])) (omega arith) low)

  heading_first : (number : ℕ) (text : List ℕ) → starts_with (heading number) (refused_line number text) ≡ true
  unfolding refused_line
  heading_first number text = starts_append (heading number) (text ++ (line_end ∷ []))

  shows : (why : Refusal) (at : ℕ) → verdict image marks base reset ≡ refused_at why at
      → ShowsVerdict image marks base reset why at
  shows why at h = record {
    number = rw (line_said why at h) (heading_first (refusal_number why) (said at why));
    place = λ some.
        let b = begins why at (refused_means image marks base reset why at h) some in
        rw (line_said why at h) (place_shown (refusal_number why) at (said at why) b.0 b.1);
  }

-- 'number and place in it are the verdict's'
pub shows_verdicts : ShowsVerdicts
shows_verdicts image marks base reset why at h = shows image marks base reset why at h

-- ---- the requirement that is named

module _ (test : Requirement → Bool) where
  first_of_two : (u v w : Requirement) (b : Bool) → test u ≡ b → (w ≡ u) ⊎ (w ≡ v) → test w ≡ false
      → Named test (Requirements.Two u v) (pick b 1 0)
  unfolding requirement_at
  first_of_two u v w true e (inl s) f =
      let f' : test u ≡ false = rw s at f in
      let z : ◌≡◌ {A = ℕ} 0 1 = cc in
      absurd (omega arith)
  first_of_two u v w true e (inr s) f =
      record { among = inr refl; fails = rw s at f; first = λ j low. let z : j ≡ 0 = omega arith in rw z e }
  first_of_two u v w false e a f = record { among = inl refl; fails = e; first = λ j low. absurd (omega arith) }

  first_named : (o : Requirements) (w : Requirement) → Among w o → test w ≡ false → Named test o (first_broken test o)
  unfolding first_broken requirement_at
  first_named Requirements.Nothing w a f = absurd a
  first_named (Requirements.One v) w a f =
      record { among = refl; fails = rw a at f; first = λ j low. absurd (omega arith) }
  first_named (Requirements.Two u v) w a f = first_of_two u v w (test u) refl a f

-- ---- a mark put at the address of a start

module _ (marks : List ℕ) (base address mark : ℕ) (start : is_start (mark_at marks base address) ≡ true) where
  abbrev after : List ℕ
  after = put_mark marks base address mark

  there : Located marks base address
  there = located marks base address start

  put_there : mark_at after base address ≡ mark
  unfolding mark_at
  put_there =
      let low : base ≤ address = omega (arith, there.place) in
      let inside : address - base < length marks = omega (arith, there.place, there.inside) in
      rw (le-leb base address low, get_or-set_same marks (address - base) mark 0 inside)

  others_kept : (other : ℕ) → (other ≡ address → ⊥) → mark_at after base other ≡ mark_at marks base other
  unfolding mark_at
  others_kept other apart = by (leb base other) refl
    where
      by : (b : Bool) → leb base other ≡ b
          → pick b (get_or after (other - base) 0) 0 ≡ pick b (get_or marks (other - base) 0) 0
      by false e = refl
      by true e =
          let low = leb-true base other e in
          get_or-set_other marks (address - base) (other - base) mark 0
          (λ same. absurd (apart (omega (arith, there.place))))

  place_put : (at : ℕ) → address ≡ base + at → get_or after at 0 ≡ mark
  place_put at same =
      let e : address - base ≡ at = omega arith in
      rw e (get_or-set_same marks at mark 0 (omega (arith, there.place, there.inside)))

  place_kept : (at : ℕ) → (address ≡ base + at → ⊥) → get_or after at 0 ≡ get_or marks at 0
  place_kept at apart =
      get_or-set_other marks (address - base) at mark 0 (λ same. absurd (apart (omega (arith, there.place))))

  put_meets : is_start mark ≡ true → Met after base (requirement address mark)
  put_meets odd = record { start_there = rw put_there odd; has_mark = put_there }

-- ---- the marks that are required

-- every required mark is a start's
owed_start : (flow : Flow) (mark after next to there k : ℕ) → is_start after ≡ true
    → Among (requirement_at (owed_by flow mark after next to there) k) (owed_by flow mark after next to there)
    → is_start (requirement_at (owed_by flow mark after next to there) k).mark ≡ true
unfolding owed_by requirement_at
owed_start Flow.Next mark after next to there k odd a = odd
owed_start Flow.Branch mark after next to there zero odd a = odd
owed_start Flow.Branch mark after next to there (suc k) odd a = odd
owed_start Flow.Jump mark after next to there k odd a = odd
owed_start (Flow.Call kind) mark after next to there zero odd a = routine_start kind mark there
owed_start (Flow.Call kind) mark after next to there (suc k) odd a = on_return_start mark there
owed_start (Flow.Return kind) mark after next to there k odd a = absurd a
owed_start Flow.Halt mark after next to there k odd a = absurd a

-- the mark of a start in form is made of its fields: where the widths are kept, so is the mark
kept_same : (operand mark : ℕ) → is_start mark ≡ true → is_formed mark ≡ true
    → mark ≡ mark_after WidthEffect.KeepWidths operand mark
unfolding mark_after m_after x_after
kept_same operand mark s f =
    let small = (formed_is mark f).bit_7_clear in
    let odd = eqb-true (mark % 2) 1 s in
    let half : mark / 2 % 64 ≡ mark / 2 = mod-eq_of_lt (omega arith) in
    let same : mark ≡ mark / 2 % 64 * 2 + 1 = rw half (omega arith) in
    same ∙ same_fields mark (omega arith)

-- ---- one requirement mended

module _ (image marks : List ℕ) (base at : ℕ) (i : Instruction)
    (whole : instruction_at image marks at ≡ Ok i) (low : base + at < address_limit)
    (start : start_at marks at ≡ true) (formed : is_formed (get_or marks at 0) ≡ true) where
  abbrev own : ℕ
  own = get_or marks at 0

  abbrev next : ℕ
  next = next_address (base + at) i.length

  abbrev to : ℕ
  to = target_address i (base + at)

  abbrev changed : ℕ
  changed = mark_after i.entry.effect i.operand own

  own_there : mark_at marks base (base + at) ≡ own
  unfolding mark_at
  own_there =
      let e : base + at - base ≡ at = omega arith in
      rw (le-leb base (base + at) (omega arith), e)

  next_apart : next ≡ base + at → ⊥
  next_apart same =
      let d = decodes (drop at image) (mark_m own) (mark_x own) i whole in
      absurd (omega (arith, d.at_least, d.at_most))

  -- a mark elsewhere than at the start: it is read as before
  mends_at : (address mark k : ℕ) → is_start (mark_at marks base address) ≡ true → (address ≡ base + at → ⊥)
      → is_start mark ≡ true
      → requirement_at (owed_at (put_mark marks base address mark) base i (base + at) own) k ≡ requirement address mark
      → Mended image (put_mark marks base address mark) base at i k
  mends_at address mark k there apart odd same =
      let kept = place_kept marks base address mark there at apart in
      record { whole = rw kept whole; met = rw (kept, same) (put_meets marks base address mark there odd) }

  -- where the widths are kept, the start's own mark is the one that it requires
  not_itself : i.entry.effect ≡ WidthEffect.KeepWidths → (address : ℕ) → (mark_at marks base address ≡ changed → ⊥)
      → address ≡ base + at → ⊥
  not_itself keeps address other same =
      absurd (other (rw (same, own_there, keeps) (kept_same i.operand own start formed)))

  abbrev code_page : ℕ
  code_page = page_of (get_or (drop at image) 0 0)

  abbrev code : ℕ
  code = get_or (drop at image) (prefix_bytes code_page) 0

  its_entry : i.entry ≡ entry_at code_page code
  its_entry = (decoded_entry (drop at image) (mark_m own) (mark_x own) i whole).0

  branch_kept : i.entry.flow ≡ Flow.Branch → i.entry.effect ≡ WidthEffect.KeepWidths
  branch_kept h = rw its_entry (branch_keeps code_page code (rw its_entry at h))

  jump_kept : i.entry.flow ≡ Flow.Jump → i.entry.effect ≡ WidthEffect.KeepWidths
  jump_kept h = rw its_entry (jump_keeps code_page code (rw its_entry at h))

  -- the target of a call, with return widths of its own
  module _ (kind : Kind) (is_call : i.entry.flow ≡ Flow.Call kind) (rm rx : ℕ) (low-m : rm ≤ 1) (low_x : rx ≤ 1)
      (there : is_start (mark_at marks base to) ≡ true) where
    abbrev routine : ℕ
    routine = mark_of (mark_m own) (mark_x own) (kind_number kind) rm rx

    abbrev called : List ℕ
    called = put_mark marks base to routine

    has : Fields routine (mark_m own) (mark_x own) (kind_number kind) rm rx
    has = fields routine (mark_m own) (mark_x own) (kind_number kind) rm rx refl (omega arith) (omega arith)
        (kind_bits kind) low-m low_x

    -- its own mark, if that is the target's, keeps the widths
    same_widths : (mark_m (get_or called at 0) ≡ mark_m own) × (mark_x (get_or called at 0) ≡ mark_x own)
    same_widths = by (eqb to (base + at)) refl
      where
        by : (b : Bool) → eqb to (base + at) ≡ b
            → (mark_m (get_or called at 0) ≡ mark_m own) × (mark_x (get_or called at 0) ≡ mark_x own)
        by true e =
            rw (place_put marks base to routine there at (eqb-true to (base + at) e)) (has.has_m, has.has_x)
        by false e =
            rw (place_kept marks base to routine there at (eqb-false to (base + at) e)) (refl, refl)

    asked : requirement_at (owed_there called base at i) 0 ≡ requirement to routine
    unfolding owed_at owed_by requirement_at mark_of_routine
    asked =
        rw (
          is_call,
          put_there marks base to routine there,
          same_widths.0,
          same_widths.1,
          has.has_return_m,
          has.has_return_x,
        )

    mends_routine : Mended image called base at i 0
    mends_routine = record {
      whole = rw (same_widths.0, same_widths.1) whole;
      met = rw asked (put_meets marks base to routine there
          (made_start (mark_m own) (mark_x own) (kind_number kind) rm rx));
    }

    -- the marks that the fields of the required mark show
    shown_routine : shown_mark true (mark_of_routine kind own (mark_at marks base to)) rm rx ≡ routine
    unfolding mark_of_routine
    shown_routine =
        let t = mark_at marks base to in
        let f = fields (mark_of (mark_m own) (mark_x own) (kind_number kind) (return_m t) (return_x t)) (mark_m own)
        (mark_x own) (kind_number kind) (return_m t) (return_x t) refl (omega arith) (omega arith) (kind_bits kind)
        (omega arith) (omega arith) in
        rw (f.has_m, f.has_x, f.has_kind)

  -- what the start owes by a flow, and each requirement of it
  abbrev owes : Flow → Requirements
  owes flow = owed_by flow own changed next to (mark_at marks base to)

  abbrev asks : Flow → ℕ → Requirement
  asks flow k = requirement_at (owes flow) k

  asks_with : (flow : Flow) → i.entry.flow ≡ flow → (other : List ℕ) (k : ℕ)
      → requirement_at (owed_at other base i (base + at) own) k
      ≡ requirement_at (owed_by flow own changed next to (mark_at other base to)) k
  unfolding owed_at
  asks_with flow is other k = rw is

  mends_by : (flow : Flow) → i.entry.flow ≡ flow → (k rm rx : ℕ) → rm ≤ 1 → rx ≤ 1
      → (CallsNext i (base + at) → k ≡ 0) → Among (asks flow k) (owes flow)
      → is_start (mark_at marks base (asks flow k).address) ≡ true
      → (mark_at marks base (asks flow k).address ≡ (asks flow k).mark → ⊥)
      → Mended image
      (put_mark marks base (asks flow k).address (shown_mark (is_free_at flow k) (asks flow k).mark rm rx)) base at i k
  unfolding owed_by requirement_at is_free_at
  mends_by Flow.Next is k rm rx lm lx c a there other =
      mends_at next changed k there next_apart (after_start _ _ _)
      (asks_with Flow.Next is (put_mark marks base next changed) k)
  mends_by Flow.Branch is zero rm rx lm lx c a there other =
      mends_at next changed zero there next_apart (after_start _ _ _)
      (asks_with Flow.Branch is (put_mark marks base next changed) zero)
  mends_by Flow.Branch is (suc k) rm rx lm lx c a there other =
      mends_at to changed (suc k) there (not_itself (branch_kept is) to other) (after_start _ _ _)
      (asks_with Flow.Branch is (put_mark marks base to changed) (suc k))
  mends_by Flow.Jump is k rm rx lm lx c a there other =
      mends_at to changed k there (not_itself (jump_kept is) to other) (after_start _ _ _)
      (asks_with Flow.Jump is (put_mark marks base to changed) k)
  mends_by (Flow.Call kind) is zero rm rx lm lx c a there other =
      rw (shown_routine kind is rm rx lm lx there) (mends_routine kind is rm rx lm lx there)
  mends_by (Flow.Call kind) is (suc k) rm rx lm lx c a there other =
      let mark = mark_on_return own (mark_at marks base to) in
      let apart : to ≡ next → ⊥ = λ same. absurd (omega (arith, c (record { is_call = rw is refl; same = same }))) in
      let kept = others_kept marks base next mark there to apart in
      mends_at next mark (suc k) there next_apart (on_return_start own (mark_at marks base to))
      (rw kept at (asks_with (Flow.Call kind) is (put_mark marks base next mark) (suc k)))
  mends_by (Flow.Return kind) is k rm rx lm lx c a there other = absurd a
  mends_by Flow.Halt is k rm rx lm lx c a there other = absurd a

-- ---- 8 and 9

-- what is known of the start of a refusal from 5 on
record AtStart (image marks : List ℕ) (base at : ℕ) (why : Refusal) : Type 0 where
  low : base + at < address_limit
  start : start_at marks at ≡ true
  formed : is_formed (get_or marks at 0) ≡ true
  breaks : StartBreaks image marks base at why

module _ (image marks : List ℕ) (base reset at : ℕ) where
  at_flow : Breaks image marks base reset Refusal.Flow at → AtStart image marks base at Refusal.Flow
  at_flow (Breaks.wrong_start l b f r at' why inside s breaks below) =
      record { low = place_low image marks base at l b inside; start = s; formed = f at inside; breaks = breaks }

  at_widths : Breaks image marks base reset Refusal.Widths at → AtStart image marks base at Refusal.Widths
  at_widths (Breaks.wrong_start l b f r at' why inside s breaks below) =
      record { low = place_low image marks base at l b inside; start = s; formed = f at inside; breaks = breaks }

  abbrev line : List ℕ
  line = explanation image marks base reset

  -- what is said of an instruction that is whole
  whole_said : (number : ℕ) (i : Instruction) → 4 < number → instruction_at image marks at ≡ Ok i
      → detail image marks base reset at number
      ≡ start_text (base + at) (take i.length (drop at image)) i.entry ++ whole_detail marks base at number i
  unfolding start_detail
  whole_said number i high whole = rw (start_said image marks base reset at number high, whole)

  names_no_start : StartBreaks image marks base at Refusal.Flow
      → line ≡ refused_line 8 (detail image marks base reset at 8)
      → (i : Instruction) × (k : ℕ) × NamesNoStart image marks base reset at i k
  unfolding is_start_at whole_detail flow_at
  names_no_start (StartBreaks.flow i whole clear r w a none) said =
      let owed = owed_there marks base at i in (
        i,
        first_broken (is_start_at marks base) owed,
        record {
          whole = whole;
          no_start = first_named (is_start_at marks base) owed w a none;
          said = rw (whole_said 8 i (omega arith) whole) at said;
        },
      )

  names_mark : AtStart image marks base at Refusal.Widths → StartBreaks image marks base at Refusal.Widths
      → line ≡ refused_line 9 (detail image marks base reset at 9)
      → (i : Instruction) × (k : ℕ) × NamesMark image marks base reset at i k
  unfolding is_start_at has_mark_at whole_detail widths_at owed_at
  names_mark s (StartBreaks.widths i whole clear r all w a other) said =
      let owed = owed_there marks base at i in
      let k = first_broken (has_mark_at marks base) owed in
      let v = requirement_at owed k in
      let tested = ne_eqb (mark_at marks base w.address) w.mark other in
      let first = first_named (has_mark_at marks base) owed w a tested in
      let there = all v first.among in
      let odd = owed_start i.entry.flow _ _ _ _ _ k (after_start _ _ _) first.among in (
        i,
        k,
        record {
          whole = whole;
          start_there = there;
          other_mark = first;
          said = rw (whole_said 9 i (omega arith) whole) at said;
          holds = put_meets marks base v.address v.mark there odd;
          mends = λ rm rx lm lx c.
              mends_by image marks base at i whole s.low s.start s.formed i.entry.flow refl k rm rx lm lx c
              first.among there (eqb-false (mark_at marks base v.address) v.mark first.fails);
        },
      )

-- 'for 8 the named address has no marked start'
pub explains_flow : ExplainsFlow
explains_flow image marks base reset at h =
    let s = at_flow image marks base reset at (refused_means image marks base reset Refusal.Flow at h) in
    names_no_start image marks base reset at s.breaks (line_said image marks base reset Refusal.Flow at h)

-- 'for 9, with the named mark put at the named address that requirement of the start holds'
pub explains_widths : ExplainsWidths
explains_widths image marks base reset at h =
    let s = at_widths image marks base reset at (refused_means image marks base reset Refusal.Widths at h) in
    names_mark image marks base reset at s s.breaks (line_said image marks base reset Refusal.Widths at h)
