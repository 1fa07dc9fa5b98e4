-- How long a line gets: each text of it has a longest form, and no line has more than 81 bytes.
-- Assumes nothing.
use Rattle.types.specs.declared.code.Undecoded.{Undecoded}
use Rattle.std.specs.Prelude.{Ok, Err}
use Rattle.std.proofs.Common.{◌≡◌, ℕ, ◌+◌, ◌*◌, ◌<◌, ◌≤◌, List, ◌++◌, length, get_or, take, drop, refl, arith, rules}
use Rattle.std.proofs.Common.{lit≤, leb}
use Rattle.std.proofs.Common.{zero, suc, Bool, true, false, length-append, eqb, add-one, length-take}
use Rattle.types.specs.declared.code.Flow.{Flow}
use Rattle.types.specs.declared.code.Instruction.{Instruction}
use Rattle.types.specs.declared.refusals.Refusal.{Refusal}
use Rattle.types.specs.declared.rules.Requirements.{Requirements}
use Rattle.types.specs.Answers.{Verdict}
use Rattle.types.specs.Refusals.{refusal_number}
use Rattle.types.proofs.TestResults.{refusal_range}
use Rattle.prelude.specs.Choice.{pick}
use Rattle.prelude.proofs.Choice.{one_of}
use Rattle.prelude.proofs.Table.{below_all}
use Rattle.prelude.specs.Concat.{concat_from}
use Rattle.prelude.proofs.Concat.{concat_snoc}
use Rattle.text.specs.Digits.{digit, digits, digit_count}
use Rattle.text.proofs.DigitLaws.{length_digits, count_most}
use Rattle.instructions.specs.Decode.{page_of, decode}
use Rattle.acceptance.specs.Image.{mark_m, mark_x}
use Rattle.acceptance.specs.Verdict.{verdict}
use Rattle.decoder.specs.Layout.{LayoutRead, layout_read, decoded_of, FittingIn, instruction_of}
use Rattle.decoder.proofs.Layouts.{decoded_layout, fitting}
use Rattle.explainer.proofs.Decoding.{few_left}
use Rattle.codepages.specs.Packing.{unpacked, packed_at, packed_pages}
use Rattle.codepages.proofs.Unpacked.{unpacked_at}
use Rattle.entries.proofs.Words.{word_short}
use Rattle.reports.specs.Explanation as spec

-- ---- pairs, a byte more each time

module _ (bytes : List ℕ) where
  abbrev pair_at : ℕ → List ℕ
  pair_at k = spec.pair (get_or bytes k 0)

  -- those of so many bytes
  abbrev pub pairs_to : ℕ → List ℕ
  pairs_to k = concat_from pair_at 0 k

  pub next_pair : (k : ℕ) → pairs_to (k + 1) ≡ pairs_to k ++ spec.pair (get_or bytes k 0)
  next_pair k =
      let last : 0 + k ≡ k = omega arith in
      rw add-one (rw last at (concat_snoc pair_at 0 k))

  pub length_pairs : (i n : ℕ) → length (concat_from pair_at i n) ≡ 3 * n
  unfolding concat_from
  length_pairs i zero = refl
  length_pairs i (suc n) =
      simp (length-append, length_digits) (omega (arith, length_pairs (i + 1) n))

  pub all_pairs : (k : ℕ) → k ≡ length bytes → pairs_to k ≡ spec.pairs bytes
  unfolding spec.pairs
  all_pairs k e = rw e refl

  -- there is room for one more
  pub pairs_left : (k : ℕ) → k < length bytes → length (pairs_to k) + 3 ≤ length (spec.pairs bytes)
  unfolding spec.pairs
  pairs_left k inside = omega (arith, length_pairs 0 k, length_pairs 0 (length bytes))

-- ---- the longest form of each text

either : (b : Bool) (x y : List ℕ) (most : ℕ) → length x ≤ most → length y ≤ most → length (pick b x y) ≤ most
either true x y most h h' = h
either false x y most h h' = h'

decimal_most : (n : ℕ) → length (spec.decimal n) ≤ 20
unfolding spec.decimal
decimal_most n = rw length_digits (count_most 10 spec.most_digits n)

no_start_most : (inside : Bool) → length (spec.no_start_text inside) ≤ 17
unfolding spec.no_start_text
no_start_most inside = either inside _ _ 17 (omega arith) (omega arith)

start_most : (address n : ℕ) (bytes : List ℕ) → length bytes ≤ 6
    → length (spec.start_text address bytes (unpacked n)) ≤ 31
unfolding spec.start_text spec.word_text spec.pairs
start_most address n bytes few =
    simp (length-append, length_digits)
    (omega (arith, length_pairs bytes 0 (length bytes), simp length-append at (word_short n)))

length_most : (image marks : ℕ) → length (spec.length_text image marks) ≤ 54
unfolding spec.length_text
length_most image marks =
    simp length-append (omega (arith, decimal_most image, decimal_most marks))

base_most : (base size : ℕ) → length (spec.base_text base size) ≤ 37
unfolding spec.base_text
base_most base size = simp (length-append, length_digits) (omega (arith, decimal_most size))

standing_most : (marks : List ℕ) (base address : ℕ) → length (spec.standing marks base address) ≤ 17
unfolding spec.standing
standing_most marks base address =
    search (rules, either, no_start_most)

reset_most : (marks : List ℕ) (base reset : ℕ) → length (spec.reset_text marks base reset) ≤ 48
unfolding spec.reset_text
reset_most marks base reset = simp (length-append, length_digits) (omega (arith, standing_most marks base reset))

part_most : (mark : ℕ) → length (spec.unformed_part mark) ≤ 23
unfolding spec.unformed_part
part_most mark =
    search (rules, either)

mark_most : (address mark : ℕ) → length (spec.mark_text address mark) ≤ 38
unfolding spec.mark_text
mark_most address mark = simp (length-append, length_digits) (omega (arith, part_most mark))

overlap_most : (marks : List ℕ) (base at size : ℕ) → length (spec.overlap_text marks base at size) ≤ 38
unfolding spec.overlap_text
overlap_most marks base at size = simp (length-append, length_digits) (omega arith)

flow_most : (marks : List ℕ) (base : ℕ) (owed : Requirements) → length (spec.flow_at marks base owed) ≤ 38
unfolding spec.flow_at spec.flow_text
flow_most marks base owed = simp (length-append, length_digits) (omega (arith, no_start_most))

widths_most : (marks : List ℕ) (base : ℕ) (flow : Flow) (owed : Requirements)
    → length (spec.widths_at marks base flow owed) ≤ 38
unfolding spec.widths_at spec.widths_text
widths_most marks base flow owed = simp (length-append, length_digits) (omega arith)

return_most : (kind mark : ℕ) → length (spec.return_text kind mark) ≤ 38
unfolding spec.return_text
return_most kind mark = simp length-append (omega arith)

whole_most : (marks : List ℕ) (base at number : ℕ) (i : Instruction)
    → length (spec.whole_detail marks base at number i) ≤ 38
unfolding spec.whole_detail
whole_most marks base at number i =
    search (rules, either, overlap_most, flow_most, widths_most, return_most)

code_most : (address : ℕ) (bytes : List ℕ) → length (spec.code_text address bytes) ≤ 69
unfolding spec.code_text
code_most address bytes =
    let page = page_of (get_or bytes 0 0) in
    let prefix = spec.prefix_of bytes in
    let n = packed_at packed_pages page (get_or bytes prefix 0) in
    let one = one_of (eqb page 0) 0 1 (omega arith) (omega arith) in
    let few : length (take (prefix + 1) bytes) ≤ 6 = rw length-take (omega arith) in
    rw (← unpacked_at page (get_or bytes prefix 0)) (simp length-append (omega (arith, start_most address n _ few)))

cut_off_most : (address mark : ℕ) (bytes : List ℕ) → length bytes ≤ 6
    → length (spec.cut_off_text address bytes mark) ≤ 69
unfolding spec.cut_off_text spec.pairs
cut_off_most address mark bytes few =
    let page = page_of (get_or bytes 0 0) in
    let code = get_or bytes (spec.prefix_of bytes) 0 in
    let n = packed_at packed_pages page code in
    let start = rw (unpacked_at page code) at (start_most address n bytes few) in
    let coded : length (spec.start_text address bytes (spec.code_entry bytes)
    ++ (spec.decimal (spec.missing bytes mark) ++ spec.ascii " missing")) ≤ 69
    = simp length-append (omega (arith, start, decimal_most (spec.missing bytes mark))) in
    let none : length (spec.address_text address ++ (spec.pairs bytes ++ spec.ascii ": the code is missing")) ≤ 69
    = simp (length-append, length_digits) (omega (arith, length_pairs bytes 0 (length bytes))) in
    search (rules, either)

-- the longest heading has eleven bytes
heading_most : (why : Refusal) → length (spec.heading (refusal_number why)) ≤ 11
unfolding spec.heading spec.decimal digits digit_count digit
heading_most why =
    lit≤ (below_all (λ k. leb (length (spec.heading k)) 11) 256 tt (refusal_number why) (refusal_range why).1)

-- what is said of a start, by what is decoded there
start_detail_most : (address mark : ℕ) (bytes : List ℕ) (m x : ℕ) (rest : Instruction → List ℕ)
    → ((i : Instruction) → length (rest i) ≤ 38)
    → length (spec.start_detail address bytes mark rest (decode bytes m x)) ≤ 69
unfolding spec.start_detail
start_detail_most address mark bytes m x rest few =
    by (layout_read bytes m x) (fitting bytes m x) (decoded_layout bytes m x)
  where
    by : (read : LayoutRead) → FittingIn (length bytes) read → decode bytes m x ≡ decoded_of bytes read
        → length (spec.start_detail address bytes mark rest (decode bytes m x)) ≤ 69
    by (Ok f) fits e =
        let size : length (take f.length bytes) ≤ 6 = rw length-take (omega (arith, fits)) in
        rw e (simp length-append
        (omega (arith, start_most address f.number (take f.length bytes) size, few (instruction_of bytes f))))
    by (Err Undecoded.NotCarried) fits e = rw e (code_most address bytes)
    by (Err Undecoded.CutOff) fits e = rw e (cut_off_most address mark bytes (few_left bytes m x e))

detail_most : (image marks : List ℕ) (base reset at number : ℕ)
    → length (spec.detail image marks base reset at number) ≤ 69
unfolding spec.detail
detail_most image marks base reset at number =
    let bytes = drop at image in
    let mark = get_or marks at 0 in
    let start = start_detail_most (base + at) mark bytes (mark_m mark) (mark_x mark)
    (spec.whole_detail marks base at number) (whole_most marks base at number) in
    let one : length (spec.length_text (length image) (length marks)) ≤ 69
    = omega (arith, length_most (length image) (length marks)) in
    let two : length (spec.base_text base (length image)) ≤ 69 = omega (arith, base_most base (length image)) in
    let three : length (spec.reset_text marks base reset) ≤ 69 = omega (arith, reset_most marks base reset) in
    let four : length (spec.mark_text (base + at) mark) ≤ 69 = omega (arith, mark_most (base + at) mark) in
    search (rules, either)

-- no line has more than 81 bytes
pub line_most : (image marks : List ℕ) (base reset : ℕ)
    → length (spec.explanation image marks base reset) ≤ spec.line_limit
unfolding spec.explanation spec.line_by spec.refused_line
line_most image marks base reset = by (verdict image marks base reset)
  where
    by : (v : Verdict) → length (spec.line_by v image marks base reset) ≤ spec.line_limit
    by (Ok tt) = omega arith
    by (Err r) =
        simp length-append
        (omega (arith, heading_most r.why, detail_most image marks base reset r.offset (refusal_number r.why)))
