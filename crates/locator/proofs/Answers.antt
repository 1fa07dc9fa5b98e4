-- The answer and the places at each exit: by the verdict, then by the tests of the addresses, else by the pass.
-- Assumes nothing.
use Rattle.std.specs.Prelude.{Ok, Err}
use mathlib.Core.Path.{◌≡◌, refl, sym, ◌∙◌}
use mathlib.Core.Bool.{true}
use mathlib.Core.List.{List, ◌++◌, map}
use Prim.Native.Nat.{ℕ, ◌+◌, ◌≤◌}
use borrow.Author.Tests.{leb-true}
use lib.ListN.{length, drop, length-map}
use Rattle.types.specs.declared.refusals.Refusal.{Refusal}
use Rattle.types.specs.Answers.{TestResult, refused_at, Located}
use Rattle.types.specs.Addresses.{address_limit}
use Rattle.types.specs.Refusals.{Tests, first_refusal}
use Rattle.acceptance.specs.Verdict.{verdict}
use Rattle.reports.specs.Locate.{place_number, pass_over, addresses_fit, locate_tests, located_by, located}
use Rattle.reports.specs.Locate.{places_after}
use Rattle.reports.specs.Locate.{places_located}
use Rattle.acceptance.proofs.Image.{right_length, base_whole}
use Rattle.reports.proofs.Locate.{passed}
use Rattle.types.proofs.TestResults.{shown}
use Rattle.acceptance.proofs.Verdict.{accepts_exactly}

module _ (image marks : List ℕ) (base reset : ℕ) (addresses places : List ℕ) where
  abbrev Answers : Located → List ℕ → Type 0
  Answers answer left =
      (answer ≡ located image marks base reset addresses places)
      × (left ≡ places_located image marks base reset addresses places)

  abbrev tests : Tests
  tests = locate_tests base (length image) addresses (length places)

  pub refused_first : (why : Refusal) (at : ℕ) → verdict image marks base reset ≡ refused_at why at
      → Answers (refused_at why at) places
  unfolding located located_by places_located places_after
  refused_first why at e = (rw e refl, rw e refl)

  module _ (accepted : verdict image marks base reset ≡ Ok tt) where
    -- what acceptance says of the lengths
    pub as_many : length marks ≡ length image
    as_many =
        (right_length (length image) (length marks) ((accepts_exactly image marks base reset).0 accepted).right_length
        ).same

    pub in_space : base + length image ≤ address_limit
    in_space = base_whole base (length image) ((accepts_exactly image marks base reset).0 accepted).right_base

    module _ (tested : TestResult) (so : tested ≡ first_refusal tests) where
      pub refused_then : (why : Refusal) → tested ≡ Err why → Answers (refused_at why 0) places
      unfolding located located_by places_located places_after
      refused_then why e = let f = sym so ∙ e in (rw (accepted, f) refl, rw (accepted, f) refl)

      module _ (passes : tested ≡ Ok tt) where
        pub fit : addresses_fit base (length image) addresses ≡ true
        fit = (shown tests (sym so ∙ passes)).0

        pub room : length addresses ≤ length places
        room = leb-true (length addresses) (length places) (shown tests (sym so ∙ passes)).1.0

        pub places_found : (read : ℕ) (left : List ℕ) → read ≡ (pass_over image marks base addresses).read
            → left
            ≡ map place_number (pass_over image marks base addresses).places ++ drop (length addresses) places
            → Answers (Ok read) left
        unfolding located located_by places_located places_after
        places_found read left is_read is_left =
            let f = sym so ∙ passes in
            let found = (pass_over image marks base addresses).places in
            let many : length (map place_number found) ≡ length addresses =
            rw ((passed image marks base addresses as_many fit).0, length-map, length-map) in
            (rw (accepted, f, is_read) refl, rw (accepted, f, many) is_left)
