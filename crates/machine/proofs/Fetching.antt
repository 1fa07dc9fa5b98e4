-- From the base on, what is fetched at a place and a status is what the image's bytes from there decode to.
-- Assumes nothing.
use mathlib.Core.Path.{◌≡◌, sym, ap, ◌∙◌}
use mathlib.Core.List.{List}
use Prim.Native.Nat.{ℕ, ◌+◌, ◌-◌, ◌≤◌}
use native.Mathlib.Omega.{arith}
use lib.ListN.{length, drop}
use Rattle.types.specs.Answers.{Decoded}
use Rattle.types.specs.declared.machine.Core.{Core}
use Rattle.instructions.specs.Decode.{decode}
use Rattle.types.specs.Addresses.{address_limit, image_limit}
use Rattle.semantics.specs.Memory.{memory}
use Rattle.types.specs.Status.{mask_m, mask_x, is_set, status_of}
use Rattle.prelude.specs.Choice.{bit}
use Rattle.semantics.specs.Step.{place_of, fetched}
use Rattle.semantics.proofs.Step.{fetched_from}

pub fetched_at : (image : List ℕ) (base place status : ℕ) → base + length image ≤ address_limit
    → length image ≤ image_limit → base ≤ place → (m x : ℕ) → m ≡ bit (is_set mask_m status)
    → x ≡ bit (is_set mask_x status) → (d : Decoded) → d ≡ decode (drop (place - base) image) m x
    → (ram : List ℕ) (c : Core) → place ≡ place_of c → c.registers.status ≡ status_of status
    → d ≡ fetched (memory ram image base) c
fetched_at image base place status whole small h m x is_m is_x d e ram c there same =
    fetched_from ram image base c place there whole (omega arith) h d m x (is_m ∙ sym (ap (λ s. bit s.m) same))
    (is_x ∙ sym (ap (λ s. bit s.x) same)) e
