-- The entries are read each from its place.
-- Assumes nothing.
use mathlib.Core.Path.{◌≡◌, sym, ◌∙◌}
use mathlib.Core.List.{List}
use Prim.Native.Nat.{ℕ, ◌+◌, ◌*◌, ◌<◌}
use lib.ListN.{length, get_or, drop}
use lib.Seq.{drop-drop}
use Rattle.std.proofs.lemmas.List.FromFn.{fill_by_all}
use Rattle.semantics.specs.Step.{call_limit}
use Rattle.execution.specs.StateBytes.{head_size, record_size}
use Rattle.fields.specs.Fields.{parted, field_at}
use Rattle.fields.proofs.Fields.{length_parted, parted_at}

abbrev pub entry : List ℕ → ℕ → ℕ
entry bytes i = field_at (head_size + record_size * i) record_size bytes

pub all_read : (bytes calls : List ℕ) → length calls ≡ call_limit
    → ((k : ℕ) → k < call_limit → get_or calls k 0 ≡ entry bytes k)
    → calls ≡ parted record_size call_limit (drop head_size bytes)
all_read bytes calls long each =
    let behind = drop head_size bytes in
    fill_by_all (entry bytes) calls call_limit 0 long each
    ∙ sym (fill_by_all (entry bytes) (parted record_size call_limit behind) call_limit 0
    (length_parted record_size call_limit behind)
    (λ k inside. rw (parted_at record_size call_limit k behind inside, drop-drop (record_size * k) head_size bytes)))
