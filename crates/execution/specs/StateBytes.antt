-- The state as bytes, as include/m7700.h has them: A, B, X, Y, S, PC, DPR, PS (two bytes each, low first), PG, DT (a
-- byte each), the number of open calls (two bytes, low first), then the call records, the first opened first: return
-- address (four bytes, low first), kind (one byte), three bytes reserved. A record is one number (Step, `call_record`).
-- Assumes nothing.
use Rattle.std.specs.Prelude.{ℕ, ◌+◌, ◌*◌, ◌^◌, ◌<◌, ◌≡◌, List, [], ◌∷◌, ◌++◌, length, get_or, drop}
use Rattle.types.specs.declared.machine.Registers.{Registers}
use Rattle.types.specs.declared.machine.Core.{Core}
use Rattle.types.specs.declared.machine.State.{State}
use Rattle.fields.specs.Fields.{field_at, joined, parted}
use Rattle.types.specs.Status.{status_of, number_of}
use Rattle.semantics.specs.Step.{call_limit}
use Rattle.semantics.specs.Effects.{InWidth}

-- the bytes before the call records, those of a record, and all of them
abbrev pub head_size : ℕ
head_size = 20

abbrev pub record_size : ℕ
record_size = 8

abbrev pub state_size : ℕ
state_size = head_size + record_size * call_limit

-- all but the call records, each field at its place
unfoldable pub core_of : List ℕ → Core
core_of bytes = record {
  registers =
      record {
        a = field_at 0 2 bytes;
        b = field_at 2 2 bytes;
        x = field_at 4 2 bytes;
        y = field_at 6 2 bytes;
        s = field_at 8 2 bytes;
        dpr = field_at 12 2 bytes;
        dt = field_at 17 1 bytes;
        status = status_of (field_at 14 2 bytes);
      };
  pc = field_at 10 2 bytes;
  pg = field_at 16 1 bytes;
  depth = field_at 18 2 bytes;
}

-- the state of bytes
unfoldable pub state_of : List ℕ → State
state_of bytes = record { core = core_of bytes; calls = parted record_size call_limit (drop head_size bytes) }

-- the bytes of all but the call records
unfoldable pub head_of : Core → List ℕ
head_of c =
    joined 2 (r.a ∷ r.b ∷ r.x ∷ r.y ∷ r.s ∷ c.pc ∷ r.dpr ∷ number_of r.status ∷ [])
    ++ joined 1 (c.pg ∷ r.dt ∷ [])
    ++ joined 2 (c.depth ∷ [])
  where
    r : Registers
    r = c.registers

-- the bytes of a state
unfoldable pub state_bytes : State → List ℕ
state_bytes s = head_of s.core ++ joined record_size s.calls

-- A state that its bytes keep whole: each field is below the bound of its bytes, and there are as many records as fit.
pub record Keeps (state : State) : Type 0 where
  pub registers : InWidth state.core.registers
  pub pc : state.core.pc < 65_536
  pub pg : state.core.pg < 256
  pub depth : state.core.depth < 65_536
  pub calls : length state.calls ≡ call_limit
  pub entries : (k : ℕ) → get_or state.calls k 0 < 256 ^ record_size
