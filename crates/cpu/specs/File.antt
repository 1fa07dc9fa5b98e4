-- The register file: the registers side by side as numbers, in the order A, B, X, Y, S, DPR, DT, PS.
-- Assumes nothing.
use Rattle.std.specs.Prelude.{ℕ, zero, suc, ◌%◌, List, slice_index}
use Rattle.types.specs.declared.machine.Registers.{Registers}
use Rattle.semantics.specs.Arithmetic.{registers, with_a, with_b, with_x, with_y, with_s, with_dpr, with_dt}
use Rattle.semantics.specs.Arithmetic.{with_status}
use Rattle.types.specs.Status.{status_of}

abbrev pub file_size : ℕ
file_size = 8

-- the registers that a file holds; DT has 8 bits, and what its number has above them is left open
abbrev pub registers_of : List ℕ → Registers
registers_of file =
    registers (slice_index file 0) (slice_index file 1) (slice_index file 2) (slice_index file 3) (slice_index file 4)
    (slice_index file 5)
    (slice_index file 6 % 256) (status_of (slice_index file 7))

-- the registers once a number is put at a place of their file
abbrev pub put : ℕ → ℕ → Registers → Registers
put zero v r = with_a v r
put (suc zero) v r = with_b v r
put (suc (suc zero)) v r = with_x v r
put (suc (suc (suc zero))) v r = with_y v r
put (suc (suc (suc (suc zero)))) v r = with_s v r
put (suc (suc (suc (suc (suc zero))))) v r = with_dpr v r
put (suc (suc (suc (suc (suc (suc zero)))))) v r = with_dt (v % 256) r
put (suc (suc (suc (suc (suc (suc (suc place))))))) v r = with_status (status_of v) r
