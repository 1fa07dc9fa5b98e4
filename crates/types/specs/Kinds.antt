-- The numbers of the kinds by which routines return.
-- Assumes nothing.
use Rattle.std.specs.Prelude.{ℕ}
use Rattle.types.specs.declared.code.Kind.{Kind}

-- 01: 'how the routine returns (0 not, 1 by RTS, 2 by RTL; 3 is unused)'
abbrev pub kind_number : Kind → ℕ
kind_number Kind.ByRts = 1
kind_number Kind.ByRtl = 2
