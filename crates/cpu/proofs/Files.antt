-- The register file as the registers that it holds.
-- Assumes nothing.
use Rattle.std.proofs.Common.{◌≡◌, ℕ, zero, suc, ◌<◌, List, [], ◌∷◌, length, set, refl, ap, ◌∙◌, ap₂, mod-eq_of_lt}
use Rattle.std.proofs.Common.{arith, length-set}
use Rattle.types.specs.declared.machine.Registers.{Registers}
use Rattle.semantics.specs.Arithmetic.{registers, with_status}
use Rattle.types.specs.Status.{number_of, status_of}
use Rattle.semantics.proofs.Status.{number_status}
use Rattle.cpu.specs.File.{registers_of, put, file_size}

-- registers side by side are a file that holds them
pub filed : (r : Registers) (n : ℕ) → r.dt < 256 → n ≡ number_of r.status
    → registers_of (r.a ∷ r.b ∷ r.x ∷ r.y ∷ r.s ∷ r.dpr ∷ r.dt ∷ n ∷ []) ≡ r
filed r n h e =
    ap₂ (λ d s. registers r.a r.b r.x r.y r.s r.dpr d s) (mod-eq_of_lt h)
    (ap status_of e ∙ number_status r.status)

-- a number put into a file is put into its registers
pub put_in : (file : List ℕ) (i v : ℕ) → length file ≡ file_size → i < file_size
    → registers_of (set file i v) ≡ put i v (registers_of file)
put_in [] i v e h = absurd (omega arith)
put_in (a ∷ []) i v e h = absurd (omega arith)
put_in (a ∷ b ∷ []) i v e h = absurd (omega arith)
put_in (a ∷ b ∷ x ∷ []) i v e h = absurd (omega arith)
put_in (a ∷ b ∷ x ∷ y ∷ []) i v e h = absurd (omega arith)
put_in (a ∷ b ∷ x ∷ y ∷ s ∷ []) i v e h = absurd (omega arith)
put_in (a ∷ b ∷ x ∷ y ∷ s ∷ d ∷ []) i v e h = absurd (omega arith)
put_in (a ∷ b ∷ x ∷ y ∷ s ∷ d ∷ t ∷ []) i v e h = absurd (omega arith)
put_in (a ∷ b ∷ x ∷ y ∷ s ∷ d ∷ t ∷ p ∷ []) zero v e h = refl
put_in (a ∷ b ∷ x ∷ y ∷ s ∷ d ∷ t ∷ p ∷ []) (suc zero) v e h = refl
put_in (a ∷ b ∷ x ∷ y ∷ s ∷ d ∷ t ∷ p ∷ []) (suc (suc zero)) v e h = refl
put_in (a ∷ b ∷ x ∷ y ∷ s ∷ d ∷ t ∷ p ∷ []) (suc (suc (suc zero))) v e h = refl
put_in (a ∷ b ∷ x ∷ y ∷ s ∷ d ∷ t ∷ p ∷ []) (suc (suc (suc (suc zero)))) v e h = refl
put_in (a ∷ b ∷ x ∷ y ∷ s ∷ d ∷ t ∷ p ∷ []) (suc (suc (suc (suc (suc zero))))) v e h = refl
put_in (a ∷ b ∷ x ∷ y ∷ s ∷ d ∷ t ∷ p ∷ []) (suc (suc (suc (suc (suc (suc zero)))))) v e h = refl
put_in (a ∷ b ∷ x ∷ y ∷ s ∷ d ∷ t ∷ p ∷ []) (suc (suc (suc (suc (suc (suc (suc zero))))))) v e h = refl
put_in (a ∷ b ∷ x ∷ y ∷ s ∷ d ∷ t ∷ p ∷ []) (suc (suc (suc (suc (suc (suc (suc (suc i)))))))) v e h =
    absurd (omega arith)
put_in (a ∷ b ∷ x ∷ y ∷ s ∷ d ∷ t ∷ p ∷ q ∷ rest) i v e h = absurd (omega arith)

-- two registers and then the status
pub put_three : (file : List ℕ) (i v j w n : ℕ) → length file ≡ file_size → i < file_size → j < file_size
    → registers_of (set (set (set file i v) j w) 7 n)
    ≡ with_status (status_of n) (put j w (put i v (registers_of file)))
put_three file i v j w n e h h' =
    put_in (set (set file i v) j w) 7 n (length-set (set file i v) j w ∙ once) (omega arith)
    ∙ ap (put 7 n) (put_in (set file i v) j w once h' ∙ ap (put j w) (put_in file i v e h))
  where
    once : length (set file i v) ≡ file_size
    once = length-set file i v ∙ e
