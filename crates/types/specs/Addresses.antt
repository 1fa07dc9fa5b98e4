-- Addresses: 01, 'Image and marks'.
-- Assumes nothing.
use Rattle.std.specs.Prelude.{ℕ, ◌+◌, ◌*◌, ◌/◌}

-- a 'bank (64 KiB)'
abbrev pub bank_size : ℕ
bank_size = 65_536

-- addresses have 24 bits
abbrev pub address_limit : ℕ
address_limit = 16_777_216

-- the address in the bank of another address
abbrev pub in_bank_of : ℕ → ℕ → ℕ
in_bank_of address low = address / bank_size * bank_size + low

-- 01: 'The image is 1 to 16,384 bytes'; 02's R-7, which overrules it: 'The image may have 65,536 bytes'
abbrev pub image_limit : ℕ
image_limit = 65_536
