-- The identifier that two random words make.
-- RFC 9562, section 5.4: version 4, with the version in the four bits from bit 48 and the variant in the two bits from bit 64.
use Rattle.std.specs.Prelude.{ℕ, ◌+◌, ◌*◌, ◌/◌, ◌%◌, ◌^◌}

-- the high word with the version 4 in its bits 12 to 15, counted from the lowest
abbrev pub versioned : ℕ → ℕ
versioned hi = hi / 65536 * 65536 + 16384 + hi % 4096

-- the low word with the variant 2 in its two highest bits
abbrev pub with_variant : ℕ → ℕ
with_variant lo = 2 ^ 63 + lo % 2 ^ 62

unfoldable pub identifier : ℕ → ℕ → ℕ
identifier hi lo = versioned hi * 2 ^ 64 + with_variant lo
