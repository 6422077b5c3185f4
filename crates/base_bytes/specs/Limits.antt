-- The length of a block.
use Rattle.std.specs.Prelude.{ℕ}

-- "512-byte blocks": `base_bytes::BLOCK_LENGTH`
abbrev pub block_length : ℕ
block_length = 512
