-- A PAD fills the end of a ring's block. It is no message.
use Rattle.std.specs.Prelude.{◌≡◌, ℕ, ◌-◌, ◌%◌, ◌≤◌, List, ◌++◌, replicate}
use Rattle.byteorder.specs.Endian.{little_bytes}
use Rattle.gs_layout.specs.declared.wire.TheConstants.{ALIGNMENT, FRONT_LEN, LEAST_PAD_LEN, MOST_PAD_LEN, PAD}

-- how many bytes a PAD may have
pub record IsPadSize (len : ℕ) : Type 0 where
  pub least : LEAST_PAD_LEN ≤ len
  pub most : len ≤ MOST_PAD_LEN
  pub whole : len % ALIGNMENT ≡ 0

-- the bytes of a PAD: its length, its kind and zeros
abbrev pub pad : ℕ → List ℕ
pad len = little_bytes 2 len ++ little_bytes 2 PAD ++ replicate (len - FRONT_LEN) 0
