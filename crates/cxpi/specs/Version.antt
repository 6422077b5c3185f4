-- The version of layouts and calls.
use Rattle.std.specs.Prelude.{ℕ}

-- `CXPI_VERSION` of the header: up by one with each change of a layout or a call
abbrev pub version : ℕ
version = 6
