-- What the two reads report is the packed identity, byte for byte.
use Prim.Native.Nat.{ℕ, ◌<◌}
use mathlib.Core.Path.{◌≡◌, refl, sym}
use mathlib.Core.List.{List, ◌++◌}
use lib.ListN.{length, drop}
use Rattle.base_lists.specs.Bounded.{tab}
use Rattle.base_lists.proofs.Tables.{tab_of}
use Rattle.base_bytes.specs.Bytes.{byte}
use Rattle.base_bytes.proofs.Halves.{high_at, low_at, long_high_at, long_low_at}
use Rattle.machine_node_configuration.specs.Offsets.{identity_length}
use Rattle.machine_node_configuration.specs.Identity.{identity_of}
use Rattle.machine_node_configuration.specs.Responses.{product_identification, serial_number}

pub read_back : (s : List ℕ) → length s ≡ identity_length → ((o : ℕ) → byte s o < 256)
    → drop 3 (product_identification (identity_of s)) ++ drop 3 (serial_number (identity_of s)) ≡ s
unfolding identity_of tab
read_back s size small =
    rw (
      high_at s 0 (small 1),
      low_at s 0 (small 1),
      high_at s 2 (small 3),
      low_at s 2 (small 3),
      long_high_at s 5 (small 7) (small 8),
      long_low_at s 5 (small 7) (small 8),
      high_at s 5 (small 6),
      low_at s 5 (small 6),
      high_at s 7 (small 8),
      low_at s 7 (small 8),
    )
    (sym (tab_of 0 9 (byte s) s size (λ o _. refl)))
