-- Laws of a set's length and its number of blocks.
use Prim.Native.Nat.{ℕ, ◌*◌, ◌≤◌, ◌<◌}
use mathlib.Core.Path.{◌≡◌, refl}
use mathlib.Core.Bool.{Bool, true, false}
use lib.Dec.{leb}
use native.Mathlib.Omega.{arith}
use borrow.Author.Tests.{le-leb, lt-leb}
use Rattle.base_lists.specs.Bounded.{if_else}
use Rattle.set_writer.specs.Write.{set_length}

abbrev pub block_count : ℕ → ℕ
block_count rowcount = if_else (leb rowcount 100) 2 3

module _ (rowcount : ℕ) where
  pub length_short : rowcount ≤ 100 → set_length rowcount ≡ 1024
  unfolding set_length
  length_short e = rw (le-leb _ _ e)

  pub length_long : 100 < rowcount → set_length rowcount ≡ 1536
  unfolding set_length
  length_long e = rw (lt-leb _ _ e)

  pub length_blocks : set_length rowcount ≡ 512 * block_count rowcount
  unfolding set_length
  length_blocks = go (leb rowcount 100) refl
    where
      go : (b : Bool) → leb rowcount 100 ≡ b → set_length rowcount ≡ 512 * block_count rowcount
      go true e = rw e
      go false e = rw e

  pub length_least : (1024 ≤ set_length rowcount) × (set_length rowcount ≤ 1536)
  unfolding set_length
  length_least = go (leb rowcount 100) refl
    where
      go : (b : Bool) → leb rowcount 100 ≡ b → (1024 ≤ set_length rowcount) × (set_length rowcount ≤ 1536)
      go true e = rw e (omega arith)
      go false e = rw e (omega arith)
