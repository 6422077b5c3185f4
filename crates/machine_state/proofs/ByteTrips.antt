-- States and flags as bytes, each back into the other; and a table of counts behind other bytes.
use Prim.Native.Nat.{ℕ, zero, suc, ◌+◌, ◌<◌}
use mathlib.Core.Path.{◌≡◌, refl}
use mathlib.Core.List.{List, ◌++◌}
use mathlib.Core.Bool.{Bool, true, false}
use lib.ListN.{length}
use lib.Dec.{ltb}
use native.Mathlib.Omega.{arith}
use Rattle.base_lists.specs.Bounded.{tab}
use Rattle.base_bytes.specs.Bytes.{byte}
use Rattle.base_bytes.proofs.Parts.{head_and_rest}
use Rattle.machine_state.specs.declared.State.{State}
use Rattle.machine_state.specs.Bytes.{state_byte, state_of, flag_byte, flag_of, table_at}

pub state_back : (s : State) → state_of (state_byte s) ≡ s
state_back State.Normal = refl
state_back State.Standby = refl
state_back State.Sleep = refl

pub state_byte_low : (s : State) → ltb (state_byte s) 3 ≡ true
state_byte_low State.Normal = refl
state_byte_low State.Standby = refl
state_byte_low State.Sleep = refl

pub state_byte_back : (b : ℕ) → b < 3 → state_byte (state_of b) ≡ b
state_byte_back zero h = refl
state_byte_back (suc zero) h = refl
state_byte_back (suc (suc zero)) h = refl
state_byte_back (suc (suc (suc b))) h = absurd (omega arith)

pub flag_back : (f : Bool) → flag_of (flag_byte f) ≡ f
flag_back true = refl
flag_back false = refl

pub flag_byte_low : (f : Bool) → ltb (flag_byte f) 2 ≡ true
flag_byte_low true = refl
flag_byte_low false = refl

pub flag_byte_back : (b : ℕ) → b < 2 → flag_byte (flag_of b) ≡ b
flag_byte_back zero h = refl
flag_byte_back (suc zero) h = refl
flag_byte_back (suc (suc b)) h = absurd (omega arith)

-- the first bytes, then a table, are all the bytes
pub head_and_table : (s head : List ℕ) (n : ℕ) → length s ≡ n + 128 → head ≡ tab n (byte s) → head ++ table_at s n ≡ s
unfolding table_at
head_and_table s head n size e = head_and_rest s head n 128 size e
