-- The bytes of the permissions that a master holds.
use Prim.Native.Nat.{ℕ, ◌+◌, ◌*◌, ◌/◌, ◌%◌, ◌<◌}
use mathlib.Core.Path.{◌≡◌, ap₂, ◌∙◌}
use mathlib.Core.List.{List}
use lib.ListN.{length, get_or, set, length-set}
use native.Mathlib.Omega.{arith}
use Rattle.base_lists.proofs.Tables.{filled_more}
use Rattle.base_bytes.specs.Bytes.{high_byte, low_byte}
use Rattle.machine_state.specs.Bytes.{flag_byte}
use Rattle.machine_master.specs.declared.Hold.{Hold}
use Rattle.machine_master.specs.Changes.{no_hold}
use Rattle.packed_master.specs.States.{hold_bytes, hold_byte_at}

-- byte i of the permission of node k
pub hold_three : (holds : List Hold) (k i : ℕ) → i < 3 → get_or (hold_bytes (get_or holds k no_hold)) i 0 ≡ hold_byte_at holds (3 * k + i)
hold_three holds k i h =
    let u : k ≡ (3 * k + i) / 3 = omega arith in
    let v : i ≡ (3 * k + i) % 3 = omega arith in
    ap₂ (λ x y. get_or (hold_bytes (get_or holds x no_hold)) y 0) u v

-- one permission more
pub three_more : (holds : List Hold) (bytes : List ℕ) (k flag : ℕ) → k < 16 → length bytes ≡ 48 → flag ≡ flag_byte (get_or holds k no_hold).held
    → ((i : ℕ) → i < 3 * k → get_or bytes i 0 ≡ hold_byte_at holds i)
    → (i : ℕ) → i < 3 * (k + 1)
    → get_or (set (set (set bytes (3 * k) flag) (3 * k + 1) (high_byte (get_or holds k no_hold).age)) (3 * k + 2) (low_byte (get_or holds k no_hold).age)) i 0 ≡ hold_byte_at holds i
three_more holds bytes k flag few long e f i h =
    let z : 3 * k + 0 ≡ 3 * k = omega arith in
    let one = filled_more 0 (hold_byte_at holds) bytes (3 * k) flag (omega arith) (e ∙ rw z at (hold_three holds k 0 (omega arith))) f in
    let two = filled_more 0 (hold_byte_at holds) (set bytes (3 * k) flag) (3 * k + 1) (high_byte (get_or holds k no_hold).age) (omega (arith, length-set bytes (3 * k) flag)) (hold_three holds k 1 (omega arith)) one in
    let y : 3 * k + 1 + 1 ≡ 3 * k + 2 = omega arith in
    filled_more 0 (hold_byte_at holds) (set (set bytes (3 * k) flag) (3 * k + 1) (high_byte (get_or holds k no_hold).age)) (3 * k + 2) (low_byte (get_or holds k no_hold).age)
    (omega (arith, length-set (set bytes (3 * k) flag) (3 * k + 1) (high_byte (get_or holds k no_hold).age), length-set bytes (3 * k) flag))
    (hold_three holds k 2 (omega arith)) (λ j q. two j (omega arith)) i (omega arith)
