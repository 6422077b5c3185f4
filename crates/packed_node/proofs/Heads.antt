-- The first bytes of a node's state, and all of them put into a buffer.
use Rattle.std.specs.Prelude.{Option, Some, None}
use Prim.Native.Nat.{ℕ, ◌+◌, ◌/◌, ◌%◌}
use mathlib.Core.Path.{◌≡◌, refl, ap, sym, ◌∙◌}
use mathlib.Core.Bool.{Bool, true, false}
use mathlib.Core.List.{List, [], ◌∷◌, ◌++◌}
use lib.ListN.{length, get_or, set, replicate}
use lib.Seq.{sets}
use native.Mathlib.Omega.{arith}
use Rattle.base_lists.proofs.Stores.{sets-append}
use Rattle.base_bytes.specs.Bytes.{high_byte, low_byte, four_bytes}
use Rattle.machine_state.specs.State.{start_state}
use Rattle.machine_state.specs.Bytes.{state_byte, flag_byte}
use Rattle.machine_node.specs.declared.Node.{Node}
use Rattle.machine_node.specs.Changes.{power_on}
use Rattle.packed_node.specs.States.{delay_bytes, node_head, node_bytes}

-- those bytes one by one
abbrev pub head_list : Node → List ℕ
head_list n =
    state_byte n.state ∷ flag_byte n.permission ∷ flag_byte n.error ∷ flag_byte n.wake ∷ flag_byte n.heard ∷ flag_byte n.caller
    ∷ high_byte n.quiet ∷ low_byte n.quiet ∷ get_or (delay_bytes n.delay) 0 0 ∷ get_or (delay_bytes n.delay) 1 0 ∷ get_or (delay_bytes n.delay) 2 0
    ∷ high_byte (n.standby / 65536) ∷ low_byte (n.standby / 65536) ∷ high_byte (n.standby % 65536) ∷ low_byte (n.standby % 65536) ∷ []

pub head_listed : (n : Node) → head_list n ≡ node_head n
head_listed n = ap (λ l. state_byte n.state ∷ flag_byte n.permission ∷ flag_byte n.error ∷ flag_byte n.wake ∷ flag_byte n.heard ∷ flag_byte n.caller
    ∷ high_byte n.quiet ∷ low_byte n.quiet ∷ l ++ four_bytes n.standby) (three n.delay)
  where
    three : (d : Option ℕ) → get_or (delay_bytes d) 0 0 ∷ get_or (delay_bytes d) 1 0 ∷ get_or (delay_bytes d) 2 0 ∷ [] ≡ delay_bytes d
    three None = refl
    three (Some ticks) = refl

pub head_long : (n : Node) → length (node_head n) ≡ 15
head_long n = sym (ap length (head_listed n))

pub node_put : (n : Node) (buffer head x y : List ℕ) → head ≡ node_head n → x ≡ sets buffer 0 head → y ≡ sets x 15 n.counts → y ≡ sets buffer 0 (node_bytes n)
unfolding node_bytes
node_put n buffer head x y h e f =
    let z : 0 + length (node_head n) ≡ 15 = omega (arith, head_long n) in
    f ∙ rw (e, h, ← z) (sets-append (node_head n) n.counts buffer 0)

-- power-on: the state's byte, and zeros
pub power_on_put : (sleeps : Bool) (buffer x : List ℕ) (state : ℕ) → state ≡ state_byte (start_state sleeps) → x ≡ sets buffer 0 (set (replicate 143 0) 0 state) → x ≡ sets buffer 0 (node_bytes (power_on sleeps))
unfolding node_bytes
power_on_put true buffer x state h e = e ∙ rw h
power_on_put false buffer x state h e = e ∙ rw h
