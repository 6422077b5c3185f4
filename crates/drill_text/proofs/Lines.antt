-- Laws of the lines: their parts, their length, and a line printed with the move that it tells of.
use Prim.Native.Nat.{ℕ, zero, suc, ◌+◌, ◌*◌, ◌≤◌}
use mathlib.Core.Path.{◌≡◌, refl, ap, ap₂, sym, ◌∙◌}
use mathlib.Core.List.{List, [], ◌++◌}
use mathlib.Core.Bool.{Bool, true, false}
use lib.ListN.{length, length-append, take}
use Rattle.std.proofs.Common.{get_or-take}
use native.Mathlib.Omega.{arith}
use native.Mathlib.Numerals.{add-one}
use Rattle.base_text.specs.declared.Writer.{Writer}
use Rattle.base_text.specs.Text.{wrote}
use Rattle.base_text.proofs.Digits.{decimal_short}
use Rattle.set_plan.specs.declared.Plan.{Plan}
use Rattle.machine_state.specs.declared.State.{State}
use Rattle.machine_node.specs.declared.Node.{Node}
use Rattle.bus.specs.declared.Move.{Move}
use Rattle.bus.specs.declared.Moved.{Moved}
use Rattle.bus.specs.declared.World.{World}
use Rattle.bus.specs.Moves.{world_act}
use Rattle.bus_nodes.specs.Nodes.{no_node, node_at, nodes_used}
use Rattle.drill_text.specs.Lines.{node_text, nodes_text, refusal_text, move_line, moved_line, bad_line}

-- none yet, and one more
pub nodes_none : (nodes : List Node) → nodes_text nodes 0 ≡ []
unfolding nodes_text
nodes_none nodes = refl

pub nodes_more : (nodes : List Node) (k : ℕ) → nodes_text nodes (k + 1) ≡ nodes_text nodes k ++ node_text (node_at nodes k).state (node_at nodes k).error
unfolding nodes_text
nodes_more nodes k = rw add-one

pub ruleset nodes = (nodes_none, nodes_more)

-- those of the front of a table
pub nodes_front : (nodes : List Node) (n k : ℕ) → k ≤ n → nodes_text (take n nodes) k ≡ nodes_text nodes k
unfolding nodes_text
nodes_front nodes n zero p = refl
nodes_front nodes n (suc k) p =
    ap₂ (λ text (node : Node). text ++ node_text node.state node.error) (nodes_front nodes n k (omega arith)) (get_or-take n nodes k no_node p)

-- a line has at most 80 bytes: 20 digits for either number, two for each of sixteen nodes, 8 more

node_short : (state : State) (error : Bool) → length (node_text state error) ≤ 2
unfolding node_text
node_short state true = omega arith
node_short state false = omega arith

nodes_short : (nodes : List Node) (k : ℕ) → length (nodes_text nodes k) ≤ 2 * k
unfolding nodes_text
nodes_short nodes zero = omega arith
nodes_short nodes (suc k) =
    omega (arith, length-append (nodes_text nodes k) (node_text (node_at nodes k).state (node_at nodes k).error), nodes_short nodes k, node_short (node_at nodes k).state (node_at nodes k).error)

pub moved_short : (plan : Plan) (number : ℕ) (o : Moved) → length (moved_line plan number o) ≤ 80
unfolding move_line refusal_text
moved_short plan number o =
    simp length-append (omega (arith, decimal_short number, decimal_short o.refusal, nodes_short o.world.nodes (nodes_used plan.nodecount)))

pub bad_short : (number : ℕ) → length (bad_line number) ≤ 80
unfolding bad_line
bad_short number = simp length-append (omega (arith, decimal_short number))

-- an input printed, a line or a record: the world w' that it leaves, and the writer out that is then out'
pub record Printed (after : World) (text : List ℕ) (w' : World) (out out' : Writer) : Type 0 where
  pub world : w' ≡ after
  pub written : out' ≡ wrote text out

-- it is no move, or one
module _ (w : World) (number : ℕ) {after w' : World} {text : List ℕ} {out out' x : Writer} where
  pub printed_bad : after ≡ w → text ≡ bad_line number → out' ≡ x → w' ≡ w → x ≡ wrote (bad_line number) out → Printed after text w' out out'
  printed_bad a b f g v = record { world = g ∙ sym a; written = f ∙ v ∙ ap (λ l. wrote l out) (sym b) }

  pub printed_move : (plan : Plan) (m : Move) {o : Moved} → after ≡ (world_act plan w m).world → text ≡ moved_line plan number (world_act plan w m)
      → o ≡ world_act plan w m → out' ≡ x → w' ≡ o.world → x ≡ wrote (moved_line plan number o) out → Printed after text w' out out'
  printed_move plan m a b c f g v =
      record {
        world = g ∙ ap (λ (y : Moved). y.world) c ∙ sym a;
        written = f ∙ v ∙ ap (λ l. wrote l out) (ap (moved_line plan number) c ∙ sym b);
      }
