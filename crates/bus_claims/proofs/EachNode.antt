-- What holds of each node of a plan, under what moves do to the nodes.
use Prim.Native.Nat.{ℕ, ◌≤◌, ◌<◌}
use mathlib.Core.Path.{◌≡◌, ◌∙◌}
use mathlib.Core.Bool.{true, false}
use mathlib.Core.List.{List}
use lib.Dec.{ltb}
use lib.ListN.{length, get_or, set, length-set}
use lib.Seq.{get_or-set_same, get_or-set_other}
use native.Mathlib.Omega.{arith}
use native.Mathlib.Decide.{ℕ_discrete}
use borrow.Author.Tests.{ltb-true}
use Rattle.base_lists.proofs.Choices.{by_test}
use Rattle.machine_node.specs.declared.Node.{Node}
use Rattle.machine_node.specs.Waking.{pulse_step}
use Rattle.machine_master.specs.declared.Master.{Master}
use Rattle.bus.specs.declared.Bus.{Bus}
use Rattle.bus_nodes.specs.declared.Callers.{Callers}
use Rattle.bus_nodes.specs.declared.Message.{Message}
use Rattle.bus.specs.declared.Moved.{Moved}
use Rattle.bus.specs.declared.World.{World}
use Rattle.bus_nodes.specs.Each.{each_to}
use Rattle.bus.specs.Applications.{of_node}
use Rattle.bus_nodes.specs.Pulses.{any_called, other_called, receive_if, reach_all}
use Rattle.bus.specs.Pulses.{spread}
use Rattle.bus_nodes.specs.Nodes.{nodes_used, no_node, node_at}
use Rattle.bus.specs.World.{stays}
use Rattle.bus_nodes.proofs.EachOne.{each_length, each_get}

pub record Each (n : ℕ) (Q : ℕ → Node → Type 0) (nodes : List Node) : Type 0 where
  pub size : length nodes ≡ 16
  pub each : (i : ℕ) → i < n → Q i (node_at nodes i)

module _ (n : ℕ) (few : n ≤ 16) (Q R : ℕ → Node → Type 0) (nodes : List Node) (v : Each n Q nodes) where
  -- each node by itself
  pub over : (f : ℕ → Node → Node) → ((i : ℕ) → i < n → Q i (node_at nodes i) → R i (f i (node_at nodes i))) → Each n R (each_to f (nodes_used n) nodes)
  over f g =
      record {
        size = each_length f (nodes_used n) nodes ∙ v.size;
        each = λ i l. rw (each_get f (nodes_used n) nodes i no_node (used i l) (within i l)) (g i l (v.each i l));
      }
    where
      used : (i : ℕ) → i < n → i < nodes_used n
      used i l = omega (arith, few)

      within : (i : ℕ) → i < n → i < length nodes
      within i l = omega (arith, few, v.size)

  -- node k alone
  pub one : (k : ℕ) (x : Node) → k < n → R k x → ((i : ℕ) → i < n → (i ≡ k → ⊥) → Q i (node_at nodes i) → R i (node_at nodes i)) → Each n R (set nodes k x)
  one k x h told others = record { size = length-set nodes k x ∙ v.size; each = λ i l. go i l (ℕ_discrete i k) }
    where
      within : k < length nodes
      within = omega (arith, few, v.size)

      go : (i : ℕ) → i < n → Dec (i ≡ k) → R i (node_at (set nodes k x) i)
      go i l (yes e) = rw (e, get_or-set_same nodes k x no_node within) told
      go i l (no e) = rw (get_or-set_other nodes k i x no_node e) (others i l e (v.each i l))

-- 11, or a node of the plan
pub of_node_lem : (n : ℕ) (Kept : Moved → Type 0) (node : ℕ) (w : World) (o : Moved) → Kept (stays w 11) → (node < n → Kept o) → Kept (of_node (nodes_used n) node w o)
of_node_lem n Kept node w o refused h = by_test Kept (ltb node (nodes_used n)) (λ l. h (omega (arith, ltb-true node (nodes_used n) l))) (λ l. refused)

-- pulses are heard or not
pub heard : (n : ℕ) → n ≤ 16 → (Q : ℕ → Node → Type 0) (callers : Callers) (bus : Bus) (m : Master) (nodes : List Node)
    → (any_called callers ≡ true → (i : ℕ) → i < n → Q i (node_at nodes i) → Q i (pulse_step (node_at nodes i)).node)
    → Each n Q nodes → Each n Q (spread (nodes_used n) callers bus (record { master = m; nodes = nodes })).nodes
heard n few Q callers bus m nodes hears v =
    by_test (λ (w : World). Each n Q w.nodes) (any_called callers)
    (λ c. by_test (λ (w : World). Each n Q w.nodes) bus.master (λ b. pulses c) (λ b. pulses c))
    (λ c. v)
  where
    pulses : any_called callers ≡ true → Each n Q (reach_all (Message.Pulse callers) bus.hearing (nodes_used n) nodes)
    pulses c =
        over n few Q Q nodes v (λ k x. receive_if (get_or bus.hearing k false) (Message.Pulse callers) k x)
        (λ i l s. by_test (Q i) (get_or bus.hearing i false) (λ h. by_test (Q i) (other_called callers i) (λ o. hears c i l s) (λ o. s)) (λ h. s))
