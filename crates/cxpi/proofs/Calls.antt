-- What each call returns and leaves, by the way that its code takes.
use Prim.Native.Nat.{ℕ, ◌≤◌}
use mathlib.Core.Path.{◌≡◌, refl, sym}
use mathlib.Core.Bool.{true, false}
use mathlib.Core.List.{List}
use lib.Seq.{sets}
use lib.Dec.{eqb, leb}
use native.Mathlib.Omega.{arith}
use borrow.Author.Tests.{eq-eqb, ne_eqb}
use Rattle.base_lists.proofs.Choices.{by_test}
use Rattle.set_plan.specs.declared.Plan.{Plan}
use Rattle.set_writer.specs.Write.{WriteResult}
use Rattle.set_writer.specs.Write.{set_length, write_refusal, write_result}
use Rattle.machine_node.specs.declared.Reply as NodeReply
use Rattle.machine_master.specs.declared.Reply as MasterReply
use Rattle.packed_master.specs.States.{master_bytes}
use Rattle.packed_master.specs.Replies as MasterReplies
use Rattle.packed_node.specs.States.{node_bytes}
use Rattle.packed_node.specs.Replies as NodeReplies
use Rattle.cxpi.specs.MasterCalls.{changes_state, master_leaves, master_replies}
use Rattle.cxpi.specs.NodeCalls.{node_leaves, node_replies}

module _ (r : MasterReply.Reply) (state reply said : List ℕ) (e : said ≡ MasterReplies.replied r.command r.lost r.node reply) where
  pub master_same : changes_state r.refusal ≡ false → (r.refusal ≡ r.refusal) × (state ≡ master_leaves r state) × (said ≡ master_replies r reply)
  master_same n = rw n (refl, refl, e)

  pub master_changed : changes_state r.refusal ≡ true → (after : List ℕ) → after ≡ sets state 0 (master_bytes r.master)
      → (r.refusal ≡ r.refusal) × (after ≡ master_leaves r state) × (said ≡ master_replies r reply)
  master_changed c after f = rw c (refl, f, e)

module _ (r s : NodeReply.Reply) (is : r ≡ s) (state reply said : List ℕ) (e : said ≡ NodeReplies.replied r.command reply) where
  pub node_same : (r.refusal ≡ 0 → ⊥) → (r.refusal ≡ s.refusal) × (state ≡ node_leaves s state) × (said ≡ node_replies s reply)
  node_same n = rw (← is, ne_eqb r.refusal 0 n) (refl, refl, e)

  pub node_changed : r.refusal ≡ 0 → (after : List ℕ) → after ≡ sets state 0 (node_bytes r.node)
      → (0 ≡ s.refusal) × (after ≡ node_leaves s state) × (said ≡ node_replies s reply)
  node_changed z after f = rw (← is, eq-eqb r.refusal 0 z) (sym z, f, e)

-- a set's length is a number of 16 bits
pub result_short : (p : Plan) (room : ℕ) (a : WriteResult) → a ≡ write_result p room → a.length ≤ 1536
unfolding write_result set_length
result_short p room a e =
    rw e (by_test (λ (x : WriteResult). x.length ≤ 1536) (eqb (write_refusal p room) 0)
    (λ _. by_test (λ (n : ℕ). n ≤ 1536) (leb p.rowcount 100) (λ _. omega arith) (λ _. omega arith))
    (λ _. omega arith))
