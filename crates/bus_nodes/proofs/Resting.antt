-- Nodes at rest are left as they are by a tick, and nodes that ignore a message by it.
use Rattle.set_plan.specs.declared.Row.{Row}
use Rattle.std.specs.Prelude.{Option, Some, None}
use Prim.Native.Nat.{ℕ}
use mathlib.Core.Path.{◌≡◌, refl, ap₂, sym, subst}
use mathlib.Core.Bool.{Bool, true, false, not, ◌||◌, and-eq-true_iff}
use lib.Dec.{eqb}
use borrow.Author.Tests.{eqb-true, not-true}
use Rattle.base_lists.proofs.Choices.{by_test, no_way}
use Rattle.machine_state.specs.declared.State.{State}
use Rattle.machine_state.specs.State.{is_normal}
use Rattle.set_plan.specs.declared.Times.{Times}
use Rattle.machine_node.specs.declared.Node.{Node}
use Rattle.machine_node.specs.declared.Reply.{Reply}
use Rattle.machine_node.specs.Changes.{with_quiet, silent}
use Rattle.machine_node.specs.Sending.{in_normal, request_row}
use Rattle.machine_node.specs.Ticks.{tick_by, normal_by, tick_step}
use Rattle.machine_node.specs.Waking.{pulse_by}
use Rattle.bus_nodes.specs.declared.Message.{Message}
use Rattle.bus_nodes.specs.Pulses.{other_called, receive, receive_if}
use Rattle.bus_nodes.specs.Resting.{rests_by, rests, ignores_row, ignores, untouched}

normal_still : (sleeps : Bool) (t : Times) (clock : Bool) (delay : Option ℕ) (n : Node) → rests_by clock State.Normal delay n ≡ true → normal_by sleeps t clock delay n ≡ silent n
normal_still sleeps t false None n e = no_way e
normal_still sleeps t true None n e =
    let h = (and-eq-true_iff (not n.error) (eqb n.quiet 0)).0 e in
    ap₂ (λ ticks error. silent (with_quiet ticks error n)) (sym (eqb-true n.quiet 0 h.1)) (sym (not-true n.error h.0))
normal_still sleeps t clock (Some ticks) n e = no_way e

still_by : (sleeps : Bool) (t : Times) (clock : Bool) (state : State) (n : Node) → rests_by clock state n.delay n ≡ true → tick_by sleeps t clock state n ≡ silent n
still_by sleeps t clock State.Normal n e = normal_still sleeps t clock n.delay n e
still_by sleeps t clock State.Standby n e = no_way e
still_by sleeps t true State.Sleep n e = no_way e
still_by sleeps t false State.Sleep n e = refl

pub rests_still : (sleeps : Bool) (t : Times) (clock : Bool) (n : Node) → rests clock n ≡ true → tick_step sleeps t clock n ≡ silent n
rests_still sleeps t clock n e = still_by sleeps t clock n.state n e

pulse_still : (state : State) (n : Node) → is_normal state ≡ true → (pulse_by state n).node ≡ n
pulse_still State.Normal n e = refl
pulse_still State.Standby n e = no_way e
pulse_still State.Sleep n e = no_way e

in_normal_still : (state : State) (n : Node) (reply : Reply) → (is_normal state ≡ true → reply.node ≡ n) → (in_normal state n reply).node ≡ n
in_normal_still State.Normal n reply f = f refl
in_normal_still State.Standby n reply f = refl
in_normal_still State.Sleep n reply f = refl

row_still : (row : Option Row) (me : ℕ) (n : Node) → ignores_row row me n ≡ true → (request_row me row n).node ≡ n
row_still None me n e = refl
row_still (Some row) me n e =
    let h = (and-eq-true_iff n.heard (not (eqb row.publisher me))).0 e in
    rw (not-true (eqb row.publisher me) h.1, ← h.0)

ignores_still : (message : Message) (me : ℕ) (n : Node) → ignores message me n ≡ true → receive message me n ≡ n
ignores_still (Message.Pulse callers) me n e = by_test (λ (m : Node). m ≡ n) (other_called callers me) (λ q. pulse_still n.state n e) (λ q. refl)
ignores_still (Message.Request row) me n e =
    in_normal_still n.state n (request_row me row n) (λ q. row_still row me n (subst (λ (b : Bool). (not b || ignores_row row me n) ≡ true) q e))
ignores_still Message.SleepMessage me n e = in_normal_still n.state n _ (λ q. no_way (subst (λ (b : Bool). not b ≡ true) q e))

pub untouched_still : (reached : Bool) (message : Message) (me : ℕ) (n : Node) → untouched reached message me n ≡ true → receive_if reached message me n ≡ n
untouched_still true message me n e = ignores_still message me n e
untouched_still false message me n e = refl

pub touched_receives : (reached : Bool) (message : Message) (me : ℕ) (n : Node) → untouched reached message me n ≡ false → receive_if reached message me n ≡ receive message me n
touched_receives true message me n e = refl
touched_receives false message me n e = no_way (sym e)
