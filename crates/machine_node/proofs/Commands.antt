-- What a command of a node tells of it: when it calls, and what it sends.
use Rattle.std.specs.Prelude.{Option, Some, None}
use Prim.Native.Nat.{ℕ, suc, ◌+◌, ◌*◌, ◌≤◌, ◌<◌}
use mathlib.Core.Path.{◌≡◌, refl, ap}
use mathlib.Core.Bool.{Bool, true, false}
use mathlib.Core.List.{List}
use lib.Dec.{ltb, eqb}
use lib.ListN.{get_or}
use native.Mathlib.Omega.{arith}
use borrow.Author.Tests.{eqb-true}
use Rattle.base_lists.proofs.Choices.{by_test}
use Rattle.machine_state.specs.declared.State.{State}
use Rattle.machine_state.proofs.CountTables.{count_at}
use Rattle.set_plan.specs.declared.Times.{Times}
use Rattle.set_plan.specs.declared.Row.{Row}
use Rattle.machine_node.specs.declared.Command.{Command}
use Rattle.machine_node.specs.declared.Node.{Node}
use Rattle.machine_node.specs.declared.Reply.{Reply}
use Rattle.machine_node.specs.Changes.{with_heard}
use Rattle.machine_node.specs.Ticks.{standby_tick, tick_step}
use Rattle.machine_node.specs.Sending.{request_step, send_ask_step}
use Rattle.machine_node.proofs.Cases.{split, normal_any, OnSending, request_any, send_ask_any}
use Rattle.machine_node.proofs.InRange.{Fits}
use Rattle.machine_node.proofs.ErrorShows.{ErrorShows, unshown}
use Rattle.machine_node.proofs.WithoutClock.{ClockOff}

-- a command tells of its node what a pulse means, or its permission, its wake bit and what the count means
abbrev pub CommandMeans : Node → Type 0 → (ℕ → Type 0) → Command → Type 0
CommandMeans n Pulse Count Command.Nothing = Unit {0}
CommandMeans n Pulse Count Command.Pulse = Pulse
CommandMeans n Pulse Count (Command.Send permission wake count) = (permission ≡ n.permission) × (wake ≡ n.wake) × Count count

-- an answer is of the node's own row, with that row's count
abbrev pub own_row : ℕ → Option Row → Node → ℕ → Type 0
own_row me None n count = ⊥
own_row me (Some row) n count = (row.publisher ≡ me) × (count ≡ get_or n.counts row.reqid 0)

-- a node that sends its own row
send_means : (n m : Node) (me : ℕ) (row : Option Row) → m.permission ≡ n.permission → m.wake ≡ n.wake → m.counts ≡ n.counts
    → OnSending (λ (r : Reply). CommandMeans n ⊥ (own_row me row n) r.command) me row m
send_means n m me None p w c = tt
send_means n m me (Some row) p w c = λ e. (p, w, (e, ap (λ (counts : List ℕ). get_or counts row.reqid 0) c))

-- a caller that calls again shows no error, so its count is that of the ticks at least
standby_means : (t : Times) (k : ℕ) (n : Node) (caller : Bool) → ErrorShows t (split n State.Standby caller n.delay)
    → ClockOff t k (split n State.Standby caller n.delay) → CommandMeans n ((false ≡ false) × (suc k ≤ t.recovery)) (λ count. ⊥) (standby_tick t (split n State.Standby caller n.delay)).command
standby_means t k n true h o =
    by_test Means (ltb (n.standby + 1) (2 * t.recovery))
    (λ l. by_test Means (eqb (n.standby + 1) t.recovery) (λ q. (refl, early (eqb-true (n.standby + 1) t.recovery q))) (λ q. tt))
    (λ l. by_test Means n.permission (λ y. tt) (λ y. tt))
  where
    Means : Reply → Type 0
    Means r = CommandMeans n ((false ≡ false) × (suc k ≤ t.recovery)) (λ count. ⊥) r.command

    early : n.standby + 1 ≡ t.recovery → suc k ≤ t.recovery
    early q = let g = (o (unshown n.error (λ e. let z = h e in absurd (omega arith)))).0 in omega arith
standby_means t k n false h o =
    by_test (λ (r : Reply). CommandMeans n ((false ≡ false) × (suc k ≤ t.recovery)) (λ count. ⊥) r.command) (ltb (n.standby + 1) t.space) (λ l. tt) (λ l. tt)

-- a tick's pulse is a caller's second, in the first R of the ticks without clock
pub tick_means : (sleeps : Bool) (t : Times) (k : ℕ) (clock : Bool) (n : Node) (state : State) → ErrorShows t (split n state n.caller n.delay)
    → ClockOff t k (split n state n.caller n.delay)
    → CommandMeans n ((clock ≡ false) × (suc k ≤ t.recovery)) (λ count. ⊥) (tick_step sleeps t clock (split n state n.caller n.delay)).command
tick_means sleeps t k clock n State.Normal h o =
    normal_any (λ (r : Reply). CommandMeans n ((clock ≡ false) × (suc k ≤ t.recovery)) (λ count. ⊥) r.command) n.permission (λ m e. tt) sleeps t clock n.delay
    (split n State.Normal n.caller n.delay) refl
tick_means sleeps t k true n State.Standby h o = tt
tick_means sleeps t k false n State.Standby h o = standby_means t k n n.caller h o
tick_means sleeps t k true n State.Sleep h o = tt
tick_means sleeps t k false n State.Sleep h o = tt

pub request_means : (me : ℕ) (row : Option Row) (n : Node) → CommandMeans n ⊥ (own_row me row n) (request_step me row n).command
request_means me row n =
    request_any (λ (r : Reply). CommandMeans n ⊥ (own_row me row n) r.command) n (λ number. tt) me row tt (send_means n (with_heard n) me row refl refl refl)

pub send_ask_means : (me : ℕ) (polled : Bool) (row : Option Row) (n : Node) → CommandMeans n ⊥ (own_row me row n) (send_ask_step me polled row n).command
send_ask_means me polled row n =
    send_ask_any (λ (r : Reply). CommandMeans n ⊥ (own_row me row n) r.command) n (λ number. tt) me polled row (send_means n n me row refl refl refl)

-- the count of an answer lies in its range
pub own_count : (t : Times) (me count : ℕ) (row : Row) (n : Node) → Fits t n → row.reqid < 128 → own_row me (Some row) n count → count < 4
own_count t me count row n f l own = omega (arith, own.1, count_at 4 n.counts row.reqid f.counts l)
