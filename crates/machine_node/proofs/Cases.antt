-- The walk through a node's steps, for whatever holds of each reply.
use Rattle.set_plan.specs.declared.Row.{Row}
use Rattle.std.specs.Prelude.{Option, Some, None}
use Prim.Native.Nat.{ℕ, ◌+◌, ◌*◌}
use mathlib.Core.Path.{◌≡◌, refl}
use mathlib.Core.Bool.{Bool, true, false, ◌&&◌}
use mathlib.Core.List.{List}
use lib.Dec.{ltb, eqb}
use borrow.Author.Tests.{eqb-true}
use Rattle.base_lists.proofs.Choices.{by_test}
use Rattle.machine_state.specs.declared.State.{State}
use Rattle.set_plan.specs.declared.Times.{Times}
use Rattle.machine_node.specs.declared.Node.{Node}
use Rattle.machine_node.specs.declared.Reply.{Reply}
use Rattle.machine_node.specs.Changes.{with_heard, with_delay, silent, calls, refuse}
use Rattle.machine_node.specs.Ticks.{awake_tick, normal_by, caller_tick, tick_by}
use Rattle.machine_node.specs.Waking.{pulse_by, call_anew, wake_ask_by, permission_step}
use Rattle.machine_node.specs.Sending.{in_normal, sleep_message_step, send_step, request_row, request_step, send_ask_row, send_ask_step}

-- n itself where these are its own state, caller and delay
abbrev pub split : Node → State → Bool → Option ℕ → Node
split n state caller delay =
    record {
      state = state;
      permission = n.permission;
      error = n.error;
      wake = n.wake;
      heard = n.heard;
      caller = caller;
      quiet = n.quiet;
      delay = delay;
      standby = n.standby;
      counts = n.counts;
    }

-- n but for what requests and sending change
abbrev pub message : Node → Bool → Bool → List ℕ → Node
message n wake heard counts =
    record {
      state = n.state;
      permission = n.permission;
      error = n.error;
      wake = wake;
      heard = heard;
      caller = n.caller;
      quiet = n.quiet;
      delay = n.delay;
      standby = n.standby;
      counts = counts;
    }

-- what holds of each reply without command, of a node with this permission, holds of a tick in Normal, a pulse and a permission ..
module _ (P : Reply → Type 0) (permitted : Bool) (quietly : (m : Node) → m.permission ≡ permitted → P (silent m)) where
  awake_any : (sleeps : Bool) (limit : ℕ) (clock : Bool) (n : Node) → n.permission ≡ permitted → P (awake_tick sleeps limit clock n)
  awake_any sleeps limit true n h = quietly _ h
  awake_any sleeps limit false n h = by_test P (ltb (n.quiet + 1) limit) (λ l. quietly _ h) (λ l. by_test P (sleeps && n.permission) (λ y. quietly _ h) (λ y. quietly _ h))

  pub normal_any : (sleeps : Bool) (t : Times) (clock : Bool) (delay : Option ℕ) (n : Node) → n.permission ≡ permitted → P (normal_by sleeps t clock delay n)
  normal_any sleeps t clock None n h = awake_any sleeps t.quiet clock n h
  normal_any sleeps t clock (Some ticks) n h =
      by_test P (ltb (ticks + 1) t.sleep) (λ l. awake_any sleeps t.quiet clock (with_delay (Some (ticks + 1)) n) h) (λ l. quietly _ h)

  pub pulse_any : (state : State) (n : Node) → n.permission ≡ permitted → P (pulse_by state n)
  pulse_any State.Normal n h = quietly _ h
  pulse_any State.Standby n h = quietly _ h
  pulse_any State.Sleep n h = quietly _ h

  pub permission_any : (sleeps : Bool) (n : Node) → P (permission_step sleeps permitted n)
  permission_any sleeps n = by_test P permitted (λ y. by_test P (sleeps && n.error) (λ e. quietly _ refl) (λ e. quietly _ refl)) (λ y. quietly _ refl)

  -- .. and, where it holds of each pulse too, of any tick and of an ask to wake
  module _ (calling : (m : Node) → m.permission ≡ permitted → P (calls m)) where
    caller_any : (recovery : ℕ) (n : Node) → n.permission ≡ permitted → P (caller_tick recovery n)
    caller_any recovery n h =
        by_test P (ltb (n.standby + 1) (2 * recovery))
        (λ l. by_test P (eqb (n.standby + 1) recovery) (λ e. calling _ h) (λ e. quietly _ h))
        (λ l. by_test P n.permission (λ y. quietly _ h) (λ y. quietly _ h))

    pub tick_any : (sleeps : Bool) (t : Times) (clock : Bool) (state : State) (n : Node) → n.permission ≡ permitted → P (tick_by sleeps t clock state n)
    tick_any sleeps t clock State.Normal n h = normal_any sleeps t clock n.delay n h
    tick_any sleeps t clock State.Standby n h =
        by_test P clock (λ k. quietly _ h)
        (λ k. by_test P n.caller (λ c. caller_any t.recovery n h) (λ c. by_test P (ltb (n.standby + 1) t.space) (λ l. quietly _ h) (λ l. quietly _ h)))
    tick_any sleeps t clock State.Sleep n h = by_test P clock (λ k. quietly _ h) (λ k. quietly _ h)

    call_anew_any : (n : Node) → n.permission ≡ permitted → P (call_anew n)
    call_anew_any n h = calling (call_anew n).node h

    pub wake_ask_any : (sleeps : Bool) (state : State) (caller : Bool) (n : Node) → n.permission ≡ permitted → P (wake_ask_by sleeps state caller n)
    wake_ask_any sleeps State.Normal caller n h = by_test P (sleeps && n.error) (λ e. call_anew_any n h) (λ e. quietly n h)
    wake_ask_any sleeps State.Standby true n h = quietly _ h
    wake_ask_any sleeps State.Standby false n h = calling _ h
    wake_ask_any sleeps State.Sleep caller n h = calling _ h

-- what holds where the node sends a row of its own
abbrev pub OnSending : (Reply → Type 0) → ℕ → Option Row → Node → Type 0
OnSending P me None m = Unit {0}
OnSending P me (Some row) m = row.publisher ≡ me → P (send_step row.reqid m)

pub any_row : (P : Reply → Type 0) (me : ℕ) (row : Option Row) (m : Node) → ((reqid : ℕ) → P (send_step reqid m)) → OnSending P me row m
any_row P me None m h = tt
any_row P me (Some row) m h = λ e. h row.reqid

-- what holds of each refusal holds of what needs Normal, and of a sleep message, a request and an ask to send where it holds of what they do
module _ (P : Reply → Type 0) (n : Node) (refused : (number : ℕ) → P (refuse n number)) where
  in_normal_lem : (state : State) (r : Reply) → P r → P (in_normal state n r)
  in_normal_lem State.Normal r h = h
  in_normal_lem State.Standby r h = refused 16
  in_normal_lem State.Sleep r h = refused 16

  pub sleep_message_any : (sleeps : Bool) → P (silent (with_delay (Some 0) n)) → P (sleep_message_step sleeps n)
  sleep_message_any sleeps h = in_normal_lem n.state _ (by_test P sleeps (λ e. h) (λ e. refused 25))

  request_row_lem : (me : ℕ) (row : Option Row) → P (silent (with_heard n)) → OnSending P me row (with_heard n) → P (request_row me row n)
  request_row_lem me None heard sends = refused 12
  request_row_lem me (Some row) heard sends = by_test P (eqb row.publisher me) (λ e. sends (eqb-true row.publisher me e)) (λ e. heard)

  pub request_any : (me : ℕ) (row : Option Row) → P (silent (with_heard n)) → OnSending P me row (with_heard n) → P (request_step me row n)
  request_any me row heard sends = in_normal_lem n.state (request_row me row n) (request_row_lem me row heard sends)

  send_ask_row_lem : (me : ℕ) (polled : Bool) (row : Option Row) → OnSending P me row n → P (send_ask_row me polled row n)
  send_ask_row_lem me polled None sends = refused 12
  send_ask_row_lem me polled (Some row) sends =
      by_test P (eqb row.publisher me)
      (λ e. by_test P polled
      (λ p. by_test P n.heard (λ h. sends (eqb-true row.publisher me e)) (λ h. refused 21))
      (λ p. sends (eqb-true row.publisher me e)))
      (λ e. refused 12)

  pub send_ask_any : (me : ℕ) (polled : Bool) (row : Option Row) → OnSending P me row n → P (send_ask_step me polled row n)
  send_ask_any me polled row sends = in_normal_lem n.state (send_ask_row me polled row n) (send_ask_row_lem me polled row sends)

-- whatever reads other fields than these is kept by a request and by an ask to send
module _ (P : Node → Type 0) (n : Node) (h : (wake heard : Bool) (counts : List ℕ) → P (message n wake heard counts)) where
  abbrev Kept : Reply → Type 0
  Kept r = P r.node

  same : (number : ℕ) → P n
  same number = h n.wake n.heard n.counts

  pub request_keeps : (me : ℕ) (row : Option Row) → P (request_step me row n).node
  request_keeps me row = request_any Kept n same me row (h _ _ _) (any_row Kept me row (with_heard n) (λ reqid. h _ _ _))

  pub send_ask_keeps : (me : ℕ) (polled : Bool) (row : Option Row) → P (send_ask_step me polled row n).node
  send_ask_keeps me polled row = send_ask_any Kept n same me polled row (any_row Kept me row n (λ reqid. h _ _ _))
