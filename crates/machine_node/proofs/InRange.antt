-- From a state in range, under an accepted plan, every step gives a state in range.
use Rattle.set_plan.specs.declared.Row.{Row}
use Rattle.std.specs.Prelude.{Option, Some, None}
use Prim.Native.Nat.{ℕ, ◌+◌, ◌*◌, ◌≤◌, ◌<◌}
use mathlib.Core.Path.{◌≡◌, refl, sym}
use mathlib.Core.Bool.{Bool, true, false, ◌&&◌, ◌||◌}
use mathlib.Core.List.{List}
use lib.Dec.{leb, ltb, eqb}
use lib.ListN.{get_or, set, replicate}
use native.Mathlib.Omega.{arith}
use borrow.Author.Tests.{lt-ltb, le-leb, leb-true, ltb-true}
use Rattle.base_lists.specs.Bounded.{if_else, all_to}
use Rattle.base_lists.proofs.AllAny.{and_l, and_r}
use Rattle.base_lists.proofs.Choices.{by_test, no_way}
use Rattle.machine_state.specs.declared.State.{State}
use Rattle.machine_state.specs.Counts.{counts_below}
use Rattle.machine_state.proofs.CountTables.{counts_set}
use Rattle.set_plan.specs.declared.Times.{Times}
use Rattle.set_plan.specs.declared.Plan.{Plan}
use Rattle.set_plan.specs.Profile.{sleeps}
use Rattle.set_plan.specs.Rules.{plan_refusal}
use Rattle.set_plan.specs.Answering.{is_polled}
use Rattle.set_plan.specs.Find.{find_row}
use Rattle.set_plan.proofs.Accepted.{accepted, TimesFit, times_fit}
use Rattle.machine_node.specs.declared.Node.{Node}
use Rattle.machine_node.specs.declared.Event.{Event}
use Rattle.machine_node.specs.declared.Reply.{Reply}
use Rattle.machine_node.specs.Changes.{asleep, power_on, to_standby, with_permission, with_wake, with_heard, with_delay, with_standby, next_count}
use Rattle.machine_node.specs.Range.{delay_right, standby_right, is_awake, in_range}
use Rattle.machine_node.specs.Ticks.{quiet_tick, awake_tick, normal_by, caller_tick, listener_tick, standby_tick, tick_by, tick_step}
use Rattle.machine_node.specs.Waking.{pulse_by, call_anew, wake_ask_by, wake_ask_step, permission_step}
use Rattle.machine_node.specs.Sending.{sleep_message_step, send_step, request_step, send_ask_step}
use Rattle.machine_node.specs.Step.{event_right, act, node_step}
use Rattle.machine_node.proofs.Cases.{any_row, sleep_message_any, request_any, send_ask_any}
use Rattle.machine_node.proofs.Awake.{Awake, step_awake}

-- what a state in range keeps, whether machines sleep or not
pub record Fits (t : Times) (n : Node) : Type 0 where
  pub quiet : n.quiet ≤ t.quiet
  pub delay : delay_right t.sleep n.delay ≡ true
  pub standby : standby_right t n.state n.caller n.standby ≡ true
  pub counts : counts_below 4 n.counts ≡ true

pub fits : (sleeps : Bool) (t : Times) (n : Node) → in_range sleeps t n ≡ true → Fits t n
unfolding in_range
fits sleeps t n e =
    let w = sleeps || is_awake n.state n.delay in
    let q = leb n.quiet t.quiet in
    let d = delay_right t.sleep n.delay in
    let s = standby_right t n.state n.caller n.standby in
    let c = counts_below 4 n.counts in
    let qds = and_l (w && q && d && s) c e in
    let qd = and_l (w && q && d) s qds in
    let wq = and_l (w && q) d qd in
    record { quiet = leb-true _ _ (and_r w q wq); delay = and_r (w && q) d qd; standby = and_r (w && q && d) s qds; counts = and_r (w && q && d && s) c e }

-- and where they do not
pub awake : (t : Times) (n : Node) → in_range false t n ≡ true → Awake n
unfolding in_range
awake t n e =
    let w = is_awake n.state n.delay in
    let q = leb n.quiet t.quiet in
    let d = delay_right t.sleep n.delay in
    let s = standby_right t n.state n.caller n.standby in
    let c = counts_below 4 n.counts in
    and_l w q (and_l (w && q) d (and_l (w && q && d) s (and_l (w && q && d && s) c e)))

pub in_range_lem : (sleeps : Bool) (t : Times) (n : Node) → (sleeps ≡ false → Awake n) → Fits t n → in_range sleeps t n ≡ true
unfolding in_range
in_range_lem true t n a f = rw (le-leb _ _ f.quiet, f.delay, f.standby, f.counts)
in_range_lem false t n a f = rw (a refl, le-leb _ _ f.quiet, f.delay, f.standby, f.counts)

no_counts_lem : counts_below 4 (replicate 128 0) ≡ true
unfolding counts_below all_to
no_counts_lem = refl

-- the counts of a node after it sent a ReqId
sent_counts : (counts : List ℕ) (reqid : ℕ) → counts_below 4 counts ≡ true → counts_below 4 (set counts reqid (next_count (get_or counts reqid 0))) ≡ true
sent_counts counts reqid e =
    counts_set 4 counts reqid (next_count (get_or counts reqid 0)) e
    (by_test (λ x. x < 4) (ltb (get_or counts reqid 0) 3) (λ l. omega (arith, ltb-true (get_or counts reqid 0) 3 l)) (λ l. omega arith))

module _ (t : Times) where
  pub asleep_fits : (permitted : Bool) → Fits t (asleep permitted)
  asleep_fits permitted = record { quiet = omega arith; delay = refl; standby = refl; counts = no_counts_lem }

  pub started_fits : Fits t (power_on false)
  started_fits = record { quiet = omega arith; delay = refl; standby = refl; counts = no_counts_lem }

  module _ (a : TimesFit t) where
    standby_fits : (n : Node) (caller : Bool) → Fits t n → Fits t (to_standby n caller)
    standby_fits n caller f = record { quiet = f.quiet; delay = f.delay; standby = zero_fits caller; counts = f.counts }
      where
        zero_fits : (c : Bool) → standby_right t State.Standby c 0 ≡ true
        zero_fits true = le-leb 0 (2 * t.recovery) (omega arith)
        zero_fits false = lt-ltb 0 t.space (omega (arith, a.space.least))

    quiet_fits : (sleeps : Bool) (n : Node) → Fits t n → Fits t (quiet_tick sleeps t.quiet n).node
    quiet_fits sleeps n f =
        by_test (λ (r : Reply). Fits t r.node) (ltb (n.quiet + 1) t.quiet)
        (λ l. record { quiet = omega (arith, ltb-true (n.quiet + 1) t.quiet l); delay = f.delay; standby = f.standby; counts = f.counts })
        (λ l. by_test (λ (r : Reply). Fits t r.node) (sleeps && n.permission)
        (λ y. asleep_fits n.permission)
        (λ y. record { quiet = omega arith; delay = f.delay; standby = f.standby; counts = f.counts }))

    awake_fits : (sleeps clock : Bool) (n : Node) → Fits t n → Fits t (awake_tick sleeps t.quiet clock n).node
    awake_fits sleeps true n f = record { quiet = omega arith; delay = f.delay; standby = f.standby; counts = f.counts }
    awake_fits sleeps false n f = quiet_fits sleeps n f

    normal_fits : (sleeps clock : Bool) (d : Option ℕ) (n : Node) → Fits t n → Fits t (normal_by sleeps t clock d n).node
    normal_fits sleeps clock None n f = awake_fits sleeps clock n f
    normal_fits sleeps clock (Some ticks) n f =
        by_test (λ (r : Reply). Fits t r.node) (ltb (ticks + 1) t.sleep)
        (λ l. awake_fits sleeps clock (with_delay (Some (ticks + 1)) n) (record { quiet = f.quiet; delay = l; standby = f.standby; counts = f.counts }))
        (λ l. asleep_fits n.permission)

    -- the count of a node in Standby goes up
    module _ (n : Node) (is : n.state ≡ State.Standby) (f : Fits t n) where
      counted : (ticks : ℕ) (error : Bool) → if_else n.caller (leb ticks (2 * t.recovery)) (ltb ticks t.space) ≡ true → Fits t (with_standby ticks error n)
      counted ticks error e = record { quiet = f.quiet; delay = f.delay; standby = rw is e; counts = f.counts }

      caller_fits : n.caller ≡ true → Fits t (caller_tick t.recovery n).node
      caller_fits c =
          by_test (λ (r : Reply). Fits t r.node) (ltb (n.standby + 1) (2 * t.recovery))
          (λ l. by_test (λ (r : Reply). Fits t r.node) (eqb (n.standby + 1) t.recovery) (λ q. up l) (λ q. up l))
          (λ l. by_test (λ (r : Reply). Fits t r.node) n.permission
          (λ y. asleep_fits n.permission)
          (λ y. counted (2 * t.recovery) true (rw (c, le-leb (2 * t.recovery) (2 * t.recovery) (omega arith)))))
        where
          up : ltb (n.standby + 1) (2 * t.recovery) ≡ true → Fits t (with_standby (n.standby + 1) n.error n)
          up l = counted (n.standby + 1) n.error (rw (c, le-leb (n.standby + 1) (2 * t.recovery) (omega (arith, ltb-true (n.standby + 1) (2 * t.recovery) l))))

      listener_fits : n.caller ≡ false → Fits t (listener_tick t.space n).node
      listener_fits c =
          by_test (λ (r : Reply). Fits t r.node) (ltb (n.standby + 1) t.space)
          (λ l. counted (n.standby + 1) n.error (rw (c, l)))
          (λ l. asleep_fits n.permission)

      standby_tick_fits : Fits t (standby_tick t n).node
      standby_tick_fits = by_test (λ (r : Reply). Fits t r.node) n.caller caller_fits listener_fits

    pub tick_fits : (sleeps clock : Bool) (n : Node) → Fits t n → Fits t (tick_step sleeps t clock n).node
    tick_fits sleeps clock n f = go n.state refl
      where
        go : (s : State) → n.state ≡ s → Fits t (tick_by sleeps t clock s n).node
        go State.Normal e = normal_fits sleeps clock n.delay n f
        go State.Standby e =
            by_test (λ (r : Reply). Fits t r.node) clock
            (λ k. record { quiet = omega arith; delay = refl; standby = refl; counts = no_counts_lem })
            (λ k. standby_tick_fits n e f)
        go State.Sleep e = by_test (λ (r : Reply). Fits t r.node) clock (λ k. standby_fits n false f) (λ k. f)

    pub pulse_fits : (s : State) (n : Node) → Fits t n → Fits t (pulse_by s n).node
    pulse_fits State.Normal n f = f
    pulse_fits State.Standby n f = f
    pulse_fits State.Sleep n f = standby_fits n false f

    call_anew_fits : (n : Node) → Fits t n → Fits t (call_anew n).node
    call_anew_fits n f = record { quiet = omega arith; delay = refl; standby = le-leb 0 (2 * t.recovery) (omega arith); counts = f.counts }

    pub wake_ask_fits : (sleeps : Bool) (n : Node) → Fits t n → Fits t (wake_ask_step sleeps n).node
    wake_ask_fits sleeps n f = go n.state n.caller (with_wake n) (record { quiet = f.quiet; delay = f.delay; standby = f.standby; counts = f.counts })
      where
        go : (s : State) (caller : Bool) (n : Node) → Fits t n → Fits t (wake_ask_by sleeps s caller n).node
        go State.Normal caller n f = by_test (λ (r : Reply). Fits t r.node) (sleeps && n.error) (λ e. call_anew_fits n f) (λ e. f)
        go State.Standby true n f = f
        go State.Standby false n f = standby_fits n true f
        go State.Sleep caller n f = standby_fits n true f

    pub permission_fits : (sleeps permitted : Bool) (n : Node) → Fits t n → Fits t (permission_step sleeps permitted n).node
    permission_fits sleeps permitted n f =
        by_test (λ (r : Reply). Fits t r.node) permitted
        (λ y. by_test (λ (r : Reply). Fits t r.node) (sleeps && n.error) (λ e. asleep_fits permitted) (λ e. set_fits))
        (λ y. set_fits)
      where
        set_fits : Fits t (with_permission permitted n)
        set_fits = record { quiet = f.quiet; delay = f.delay; standby = f.standby; counts = f.counts }

    pub sleep_message_fits : (sleeps : Bool) (n : Node) → Fits t n → Fits t (sleep_message_step sleeps n).node
    sleep_message_fits sleeps n f =
        sleep_message_any (λ (r : Reply). Fits t r.node) n (λ number. f) sleeps
        (record { quiet = f.quiet; delay = lt-ltb 0 t.sleep (omega (arith, a.sleep.least)); standby = f.standby; counts = f.counts })

    heard_fits : (n : Node) → Fits t n → Fits t (with_heard n)
    heard_fits n f = record { quiet = f.quiet; delay = f.delay; standby = f.standby; counts = f.counts }

    send_fits : (reqid : ℕ) (n : Node) → Fits t n → Fits t (send_step reqid n).node
    send_fits reqid n f = record { quiet = f.quiet; delay = f.delay; standby = f.standby; counts = sent_counts n.counts reqid f.counts }

    pub request_fits : (me : ℕ) (row : Option Row) (n : Node) → Fits t n → Fits t (request_step me row n).node
    request_fits me row n f =
        request_any (λ (r : Reply). Fits t r.node) n (λ number. f) me row (heard_fits n f)
        (any_row (λ (r : Reply). Fits t r.node) me row (with_heard n) (λ reqid. send_fits reqid (with_heard n) (heard_fits n f)))

    pub send_ask_fits : (me : ℕ) (polled : Bool) (row : Option Row) (n : Node) → Fits t n → Fits t (send_ask_step me polled row n).node
    send_ask_fits me polled row n f =
        send_ask_any (λ (r : Reply). Fits t r.node) n (λ number. f) me polled row (any_row (λ (r : Reply). Fits t r.node) me row n (λ reqid. send_fits reqid n f))

-- what an event does keeps the range
pub act_fits : (p : Plan) → plan_refusal p ≡ 0 → (me : ℕ) (n : Node) (e : Event) → Fits p.times n → Fits p.times (act p me n e).node
act_fits p ok me n e f = go e
  where
    a : TimesFit p.times
    a = times_fit p.times (accepted p ok).times

    go : (e : Event) → Fits p.times (act p me n e).node
    go (Event.Tick clock) = tick_fits p.times a (sleeps p) clock n f
    go Event.Pulse = pulse_fits p.times a n.state n f
    go Event.WakeAsk = wake_ask_fits p.times a (sleeps p) n f
    go (Event.Permission permitted) = permission_fits p.times a (sleeps p) permitted n f
    go Event.SleepMessage = sleep_message_fits p.times a (sleeps p) n f
    go (Event.Request reqid) = request_fits p.times a me (find_row p reqid) n f
    go (Event.SendAsk reqid) = send_ask_fits p.times a me (is_polled p me) (find_row p reqid) n f

-- and so does every step
pub range_kept : (p : Plan) → plan_refusal p ≡ 0 → (me : ℕ) (n : Node) (e : Event) → in_range (sleeps p) p.times n ≡ true
    → in_range (sleeps p) p.times (node_step p me n e).node ≡ true
range_kept p ok me n e r = in_range_lem (sleeps p) p.times _ stays (go (fits (sleeps p) p.times n r))
  where
    stays : sleeps p ≡ false → Awake (node_step p me n e).node
    stays q = step_awake p me n e q (awake p.times n (rw q at r))

    go : Fits p.times n → Fits p.times (node_step p me n e).node
    go f =
        by_test (λ (r : Reply). Fits p.times r.node) (eqb (plan_refusal p) 0)
        (λ q. by_test (λ (r : Reply). Fits p.times r.node) (ltb me p.nodecount)
        (λ q. by_test (λ (r : Reply). Fits p.times r.node) (in_range (sleeps p) p.times n)
        (λ q. by_test (λ (r : Reply). Fits p.times r.node) (event_right e) (λ q. act_fits p ok me n e f) (λ q. f))
        (λ q. f))
        (λ q. f))
        (λ q. f)

pub power_on_fits : (sleeps : Bool) (t : Times) → in_range sleeps t (power_on sleeps) ≡ true
power_on_fits true t = in_range_lem true t (power_on true) (λ e. no_way (sym e)) (asleep_fits t false)
power_on_fits false t = in_range_lem false t (power_on false) (λ e. refl) (started_fits t)
