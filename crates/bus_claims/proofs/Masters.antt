-- The master of a run: what it holds and has under way is as the past tells, after every move.
use Prim.Native.Nat.{ℕ, ◌≤◌, ◌<◌}
use mathlib.Core.Path.{◌≡◌, refl, sym, ap, subst, ◌∙◌}
use mathlib.Core.Bool.{Bool, true, false, ◌&&◌, or-false}
use mathlib.Core.List.{List, [], ◌∷◌, ◌++◌}
use native.Mathlib.Omega.{arith}
use borrow.Author.Tests.{ne_eqb}
use Rattle.base_lists.specs.Bounded.{if_else}
use Rattle.base_lists.proofs.Choices.{no_way}
use Rattle.machine_state.specs.State.{is_normal}
use Rattle.set_plan.specs.declared.Plan.{Plan}
use Rattle.set_plan.specs.declared.Row.{Row}
use Rattle.set_plan.specs.Profile.{sleeps}
use Rattle.set_plan.specs.Rules.{plan_refusal}
use Rattle.machine_master.specs.declared.Answer.{Answer}
use Rattle.machine_master.specs.declared.Event.{Event}
use Rattle.machine_master.specs.declared.Master.{Master}
use Rattle.machine_master.specs.declared.Reply.{Reply}
use Rattle.machine_master.specs.Answers.{is_whole, row_step}
use Rattle.machine_master.specs.Changes as MasterChanges
use Rattle.machine_master.specs.Clock.{clock_on, is_off}
use Rattle.machine_master.specs.Sleeping.{sleep_ask_step, send_result_step}
use Rattle.machine_master.specs.Ticks.{tick_step}
use Rattle.machine_master.specs.Waking.{wake_up_step, permission_step}
use Rattle.machine_master.proofs.InRange.{Fits, fits, power_on_fits, act_fits}
use Rattle.machine_master.proofs.InRun.{InRun, run-power_on, run_still, run_wake_up, run_tick, run_stops, run-result, run_ask, run_permission, run-answer, run-sending}
use Rattle.bus.specs.Messages.{sending_by}
use Rattle.bus.specs.declared.Passed.{Passed}
use Rattle.bus.specs.Passed.{ticked, asked, master_permits, node_permits, answered, sending, slept, nothing}
use Rattle.bus_claims.specs.Claims.{Given, Agreed, StopsAgreed}
use Rattle.bus_history.specs.Terms.{none, master_said, master_permitted, node_permitted, is_answer_of, is_damaged, is_refusing, truly_given, is_wake_up, is_sending, is_stop, ticks_in}
use Rattle.bus_claims.proofs.Ticks.{plus}
use Rattle.bus_claims.proofs.Nodes.{few}
use Rattle.bus_claims.proofs.MasterShown as History
use Rattle.bus_claims.proofs.MasterShown.{Quiet, Shown}

-- node i's last answer, k ticks ago
record Recent (p : Plan) (i k : ℕ) (past : List Passed) : Type 0 where
  since : List Passed
  row : Row
  answer : Answer
  before : List Passed
  split : past ≡ since ++ (answered row answer ∷ before)
  publisher : row.publisher ≡ i
  last : none (is_answer_of i) since ≡ true
  whole : is_whole row answer ≡ true
  truly : truly_given i answer before ≡ true
  age : ticks_in since ≡ k
  unwoken : none is_wake_up since ≡ true

-- one move later
recent_later : (p : Plan) (i k : ℕ) (past : List Passed) (e : Passed) → is_answer_of i e ≡ false → is_wake_up e ≡ false → Recent p i k past → Recent p i (plus e k) (e ∷ past)
recent_later p i k past e a w r =
    record {
      since = e ∷ r.since;
      row = r.row;
      answer = r.answer;
      before = r.before;
      split = ap (λ (l : List Passed). e ∷ l) r.split;
      publisher = r.publisher;
      last = rw a r.last;
      whole = r.whole;
      truly = r.truly;
      age = ap (plus e) r.age;
      unwoken = rw w r.unwoken;
    }

given_recent : (p : Plan) (i k : ℕ) (past : List Passed) → k ≤ p.times.window → Recent p i k past → Given p i past
given_recent p i k past l r =
    record {
      since = r.since;
      row = r.row;
      answer = r.answer;
      before = r.before;
      split = r.split;
      publisher = r.publisher;
      last = r.last;
      whole = r.whole;
      truly = r.truly;
      window = omega (arith, r.age);
      unwoken = r.unwoken;
    }

agreed_later : (p : Plan) (past : List Passed) (e : Passed) → is_sending e ≡ false → is_wake_up e ≡ false → is_refusing e ≡ false → is_damaged e ≡ false → Agreed p past → Agreed p (e ∷ past)
agreed_later p past e s w r d a =
    record {
      since = e ∷ a.since;
      before = a.before;
      split = ap (λ (l : List Passed). e ∷ l) a.split;
      last = rw s a.last;
      master = a.master;
      each = a.each;
      unwoken = rw w a.unwoken;
      unrefused = rw r a.unrefused;
      undamaged = rw d a.undamaged;
    }

-- (a), stop by stop
Stops : Plan → List Passed → Type 0
Stops p [] = Unit {0}
Stops p (e ∷ past) = (is_stop e ≡ true → Agreed p past) × Stops p past

stops_split : (p : Plan) (since before : List Passed) (e : Passed) → Stops p (since ++ (e ∷ before)) → is_stop e ≡ true → Agreed p before
unfolding Stops
stops_split p [] before e s h = s.0 h
stops_split p (x ∷ since) before e s h = stops_split p since before e s.1 h

pub record MasterByPast (p : Plan) (m : Master) (past : List Passed) : Type 0 where
  run : InRun p.nodecount p.times.window (master_permitted past) (λ i k. Recent p i k past) (Agreed p past) m
  pub fits : Fits p.nodecount p.times m
  stops : Stops p past
  -- where machines sleep
  pub shown : sleeps p ≡ true → Shown p m past

pub own_word : (p : Plan) (m : Master) (past : List Passed) → MasterByPast p m past → m.permission ≡ master_permitted past
own_word p m past v = v.run.permission

pub stops_agreed : (p : Plan) (m : Master) (past : List Passed) → MasterByPast p m past → StopsAgreed p past
stops_agreed p m past v since before e q h = stops_split p since before e (subst (Stops p) q v.stops) h

-- a move that is nothing to the master
record Neutral (e : Passed) : Type 0 where
  unsent : is_sending e ≡ false
  unwoken : is_wake_up e ≡ false
  unrefused : is_refusing e ≡ false
  undamaged : is_damaged e ≡ false
  unanswered : (i : ℕ) → is_answer_of i e ≡ false
  untimed : (k : ℕ) → plus e k ≡ k
  unstopped : is_stop e ≡ false
  unsaid : (b : Bool) → master_said e.permission b ≡ b
  quiet : Quiet e

neutral_nothing : Neutral nothing
neutral_nothing = record { unsent = refl; unwoken = refl; unrefused = refl; undamaged = refl; unanswered = λ i. refl; untimed = λ k. refl; unstopped = refl; unsaid = λ b. refl; quiet = record { unsent = refl; uncalled = refl; unresulted = refl; unreached = refl; unstopped = refl; unwoken = refl; unanswered = λ i. refl; untimed = refl } }

neutral_permits : (node : ℕ) (word : Bool) → Neutral (node_permits node word)
neutral_permits node word =
    record { unsent = refl; unwoken = refl; unrefused = refl; undamaged = refl; unanswered = λ i. refl; untimed = λ k. refl; unstopped = refl; unsaid = λ b. refl; quiet = record { unsent = refl; uncalled = refl; unresulted = refl; unreached = refl; unstopped = refl; unwoken = refl; unanswered = λ i. refl; untimed = refl } }

neutral_asked : Neutral (asked false)
neutral_asked = record { unsent = refl; unwoken = refl; unrefused = refl; undamaged = refl; unanswered = λ i. refl; untimed = λ k. refl; unstopped = refl; unsaid = λ b. refl; quiet = record { unsent = refl; uncalled = refl; unresulted = refl; unreached = refl; unstopped = refl; unwoken = refl; unanswered = λ i. refl; untimed = refl } }

module _ (p : Plan) (ok : plan_refusal p ≡ 0) (past : List Passed) where
  -- `Given` and `Agreed` of a run's master, now and a move later
  abbrev Now : ℕ → ℕ → Type 0
  Now i k = Recent p i k past

  abbrev Next : Passed → ℕ → ℕ → Type 0
  Next e i k = Recent p i k (e ∷ past)

  keep : (e : Passed) → ((i : ℕ) → is_answer_of i e ≡ false) → is_wake_up e ≡ false → ((k : ℕ) → plus e k ≡ k) → (i k : ℕ) → i < p.nodecount → Now i k → Next e i k
  keep e a w z i k l r = subst (λ (j : ℕ). Recent p i j (e ∷ past)) (z k) (recent_later p i k past e (a i) w r)

  still : (e : Passed) (m : Master) → Neutral e → MasterByPast p m past → MasterByPast p m (e ∷ past)
  unfolding Stops
  still e m z v =
      record {
        run =
            subst (λ (b : Bool). InRun p.nodecount p.times.window b (Next e) (Agreed p (e ∷ past)) m) (sym (z.unsaid (master_permitted past)))
            (run_still p.nodecount (few p ok) p.times Now (Next e) (Agreed p past) (Agreed p (e ∷ past)) (master_permitted past) m
            (keep e z.unanswered z.unwoken z.untimed) (agreed_later p past e z.unsent z.unwoken z.unrefused z.undamaged) v.run);
        fits = v.fits;
        stops = (λ h. no_way (sym z.unstopped ∙ h), v.stops);
        shown = λ s. History.still p (few p ok) past e m m z.quiet refl refl refl refl (v.shown s);
      }

  pub nothing_by_past : (m : Master) → MasterByPast p m past → MasterByPast p m (nothing ∷ past)
  nothing_by_past m v = still nothing m neutral_nothing v

  pub node_permits_by_past : (node : ℕ) (word : Bool) (m : Master) → MasterByPast p m past → MasterByPast p m (node_permits node word ∷ past)
  node_permits_by_past node word m v = still (node_permits node word) m (neutral_permits node word) v

  -- a wake-up that reached the master, or none
  pub asked_by_past : (wakes : Bool) (m : Master) → MasterByPast p m past → MasterByPast p (if_else wakes (wake_up_step m).master m) (asked wakes ∷ past)
  unfolding Stops
  asked_by_past false m v = still (asked false) m neutral_asked v
  asked_by_past true m v =
      record {
        run = run_wake_up p.nodecount (few p ok) p.times Now (Next (asked true)) (Agreed p past) (Agreed p (asked true ∷ past)) (master_permitted past) m v.run;
        fits = act_fits p ok m Event.WakeAsk refl v.fits;
        stops = (λ h. no_way h, v.stops);
        shown = λ s. History.wake_up p (few p ok) past m v.fits (v.shown s);
      }

  pub permission_by_past : (word : Bool) (m : Master) → MasterByPast p m past → MasterByPast p (permission_step word m).master (master_permits word ∷ past)
  unfolding Stops
  permission_by_past word m v =
      record {
        run =
            run_permission p.nodecount (few p ok) p.times Now (Next (master_permits word)) (Agreed p past) (Agreed p (master_permits word ∷ past)) (master_permitted past) word m
            (keep (master_permits word) (λ i. refl) refl (λ k. refl)) (agreed_later p past (master_permits word) refl refl refl refl) v.run;
        fits = act_fits p ok m (Event.Permission word) refl v.fits;
        stops = (λ h. no_way h, v.stops);
        shown = λ s. History.permission p (few p ok) past word m (v.shown s);
      }

  pub result_by_past : (sent : Bool) (reached : List Bool) (m : Master) → (send_result_step sent m).refusal ≡ 0 → MasterByPast p m past → MasterByPast p (send_result_step sent m).master (slept sent reached ∷ past)
  unfolding Stops
  result_by_past sent reached m z v =
      record {
        run =
            run-result p.nodecount (few p ok) p.times Now (Next (slept sent reached)) (Agreed p past) (Agreed p (slept sent reached ∷ past)) (master_permitted past) m sent
            (keep (slept sent reached) (λ i. refl) refl (λ k. refl)) (agreed_later p past (slept sent reached) refl refl refl refl) v.run;
        fits = act_fits p ok m (Event.SendResult sent) refl v.fits;
        stops = (λ h. no_way h, v.stops);
        shown = λ s. History.result p (few p ok) past sent reached m z (v.shown s);
      }

  -- a tick, before its pulses
  ticks : (m : Master) → MasterByPast p m past → MasterByPast p (tick_step p.times m).master (ticked (clock_on (tick_step p.times m).master) (is_off (tick_step p.times m).command) false ∷ past)
  unfolding Stops
  ticks m v =
      let e = ticked (clock_on (tick_step p.times m).master) (is_off (tick_step p.times m).command) false in
      record {
        run =
            run_tick p.nodecount (few p ok) p.times Now (Next e) (Agreed p past) (Agreed p (e ∷ past)) (master_permitted past) m
            (λ i k l r. recent_later p i k past e refl refl r) (agreed_later p past e refl refl refl refl) v.run;
        fits = act_fits p ok m Event.Tick refl v.fits;
        stops = (run_stops p.nodecount (few p ok) p.times Now Now (Agreed p past) (Agreed p past) (master_permitted past) m v.run, v.stops);
        shown = λ s. History.tick p (few p ok) past m v.fits (λ off. (v.run.outside off).0) (v.shown s);
      }

  -- and with them
  woken : (clock stop pulse : Bool) (m : Master) → MasterByPast p m (ticked clock stop false ∷ past) → MasterByPast p (if_else pulse (wake_up_step m).master m) (ticked clock stop pulse ∷ past)
  unfolding Stops
  woken clock stop false m v = v
  woken clock stop true m v =
      record {
        run =
            run_wake_up p.nodecount (few p ok) p.times (Next (ticked clock stop false)) (Next (ticked clock stop true)) (Agreed p (ticked clock stop false ∷ past))
            (Agreed p (ticked clock stop true ∷ past)) (master_permitted past) m v.run;
        fits = act_fits p ok m Event.Pulse refl v.fits;
        stops = v.stops;
        shown = λ s. History.pulse p (few p ok) past clock stop m v.fits (v.shown s);
      }

  pub tick_by_past : (pulse : Bool) (m : Master) → MasterByPast p m past
      → MasterByPast p (if_else pulse (wake_up_step (tick_step p.times m).master).master (tick_step p.times m).master)
      (ticked (clock_on (tick_step p.times m).master) (is_off (tick_step p.times m).command) pulse ∷ past)
  tick_by_past pulse m v =
      woken (clock_on (tick_step p.times m).master) (is_off (tick_step p.times m).command) pulse (tick_step p.times m).master (ticks m v)

  -- a sleep ask: refused, or a sending to which all agree
  pub ask_by_past : (m : Master) → MasterByPast p m past → MasterByPast p (sleep_ask_step (sleeps p) p.nodecount m).master (sending_by (sleep_ask_step (sleeps p) p.nodecount m).command ∷ past)
  unfolding Stops
  ask_by_past m v =
      run_ask p.nodecount (few p ok) p.times Now Now (Agreed p past) (Agreed p past) (master_permitted past)
      (λ (r : Reply). Fits p.nodecount p.times r.master → MasterByPast p r.master (sending_by r.command ∷ past)) m
      (λ number node f. nothing_by_past m v)
      (λ on own each f. record {
        run =
            run-sending p.nodecount p.times.window (master_permitted past) (Next sending) (Agreed p (sending ∷ past)) (Agreed p (sending ∷ past)) m on (sent own each)
            (run_still p.nodecount (few p ok) p.times Now (Next sending) (Agreed p past) (Agreed p (sending ∷ past)) (master_permitted past) m
            (keep sending (λ i. refl) refl (λ k. refl)) (λ a. sent own each) v.run);
        fits = f;
        stops = (λ h. no_way h, v.stops);
        shown = λ s. History.sends p (few p ok) past m (v.shown s);
      })
      (sleeps p) v.run (act_fits p ok m Event.SleepAsk refl v.fits)
    where
      sent : master_permitted past ≡ true → ((i : ℕ) → i < p.nodecount → (k : ℕ) × (k ≤ p.times.window) × Recent p i k past) → Agreed p (sending ∷ past)
      sent own each =
          record {
            since = [];
            before = past;
            split = refl;
            last = refl;
            master = own;
            each = λ i l. let g = each i l in given_recent p i g.0 past g.1 g.2;
            unwoken = refl;
            unrefused = refl;
            undamaged = refl;
          }

  -- an answer that reaches the master in Normal; a whole one tells its node's permission
  pub answer_by_past : (row : Row) (a : Answer) (m : Master) → is_normal m.state ≡ true → row.publisher < p.nodecount
      → (is_whole row a ≡ true → a.permission ≡ true → node_permitted row.publisher past ≡ true)
      → Fits p.nodecount p.times (row_step row a m).master → MasterByPast p m past → MasterByPast p (row_step row a m).master (answered row a ∷ past)
  unfolding Stops
  answer_by_past row a m on l honest f v =
      record {
        run =
            run-answer p.nodecount (few p ok) p.times Now (Next (answered row a)) (Agreed p past) (Agreed p (answered row a ∷ past)) (master_permitted past) m row a on l
            (λ i k h n w r. recent_later p i k past (answered row a) (ne_eqb row.publisher i (λ e. n (sym e))) (or-false (is_whole row a && a.wake) ∙ w) r)
            (λ whole permits unwoken. (
              record {
                since = [];
                row = row;
                answer = a;
                before = past;
                split = refl;
                publisher = refl;
                last = refl;
                whole = whole;
                truly = rw (permits, unwoken, honest whole permits);
                age = refl;
                unwoken = refl;
              },
              agreed_later p past (answered row a) refl (rw (whole, unwoken)) (rw (whole, permits)) (rw whole),
            ))
            v.run;
        fits = f;
        stops = (λ h. no_way h, v.stops);
        shown = λ s. History.answer p (few p ok) past row a m on l (v.shown s);
      }

pub power_on_by_past : (p : Plan) → plan_refusal p ≡ 0 → MasterByPast p (MasterChanges.power_on (sleeps p)) []
unfolding Stops
power_on_by_past p ok =
    record {
      run = run-power_on p.nodecount p.times.window (few p ok) (λ i k. Recent p i k []) (Agreed p []) (sleeps p);
      fits = fits (sleeps p) p.nodecount p.times (MasterChanges.power_on (sleeps p)) (power_on_fits (sleeps p) p.nodecount p.times);
      stops = tt;
      shown = λ s. subst (λ (b : Bool). Shown p (MasterChanges.power_on b) []) (sym s) (History.power_on_lem p);
    }
