-- Demand 3, "a single claim about a list of moves". A past has its latest move first: in `since ++ (e ∷ before)` the moves since e, e, and those before it.
use Rattle.std.specs.Prelude.{ℕ, max, ◌+◌, ◌*◌, ◌≤◌, ◌<◌, ◌≡◌, Bool, true, false, ◌⊎◌, List, ◌∷◌, ◌++◌}
use Rattle.machine_state.specs.declared.State.{State}
use Rattle.set_plan.specs.declared.Plan.{Plan}
use Rattle.set_plan.specs.declared.Row.{Row}
use Rattle.set_plan.specs.declared.Times.{Times}
use Rattle.set_plan.specs.Profile.{sleeps}
use Rattle.machine_node.specs.declared.Node.{Node}
use Rattle.machine_master.specs.declared.Answer.{Answer}
use Rattle.machine_master.specs.Answers.{is_whole}
use Rattle.bus.specs.declared.Move.{Move}
use Rattle.bus.specs.declared.Passed.{Passed}
use Rattle.bus.specs.Passed.{answered, sending}
use Rattle.bus_nodes.specs.Nodes.{node_at}
use Rattle.bus_history.specs.Run.{run}
use Rattle.bus_history.specs.Terms.{every, none, master_permitted, is_answer_of, is_damaged, is_refusing, truly_given, is_wake_up, is_sending, is_stop, ticks_in, leaves_on, leaves_off, is_ask, reaches}

-- the last answer of node i that reached the master: whole, truly given, within the window, and no wake-up since
pub record Given (p : Plan) (i : ℕ) (past : List Passed) : Type 0 where
  pub since : List Passed
  pub row : Row
  pub answer : Answer
  pub before : List Passed
  pub split : past ≡ since ++ (answered row answer ∷ before)
  pub publisher : row.publisher ≡ i
  pub last : none (is_answer_of i) since ≡ true
  pub whole : is_whole row answer ≡ true
  pub truly : truly_given i answer before ≡ true
  -- "Within the window: at most W ticks lie between the answer and the sending"
  pub window : ticks_in since ≤ p.times.window
  pub unwoken : none is_wake_up since ≡ true

-- the last sending: the master and each node permitted, and since then no wake-up, no refusing and no damaged answer
pub record Agreed (p : Plan) (past : List Passed) : Type 0 where
  pub since : List Passed
  pub before : List Passed
  pub split : past ≡ since ++ (sending ∷ before)
  pub last : none is_sending since ≡ true
  pub master : master_permitted before ≡ true
  pub each : (i : ℕ) → i < p.nodecount → Given p i before
  pub unwoken : none is_wake_up since ≡ true
  pub unrefused : none is_refusing since ≡ true
  pub undamaged : none is_damaged since ≡ true

-- (a) before every stop all agreed
abbrev pub StopsAgreed : Plan → List Passed → Type 0
StopsAgreed p past = (since before : List Passed) (e : Passed) → past ≡ since ++ (e ∷ before) → is_stop e ≡ true → Agreed p before

-- "Off or on for n ticks: the clock was so after each of the last n ticks of the list"; `recent` reaches back to the first of them
pub record ClockFor (left : Passed → Bool) (n : ℕ) (past : List Passed) : Type 0 where
  pub recent : List Passed
  pub earlier : List Passed
  pub split : past ≡ recent ++ earlier
  pub ticks : ticks_in recent ≡ n
  pub clock : every left recent ≡ true

-- "Settling time: the largest of E, 2R and R + P"
abbrev pub settling_time : Times → ℕ
settling_time t = max t.quiet (max (2 * t.recovery) (t.recovery + t.space))

-- off for n ticks, and nobody asked to wake since the first of them: each node sleeps or shows its network error
abbrev pub SettlesAfter : ℕ → Plan → List Passed → List Node → Type 0
SettlesAfter n p past nodes =
    (off : ClockFor leaves_off n past) → none is_ask off.recent ≡ true
    → (i : ℕ) → i < p.nodecount → ((node_at nodes i).state ≡ State.Sleep) ⊎ ((node_at nodes i).error ≡ true)

-- (b) so it is after the settling time
abbrev pub Settles : Plan → List Passed → List Node → Type 0
Settles p past nodes = SettlesAfter (settling_time p.times) p past nodes

-- on for n ticks, and no sleep message reached node i since the first of them: it is Normal without error
abbrev pub WakesAfter : ℕ → Plan → List Passed → List Node → Type 0
WakesAfter n p past nodes =
    (on : ClockFor leaves_on n past) (i : ℕ) → i < p.nodecount → none (reaches i) on.recent ≡ true
    → ((node_at nodes i).state ≡ State.Normal) × ((node_at nodes i).error ≡ false)

-- "S + 2": a node may still have S ticks before it sleeps, and is Normal at the second tick after that
abbrev pub waking_time : Times → ℕ
waking_time t = t.sleep + 2

-- (c) so it is after that time
abbrev pub Wakes : Plan → List Passed → List Node → Type 0
Wakes p past nodes = WakesAfter (waking_time p.times) p past nodes

-- the demand on machines that sleep and wake
pub record SleepsAndWakes (p : Plan) (moves : List Move) : Type 0 where
  pub stops : StopsAgreed p (run p moves).past
  pub settles : Settles p (run p moves).past (run p moves).world.nodes
  pub wakes : Wakes p (run p moves).past (run p moves).world.nodes

-- W-206, on those that never sleep: "(b) has nothing to say, and (c) holds at all times", before any move too; no tick stops the clock
pub record StaysAwake (p : Plan) (moves : List Move) : Type 0 where
  pub runs : none is_stop (run p moves).past ≡ true
  pub awake : (i : ℕ) → i < p.nodecount → ((node_at (run p moves).world.nodes i).state ≡ State.Normal) × ((node_at (run p moves).world.nodes i).error ≡ false)

abbrev pub ClaimsBy : Bool → Plan → List Move → Type 0
ClaimsBy true p moves = SleepsAndWakes p moves
ClaimsBy false p moves = StaysAwake p moves

abbrev pub Claims : Plan → List Move → Type 0
Claims p moves = ClaimsBy (sleeps p) p moves
