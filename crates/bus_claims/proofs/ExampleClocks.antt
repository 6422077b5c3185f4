-- What (b) and (c) ask for, constructed of the latest moves of a past; and that it is not there where the claim is not met.
use Prim.Native.Nat.{ℕ, ◌-◌, ◌<◌}
use mathlib.Core.Path.{◌≡◌, sym, ap, subst, ◌∙◌}
use mathlib.Core.Bool.{Bool, true, false}
use mathlib.Core.Logic.{◌⊎◌, ⊎_elim}
use mathlib.Core.List.{List}
use lib.ListN.{take, drop, take-append-drop}
use Rattle.base_lists.proofs.Choices.{no_way}
use Rattle.machine_state.specs.declared.State.{State}
use Rattle.machine_state.specs.State.{is_normal}
use Rattle.set_plan.specs.declared.Plan.{Plan}
use Rattle.set_plan.specs.Profile.{sleeps}
use Rattle.set_plan.specs.Rules.{plan_refusal}
use Rattle.machine_node.specs.declared.Node.{Node}
use Rattle.bus.specs.declared.Move.{Move}
use Rattle.bus.specs.declared.Passed.{Passed}
use Rattle.bus_nodes.specs.Nodes.{node_at}
use Rattle.bus_claims.specs.Claims.{ClockFor, SettlesAfter, settling_time, WakesAfter, waking_time, SleepsAndWakes, ClaimsBy}
use Rattle.bus_history.specs.Run.{run}
use Rattle.bus_history.specs.Terms.{every, none, ticks_in, leaves_on, leaves_off, is_ask, reaches}
use Rattle.bus_claims.proofs.ClaimsHold.{claims_hold}

-- the latest k moves
abbrev pub clock_for : {left : Passed → Bool} {n : ℕ} (k : ℕ) {past : List Passed} → ticks_in (take k past) ≡ n → every left (take k past) ≡ true → ClockFor left n past
clock_for k {past} e f = record { recent = take k past; earlier = drop k past; split = sym (take-append-drop k past); ticks = e; clock = f }

abbrev pub asleep : State → Bool
asleep State.Normal = false
asleep State.Standby = false
asleep State.Sleep = true

abbrev pub Dark : Node → Type 0
Dark n = (n.state ≡ State.Sleep) ⊎ (n.error ≡ true)

abbrev pub Up : Node → Type 0
Up n = (n.state ≡ State.Normal) × (n.error ≡ false)

-- a node in Standby or Normal that shows no error is not dark, and one that is not Normal is not up
pub lit : (n : Node) → asleep n.state ≡ false → n.error ≡ false → Dark n → ⊥
lit n s e d = ⊎_elim (λ q. no_way (sym s ∙ ap asleep q)) (λ q. no_way (sym e ∙ q)) d

pub down : (n : Node) → is_normal n.state ≡ false → Up n → ⊥
down n s u = no_way (sym s ∙ ap is_normal u.0)

module _ (p : Plan) (ok : plan_refusal p ≡ 0) (s : sleeps p ≡ true) (moves : List Move) (i : ℕ) (l : i < p.nodecount) where
  abbrev at : Node
  at = node_at (run p moves).world.nodes i

  abbrev past : List Passed
  past = (run p moves).past

  holds : SleepsAndWakes p moves
  holds = subst (λ (b : Bool). ClaimsBy b p moves) s (claims_hold p ok moves)

  -- (b): the latest k moves are all that it asks for, so node i is dark
  pub dark : (k : ℕ) → ticks_in (take k past) ≡ settling_time p.times → every leaves_off (take k past) ≡ true → none is_ask (take k past) ≡ true → Dark at
  dark k e f q = holds.settles (clock_for k e f) q i l

  -- node i is not: what (b) asks for is not there
  pub undue : asleep at.state ≡ false → at.error ≡ false → (off : ClockFor leaves_off (settling_time p.times) past) → none is_ask off.recent ≡ true → ⊥
  undue z e off q = lit at z e (holds.settles off q i l)

  -- nor is it with one tick less: (b) with that in place of the settling time is false
  pub too_early : (k : ℕ) → ticks_in (take k past) ≡ settling_time p.times - 1 → every leaves_off (take k past) ≡ true → none is_ask (take k past) ≡ true
      → asleep at.state ≡ false → at.error ≡ false → SettlesAfter (settling_time p.times - 1) p past (run p moves).world.nodes → ⊥
  too_early k e f q z r claim = lit at z r (claim (clock_for k e f) q i l)

  -- (c) likewise
  pub up : (k : ℕ) → ticks_in (take k past) ≡ waking_time p.times → every leaves_on (take k past) ≡ true → none (reaches i) (take k past) ≡ true → Up at
  up k e f q = holds.wakes (clock_for k e f) i l q

  pub unowed : is_normal at.state ≡ false → (on : ClockFor leaves_on (waking_time p.times) past) → none (reaches i) on.recent ≡ true → ⊥
  unowed z on q = down at z (holds.wakes on i l q)

  pub too_soon : (k : ℕ) → ticks_in (take k past) ≡ waking_time p.times - 1 → every leaves_on (take k past) ≡ true → none (reaches i) (take k past) ≡ true
      → is_normal at.state ≡ false → WakesAfter (waking_time p.times - 1) p past (run p moves).world.nodes → ⊥
  too_soon k e f q z claim = down at z (claim (clock_for k e f) i l q)
