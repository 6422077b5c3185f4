-- A refused step of a node changes nothing and commands nothing.
use Prim.Native.Nat.{ℕ}
use mathlib.Core.Path.{◌≡◌, refl}
use lib.Dec.{ltb, eqb}
use Rattle.base_lists.proofs.Choices.{by_test}
use Rattle.set_plan.specs.declared.Plan.{Plan}
use Rattle.set_plan.specs.Profile.{sleeps}
use Rattle.set_plan.specs.Rules.{plan_refusal}
use Rattle.set_plan.specs.Answering.{is_polled}
use Rattle.set_plan.specs.Find.{find_row}
use Rattle.machine_node.specs.declared.Node.{Node}
use Rattle.machine_node.specs.declared.Event.{Event}
use Rattle.machine_node.specs.declared.Reply.{Reply}
use Rattle.machine_node.specs.Changes.{with_wake, with_heard, refuse}
use Rattle.machine_node.specs.Range.{in_range}
use Rattle.machine_node.specs.Step.{event_right, act, node_step}
use Rattle.machine_node.proofs.Cases.{tick_any, pulse_any, wake_ask_any, permission_any, any_row, sleep_message_any, request_any, send_ask_any}

-- a reply to a step of n: done, or refused with n as it was
abbrev pub Plain : Node → Reply → Type 0
Plain n r = (r.refusal ≡ 0 → ⊥) → r ≡ refuse n r.refusal

module _ (n : Node) where
  act_plain : (p : Plan) (me : ℕ) (e : Event) → Plain n (act p me n e)
  act_plain p me (Event.Tick clock) = tick_any (Plain n) n.permission (λ m e h. absurd (h refl)) (λ m e h. absurd (h refl)) (sleeps p) p.times clock n.state n refl
  act_plain p me Event.Pulse = pulse_any (Plain n) n.permission (λ m e h. absurd (h refl)) n.state n refl
  act_plain p me Event.WakeAsk =
      wake_ask_any (Plain n) n.permission (λ m e h. absurd (h refl)) (λ m e h. absurd (h refl)) (sleeps p) n.state n.caller (with_wake n) refl
  act_plain p me (Event.Permission permitted) = permission_any (Plain n) permitted (λ m e h. absurd (h refl)) (sleeps p) n
  act_plain p me Event.SleepMessage = sleep_message_any (Plain n) n (λ number q. refl) (sleeps p) (λ h. absurd (h refl))
  act_plain p me (Event.Request reqid) =
      request_any (Plain n) n (λ number q. refl) me (find_row p reqid) (λ h. absurd (h refl)) (any_row (Plain n) me (find_row p reqid) (with_heard n) (λ reqid h. absurd (h refl)))
  act_plain p me (Event.SendAsk reqid) =
      send_ask_any (Plain n) n (λ number q. refl) me (is_polled p me) (find_row p reqid) (any_row (Plain n) me (find_row p reqid) n (λ reqid h. absurd (h refl)))

  pub refused-same : (p : Plan) (me : ℕ) (e : Event) → Plain n (node_step p me n e)
  refused-same p me e =
      by_test (Plain n) (eqb (plan_refusal p) 0)
      (λ a. by_test (Plain n) (ltb me p.nodecount)
      (λ b. by_test (Plain n) (in_range (sleeps p) p.times n) (λ c. by_test (Plain n) (event_right e) (λ d. act_plain p me e) (λ d q. refl)) (λ c q. refl))
      (λ b q. refl))
      (λ a q. refl)
