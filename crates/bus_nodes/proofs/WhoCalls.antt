-- Laws of who sends a wake-up pulse in a move.
use Prim.Native.Nat.{ℕ, zero, suc, ◌+◌, ◌<◌}
use mathlib.Core.Path.{◌≡◌, refl}
use mathlib.Core.Bool.{true}
use native.Mathlib.Omega.{arith}
use native.Mathlib.Numerals.{add-one}
use Rattle.base_lists.proofs.Choices.{no_way}
use Rattle.machine_node.specs.declared.Command.{Command}
use Rattle.bus_nodes.specs.declared.Callers.{Callers}
use Rattle.bus_nodes.specs.Pulses.{with_caller, callers_to, any_called}

-- one node more
pub callers_more : (command : ℕ → Command) (i : ℕ) (callers r : Callers) (c : Command) → callers ≡ callers_to command i → c ≡ command i → r ≡ with_caller callers i c → r ≡ callers_to command (i + 1)
callers_more command i callers r c e q h = rw (h, e, q, add-one)

-- where someone called, some node's command is a pulse
pub callers_some : (command : ℕ → Command) (n : ℕ) → any_called (callers_to command n) ≡ true → (i : ℕ) × (i < n) × (command i ≡ Command.Pulse)
callers_some command zero e = no_way e
callers_some command (suc n) e = go (command n) refl e (callers_some command n)
  where
    Some : ℕ → Type 0
    Some k = (i : ℕ) × (i < k) × (command i ≡ Command.Pulse)

    earlier : Some n → Some (suc n)
    earlier h = (h.0, omega arith, h.2)

    go : (c : Command) → command n ≡ c → any_called (with_caller (callers_to command n) n c) ≡ true → (any_called (callers_to command n) ≡ true → Some n) → Some (suc n)
    go Command.Nothing q h r = earlier (r h)
    go Command.Pulse q h r = (n, omega arith, q)
    go (Command.Send permission wake count) q h r = earlier (r h)
