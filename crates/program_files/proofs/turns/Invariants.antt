-- The turns so far lead from the start to the state: turns that go on from it go on from the start.
use Rattle.std.proofs.Common.{ℕ, ◌+◌, ◌≡◌}
use denote.Param.Always.{always_mut}
use Rattle.program_files.specs.Turns.{GoesOn}
use Rattle.program_files.proofs.turns.Given as goal

abbrev pub invariant-loop : goal.invariant-loop
invariant-loop g l =
    (always_mut g.F.FnMut l.initial.turn → always_mut g.F.FnMut l.turn)
    × ((m n : ℕ) → n ≡ l.counter + m → (h : _) (t : _) → GoesOn (λ before state given after. goal.F-step g before state given after) m l.turn l.state h t
    → GoesOn (λ before state given after. goal.F-step g before state given after) n l.fn.turn l.fn.start h t)
