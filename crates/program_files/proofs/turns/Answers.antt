-- By the turns so far.
use Rattle.std.proofs.Common.{ℕ, suc, ◌≡◌, refl, arith}
use denote.Param.Always.{mut_next}
use Rattle.program_files.proofs.Turning.{no_turn, one_turn}
use Rattle.program_files.proofs.turns.Goals as goal

pub loop-init : goal.loop-init
loop-init g c = ((λ a. a), (λ m n e h t k. let same : n ≡ m = omega (arith, e) in rw same k))

pub returns-in-Break-clause-turns : goal.returns-in-Break-clause-turns
returns-in-Break-clause-turns g c =
    let b = c.loop in (
      b.counter,
      omega (arith, c.loop-test.true),
      b.turn,
      b.state,
      b.invariant.1 0 b.counter (omega arith) b.turn b.state (no_turn _ _ _),
      c.turn.new.self,
      rw c.in-Break.is at c.turn.ensures,
    )

pub loop-preserved : goal.loop-preserved
loop-preserved g c =
    let b = c.loop in (
      (λ a. mut_next g.F.FnMut _ _ _ _ _ c.turn.ensures refl (b.invariant.0 a)),
      (λ m n e h t k. b.invariant.1 (suc m) n (omega (arith, e)) h t (one_turn _ m _ _ h _ _ t (rw c.in-Continue.is at c.turn.ensures) k)),
    )

pub returns-clause-turns : goal.returns-clause-turns
returns-clause-turns g c =
    let b = c.loop in (b.turn, b.invariant.1 0 18446744073709551615 (omega (arith, c.loop-test.false)) b.turn b.state (no_turn _ _ _))
