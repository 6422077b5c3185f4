-- A list that ran is one of moves under an accepted plan, of which demand 3 holds. Assumes nothing.
use Rattle.std.proofs.Common.{◌≡◌, sym}
use borrow.Author.Tests.{eq-eqb}
use Rattle.set_plan.specs.Rules.{plan_refusal}
use Rattle.bus_claims.proofs.ClaimsHold.{claims_hold}
use Rattle.bus_claims.proofs.Reasons.{reasons}
use Rattle.bus_moves.specs.Records.{moves_of}
use Rattle.bus_moves.proofs.run.Goals as goal

pub returns-in-Ok : goal.returns-in-Ok
returns-in-Ok c =
    let right : plan_refusal c.args.plan ≡ 0 = sym c.in-Ok.ensures in
    (rw (c.run_all.ensures, eq-eqb _ _ right), λ e. (claims_hold _ right _, reasons c.args.plan right (moves_of c.args.moves.now)))
