-- The zeros within are stored; what lies past the end changes nothing. Assumes nothing.
use Rattle.std.proofs.Common.{ℕ, ◌-◌, rules, arith, replicate}
use Rattle.std.proofs.lemmas.List.{length-replicate, take-replicate}
use Rattle.base_lists.proofs.Stores.{sets_front, sets_reach}
use Rattle.base_bytes.proofs.bytes.put_zeros.Goals as goal

pub returns-then-within-gt0 : goal.returns-then-within-gt0
returns-then-within-gt0 c =
    let m = c.reach-within.result in
    let r = c.reach-within.ensures in
    let n = length-replicate {A = ℕ} c.args.count 0 in
    sets_front (replicate c.args.count 0) c.args.buffer.now c.fill.new.self c.args.start m _
    (omega arith) (search (rules, take-replicate)) (omega (arith, n)) (omega (arith, r.inside (m - 1))) (λ p. r.outside m (omega arith) (omega (arith, n)))

pub returns-else-within-gt0 : goal.returns-else-within-gt0
returns-else-within-gt0 c =
    let r = c.reach-within.ensures in
    let n = length-replicate {A = ℕ} c.args.count 0 in
    sets_reach (replicate c.args.count 0) c.args.buffer.now c.args.start 0 (omega arith) (λ p. r.outside 0 (omega arith) (omega (arith, n)))
