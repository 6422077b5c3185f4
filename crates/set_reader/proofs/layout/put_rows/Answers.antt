-- The rows of the first message block, those of the second, then zeros. Assumes nothing.
use Prim.Native.Nat.{◌*◌}
use mathlib.Core.Path.{◌≡◌, ap}
use native.Mathlib.Omega.{arith}
use Rattle.set_reader.specs.Layout.{rowcount_of}
use Rattle.set_reader.proofs.Content.{length_long}
use Rattle.set_reader.proofs.SetRecord.{length_least, rows_put_short, rows_put_long, many}
use borrow.Author.Rules.{rules}
use Rattle.set_reader.proofs.layout.put_rows.Goals as goal

pub returns-then-s-eq-SHORT_LENGTH : goal.returns-then-s-eq-SHORT_LENGTH
returns-then-s-eq-SHORT_LENGTH c = rows_put_short _ _ _ _ _ c.if-s-eq-SHORT_LENGTH.true (ap (λ n. 4 * n) c.min-end.ensures) c.put_filled.ensures (search rules)

pub returns : goal.returns
returns c =
    let s = c.args.s.now in
    let q : c.args.count ≡ rowcount_of s = search rules in
    rows_put_long s _ _ _ _ _ _ (omega (arith, length_long s (search rules) c.if-s-eq-SHORT_LENGTH.false)) (omega (arith, q, many s c.if-s-eq-SHORT_LENGTH.false)) (ap (λ n. 4 * n) c.min-end.ensures) (omega (arith, c.min.ensures)) c.put.ensures c.put_filled-2.ensures (search rules)

pub slice_bounds-first-end : goal.slice_bounds-first-end
slice_bounds-first-end c = omega (arith, length_least c.args.s.now (search rules), c.min-end.ensures)

pub slice_bounds-second-end : goal.slice_bounds-second-end
slice_bounds-second-end c = omega (arith, length_long c.args.s.now (search rules) c.if-s-eq-SHORT_LENGTH.false, c.min-end.ensures, c.min.ensures)
