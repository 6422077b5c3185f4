use mathlib.Core.Path.{◌∙◌}
use native.Mathlib.Omega.{arith}
use Rattle.set_record.specs.Record.{record_head}
use Rattle.set_record.proofs.FourBytes.{two_be}
use Rattle.set_record.proofs.packing.record_head.Goals as goal

pub returns : goal.returns
unfolding record_head
returns c =
    let r = c.to_be_bytes.ensures ∙ two_be c.args.revision (omega arith) in
    let n = c.to_be_bytes-2.ensures ∙ two_be c.args.rowcount (omega arith) in
    c.put-3.ensures ∙ rw (c.put-2.ensures, c.put.ensures, r, n, c.times_bytes.ensures)
