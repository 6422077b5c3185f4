use mathlib.Core.Path.{◌∙◌}
use native.Mathlib.Omega.{arith}
use Rattle.set_record.proofs.FourBytes.{two_be}
use Rattle.set_record.proofs.packing.times_bytes.Goals as goal

pub returns : goal.returns
returns c =
    let t = c.args.t in
    let w = c.to_be_bytes.ensures ∙ two_be t.window (omega arith) in
    let d = c.to_be_bytes-2.ensures ∙ two_be t.stop (omega arith) in
    let s = c.to_be_bytes-3.ensures ∙ two_be t.sleep (omega arith) in
    let e = c.to_be_bytes-4.ensures ∙ two_be t.quiet (omega arith) in
    let r = c.to_be_bytes-5.ensures ∙ two_be t.recovery (omega arith) in
    let p = c.to_be_bytes-6.ensures ∙ two_be t.space (omega arith) in
    let q = c.to_be_bytes-7.ensures ∙ two_be t.start (omega arith) in
    rw (w, d, s, e, r, p, q)
