-- The two stores are those of the definition. Assumes nothing.
use Prim.Native.Nat.{◌+◌, ◌*◌}
use mathlib.Core.Path.{◌≡◌, ◌∙◌}
use native.Mathlib.Omega.{arith}
use Rattle.set_record.proofs.FourBytes.{two_be}
use Rattle.set_writer.specs.Write.{with_check}
use Rattle.set_writer.proofs.set_blocks.put_check.Goals as goal

pub returns : goal.returns
unfolding with_check
returns c =
    let b = c.args.b in
    let z : 512 * b + 510 + 1 ≡ 512 * b + 511 = omega arith in
    let v = c.to_be_bytes.ensures ∙ two_be c.block_check.result (omega arith) in
    rw (v, c.block_check.ensures, z)
