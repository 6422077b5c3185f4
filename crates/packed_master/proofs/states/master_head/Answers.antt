-- By what the calls give. Assumes nothing.
use Prim.Native.Nat.{ℕ, ◌/◌, ◌%◌, ◌<◌}
use mathlib.Core.Path.{◌≡◌, ◌∙◌}
use native.Mathlib.Omega.{arith}
use Rattle.std.specs.Int.{w32, to_be_bytes}
use Rattle.base_bytes.specs.Bytes.{four_bytes, high_byte, low_byte}
use Rattle.set_record.proofs.FourBytes.{two_be}
use Rattle.packed_master.proofs.states.master_head.Goals as goal

four_be : (x : ℕ) → x < 4294967296 → to_be_bytes w32 x ≡ four_bytes x
four_be x h =
    let a : x / 16777216 % 256 ≡ high_byte (x / 65536) = omega (arith, h) in
    let b : x / 65536 % 256 ≡ low_byte (x / 65536) = omega (arith, h) in
    let d : x / 256 % 256 ≡ high_byte (x % 65536) = omega (arith, h) in
    let e : x % 256 ≡ low_byte (x % 65536) = omega (arith, h) in
    rw (a, b, d, e)

pub returns : goal.returns
returns c =
    let d = c.to_be_bytes.ensures ∙ two_be c.args.master.delay (omega arith) in
    let t = c.to_be_bytes-2.ensures ∙ four_be c.args.master.ticks (omega arith) in
    rw (c.from.ensures, c.phase_byte.ensures, c.from-2.ensures, d, t)
