-- The used entries, then zeros. Assumes nothing.
use Prim.Native.Nat.{◌*◌, min}
use mathlib.Core.Path.{ap, ◌∙◌}
use Rattle.base_bytes.specs.Bytes.{byte}
use Rattle.set_reader.proofs.SetRecord.{entries_put, length_least}
use native.Mathlib.Omega.{arith}
use borrow.Author.Rules.{rules}
use Rattle.set_reader.proofs.layout.put_entries.Goals as goal

pub returns : goal.returns
returns c =
    let s = c.args.s.now in
    entries_put s (byte s 4) _ _ _ (length_least s (search rules)) (ap (λ n. 4 * n) (c.min-end.ensures ∙ ap (λ n. min n 16) c.byte_at.ensures)) c.put_filled.ensures (search rules)

pub slice_bounds-used-end : goal.slice_bounds-used-end
slice_bounds-used-end c = omega (arith, length_least c.args.s.now (search rules), c.min-end.ensures)
