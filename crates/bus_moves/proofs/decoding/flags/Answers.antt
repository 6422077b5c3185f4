-- By the calls of the closure. Assumes nothing.
use Rattle.std.proofs.Common.{false, rules}
use Rattle.base_lists.proofs.Made.{made}
use Rattle.bus_moves.specs.Decoding.{bit_of, flags}
use Rattle.bus_moves.proofs.decoding.flags.Goals as goal

pub returns : goal.returns
unfolding flags
returns c = made _ false (bit_of c.args.mask) _ _ 16 (λ k y q h w. search rules) c.from_fn.ensures.items
