-- Zeros where there is room. Assumes nothing.
use borrow.Author.Tests.{le-ltb}
use Rattle.set_record.proofs.Records.{zeros_put}
use borrow.Author.Rules.{rules}
use Rattle.set_reader.proofs.clear.Goals as goal

pub returns : goal.returns
returns c = rw (le-ltb _ _ c.if-buffer-lt-LENGTH.false) (zeros_put c.args.buffer.now _ c.put_zeros.ensures (search rules))
