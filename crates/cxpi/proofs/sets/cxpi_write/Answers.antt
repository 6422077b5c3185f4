-- By what is written.
use native.Mathlib.Omega.{arith}
use Rattle.cxpi.proofs.Calls.{result_short}
use Rattle.cxpi.proofs.sets.cxpi_write.Goals as goal

pub overflow_cast-size : goal.overflow_cast-size
overflow_cast-size c = omega (arith, result_short _ _ _ c.in-Ok.ensures.0)
