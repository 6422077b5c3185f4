-- Whether some place passed is due. Assumes nothing.
use Rattle.std.proofs.Common.{◌≡◌, ℕ, ◌<◌, Bool, ◌&&◌, leb, List, length, get_or}
use Rattle.base_lists.specs.Bounded.{any_to}
use Rattle.machine_master.specs.declared.Hold.{Hold}
use Rattle.machine_master.specs.Changes.{no_hold}
use Rattle.machine_master.specs.Ticks.{aged_out_at}
use Rattle.machine_master.proofs.causes.all_aged_out.Given as goal

abbrev pub due_at : Bool → ℕ → List Hold → ℕ → Bool
due_at normal window holds k = normal && (get_or holds k no_hold).held && leb window (get_or holds k no_hold).age

abbrev pub invariant-loop-hold : goal.invariant-loop-hold
invariant-loop-hold l = l.due ≡ any_to (due_at l.normal l.window l.fn.holds) l.hold-index

abbrev pub invariant-loop-k : goal.invariant-loop-k
invariant-loop-k l = (length l.next ≡ 16) × ((j : ℕ) → j < l.k → get_or l.next j 0 ≡ aged_out_at l.normal l.window l.holds l.causes j)
