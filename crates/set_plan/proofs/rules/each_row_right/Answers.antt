-- Whether each row so far is right, and its ReqId, which is the one before the next. Assumes nothing.
use Rattle.std.proofs.Common.{ℕ, List, Bool, ◌≡◌, ◌∙◌, ◌&&◌, refl, sym, ap₂}
use Rattle.base_lists.proofs.AllAny.{all_none, all_next}
use Rattle.set_plan.specs.declared.Row.{Row}
use Rattle.set_plan.specs.Record.{row_at}
use Rattle.set_plan.specs.Rules.{reqid_before, row_after, row_right}
use Rattle.set_plan.proofs.Rows.{reqid_next}
use Rattle.set_plan.proofs.rules.each_row_right.Goals as goal

now-right : (n : ℕ) (rows : List Row) (j b : ℕ) (x : Bool) → b ≡ reqid_before rows j → x ≡ row_after n b (row_at rows j) → x ≡ row_right n rows j
unfolding row_right
now-right n rows j b x e h = rw (h, e)

pub loop-row-init : goal.loop-row-init
unfolding reqid_before
loop-row-init c = record { right = sym (all_none _); before = refl }

pub loop-row-preserved : goal.loop-row-preserved
loop-row-preserved c =
    let l = c.loop-row.invariant in
    record {
      right = ap₂ ◌&&◌ l.right (now-right _ _ _ _ _ l.before c.row_after-right.ensures) ∙ sym (all_next _ _);
      before = reqid_next _ _;
    }
