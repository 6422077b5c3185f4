-- Answers that reach the master.
use Rattle.std.specs.Prelude.{ℕ, ◌+◌, ◌-◌, ◌%◌, Bool, ◌&&◌, ◌==◌, nat_lt, slice_index, slice_set, Option, Some, None}
use Rattle.base_lists.specs.Bounded.{if_else}
use Rattle.machine_state.specs.declared.State.{State}
use Rattle.set_plan.specs.declared.Row.{Row}
use Rattle.set_plan.specs.Limits.{seq_counts}
use Rattle.set_plan.specs.Answering.{master_number, is_counted, accepts}
use Rattle.machine_master.specs.declared.Command.{Command}
use Rattle.machine_master.specs.declared.Answer.{Answer}
use Rattle.machine_master.specs.declared.Master.{Master}
use Rattle.machine_master.specs.declared.Reply.{Reply}
use Rattle.machine_master.specs.Changes.{cause_new, cause_refused, cause_damaged, cause_wake, no_count, with_counts, let_go, hold, with_cause, drop_all, call_back, refuse}

-- "Whole: an answer that reached the master with result 0 and a length its row accepts"
abbrev pub is_whole : Row → Answer → Bool
is_whole row a = a.result == 0 && accepts row a.length

-- "13 or 14: let the publisher's permission go, call back"; "a wrong length is damage"
abbrev pub damaged : ℕ → ℕ → Master → Reply
damaged publisher number m = refuse (call_back (let_go publisher (with_cause cause_damaged publisher m))) number

-- "report as lost (count − last − 1) modulo 4, or 0 if last was 4"
abbrev pub lost_after : ℕ → ℕ → ℕ
lost_after last count = if_else (nat_lt last no_count) ((count + seq_counts - last - 1) % seq_counts) 0

-- "wake bit 1: let all go, call back. Else permission bit 1: held with age 0. Else let go, call back";
-- "A wake-up is the cause for nodes it let go and for the one whose answer carried it"
abbrev pub act_on_bits : ℕ → Bool → Bool → Master → Master
act_on_bits publisher permission wake m =
    if_else wake (call_back (with_cause cause_wake publisher (drop_all m)))
    (if_else permission (hold publisher (with_cause cause_new publisher m))
    (call_back (let_go publisher (with_cause cause_refused publisher m))))

-- "and store it"
abbrev pub count_stored : ℕ → ℕ → Master → Master
count_stored reqid count m = with_counts (slice_set m.counts reqid count) m

abbrev pub reports : ℕ → Master → Reply
reports lost m = record { master = m; command = Command.Nothing; refusal = 0; node = 0; lost = lost }

-- "Otherwise, where the row has a count ..; a row without one reports 0"
abbrev pub whole_step : Row → Answer → Master → Reply
whole_step row a m =
    if_else (is_counted row)
    (reports (lost_after (slice_index m.counts row.reqid) a.count) (act_on_bits row.publisher a.permission a.wake (count_stored row.reqid a.count m)))
    (reports 0 (act_on_bits row.publisher a.permission a.wake m))

-- "judged 12, 13, 14": 12 for "a master's row in an answer"
abbrev pub row_step : Row → Answer → Master → Reply
row_step row a m =
    if_else (row.publisher == master_number) (refuse m 12)
    (if_else (a.result == 0)
    (if_else (accepts row a.length) (whole_step row a m) (damaged row.publisher 14 m))
    (damaged row.publisher 13 m))

-- 12 for "ReqId not in the plan"
abbrev pub answer_row : Option Row → Answer → Master → Reply
answer_row None a m = refuse m 12
answer_row (Some row) a m = row_step row a m

-- "Answer (Normal only)"
abbrev pub answer_by : State → Option Row → Answer → Master → Reply
answer_by State.Normal row a m = answer_row row a m
answer_by State.Standby row a m = refuse m 16
answer_by State.Sleep row a m = refuse m 16

abbrev pub answer_step : Option Row → Answer → Master → Reply
answer_step row a m = answer_by m.state row a m
