-- A node's power-on, the entering of its states, single changes, and replies.
use Rattle.std.specs.Prelude.{ℕ, ◌+◌, ◌-◌, Bool, true, false, ltb, get_or, set, replicate, Option, None}
use Rattle.base_lists.specs.Bounded.{if_else}
use Rattle.machine_state.specs.declared.State.{State}
use Rattle.machine_state.specs.State.{start_state}
use Rattle.set_plan.specs.Limits.{reqids, seq_counts}
use Rattle.machine_node.specs.declared.Command.{Command}
use Rattle.machine_node.specs.declared.Node.{Node}
use Rattle.machine_node.specs.declared.Reply.{Reply}

-- "Power-on: Sleep (test 1.3), permission no, the rest clear", or Normal where machines never sleep (W-206)
abbrev pub power_on : Bool → Node
power_on sleeps =
    record {
      state = start_state sleeps;
      permission = false;
      error = false;
      wake = false;
      heard = false;
      caller = false;
      quiet = 0;
      delay = None;
      standby = 0;
      counts = replicate reqids 0;
    }

-- "Entering Normal clears error, heard, caller, sleep delay and every count"
abbrev pub to_normal : Node → Node
to_normal n =
    record {
      state = State.Normal;
      permission = n.permission;
      error = false;
      wake = n.wake;
      heard = false;
      caller = false;
      quiet = 0;
      delay = None;
      standby = 0;
      counts = replicate reqids 0;
    }

-- into Standby, as the caller or not, count 0
abbrev pub to_standby : Node → Bool → Node
to_standby n caller =
    record {
      state = State.Standby;
      permission = n.permission;
      error = n.error;
      wake = n.wake;
      heard = n.heard;
      caller = caller;
      quiet = n.quiet;
      delay = n.delay;
      standby = 0;
      counts = n.counts;
    }

abbrev pub with_permission : Bool → Node → Node
with_permission permitted n =
    record {
      state = n.state;
      permission = permitted;
      error = n.error;
      wake = n.wake;
      heard = n.heard;
      caller = n.caller;
      quiet = n.quiet;
      delay = n.delay;
      standby = n.standby;
      counts = n.counts;
    }

-- asleep, with all clear but a permission
abbrev pub asleep : Bool → Node
asleep permitted = with_permission permitted (power_on true)

-- "Entering Sleep clears all but permission"
abbrev pub to_sleep : Node → Node
to_sleep n = asleep n.permission

abbrev pub with_wake : Node → Node
with_wake n =
    record {
      state = n.state;
      permission = n.permission;
      error = n.error;
      wake = true;
      heard = n.heard;
      caller = n.caller;
      quiet = n.quiet;
      delay = n.delay;
      standby = n.standby;
      counts = n.counts;
    }

abbrev pub with_heard : Node → Node
with_heard n =
    record {
      state = n.state;
      permission = n.permission;
      error = n.error;
      wake = n.wake;
      heard = true;
      caller = n.caller;
      quiet = n.quiet;
      delay = n.delay;
      standby = n.standby;
      counts = n.counts;
    }

abbrev pub with_quiet : ℕ → Bool → Node → Node
with_quiet ticks error n =
    record {
      state = n.state;
      permission = n.permission;
      error = error;
      wake = n.wake;
      heard = n.heard;
      caller = n.caller;
      quiet = ticks;
      delay = n.delay;
      standby = n.standby;
      counts = n.counts;
    }

abbrev pub with_delay : Option ℕ → Node → Node
with_delay delay n =
    record {
      state = n.state;
      permission = n.permission;
      error = n.error;
      wake = n.wake;
      heard = n.heard;
      caller = n.caller;
      quiet = n.quiet;
      delay = delay;
      standby = n.standby;
      counts = n.counts;
    }

abbrev pub with_standby : ℕ → Bool → Node → Node
with_standby ticks error n =
    record {
      state = n.state;
      permission = n.permission;
      error = error;
      wake = n.wake;
      heard = n.heard;
      caller = n.caller;
      quiet = n.quiet;
      delay = n.delay;
      standby = ticks;
      counts = n.counts;
    }

-- up by one modulo the number of counts
abbrev pub next_count : ℕ → ℕ
next_count count = if_else (ltb count (seq_counts - 1)) (count + 1) 0

-- "then the wake bit goes 0 and that row's count goes up modulo 4"
abbrev pub after_sending : ℕ → Node → Node
after_sending reqid n =
    record {
      state = n.state;
      permission = n.permission;
      error = n.error;
      wake = false;
      heard = n.heard;
      caller = n.caller;
      quiet = n.quiet;
      delay = n.delay;
      standby = n.standby;
      counts = set n.counts reqid (next_count (get_or n.counts reqid 0));
    }

-- no command
abbrev pub silent : Node → Reply
silent n = record { node = n; command = Command.Nothing; refusal = 0 }

-- "command a pulse"
abbrev pub calls : Node → Reply
calls n = record { node = n; command = Command.Pulse; refusal = 0 }

-- "A refused step returns the state as given and no command"
abbrev pub refuse : Node → ℕ → Reply
refuse n number = record { node = n; command = Command.Nothing; refusal = number }
