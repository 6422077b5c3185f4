-- The master's replies as records of numbers.
use Rattle.std.specs.Prelude.{ℕ}
use Rattle.machine_master.specs.declared.Command.{Command}
use Rattle.machine_master.specs.declared.Reply.{Reply}
use Rattle.machine_events.specs.declared.ReplyRecord.{ReplyRecord}

-- 0 nothing, 1 clock on, 2 clock off, 3 send the sleep message
abbrev pub command_number : Command → ℕ
command_number Command.Nothing = 0
command_number Command.ClockOn = 1
command_number Command.ClockOff = 2
command_number Command.SleepMessage = 3

-- what a step gives beside the master
abbrev pub reply_record : Reply → ReplyRecord
reply_record r = record { refusal = r.refusal; node = r.node; command = command_number r.command; lost = r.lost }
