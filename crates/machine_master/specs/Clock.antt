-- "The clock is on exactly in Normal".
use Rattle.std.specs.Prelude.{Bool, true, false, ◌&&◌}
use Rattle.machine_state.specs.State.{is_normal}
use Rattle.machine_master.specs.declared.Phase.{Phase}
use Rattle.machine_master.specs.declared.Command.{Command}
use Rattle.machine_master.specs.declared.Master.{Master}

abbrev pub clock_on : Master → Bool
clock_on m = is_normal m.state

-- the clock after a command
abbrev pub switched : Command → Bool → Bool
switched Command.Nothing on = on
switched Command.ClockOn on = true
switched Command.ClockOff on = false
switched Command.SleepMessage on = on

-- the command that stops the clock
abbrev pub is_off : Command → Bool
is_off Command.Nothing = false
is_off Command.ClockOn = false
is_off Command.ClockOff = true
is_off Command.SleepMessage = false

abbrev pub is_closing : Phase → Bool
is_closing Phase.Open = false
is_closing Phase.Sending = false
is_closing Phase.Withdrawn = false
is_closing Phase.Closing = true

-- in Closing, a phase of Normal
abbrev pub closing : Master → Bool
closing m = is_normal m.state && is_closing m.phase
