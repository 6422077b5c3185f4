-- The master's waking and its own permission.
use Rattle.std.specs.Prelude.{Bool, true, false}
use Rattle.machine_state.specs.declared.State.{State}
use Rattle.machine_master.specs.declared.Master.{Master}
use Rattle.machine_master.specs.declared.Reply.{Reply}
use Rattle.machine_master.specs.Changes.{in_state, with_permission, drop_all, call_back, silent}

-- "Wake-up pulse, or own ask to wake: in Normal let all go and call back; in Sleep go Standby; in Standby nothing"
abbrev pub wake_up_by : State → Master → Reply
wake_up_by State.Normal m = silent (call_back (drop_all m))
wake_up_by State.Sleep m = silent (in_state State.Standby m)
wake_up_by State.Standby m = silent m

abbrev pub wake_up_step : Master → Reply
wake_up_step m = wake_up_by m.state m

-- "Own permission, any state: set; a no calls back"
abbrev pub permission_step : Bool → Master → Reply
permission_step true m = silent (with_permission true m)
permission_step false m = silent (call_back (with_permission false m))
