-- The proved cases of R7.10, as one statement over a list.
use Rattle.std.specs.Prelude.{ℕ, Bool, true, false, ◌≡◌, List, [], ◌∷◌, set, take, replicate}
use Rattle.machine_state.specs.declared.State.{State}
use Rattle.set_plan.specs.declared.Plan.{Plan}
use Rattle.set_reader.specs.Read.{ReadResult}
use Rattle.set_reader.specs.Read.{refused, read_set}
use Rattle.set_writer.specs.Write.{with_check}
use Rattle.machine_master.specs.declared.Phase.{Phase}
use Rattle.machine_master.specs.declared.Hold.{Hold}
use Rattle.machine_master.specs.declared.Command.{Command}
use Rattle.machine_master.specs.declared.Master.{Master}
use Rattle.machine_master.specs.declared.Event.{Event}
use Rattle.machine_master.specs.declared.Reply.{Reply}
use Rattle.machine_master.specs.Changes.{no_hold, cause_new, cause_refused, cause_aged, cause_wake, no_counts, commands}
use Rattle.machine_master.specs.Step.{master_step}
use Rattle.test_proved_cases.specs.SetT.{set_t, plan_t, plan_with}

-- one case: what is done, and the whole answer that the requirements give
pub data Case : Type 0 where
  -- these bytes are read
  Reads : List ℕ → ReadResult → Case
  -- under set T's plan this master is handed an event, and events after it; the reply to the last
  Steps : Master → Event → List Event → Reply → Case

-- the reply to the last of some events
abbrev pub last_reply : Master → Event → List Event → Reply
last_reply m e [] = master_step plan_t m e
last_reply m e (next ∷ events) = last_reply (master_step plan_t m e).master next events

-- the case is so
abbrev pub CaseHolds : Case → Type 0
CaseHolds (Reads bytes answer) = read_set bytes ≡ answer
CaseHolds (Steps m e events reply) = last_reply m e events ≡ reply

-- every case of a list is so
abbrev pub AllCasesHold : List Case → Type 0
AllCasesHold [] = Unit {0}
AllCasesHold (e ∷ cases) = CaseHolds e × AllCasesHold cases

-- T with one byte changed, checks mended
abbrev pub changed : ℕ → ℕ → List ℕ
changed offset byte = with_check (with_check (set set_t offset byte) 0) 1

abbrev pub accepted : Plan → ReadResult
accepted plan = record { refusal = 0; plan = plan }

-- a permitting master in Normal, with node 0's permission and cause and the last count of ReqId 16, after so many ticks
abbrev pub awake : Phase → Hold → ℕ → ℕ → ℕ → Master
awake phase hold cause last ticks =
    record {
      state = State.Normal;
      phase = phase;
      permission = true;
      holds = hold ∷ replicate 15 no_hold;
      causes = cause ∷ replicate 15 cause_new;
      counts = set no_counts 16 last;
      delay = 0;
      ticks = ticks;
    }

abbrev pub held : ℕ → Hold
held age = record { held = true; age = age }

-- node 0's answer, whole, with a count, a permission bit and a wake bit
abbrev pub answer : ℕ → Bool → Bool → Event
answer count permission wake =
    Event.Answer (record { reqid = 16; result = 0; length = 2; count = count; permission = permission; wake = wake })

abbrev pub lost : ℕ → Master → Reply
lost number m = record { master = m; command = Command.Nothing; refusal = 0; node = 0; lost = number }

abbrev pub cases : List Case
cases =
    -- (1) T reads
    Reads set_t (accepted plan_t)
    -- (2) T with block 1 of revision 8, check mended: 4
    ∷ Reads (changed 515 8) (refused 4)
    -- (3) 512 bytes: 1
    ∷ Reads (take 512 set_t) (refused 1)
    -- (4) S 2, D 2 accepted
    ∷ Reads (changed 11 2) (accepted (plan_with 2))
    -- (5) S 1, D 2: 5
    ∷ Reads (changed 11 1) (refused 5)
    -- (6) W 10, age 10: sleep ask goes
    ∷ Steps (awake Phase.Open (held 10) cause_new 4 0) Event.SleepAsk [] (commands Command.SleepMessage (awake Phase.Sending (held 10) cause_new 4 0))
    -- (7) the same after one more tick: 20
    ∷ Steps (awake Phase.Open (held 10) cause_new 4 0) Event.Tick (Event.SleepAsk ∷ [])
    (record { master = awake Phase.Open no_hold cause_aged 4 1; command = Command.Nothing; refusal = 20; node = 0; lost = 0 })
    -- (8) last 3, count 0: lost 0
    ∷ Steps (awake Phase.Open no_hold cause_new 3 0) (answer 0 true false) [] (lost 0 (awake Phase.Open (held 0) cause_new 0 0))
    -- (9) last 1, count 1: lost 3
    ∷ Steps (awake Phase.Open no_hold cause_new 1 0) (answer 1 true false) [] (lost 3 (awake Phase.Open (held 0) cause_new 1 0))
    -- (10) wake and permission bits both 1: nothing held
    ∷ Steps (awake Phase.Open (held 5) cause_new 4 0) (answer 0 true true) [] (lost 0 (awake Phase.Open no_hold cause_wake 0 0))
    -- (11) refusal in Closing: Open, clock on
    ∷ Steps (awake Phase.Closing (held 5) cause_new 4 0) (answer 0 false false) [] (lost 0 (awake Phase.Open no_hold cause_refused 0 0))
    ∷ []
