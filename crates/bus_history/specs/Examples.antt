-- Short lists of moves, by which demand 3 is seen to say something and its times to be exact.
use Rattle.std.specs.Prelude.{ℕ, zero, suc, Bool, true, false, List, [], ◌∷◌, ◌++◌, replicate}
use Rattle.set_plan.specs.declared.Plan.{Plan}
use Rattle.set_plan.specs.declared.Times.{Times}
use Rattle.set_plan.specs.Limits.{max_nodes}
use Rattle.set_plan.specs.Record.{zero_entry, zero_row}
use Rattle.bus.specs.declared.Act.{Act}
use Rattle.bus.specs.declared.Bus.{Bus}
use Rattle.bus.specs.declared.Fate.{Fate}
use Rattle.bus.specs.declared.Move.{Move}

-- two nodes, each with a row: ReqId 1 of node 0, with a count, and ReqId 2 of node 1
abbrev pub plan_with : Times → Plan
plan_with times =
    record {
      revision = 1;
      profile = 0;
      nodecount = 2;
      times = times;
      nodes = record { address = 1; class = 1; method = 0; reserved = 0 } ∷ record { address = 2; class = 1; method = 0; reserved = 0 } ∷ replicate 14 zero_entry;
      rowcount = 2;
      rows = record { reqid = 1; publisher = 0; length = 2; kind = 1 } ∷ record { reqid = 2; publisher = 1; length = 2; kind = 0 } ∷ replicate 125 zero_row;
    }

-- R + P = 5 is the largest; W = 3, S + 2 = 4
abbrev pub plan : Plan
plan = plan_with (record { window = 3; stop = 2; sleep = 2; quiet = 1; recovery = 2; space = 3; start = 1 })

-- E = 6 is
abbrev pub quiet_plan : Plan
quiet_plan = plan_with (record { window = 3; stop = 2; sleep = 2; quiet = 6; recovery = 1; space = 1; start = 1 })

-- 2R = 6 is
abbrev pub recovery_plan : Plan
recovery_plan = plan_with (record { window = 3; stop = 2; sleep = 2; quiet = 1; recovery = 3; space = 1; start = 1 })

-- R + P = 5 is, and W = 9 is above it
abbrev pub window_plan : Plan
window_plan = plan_with (record { window = 9; stop = 2; sleep = 2; quiet = 1; recovery = 2; space = 3; start = 1 })

-- the first plan for a panel that never sleeps
abbrev pub never_plan : Plan
never_plan =
    record {
      revision = plan.revision;
      profile = 1;
      nodecount = plan.nodecount;
      times = plan.times;
      nodes = plan.nodes;
      rowcount = plan.rowcount;
      rows = plan.rows;
    }

-- a bus that loses nothing, and one that carries nothing but a pulse to some nodes
abbrev pub lossless : Bus
lossless = record { reached = replicate max_nodes true; hearing = replicate max_nodes true; master = true; fate = Fate.Whole 2 }

abbrev pub deaf : Bool → Bus
deaf hearing = record { reached = replicate max_nodes false; hearing = replicate max_nodes hearing; master = false; fate = Fate.Lost }

abbrev pub does : Act → Move
does act = record { act = act; bus = lossless }

abbrev pub ticks : ℕ → Bus → List Move
ticks zero bus = []
ticks (suc n) bus = record { act = Act.Tick; bus = bus } ∷ ticks n bus

-- node 0 wakes the master, and all permit
abbrev pub permitting : List Move
permitting =
    does (Act.NodeWakeAsk 0) ∷ does Act.Tick ∷ does (Act.NodePermission 0 true) ∷ does (Act.NodePermission 1 true) ∷ does (Act.MasterPermission true) ∷ []

-- both answer; node 0's first answer carries the wake bit
abbrev pub answering : List Move
answering = permitting ++ (does (Act.Request 1) ∷ does (Act.Request 1) ∷ does (Act.Request 2) ∷ [])

-- so many ticks later the application asks for sleep
abbrev pub asking_after : ℕ → List Move
asking_after n = answering ++ ticks n lossless ++ (does Act.SleepAsk ∷ [])

-- at once: the sleep message is sent
abbrev pub asking : List Move
asking = asking_after 0

-- the message's result reaches a set of nodes
abbrev pub result : Bool → Bool → Move
result sent reached = record { act = Act.SendResult sent; bus = record { reached = replicate max_nodes reached; hearing = replicate max_nodes true; master = true; fate = Fate.Whole 2 } }

-- it goes out: the clock stops at the D-th tick
abbrev pub stopping : List Move
stopping = asking ++ (result true true ∷ ticks 2 lossless)

-- the same, but for a move after the sending by which somebody takes back what was agreed
abbrev pub taking_back : Move → List Move
taking_back m = asking ++ (m ∷ result true true ∷ ticks 3 lossless)

-- a damaged answer, and one of a node whose application has said no since
abbrev pub damaged : Move
damaged = record { act = Act.Request 1; bus = record { reached = replicate max_nodes true; hearing = []; master = false; fate = Fate.Damaged (record { result = 1; length = 2; count = 0; permission = true; wake = false }) } }

abbrev pub refusing : List Move
refusing = asking ++ (does (Act.NodePermission 1 false) ∷ does (Act.Request 2) ∷ result true true ∷ ticks 3 lossless)

-- node 0 calls and nobody hears; its second pulse, at the R-th tick, wakes node 1, which sleeps P ticks later
abbrev pub calling : ℕ → List Move
calling n = record { act = Act.NodeWakeAsk 0; bus = deaf false } ∷ ticks n (deaf true)

-- the same, and after k ticks node 1 asks too, unheard
abbrev pub calling_both : ℕ → ℕ → List Move
calling_both k n = calling k ++ (record { act = Act.NodeWakeAsk 1; bus = deaf false } ∷ ticks n (deaf true))

-- the message is sent and reaches nobody: the clock stops at the D-th tick, D = 2, and stays off for n ticks, that one the first
abbrev pub unreached : ℕ → List Move
unreached n = asking ++ (result true false ∷ does Act.Tick ∷ ticks n lossless)

-- the message fails but reaches the nodes: the clock stays on, they sleep at the S-th tick and are back at the one after the next
abbrev pub failing : ℕ → List Move
failing n = asking ++ (result false true ∷ ticks n lossless)

-- the same, a tick earlier than the message
abbrev pub failing_later : ℕ → List Move
failing_later n = asking ++ (does Act.Tick ∷ result false true ∷ ticks n lossless)

-- the master's application wakes it: C = 1, so the clock is on from the first tick on
abbrev pub waking : ℕ → List Move
waking n = does Act.MasterWakeAsk ∷ ticks n lossless
