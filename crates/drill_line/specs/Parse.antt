-- The move that a line names.
use Rattle.std.specs.Prelude.{ℕ, List, [], ◌∷◌, Bool, true, false, ltb, replicate, Option, Some, None, option_and_then, option_map}
use Rattle.std.specs.Str.{bytes_eq}
use Rattle.base_lists.specs.Bounded.{if_else}
use Rattle.set_plan.specs.Limits.{max_nodes, reqids}
use Rattle.bus.specs.declared.Act.{Act}
use Rattle.bus.specs.declared.Fate.{Fate}
use Rattle.bus.specs.declared.Move.{Move}
use Rattle.base_text.specs.Text.{ascii}
use Rattle.drill_line.specs.Words.{words, number_of}
use Rattle.drill_line.specs.declared.LineMove.{LineMove}
use Rattle.drill_line.specs.declared.Who.{Who}

abbrev pub below : ℕ → ℕ → Option ℕ
below limit n = if_else (ltb n limit) (Some n) None

abbrev pub number_below : List ℕ → ℕ → Option ℕ
number_below w limit = option_and_then (below limit) (number_of w)

-- "X a node number below N or m"
unfoldable pub who_of : List ℕ → ℕ → Option Who
who_of w nodecount = if_else (bytes_eq w (ascii "m")) (Some Who.Master) (option_map (λ node. Who.Node node) (number_below w nodecount))

-- "R 0 to 127"
unfoldable pub reqid_of : List ℕ → Option ℕ
reqid_of w = number_below w reqids

-- W-207: "The drill sends the row's own length", which no row's is above
abbrev pub whole : Fate
whole = Fate.Whole 65535

-- "damaged (result not 0, ReqId kept, count still 0 to 3)": result 1, and all else clear, which the master does not look at
abbrev pub damaged : Fate
damaged = Fate.Damaged (record { result = 1; length = 0; count = 0; permission = false; wake = false })

-- "H being ok, bad or lost for the answer"
unfoldable pub fate_of : List ℕ → Option Fate
fate_of w =
    if_else (bytes_eq w (ascii "ok")) (Some whole)
    (if_else (bytes_eq w (ascii "bad")) (Some damaged)
    (if_else (bytes_eq w (ascii "lost")) (Some Fate.Lost)
    None))

-- a move of which the bus loses nothing
abbrev pub lossless : Act → LineMove
lossless act = record { act = act; reached = true; fate = whole }

-- `tick`; `sleep`
abbrev pub one_word : List ℕ → Option LineMove
one_word w = if_else (bytes_eq w (ascii "tick")) (Some (lossless Act.Tick)) (if_else (bytes_eq w (ascii "sleep")) (Some (lossless Act.SleepAsk)) None)

abbrev pub wake_of : Who → LineMove
wake_of (Who.Node node) = lossless (Act.NodeWakeAsk node)
wake_of Who.Master = lossless Act.MasterWakeAsk

-- "`sent ok` (reaches all) or `sent fail` (none)"
abbrev pub sent_of : List ℕ → Option LineMove
sent_of result =
    if_else (bytes_eq result (ascii "ok")) (Some (lossless (Act.SendResult true)))
    (if_else (bytes_eq result (ascii "fail")) (Some (record { act = Act.SendResult false; reached = false; fate = whole }))
    None)

-- `wake X`; `sent ok` or `sent fail`
abbrev pub two_words : List ℕ → List ℕ → ℕ → Option LineMove
two_words w x nodecount =
    if_else (bytes_eq w (ascii "wake")) (option_map wake_of (who_of x nodecount)) (if_else (bytes_eq w (ascii "sent")) (sent_of x) None)

unfoldable pub permission_of : List ℕ → Option Bool
permission_of w = if_else (bytes_eq w (ascii "0")) (Some false) (if_else (bytes_eq w (ascii "1")) (Some true) None)

abbrev pub permit_who : Who → Bool → LineMove
permit_who (Who.Node node) permitted = lossless (Act.NodePermission node permitted)
permit_who Who.Master permitted = lossless (Act.MasterPermission permitted)

abbrev pub permit_of : List ℕ → List ℕ → ℕ → Option LineMove
permit_of x permission nodecount = option_and_then (λ who. option_map (permit_who who) (permission_of permission)) (who_of x nodecount)

abbrev pub request_of : ℕ → Fate → LineMove
request_of reqid fate = record { act = Act.Request reqid; reached = true; fate = fate }

-- `permit X 0` or `1`; `req R H`
abbrev pub three_words : List ℕ → List ℕ → List ℕ → ℕ → Option LineMove
three_words w x y nodecount =
    if_else (bytes_eq w (ascii "permit")) (permit_of x y nodecount)
    (if_else (bytes_eq w (ascii "req")) (option_and_then (λ reqid. option_map (request_of reqid) (fate_of y)) (reqid_of x))
    None)

-- "(not m)"
abbrev pub send_of : Who → ℕ → Fate → Option LineMove
send_of (Who.Node node) reqid fate = Some (record { act = Act.SendAsk node reqid; reached = true; fate = fate })
send_of Who.Master reqid fate = None

-- `send X R H`
abbrev pub four_words : List ℕ → List ℕ → List ℕ → List ℕ → ℕ → Option LineMove
four_words w x y z nodecount =
    if_else (bytes_eq w (ascii "send")) (option_and_then (λ who. option_and_then (λ reqid. option_and_then (send_of who reqid) (fate_of z)) (reqid_of y)) (who_of x nodecount)) None

abbrev pub line_of : List (List ℕ) → ℕ → Option LineMove
line_of [] nodecount = None
line_of (w ∷ []) nodecount = one_word w
line_of (w ∷ x ∷ []) nodecount = two_words w x nodecount
line_of (w ∷ x ∷ y ∷ []) nodecount = three_words w x y nodecount
line_of (w ∷ x ∷ y ∷ z ∷ []) nodecount = four_words w x y z nodecount
line_of (w ∷ x ∷ y ∷ z ∷ v ∷ more) nodecount = None

-- the move that a line names in a plan of so many nodes
unfoldable pub parse_line : List ℕ → ℕ → Option LineMove
parse_line text nodecount = line_of (words text) nodecount

-- "Nothing else is lost": all nodes and the master hear every pulse
abbrev pub on_drill_bus : Act → Bool → Fate → Move
on_drill_bus act reached fate = record { act = act; bus = record { reached = replicate max_nodes reached; hearing = replicate max_nodes true; master = true; fate = fate } }
