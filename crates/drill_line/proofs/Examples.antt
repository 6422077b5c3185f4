-- Lines judged, in a plan of sixteen nodes.
use Prim.Native.String.{String}
use mathlib.Core.Path.{◌≡◌, refl}
use mathlib.Core.List.{List, [], ◌∷◌, map}
use mathlib.Core.Bool.{true, false}
use Rattle.std.specs.Prelude.{Option, Some, None}
use Rattle.bus.specs.declared.Act.{Act}
use Rattle.bus.specs.declared.Fate.{Fate}
use Rattle.base_text.specs.Text.{ascii}
use Rattle.drill_line.specs.declared.LineMove.{LineMove}
use Rattle.drill_line.specs.Words.{cut, number_of}
use Rattle.drill_line.specs.Parse.{whole, damaged, who_of, reqid_of, fate_of, permission_of, parse_line}

abbrev parsed : List String → List (Option LineMove)
parsed lines = map (λ line. parse_line (ascii line) 16) lines

-- moves of which the bus loses nothing
pub whole_moves : parsed ("tick" ∷ "wake 15" ∷ "wake m" ∷ "permit 0 1" ∷ "permit m 0" ∷ "req 0 ok" ∷ "sleep" ∷ "sent ok" ∷ [])
    ≡ map (λ act. Some (record { act = act; reached = true; fate = whole })) (
    Act.Tick ∷ Act.NodeWakeAsk 15 ∷ Act.MasterWakeAsk ∷ Act.NodePermission 0 true ∷ Act.MasterPermission false ∷ Act.Request 0 ∷ Act.SleepAsk
    ∷ Act.SendResult true ∷ [])
unfolding parse_line cut number_of who_of reqid_of fate_of permission_of
whole_moves = refl

pub other_moves : parsed ("req 127 bad" ∷ "send 9 10 lost" ∷ "sent fail" ∷ [])
    ≡ Some (record { act = Act.Request 127; reached = true; fate = damaged }) ∷ Some (record { act = Act.SendAsk 9 10; reached = true; fate = Fate.Lost })
    ∷ Some (record { act = Act.SendResult false; reached = false; fate = whole }) ∷ []
unfolding parse_line cut number_of who_of reqid_of fate_of permission_of
other_moves = refl

abbrev odd : List String
odd =
    "" ∷ " " ∷ "Tick" ∷ "tick " ∷ " tick" ∷ "tick\r" ∷ "tick 1" ∷ "wake" ∷ "wake 16" ∷ "wake 00" ∷ "wake 01" ∷ "wake  1" ∷ "wake\t1" ∷ "wake 1000"
    ∷ "permit 0 2" ∷ "permit 0 01" ∷ "req 128 ok" ∷ "req 016 ok" ∷ "req m ok" ∷ "req 16 fail" ∷ "send m 16 ok" ∷ "send 0 16" ∷ "sent bad" ∷ []

pub no_moves : parsed odd ≡ map (λ line. None) odd
unfolding parse_line cut number_of who_of reqid_of fate_of permission_of
no_moves = refl
