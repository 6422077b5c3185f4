-- Each reason and each cause on a computed list that shows it, beside lists a move or a tick away that show another.
use mathlib.Core.Path.{◌≡◌, refl}
use mathlib.Core.Bool.{true, false}
use mathlib.Core.List.{List, [], ◌∷◌, ◌++◌}
use Rattle.base_lists.specs.Bounded.{any_to, first_to, tab}
use Rattle.set_plan.specs.Find.{has_reqid, row_among, find_row}
use Rattle.machine_master.specs.Changes.{all_woken}
use Rattle.machine_master.specs.Sleeping.{not_held}
use Rattle.machine_master.specs.Ticks.{all_older, all_aged_out}
use Rattle.machine_reason.specs.declared.Cause.{Cause}
use Rattle.machine_reason.specs.declared.Explained.{Explained}
use Rattle.machine_reason.specs.declared.Reason.{Reason}
use Rattle.machine_reason.specs.Reasons.{explained_by, refused}
use Rattle.bus.specs.declared.Act.{Act}
use Rattle.bus.specs.declared.Move.{Move}
use Rattle.bus_history.specs.Examples.{plan, lossless, does, ticks, permitting, answering, asking, result, stopping, damaged}
use Rattle.bus_history.specs.Run.{run}
use Rattle.bus_claims.specs.Reasons.{shown}

-- what a list shows under the first plan, whose window is 3
abbrev shows : List Move → Explained
shows moves = shown plan (run plan moves).past

abbrev node0 : Cause → Explained
node0 cause = explained_by (Reason.Node 0 cause)

-- no tick yet, the last tick left the clock off, and the first that leaves it on
clocks :
    (shows [] ≡ refused 16)
    × (shows (does (Act.NodeWakeAsk 0) ∷ []) ≡ refused 16)
    × (shows (does (Act.NodeWakeAsk 0) ∷ does Act.Tick ∷ []) ≡ explained_by Reason.Own)
    × (shows stopping ≡ refused 16)
unfolding find_row row_among has_reqid first_to any_to not_held all_older all_aged_out all_woken tab
clocks = (refl, refl, refl, refl)

-- a message under way: sent and without a result, sent and before the stop; failed; called back, with its result owed and after it
messages :
    (shows answering ≡ explained_by Reason.Nothing)
    × (shows asking ≡ explained_by Reason.UnderWay)
    × (shows (asking ++ (result true true ∷ [])) ≡ explained_by Reason.UnderWay)
    × (shows (asking ++ (result false true ∷ [])) ≡ explained_by Reason.Nothing)
    × (shows (asking ++ (does Act.MasterWakeAsk ∷ [])) ≡ explained_by Reason.Owed)
    × (shows (asking ++ (does (Act.MasterPermission false) ∷ [])) ≡ explained_by Reason.Owed)
    × (shows (asking ++ (damaged ∷ [])) ≡ explained_by Reason.Owed)
    × (shows (asking ++ (does (Act.MasterPermission false) ∷ result true true ∷ [])) ≡ explained_by Reason.Own)
    × (shows (asking ++ (result true true ∷ does (Act.MasterPermission false) ∷ [])) ≡ explained_by Reason.Own)
    × (shows (asking ++ (does Act.MasterWakeAsk ∷ result true true ∷ [])) ≡ node0 Cause.Woken)
unfolding find_row row_among has_reqid first_to any_to not_held all_older all_aged_out all_woken tab
messages = (refl, refl, refl, refl, refl, refl, refl, refl, refl, refl)

-- never answered; the answer that carries the wake bit; refused, damaged, and the lowest node first
answers :
    (shows permitting ≡ node0 Cause.New)
    × (shows (permitting ++ (does (Act.Request 1) ∷ [])) ≡ node0 Cause.Woken)
    × (shows (permitting ++ (does (Act.Request 1) ∷ does (Act.Request 1) ∷ [])) ≡ explained_by (Reason.Node 1 Cause.New))
    × (shows (answering ++ (does (Act.NodePermission 0 false) ∷ [])) ≡ explained_by Reason.Nothing)
    × (shows (answering ++ (does (Act.NodePermission 0 false) ∷ does (Act.Request 1) ∷ [])) ≡ node0 Cause.Refused)
    × (shows (answering ++ (does (Act.NodePermission 1 false) ∷ does (Act.Request 2) ∷ [])) ≡ explained_by (Reason.Node 1 Cause.Refused))
    × (shows (answering ++ (damaged ∷ [])) ≡ node0 Cause.Damaged)
    × (shows (answering ++ (damaged ∷ does (Act.Request 1) ∷ [])) ≡ explained_by Reason.Nothing)
unfolding find_row row_among has_reqid first_to any_to not_held all_older all_aged_out all_woken tab
answers = (refl, refl, refl, refl, refl, refl, refl, refl)

-- the window's edge: held at the W-th tick, aged out at the next; a wake-up counts only within it, and no other cause gives way to it
windows :
    (shows (answering ++ ticks 3 lossless) ≡ explained_by Reason.Nothing)
    × (shows (answering ++ ticks 4 lossless) ≡ node0 Cause.Aged)
    × (shows (answering ++ ticks 3 lossless ++ (does Act.MasterWakeAsk ∷ [])) ≡ node0 Cause.Woken)
    × (shows (answering ++ ticks 4 lossless ++ (does Act.MasterWakeAsk ∷ [])) ≡ node0 Cause.Aged)
    × (shows (answering ++ (damaged ∷ does Act.MasterWakeAsk ∷ [])) ≡ node0 Cause.Damaged)
    × (shows (answering ++ (does Act.MasterWakeAsk ∷ []) ++ ticks 4 lossless) ≡ node0 Cause.Woken)
unfolding find_row row_among has_reqid first_to any_to not_held all_older all_aged_out all_woken tab
windows = (refl, refl, refl, refl, refl, refl)

-- what was answered before the clock was last switched on shows nothing
again : shows (stopping ++ ticks 1 lossless ++ (does Act.MasterWakeAsk ∷ does Act.Tick ∷ [])) ≡ node0 Cause.New
unfolding find_row row_among has_reqid first_to any_to not_held all_older all_aged_out all_woken tab
again = refl
