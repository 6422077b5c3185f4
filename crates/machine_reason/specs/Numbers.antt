-- The numbers of reasons and causes.
use Rattle.std.specs.Prelude.{ℕ, List, [], ◌∷◌}
use Rattle.machine_master.specs.Changes.{cause_new, cause_refused, cause_aged, cause_damaged, cause_wake}
use Rattle.machine_reason.specs.declared.Cause.{Cause}
use Rattle.machine_reason.specs.declared.Reason.{Reason}

-- a cause as the master stores it
abbrev pub cause_number : Cause → ℕ
cause_number Cause.New = cause_new
cause_number Cause.Refused = cause_refused
cause_number Cause.Aged = cause_aged
cause_number Cause.Damaged = cause_damaged
cause_number Cause.Woken = cause_wake

-- reason, node and cause
abbrev pub reason_numbers : Reason → List ℕ
reason_numbers Reason.Nothing = 0 ∷ 0 ∷ 0 ∷ []
reason_numbers Reason.UnderWay = 1 ∷ 0 ∷ 0 ∷ []
reason_numbers Reason.Owed = 2 ∷ 0 ∷ 0 ∷ []
reason_numbers Reason.Own = 3 ∷ 0 ∷ 0 ∷ []
reason_numbers (Reason.Node node cause) = 4 ∷ node ∷ cause_number cause ∷ []
reason_numbers Reason.Profile = 5 ∷ 0 ∷ 0 ∷ []
