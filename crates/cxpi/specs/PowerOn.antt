-- What the calls for power-on return.
use Rattle.std.specs.Prelude.{ℕ, List, ltb, eqb}
use Rattle.base_lists.specs.Bounded.{if_else}
use Rattle.set_plan.specs.Rules.{plan_refusal}
use Rattle.set_record.specs.Record.{record_of}

-- W-206, "power-on needs the plan .. (its refusals first, then 10)": 10 for a state buffer with less room than a state needs
abbrev pub start_refusal : ℕ → List ℕ → ℕ → ℕ
start_refusal needed plan room = if_else (eqb (plan_refusal (record_of plan)) 0) (if_else (ltb room needed) 10 0) (plan_refusal (record_of plan))
