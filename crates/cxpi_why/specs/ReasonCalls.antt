-- What the explanation's call gives and leaves.
use Rattle.std.specs.Prelude.{ℕ, List, ltb, eqb, length}
use Rattle.std.proofs.lemmas.List.Edits.{sets}
use Rattle.base_lists.specs.Bounded.{if_else}
use Rattle.set_plan.specs.Profile.{sleeps}
use Rattle.set_plan.specs.Rules.{plan_refusal}
use Rattle.set_record.specs.Record.{record_of}
use Rattle.packed_master.specs.States.{master_of}
use Rattle.machine_reason.specs.declared.Explained.{Explained}
use Rattle.machine_reason.specs.declared.Reason.{Reason}
use Rattle.machine_reason.specs.Numbers.{reason_numbers}
use Rattle.machine_reason.specs.Reasons.{refused, explain_with}

-- the bytes of a reply: reason, node and cause
abbrev pub reason_length : ℕ
reason_length = 3

-- "10 after the plan's numbers"; then 11, which bytes that are no state give too, and 16
abbrev pub reason_reply : List ℕ → List ℕ → ℕ → Explained
reason_reply plan state room =
    if_else (eqb (plan_refusal (record_of plan)) 0)
    (if_else (ltb room reason_length) (refused 10) (explain_with (sleeps (record_of plan)) (record_of plan).nodecount (record_of plan).times (master_of state)))
    (refused (plan_refusal (record_of plan)))

-- "three bytes, reason, node and cause, zeros after a refusal"; a buffer that is too short is not written
abbrev pub reason_leaves : Reason → List ℕ → List ℕ
reason_leaves reason reply = if_else (ltb (length reply) reason_length) reply (sets reply 0 (reason_numbers reason))
