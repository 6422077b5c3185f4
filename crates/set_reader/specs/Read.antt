-- The result of reading a set's bytes.
use Rattle.std.specs.Prelude.{ℕ, List, ◌++◌, Bool, eqb, ltb, Result, Ok, Err}
use Rattle.base_lists.specs.Bounded.{if_else}
use Rattle.base_lists.specs.FirstBroken.{first_broken}
use Rattle.base_refusals.specs.declared.Refusal.{Refusal}
use Rattle.base_refusals.specs.Numbers.{number}
use Rattle.set_plan.specs.declared.Plan.{Plan}
use Rattle.set_plan.specs.Record.{zero_plan}
use Rattle.set_record.specs.Offsets.{record_length}
use Rattle.set_reader.specs.Layout.{plan_of}
use Rattle.set_reader.specs.Rules.{shape_rules, content_rules}

-- the nine rules, true where kept
abbrev pub set_rules : List ℕ → List Bool
set_rules s = shape_rules s ++ content_rules s (plan_of s)

-- "Reading checks 1 to 9 in that order"
unfoldable pub set_refusal : List ℕ → ℕ
set_refusal s = first_broken 1 (set_rules s)

-- what a read gives: 0 and the record, or a number and the all-zero record
pub record ReadResult : Type 0 where
  pub refusal : ℕ
  pub plan : Plan

-- "A refused read returns the number and an all-zero record"
abbrev pub refused : ℕ → ReadResult
refused number = record { refusal = number; plan = zero_plan }

-- the value that a call returns, so told
abbrev pub read_told : Result Plan Refusal → ReadResult
read_told (Ok plan) = record { refusal = 0; plan = plan }
read_told (Err refusal) = refused (number refusal)

unfoldable pub read_set : List ℕ → ReadResult
read_set s = if_else (eqb (set_refusal s) 0) (record { refusal = 0; plan = plan_of s }) (refused (set_refusal s))

-- reading into a buffer of so many bytes: 1 to 9, then 10 where it is too short for the packed record
abbrev pub record_refusal : List ℕ → ℕ → ℕ
record_refusal s room = if_else (eqb (set_refusal s) 0) (if_else (ltb room record_length) 10 0) (set_refusal s)
