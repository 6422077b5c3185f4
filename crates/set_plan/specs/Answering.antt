-- What a plan says of its nodes and of their answers.
use Rattle.std.specs.Prelude.{ℕ, ◌%◌, Bool, leb, eqb}
use Rattle.base_lists.specs.Bounded.{if_else}
use Rattle.set_plan.specs.declared.Row.{Row}
use Rattle.set_plan.specs.declared.Plan.{Plan}
use Rattle.set_plan.specs.Record.{entry_at}

-- "255 for the master"
abbrev pub master_number : ℕ
master_number = 255

-- "method, 0 event-triggered or 1 polled"
abbrev pub is_polled : Plan → ℕ → Bool
is_polled p k = eqb (entry_at p.nodes k).method 1

-- a row's last byte: "1 if it carries a sequence count, else 0"; W-207: "may now also be 2, variable without count, or 3, variable with count"
abbrev pub is_counted : Row → Bool
is_counted r = eqb (r.kind % 2) 1

abbrev pub is_variable : Row → Bool
is_variable r = leb 2 r.kind

-- "a length its row accepts"; W-207: a variable row "accepts any length up to its own"
abbrev pub accepts : Row → ℕ → Bool
accepts r length = if_else (is_variable r) (leb length r.length) (eqb length r.length)
