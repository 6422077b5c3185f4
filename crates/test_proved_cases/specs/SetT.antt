-- Set T (R1.14), and its record.
use Rattle.std.specs.Prelude.{ℕ, List, [], ◌∷◌, ◌++◌, replicate}
use Rattle.set_plan.specs.declared.Plan.{Plan}
use Rattle.set_plan.specs.Record.{zero_entry, zero_row}

-- "revision 7, N 1, times 10 2 3 4 5 6 1, node 41 hex, class 1, polled; row 16, 0, 2, 1. Checks 0AA9 and 0122 hex"
abbrev pub set_t : List ℕ
set_t =
    (0x50 ∷ 1 ∷ 0 ∷ 7 ∷ 1 ∷ 0 ∷ 0 ∷ 10 ∷ 0 ∷ 2 ∷ 0 ∷ 3 ∷ 0 ∷ 4 ∷ 0 ∷ 5 ∷ 0 ∷ 6 ∷ 0 ∷ 1 ∷ replicate 12 0)
    ++ (0x41 ∷ 1 ∷ 1 ∷ 0 ∷ replicate 474 0) ++ (0x0a ∷ 0xa9 ∷ [])
    ++ (0x4d ∷ 1 ∷ 0 ∷ 7 ∷ 1 ∷ 0 ∷ 0 ∷ 0 ∷ 16 ∷ 0 ∷ 2 ∷ 1 ∷ replicate 498 0) ++ (0x01 ∷ 0x22 ∷ [])

-- T's record with another node sleep time S
abbrev pub plan_with : ℕ → Plan
plan_with sleep =
    record {
      revision = 7;
      profile = 0;
      nodecount = 1;
      times = record { window = 10; stop = 2; sleep = sleep; quiet = 4; recovery = 5; space = 6; start = 1 };
      nodes = record { address = 0x41; class = 1; method = 1; reserved = 0 } ∷ replicate 15 zero_entry;
      rowcount = 1;
      rows = record { reqid = 16; publisher = 0; length = 2; kind = 1 } ∷ replicate 126 zero_row;
    }

abbrev pub plan_t : Plan
plan_t = plan_with 3
