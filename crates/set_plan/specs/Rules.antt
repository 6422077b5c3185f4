-- The rules of a plan record, by the numbers of their refusals.
use Rattle.std.specs.Prelude.{ℕ, ◌-◌, ◌/◌, ◌%◌, ◌≡◌, List, [], ◌∷◌, Bool, ◌&&◌, ◌||◌, not, leb, ltb, eqb}
use Rattle.base_lists.specs.Bounded.{if_else, all_to, any_to}
use Rattle.base_lists.specs.FirstBroken.{first_broken}
use Rattle.set_plan.specs.declared.NodeEntry.{NodeEntry}
use Rattle.set_plan.specs.declared.Row.{Row}
use Rattle.set_plan.specs.declared.Times.{Times}
use Rattle.set_plan.specs.declared.Plan.{Plan}
use Rattle.set_plan.specs.Answering.{master_number}
use Rattle.set_plan.specs.Limits.{max_nodes, max_rows, reqids, least_time, most_time}
use Rattle.set_plan.specs.Profile.{profile_right}
use Rattle.set_plan.specs.Record.{entry_at, row_at, rows_used}

abbrev pub between : ℕ → ℕ → ℕ → Bool
between least most x = leb least x && leb x most

-- 4: "revision, 1 to 65,535", of which 16 bits leave the lower end to judge
abbrev pub revision_right : Plan → Bool
revision_right p = not (eqb p.revision 0)

-- 5: "seven times in ticks of 1 ms, each 1 to 30,000"; "S is at least D"
abbrev pub time_right : ℕ → Bool
time_right t = between least_time most_time t

unfoldable pub times_right : Times → Bool
times_right t =
    time_right t.window && time_right t.stop && time_right t.sleep && time_right t.quiet
    && time_right t.recovery && time_right t.space && time_right t.start
    && leb t.stop t.sleep

-- 6: "address 1 to 125"; "diagnostic class 1 to 3; method, 0 event-triggered or 1 polled; 0"
unfoldable pub entry_right : NodeEntry → Bool
entry_right e = between 1 125 e.address && between 1 3 e.class && leb e.method 1 && eqb e.reserved 0

-- 6: addresses "all different": that of node k is not that of node j
unfoldable pub differs : List NodeEntry → ℕ → ℕ → Bool
differs nodes k j = not (eqb (entry_at nodes j).address (entry_at nodes k).address)

unfoldable pub node_right : List NodeEntry → ℕ → Bool
node_right nodes k = entry_right (entry_at nodes k) && all_to (differs nodes k) k

-- 6: "N, nodes, 1 to 16", and each node's entry
unfoldable pub nodes_right : Plan → Bool
nodes_right p = between 1 max_nodes p.nodecount && all_to (node_right p.nodes) p.nodecount

-- the ReqId that row j has to be above: that of the row before, 0 before the first
unfoldable pub reqid_before : List Row → ℕ → ℕ
reqid_before rows j = if_else (eqb j 0) 0 (row_at rows (j - 1)).reqid

-- 7: "ReqId 1 to 127, rising strictly"; "publisher, a node number below N or 255 for the master"; any length;
-- W-207: "7 for a last byte above 3"
unfoldable pub row_after : ℕ → ℕ → Row → Bool
row_after nodecount before r =
    ltb before r.reqid && ltb r.reqid reqids && (ltb r.publisher nodecount || eqb r.publisher master_number) && leb r.kind 3

-- a row's bytes as one number, the ReqId lowest and the kind highest
pub record RowWord (r : Row) (word : ℕ) : Type 0 where
  pub reqid : word % 256 ≡ r.reqid
  pub publisher : word / 256 % 256 ≡ r.publisher
  pub kind : word / 16777216 ≡ r.kind

unfoldable pub row_right : ℕ → List Row → ℕ → Bool
row_right nodecount rows j = row_after nodecount (reqid_before rows j) (row_at rows j)

-- 7: "rows in all 1 to 127", and each row
unfoldable pub rows_right : Plan → Bool
rows_right p = between 1 max_rows p.rowcount && all_to (row_right p.nodecount p.rows) p.rowcount

-- 8: "Each node publishes a row at least"
unfoldable pub is_from : List Row → ℕ → ℕ → Bool
is_from rows k j = eqb (row_at rows j).publisher k

unfoldable pub publishes : List Row → ℕ → ℕ → Bool
publishes rows count k = any_to (is_from rows k) count

unfoldable pub all_publish : Plan → Bool
all_publish p = all_to (publishes p.rows (rows_used p.rowcount)) p.nodecount

-- 3 to 8, true where kept
abbrev pub plan_rules : Plan → List Bool
plan_rules p = profile_right p.profile ∷ revision_right p ∷ times_right p.times ∷ nodes_right p ∷ rows_right p ∷ all_publish p ∷ []

-- the number of the first rule that a record breaks, 0 where it keeps them all
unfoldable pub plan_refusal : Plan → ℕ
plan_refusal p = first_broken 3 (plan_rules p)
