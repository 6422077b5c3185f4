-- The words for a set.
use Rattle.std.specs.Prelude.{ℕ, zero, suc, Bool, List, [], ◌++◌, eqb}
use Rattle.base_lists.specs.Bounded.{if_else}
use Rattle.set_plan.specs.declared.NodeEntry.{NodeEntry}
use Rattle.set_plan.specs.declared.Row.{Row}
use Rattle.set_plan.specs.declared.Times.{Times}
use Rattle.set_plan.specs.declared.Plan.{Plan}
use Rattle.set_plan.specs.Answering.{is_counted, is_variable}
use Rattle.set_plan.specs.Profile.{sleeps}
use Rattle.set_plan.specs.Record.{entry_at, row_at}
use Rattle.set_reader.specs.Read.{ReadResult}
use Rattle.base_text.specs.Text.{ascii, decimal, hex_byte}

unfoldable pub time_line : List ℕ → ℕ → List ℕ
time_line label ticks = label ++ ascii ", ticks: " ++ decimal ticks ++ ascii "\n"

unfoldable pub wake_up_times_text : Times → List ℕ
wake_up_times_text t =
    time_line (ascii "R wake-up recovery") t.recovery ++ time_line (ascii "P wake-up space") t.space ++ time_line (ascii "C clock start") t.start

unfoldable pub times_text : Times → List ℕ
times_text t =
    time_line (ascii "W window") t.window ++ time_line (ascii "D clock stop") t.stop ++ time_line (ascii "S node sleep") t.sleep
    ++ time_line (ascii "E quiet limit") t.quiet ++ wake_up_times_text t

unfoldable pub method_text : ℕ → List ℕ
method_text method = if_else (eqb method 0) (ascii "event-triggered") (ascii "polled")

-- behind the address's digits, to the line's end
unfoldable pub class_and_method_text : ℕ → ℕ → List ℕ
class_and_method_text class method = ascii " hex, diagnostic class " ++ decimal class ++ ascii ", " ++ method_text method ++ ascii "\n"

unfoldable pub node_line : ℕ → NodeEntry → List ℕ
node_line k e = ascii "node " ++ decimal k ++ ascii ": address " ++ hex_byte e.address ++ class_and_method_text e.class e.method

-- the first n nodes
unfoldable pub nodes_text : List NodeEntry → ℕ → List ℕ
nodes_text nodes zero = []
nodes_text nodes (suc n) = nodes_text nodes n ++ node_line n (entry_at nodes n)

unfoldable pub publisher_text : ℕ → List ℕ
publisher_text publisher = if_else (eqb publisher 255) (ascii "master") (ascii "node " ++ decimal publisher)

unfoldable pub count_text : Bool → List ℕ
count_text counted = if_else counted (ascii "with sequence count") (ascii "without sequence count")

-- W-207: a variable row "accepts any length up to its own"
unfoldable pub length_text : Bool → List ℕ
length_text variable = if_else variable (ascii ", length up to ") (ascii ", length ")

-- behind the publisher, to the line's end
unfoldable pub length_and_count_text : Row → List ℕ
length_and_count_text r = length_text (is_variable r) ++ decimal r.length ++ ascii ", " ++ count_text (is_counted r) ++ ascii "\n"

unfoldable pub row_line : Row → List ℕ
row_line r =
    ascii "ReqId " ++ decimal r.reqid ++ ascii ": publisher " ++ publisher_text r.publisher ++ length_and_count_text r

-- the first n rows
unfoldable pub rows_text : List Row → ℕ → List ℕ
rows_text rows zero = []
rows_text rows (suc n) = rows_text rows n ++ row_line (row_at rows n)

unfoldable pub revision_line : ℕ → List ℕ
revision_line revision = ascii "revision " ++ decimal revision ++ ascii "\n"

-- for panels that never sleep; a set without the profile is shown as it was
unfoldable pub profile_line : Bool → List ℕ
profile_line sleeping = if_else sleeping [] (ascii "profile: the ignition cuts the power, no sleep\n")

unfoldable pub plan_text : Plan → List ℕ
plan_text p = revision_line p.revision ++ profile_line (sleeps p) ++ times_text p.times ++ nodes_text p.nodes p.nodecount ++ rows_text p.rows p.rowcount

-- the refusal table's words for 1 to 9: of a set's content from 5 on
unfoldable pub content_rule_text : ℕ → List ℕ
content_rule_text number =
    if_else (eqb number 5) (ascii "a time breaks its rule")
    (if_else (eqb number 6) (ascii "the number of nodes or a node entry breaks its rule")
    (if_else (eqb number 7) (ascii "a row count or a row breaks its rule")
    (if_else (eqb number 8) (ascii "a node publishes nothing")
    (ascii "filler is not zero"))))

unfoldable pub rule_text : ℕ → List ℕ
rule_text number =
    if_else (eqb number 1) (ascii "the length is not 1,024 or 1,536 bytes")
    (if_else (eqb number 2) (ascii "a block's check differs")
    (if_else (eqb number 3) (ascii "byte 0 or 1 of a block or the profile is wrong")
    (if_else (eqb number 4) (ascii "the revision is 0, or blocks differ in it")
    (content_rule_text number))))

unfoldable pub refusal_text : ℕ → List ℕ
refusal_text number = ascii "set " ++ decimal number ++ ascii "\n" ++ rule_text number ++ ascii "\n"

unfoldable pub result_text : ReadResult → List ℕ
result_text result = if_else (eqb result.refusal 0) (plan_text result.plan) (refusal_text result.refusal)
