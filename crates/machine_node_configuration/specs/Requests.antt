-- Requests of the node configuration family, by W-202. Tables are those of ISO 14229-8.
use Rattle.std.specs.Prelude.{ℕ, Bool, ◌&&◌, ◌||◌, not, List, length, eqb}
use Rattle.base_lists.specs.Bounded.{if_else}
use Rattle.base_bytes.specs.Bytes.{byte, number}
use Rattle.set_plan.specs.Rules.{between}
use Rattle.machine_node_configuration.specs.declared.Identity.{Identity}

-- "Identifier values come from Table A.1"
abbrev pub node_product_identification : ℕ
node_product_identification = 0xff05

abbrev pub assign_node_address : ℕ
assign_node_address = 0xff07

abbrev pub node_serial_number_identification : ℕ
node_serial_number_identification = 0xf18c

-- "The assign request is 8 bytes: 2E hex, identifier, supplier, function, new address" (Table 15); 23 judges the length
unfoldable pub is_assign : List ℕ → Bool
is_assign s = eqb (byte s 0) 0x2e && eqb (number s 1) assign_node_address

abbrev pub new_address : List ℕ → ℕ
new_address s = byte s 7

-- "the reads": 22 hex and the identifier (Tables 17 and 18)
unfoldable pub is_read : ℕ → List ℕ → Bool
is_read identifier s = eqb (byte s 0) 0x22 && eqb (number s 1) identifier

-- 23: "an empty request, one of 2E hex not 8 bytes long or of 22 hex not 3"
unfoldable pub wrong_length : List ℕ → Bool
wrong_length s = eqb (length s) 0 || eqb (byte s 0) 0x2e && not (eqb (length s) 8) || eqb (byte s 0) 0x22 && not (eqb (length s) 3)

-- 24: "any other service or identifier"
unfoldable pub is_known : List ℕ → Bool
is_known s = is_assign s || is_read node_product_identification s || is_read node_serial_number_identification s

-- 23, then 24
unfoldable pub request_refusal : List ℕ → ℕ
request_refusal s = if_else (wrong_length s) 23 (if_else (is_known s) 0 24)

-- "A node whose supplier or function differs .. stays silent"
unfoldable pub is_for : Identity → List ℕ → Bool
is_for i s = eqb (number s 3) i.supplier && eqb (number s 5) i.function

-- an assign that the node takes: ".. or which is offered an address outside 1 to 125, stays silent"
unfoldable pub takes_assign : Identity → List ℕ → Bool
takes_assign i s = is_assign s && is_for i s && between 1 125 (new_address s)
