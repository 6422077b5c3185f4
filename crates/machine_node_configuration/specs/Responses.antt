-- What a node responds to a request of the node configuration family, and which address it has then.
use Rattle.std.specs.Prelude.{ℕ, List, [], ◌∷◌, ◌++◌, length, drop, ltb, eqb, Result, Ok, Err}
use Rattle.base_lists.specs.Bounded.{if_else}
use Rattle.base_refusals.specs.declared.Refusal.{Refusal}
use Rattle.base_refusals.specs.Numbers.{number}
use Rattle.base_bytes.specs.Bytes.{two_bytes, four_bytes}
use Rattle.machine_node_configuration.specs.declared.Response.{Response}
use Rattle.machine_node_configuration.specs.declared.Identity.{Identity}
use Rattle.machine_node_configuration.specs.declared.Configured.{Configured}
use Rattle.machine_node_configuration.specs.Requests.{node_product_identification, assign_node_address, node_serial_number_identification, new_address, is_read, request_refusal, takes_assign}

-- "the answer is 3 bytes: 6E hex and the identifier" (Table 15)
abbrev pub assigned : List ℕ
assigned = 0x6e ∷ two_bytes assign_node_address

-- 62 hex, the identifier, supplier, function and variant (Table 17)
abbrev pub product_identification : Identity → List ℕ
product_identification i = 0x62 ∷ two_bytes node_product_identification ++ two_bytes i.supplier ++ two_bytes i.function ++ i.variant ∷ []

-- 62 hex, the identifier and the serial number's four bytes, the highest first (Table 18)
abbrev pub serial_number : Identity → List ℕ
serial_number i = 0x62 ∷ two_bytes node_serial_number_identification ++ four_bytes i.serial

-- each request that has a response; none for silence
unfoldable pub response_to : Identity → List ℕ → List ℕ
response_to i s =
    if_else (takes_assign i s) assigned
    (if_else (is_read node_product_identification s) (product_identification i)
    (if_else (is_read node_serial_number_identification s) (serial_number i)
    []))

-- "Refusals: 23 ..; 24 ..; 10, answer too long for its buffer; 23, 24, 10"; silence fits every buffer
unfoldable pub configure_refusal : Identity → List ℕ → ℕ → ℕ
configure_refusal i s room = if_else (eqb (request_refusal s) 0) (if_else (ltb room (length (response_to i s))) 10 0) (request_refusal s)

-- the address past a request that is not refused
unfoldable pub address_after : Identity → ℕ → List ℕ → ℕ
address_after i address s = if_else (takes_assign i s) (new_address s) address

-- what a request gives: a refusal or 0, the length of the response, the address
pub record Reply : Type 0 where
  pub refusal : ℕ
  pub length : ℕ
  pub address : ℕ

-- "Each .. leaves address and buffer as they were"
abbrev pub refuse : ℕ → ℕ → Reply
refuse address number = record { refusal = number; length = 0; address = address }

-- the value that a call returns at an address, so told
abbrev pub configure_told : ℕ → Result Configured Refusal → Reply
configure_told address (Ok done) = record { refusal = 0; length = done.length; address = done.address }
configure_told address (Err refusal) = refuse address (number refusal)

-- the reply to a request at an address
unfoldable pub configured : Identity → ℕ → List ℕ → ℕ → Reply
configured i address s room =
    if_else (eqb (configure_refusal i s room) 0)
    (record { refusal = 0; length = length (response_to i s); address = address_after i address s })
    (refuse address (configure_refusal i s room))

-- the buffer at exit: "bytes past what is written keep their content"
unfoldable pub responded : Identity → List ℕ → List ℕ → List ℕ
responded i s buffer = if_else (eqb (configure_refusal i s (length buffer)) 0) (response_to i s ++ drop (length (response_to i s)) buffer) buffer

-- the bytes of a response, whichever its kind
abbrev pub bytes_of : Response → List ℕ
bytes_of Response.Silence = []
bytes_of (Response.Assigned bytes) = bytes
bytes_of (Response.SerialNumber bytes) = bytes
bytes_of (Response.ProductIdentification bytes) = bytes
