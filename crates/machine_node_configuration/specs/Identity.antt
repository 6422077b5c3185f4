-- A node's identity as bytes.
use Rattle.std.specs.Prelude.{ℕ, List}
use Rattle.base_bytes.specs.Bytes.{byte, number, long_number}
use Rattle.machine_node_configuration.specs.declared.Identity.{Identity}
use Rattle.machine_node_configuration.specs.Offsets.{supplier_at, function_at, variant_at, serial_at}

-- supplier, function, variant (Table 11), serial number (Table 13)
unfoldable pub identity_of : List ℕ → Identity
identity_of s = record { supplier = number s supplier_at; function = number s function_at; variant = byte s variant_at; serial = long_number s serial_at }
