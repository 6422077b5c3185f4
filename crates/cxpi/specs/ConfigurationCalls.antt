-- What the call on a node's configuration returns and leaves.
use Rattle.std.specs.Prelude.{ℕ, List, length, eqb}
use Rattle.base_lists.specs.Bounded.{if_else}
use Rattle.machine_node_configuration.specs.Responses.{Reply}
use Rattle.machine_node_configuration.specs.Offsets.{identity_length}
use Rattle.machine_node_configuration.specs.Identity.{identity_of}
use Rattle.machine_node_configuration.specs.Responses.{refuse, configured, responded}

-- 11 for an identity of another length, before the rest
abbrev pub configure_reply : List ℕ → ℕ → List ℕ → ℕ → Reply
configure_reply identity address request room =
    if_else (eqb (length identity) identity_length) (configured (identity_of identity) address request room) (refuse address 11)

abbrev pub configure_leaves : List ℕ → List ℕ → List ℕ → List ℕ
configure_leaves identity request buffer = if_else (eqb (length identity) identity_length) (responded (identity_of identity) request buffer) buffer
