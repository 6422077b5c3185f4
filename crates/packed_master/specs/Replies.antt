-- What a step of the master gives back, as bytes.
use Rattle.std.specs.Prelude.{ℕ, List, [], ◌∷◌, length, ltb}
use Rattle.std.proofs.lemmas.List.Edits.{sets}
use Rattle.base_lists.specs.Bounded.{if_else}
use Rattle.machine_master.specs.declared.Command.{Command}
use Rattle.machine_events.specs.Replies.{command_number}
use Rattle.packed_master.specs.Offsets.{reply_length}

-- the command, the answers lost before this one, and the node that 20 names
abbrev pub reply_bytes : Command → ℕ → ℕ → List ℕ
reply_bytes command lost node = command_number command ∷ lost ∷ node ∷ []

-- a reply buffer after a call: bytes past the reply stay, and so does a buffer that is too short
abbrev pub replied : Command → ℕ → ℕ → List ℕ → List ℕ
replied command lost node reply = if_else (ltb (length reply) reply_length) reply (sets reply 0 (reply_bytes command lost node))
