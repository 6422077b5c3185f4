-- What a step of a node gives back, as bytes.
use Rattle.std.specs.Prelude.{ℕ, List, [], ◌∷◌, length, ltb}
use Rattle.std.proofs.lemmas.List.Edits.{sets}
use Rattle.base_lists.specs.Bounded.{if_else}
use Rattle.machine_state.specs.Bytes.{flag_byte}
use Rattle.machine_node.specs.declared.Command.{Command}
use Rattle.packed_node.specs.Offsets.{reply_length}

-- 0 nothing, 1 a pulse, 2 an answer; then its permission bit, wake bit and sequence count, else 0
abbrev pub reply_bytes : Command → List ℕ
reply_bytes Command.Nothing = 0 ∷ 0 ∷ 0 ∷ 0 ∷ []
reply_bytes Command.Pulse = 1 ∷ 0 ∷ 0 ∷ 0 ∷ []
reply_bytes (Command.Send permission wake count) = 2 ∷ flag_byte permission ∷ flag_byte wake ∷ count ∷ []

-- a reply buffer after a call: bytes past the reply stay, and so does a buffer that is too short
abbrev pub replied : Command → List ℕ → List ℕ
replied command reply = if_else (ltb (length reply) reply_length) reply (sets reply 0 (reply_bytes command))
