-- The record of a move: every list of moves that fit has its bytes (proofs/Encoded.antt).
use Rattle.std.specs.Prelude.{ℕ, ◌+◌, ◌*◌, ◌<◌, ◌≡◌, Bool, true, false, List, [], ◌∷◌, ◌++◌, length, replicate}
use Rattle.set_plan.specs.Limits.{max_nodes}
use Rattle.base_bytes.specs.Bytes.{byte, two_bytes}
use Rattle.bus.specs.declared.Act.{Act}
use Rattle.bus.specs.declared.Fate.{Fate}
use Rattle.bus.specs.declared.Move.{Move}
use Rattle.bus_moves.specs.Decoding.{move_length}
use Rattle.bus_moves.specs.Records.{list_right, moves_of}

-- 1 for yes, 0 for no
abbrev pub bit : Bool → ℕ
bit true = 1
bit false = 0

-- a set of nodes as a number, node 0 its lowest bit
unfoldable pub mask_of : List Bool → ℕ
mask_of [] = 0
mask_of (b ∷ set) = bit b + 2 * mask_of set

-- byte 0: which act it is
abbrev pub kind_of : Act → ℕ
kind_of Act.Tick = 0
kind_of (Act.NodeWakeAsk node) = 1
kind_of Act.MasterWakeAsk = 2
kind_of (Act.NodePermission node permitted) = 3
kind_of (Act.MasterPermission permitted) = 4
kind_of (Act.Request reqid) = 5
kind_of (Act.SendAsk node reqid) = 6
kind_of Act.SleepAsk = 7
kind_of (Act.SendResult sent) = 8

-- byte 1: its node, 0 where it has none
abbrev pub node_named : Act → ℕ
node_named Act.Tick = 0
node_named (Act.NodeWakeAsk node) = node
node_named Act.MasterWakeAsk = 0
node_named (Act.NodePermission node permitted) = node
node_named (Act.MasterPermission permitted) = 0
node_named (Act.Request reqid) = 0
node_named (Act.SendAsk node reqid) = node
node_named Act.SleepAsk = 0
node_named (Act.SendResult sent) = 0

-- byte 2: its ReqId, or its yes or no; 0 where it has neither
abbrev pub value_of : Act → ℕ
value_of Act.Tick = 0
value_of (Act.NodeWakeAsk node) = 0
value_of Act.MasterWakeAsk = 0
value_of (Act.NodePermission node permitted) = bit permitted
value_of (Act.MasterPermission permitted) = bit permitted
value_of (Act.Request reqid) = reqid
value_of (Act.SendAsk node reqid) = reqid
value_of Act.SleepAsk = 0
value_of (Act.SendResult sent) = bit sent

-- byte 3: what becomes of an answer
abbrev pub fate_byte : Fate → ℕ
fate_byte (Fate.Whole length) = 0
fate_byte (Fate.Damaged d) = 1
fate_byte Fate.Lost = 2

-- bytes 9 to 15: a damaged answer, or the length of a whole one
abbrev pub damage_bytes : Fate → List ℕ
damage_bytes (Fate.Whole length) = two_bytes 0 ++ two_bytes length ++ replicate 3 0
damage_bytes (Fate.Damaged d) = two_bytes d.result ++ two_bytes d.length ++ (d.count ∷ bit d.permission ∷ bit d.wake ∷ [])
damage_bytes Fate.Lost = replicate 7 0

-- the record of a move
abbrev pub encode : Move → List ℕ
encode m =
    kind_of m.act ∷ node_named m.act ∷ value_of m.act ∷ fate_byte m.bus.fate
    ∷ two_bytes (mask_of m.bus.reached) ++ two_bytes (mask_of m.bus.hearing) ++ (bit m.bus.master ∷ damage_bytes m.bus.fate)

-- the records of moves, one behind the other
abbrev pub encode_all : List Move → List ℕ
encode_all [] = []
encode_all (m ∷ moves) = encode m ++ encode_all moves

-- a damaged answer has two bytes for its result and its length each, and one for its count; a whole one two for its length
abbrev pub DamageFits : Fate → Type 0
DamageFits (Fate.Whole length) = length < 65536
DamageFits (Fate.Damaged d) = (d.result < 65536) × (d.length < 65536) × (d.count < 256)
DamageFits Fate.Lost = Unit {0}

-- what the types of `bus::Move` hold: node and ReqId are bytes, sets are of sixteen nodes
pub record Fits (m : Move) : Type 0 where
  pub node : node_named m.act < 256
  pub value : value_of m.act < 256
  pub reached : length m.bus.reached ≡ max_nodes
  pub hearing : length m.bus.hearing ≡ max_nodes
  pub damage : DamageFits m.bus.fate

-- each of some moves fits
abbrev pub AllFit : List Move → Type 0
AllFit [] = Unit {0}
AllFit (m ∷ moves) = Fits m × AllFit moves

-- s says these moves: bytes below 256, 16 for each move, which are the list of them
pub record Says (s : List ℕ) (moves : List Move) : Type 0 where
  pub bytes : (o : ℕ) → byte s o < 256
  pub size : length s ≡ move_length * length moves
  pub right : list_right s ≡ true
  pub back : moves_of s ≡ moves
