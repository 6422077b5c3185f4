-- A move as a record of 16 bytes: src/lib.rt has the table.
use Rattle.std.specs.Prelude.{ℕ, ◌/◌, ◌%◌, ◌^◌, Bool, ◌&&◌, ◌||◌, not, List, leb, ltb, eqb, length}
use Rattle.base_lists.specs.Bounded.{if_else, tab}
use Rattle.set_plan.specs.Limits.{max_nodes}
use Rattle.base_bytes.specs.Bytes.{byte, number}
use Rattle.bus.specs.declared.Act.{Act}
use Rattle.bus.specs.declared.Bus.{Bus}
use Rattle.bus.specs.declared.Damage.{Damage}
use Rattle.bus.specs.declared.Fate.{Fate}
use Rattle.bus.specs.declared.Move.{Move}

-- the bytes of a recorded move: `MOVE_LENGTH`
abbrev pub move_length : ℕ
move_length = 16

-- whether node i is in a set of nodes, bit 0 the lowest
abbrev pub bit_of : ℕ → ℕ → Bool
bit_of mask i = eqb (mask / 2 ^ i % 2) 1

-- a set of nodes, node 0 first
unfoldable pub flags : ℕ → List Bool
flags mask = tab max_nodes (bit_of mask)

-- byte 0 names the act; byte 1 is its node, byte 2 its ReqId or its yes or no
abbrev pub act_of : ℕ → ℕ → ℕ → Act
act_of kind node value =
    if_else (eqb kind 0) Act.Tick
    (if_else (eqb kind 1) (Act.NodeWakeAsk node)
    (if_else (eqb kind 2) Act.MasterWakeAsk
    (if_else (eqb kind 3) (Act.NodePermission node (eqb value 1))
    (if_else (eqb kind 4) (Act.MasterPermission (eqb value 1))
    (if_else (eqb kind 5) (Act.Request value)
    (if_else (eqb kind 6) (Act.SendAsk node value)
    (if_else (eqb kind 7) Act.SleepAsk
    (Act.SendResult (eqb value 1)))))))))

-- bytes 9 to 15: what the bus made of a damaged answer
abbrev pub damage_of : List ℕ → Damage
damage_of s =
    record {
      result = number s 9;
      length = number s 11;
      count = byte s 13;
      permission = eqb (byte s 14) 1;
      wake = eqb (byte s 15) 1;
    }

-- byte 3: what becomes of an answer; W-207: bytes 11 and 12 are also a whole one's length
abbrev pub fate_of : ℕ → Damage → Fate
fate_of fate damage = if_else (eqb fate 0) (Fate.Whole damage.length) (if_else (eqb fate 1) (Fate.Damaged damage) Fate.Lost)

-- bytes 3 to 15: what the bus does in the move
abbrev pub bus_of : List ℕ → Bus
bus_of s =
    record {
      reached = flags (number s 4);
      hearing = flags (number s 6);
      master = eqb (byte s 8) 1;
      fate = fate_of (byte s 3) (damage_of s);
    }

-- the move of a record: an act, and what the bus does in it
abbrev pub move_of : List ℕ → Move
move_of s = record { act = act_of (byte s 0) (byte s 1) (byte s 2); bus = bus_of s }

-- acts whose byte 2 is a yes or no
abbrev pub has_flag : ℕ → Bool
has_flag kind = eqb kind 3 || eqb kind 4 || eqb kind 8

-- 16 bytes; acts 0 to 8; in every act byte 3 is 0 to 2 and bytes 8, 14 and 15 are 0 or 1, in those with a yes or no byte 2 is; any other byte may be anything
abbrev pub is_move : List ℕ → Bool
is_move s =
    eqb (length s) move_length && leb (byte s 0) 8 && not (has_flag (byte s 0) && ltb 1 (byte s 2))
    && leb (byte s 3) 2 && leb (byte s 8) 1 && leb (byte s 14) 1 && leb (byte s 15) 1
