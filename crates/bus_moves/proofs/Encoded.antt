-- Every list of moves that fit can be said in bytes, so what `run` promises is promised of each.
use Prim.Native.Nat.{ℕ, zero, suc, ◌+◌, ◌*◌, ◌/◌, ◌%◌, ◌^◌, ◌<◌}
use mathlib.Core.Path.{◌≡◌, refl, sym, ap, ap₂, ◌∙◌}
use mathlib.Core.Bool.{Bool, true, false, ◌&&◌}
use mathlib.Core.List.{List, [], ◌∷◌, ◌++◌, map}
use lib.Dec.{leb, ltb, eqb}
use lib.ListN.{length, get_or, replicate, length-append}
use native.Mathlib.Omega.{arith}
use native.Mathlib.Nat.{zero-div, pow-succ', div-div-eq-div-mul}
use borrow.Author.Tests.{eq-eqb, ne_eqb, leb-true}
use Rattle.base_lists.proofs.Tables.{tab_of}
use Rattle.set_plan.specs.declared.Plan.{Plan}
use Rattle.set_plan.specs.Rules.{plan_refusal}
use Rattle.bus.specs.declared.Act.{Act}
use Rattle.bus.specs.declared.Damage.{Damage}
use Rattle.bus.specs.declared.Fate.{Fate}
use Rattle.bus.specs.declared.Move.{Move}
use Rattle.base_bytes.specs.Bytes.{byte, high_byte, low_byte, two_bytes}
use Rattle.base_bytes.proofs.Halves.{from_halves}
use Rattle.bus_history.specs.Run.{run}
use Rattle.bus_moves.specs.Encoding.{bit, mask_of, kind_of, node_named, value_of, fate_byte, damage_bytes, encode, encode_all, DamageFits, Fits, AllFit, Says}
use Rattle.bus_moves.specs.Decoding.{bit_of, flags, act_of, damage_of, fate_of, move_of, has_flag, is_move}
use Rattle.bus_moves.specs.Records.{records, all_moves}
use Rattle.bus_moves.specs.Lists.{ran_to, run_of}
use Rattle.bus_moves.proofs.ByRecord.{records-none, records_first}

-- a set of nodes is read back from its two bytes

flag_of_lem : (set : List Bool) (i : ℕ) → bit_of (mask_of set) i ≡ get_or set i false
unfolding mask_of
flag_of_lem [] i = rw zero-div
flag_of_lem (true ∷ set) zero = let e : (1 + 2 * mask_of set) / 1 % 2 ≡ 1 = omega arith in eq-eqb _ _ e
flag_of_lem (false ∷ set) zero = ne_eqb ((0 + 2 * mask_of set) / 1 % 2) 1 (λ q. omega arith)
flag_of_lem (b ∷ set) (suc i) =
    ap (λ y. eqb ((bit b + 2 * mask_of set) / y % 2) 1) (pow-succ' 2 i)
    ∙ ap (λ y. eqb (y % 2) 1) (sym (div-div-eq-div-mul (bit b + 2 * mask_of set) 2 (2 ^ i)) ∙ ap (λ y. y / 2 ^ i) (half b)) ∙ flag_of_lem set i
  where
    half : (c : Bool) → (bit c + 2 * mask_of set) / 2 ≡ mask_of set
    half true = omega arith
    half false = omega arith

two_bytes_lem : (x : ℕ) → high_byte x * 256 + low_byte x ≡ x
two_bytes_lem x = from_halves x (high_byte x) (low_byte x) refl refl

set_back : (set : List Bool) → length set ≡ 16 → flags (high_byte (mask_of set) * 256 + low_byte (mask_of set)) ≡ set
unfolding flags
set_back set e = ap flags (two_bytes_lem (mask_of set)) ∙ sym (tab_of false 16 (bit_of (mask_of set)) set e (λ i l. sym (flag_of_lem set i)))

-- and the rest of a move from its bytes

one_bit : (b : Bool) → eqb (bit b) 1 ≡ b
one_bit true = refl
one_bit false = refl

act_back : (act : Act) → act_of (kind_of act) (node_named act) (value_of act) ≡ act
act_back Act.Tick = refl
act_back (Act.NodeWakeAsk node) = refl
act_back Act.MasterWakeAsk = refl
act_back (Act.NodePermission node permitted) = ap (Act.NodePermission node) (one_bit permitted)
act_back (Act.MasterPermission permitted) = ap Act.MasterPermission (one_bit permitted)
act_back (Act.Request reqid) = refl
act_back (Act.SendAsk node reqid) = refl
act_back Act.SleepAsk = refl
act_back (Act.SendResult sent) = ap Act.SendResult (one_bit sent)

damage_back : (d : Damage) → ◌≡◌ {A = Damage}
    (record {
      result = high_byte d.result * 256 + low_byte d.result;
      length = high_byte d.length * 256 + low_byte d.length;
      count = d.count;
      permission = eqb (bit d.permission) 1;
      wake = eqb (bit d.wake) 1;
    })
    d
damage_back d =
    λ i. record { result = two_bytes_lem d.result i; length = two_bytes_lem d.length i; count = d.count; permission = one_bit d.permission i; wake = one_bit d.wake i }

-- a move whose answer ends otherwise
abbrev with_fate : Move → Fate → Move
with_fate m fate = record { act = m.act; bus = record { reached = m.bus.reached; hearing = m.bus.hearing; master = m.bus.master; fate = fate } }

pub encoded : (m : Move) → Fits m → move_of (encode m) ≡ m
encoded m f =
    λ i. record {
      act = act_back m.act i;
      bus = record { reached = set_back m.bus.reached f.reached i; hearing = set_back m.bus.hearing f.hearing i; master = one_bit m.bus.master i; fate = fate_back m.bus.fate i };
    }
  where
    fate_back : (fate : Fate) → fate_of (fate_byte fate) (damage_of (encode (with_fate m fate))) ≡ fate
    fate_back (Fate.Whole length) = ap Fate.Whole (two_bytes_lem length)
    fate_back (Fate.Damaged d) = ap Fate.Damaged (damage_back d)
    fate_back Fate.Lost = refl

-- its bytes are taken for a move

bit_flag : (b : Bool) → ltb 1 (bit b) ≡ false
bit_flag true = refl
bit_flag false = refl

bit_right : (b : Bool) → leb (bit b) 1 ≡ true
bit_right true = refl
bit_right false = refl

flag_right : (act : Act) → (has_flag (kind_of act) && ltb 1 (value_of act)) ≡ false
flag_right Act.Tick = refl
flag_right (Act.NodeWakeAsk node) = refl
flag_right Act.MasterWakeAsk = refl
flag_right (Act.NodePermission node permitted) = bit_flag permitted
flag_right (Act.MasterPermission permitted) = bit_flag permitted
flag_right (Act.Request reqid) = refl
flag_right (Act.SendAsk node reqid) = refl
flag_right Act.SleepAsk = refl
flag_right (Act.SendResult sent) = bit_flag sent

kind_right : (act : Act) → leb (kind_of act) 8 ≡ true
kind_right Act.Tick = refl
kind_right (Act.NodeWakeAsk node) = refl
kind_right Act.MasterWakeAsk = refl
kind_right (Act.NodePermission node permitted) = refl
kind_right (Act.MasterPermission permitted) = refl
kind_right (Act.Request reqid) = refl
kind_right (Act.SendAsk node reqid) = refl
kind_right Act.SleepAsk = refl
kind_right (Act.SendResult sent) = refl

pub encoded_right : (m : Move) → is_move (encode m) ≡ true
encoded_right m = go m.bus.fate
  where
    go : (fate : Fate) → is_move (encode (with_fate m fate)) ≡ true
    go (Fate.Whole length) = rw (kind_right m.act, flag_right m.act, bit_right m.bus.master)
    go (Fate.Damaged d) = rw (kind_right m.act, flag_right m.act, bit_right m.bus.master, bit_right d.permission, bit_right d.wake)
    go Fate.Lost = rw (kind_right m.act, flag_right m.act, bit_right m.bus.master)

encoded_size : (m : Move) → length (encode m) ≡ 16
encoded_size m = omega (arith, size m.bus.fate)
  where
    size : (fate : Fate) → length (damage_bytes fate) ≡ 7
    size (Fate.Whole length) = refl
    size (Fate.Damaged d) = refl
    size Fate.Lost = refl

-- and each is below 256

data Bytes : List ℕ → Type 0 where
  none : Bytes []
  more : (b : ℕ) {s : List ℕ} → b < 256 → Bytes s → Bytes (b ∷ s)

each_byte : {s : List ℕ} → Bytes s → (o : ℕ) → byte s o < 256
each_byte none o = omega arith
each_byte (more b l h) zero = l
each_byte (more b l h) (suc o) = each_byte h o

two_more : (x : ℕ) {s : List ℕ} → x < 65536 → Bytes s → Bytes (two_bytes x ++ s)
two_more x l h = more (high_byte x) (omega arith) (more (low_byte x) (omega arith) h)

bit_small : (b : Bool) → bit b < 2
bit_small true = omega arith
bit_small false = omega arith

bit_more : (b : Bool) {s : List ℕ} → Bytes s → Bytes (bit b ∷ s)
bit_more b h = more (bit b) (omega (arith, bit_small b)) h

both_bytes : {a b : List ℕ} → Bytes a → Bytes b → Bytes (a ++ b)
both_bytes none g = g
both_bytes (more b l h) g = more b l (both_bytes h g)

mask_small : (set : List Bool) → mask_of set < 2 ^ length set
unfolding mask_of
mask_small [] = omega arith
mask_small (b ∷ set) = omega (arith, pow-succ' 2 (length set), mask_small set, bit_small b)

set_bytes : (set : List Bool) {s : List ℕ} → length set ≡ 16 → Bytes s → Bytes (two_bytes (mask_of set) ++ s)
set_bytes set e h = two_more (mask_of set) (omega (arith, mask_small set, ap (λ n. 2 ^ n) e)) h

zero_bytes : (n : ℕ) → Bytes (replicate n 0)
zero_bytes zero = none
zero_bytes (suc n) = more 0 (omega arith) (zero_bytes n)

damage_bytes_lem : (fate : Fate) → DamageFits fate → Bytes (damage_bytes fate)
damage_bytes_lem (Fate.Whole length) f = two_more 0 (omega arith) (two_more length f (zero_bytes 3))
damage_bytes_lem (Fate.Damaged d) f =
    two_more d.result f.0 (two_more d.length f.1 (more d.count f.2 (bit_more d.permission (bit_more d.wake none))))
damage_bytes_lem Fate.Lost f = zero_bytes 7

encoded_bytes : (m : Move) → Fits m → Bytes (encode m)
encoded_bytes m f =
    more (kind_of m.act) (omega (arith, leb-true (kind_of m.act) 8 (kind_right m.act))) (more (node_named m.act) f.node (more (value_of m.act) f.value
    (more (fate_byte m.bus.fate) (fate_small m.bus.fate) (set_bytes m.bus.reached f.reached (set_bytes m.bus.hearing f.hearing
    (bit_more m.bus.master (damage_bytes_lem m.bus.fate f.damage)))))))
  where
    fate_small : (fate : Fate) → fate_byte fate < 256
    fate_small (Fate.Whole length) = omega arith
    fate_small (Fate.Damaged d) = omega arith
    fate_small Fate.Lost = omega arith

all_bytes : (moves : List Move) → AllFit moves → Bytes (encode_all moves)
all_bytes [] f = none
all_bytes (m ∷ moves) f = both_bytes (encoded_bytes m f.0) (all_bytes moves f.1)

-- the list

all_size : (moves : List Move) → length (encode_all moves) ≡ 16 * length moves
all_size [] = omega arith
all_size (m ∷ moves) = omega (arith, length-append (encode m) (encode_all moves), encoded_size m, all_size moves)

all_records : (moves : List Move) → records (encode_all moves) ≡ map encode moves
all_records [] = records-none
all_records (m ∷ moves) = records_first (encode m) (encode_all moves) (encoded_size m) ∙ ap (λ l. encode m ∷ l) (all_records moves)

all_right : (moves : List Move) → all_moves (map encode moves) ≡ true
unfolding all_moves
all_right [] = refl
all_right (m ∷ moves) = rw (encoded_right m, all_right moves)

all_back : (moves : List Move) → AllFit moves → map move_of (map encode moves) ≡ moves
all_back [] f = refl
all_back (m ∷ moves) f = ap₂ ◌∷◌ (encoded m f.0) (all_back moves f.1)

pub all_encoded : (moves : List Move) → AllFit moves → Says (encode_all moves) moves
all_encoded moves f =
    record {
      bytes = each_byte (all_bytes moves f);
      size = all_size moves;
      right = ap all_moves (all_records moves) ∙ all_right moves;
      back = ap (map move_of) (all_records moves) ∙ all_back moves f;
    }

-- so `run` runs every such list
pub run_encoded : (p : Plan) (moves : List Move) → plan_refusal p ≡ 0 → AllFit moves → run_of p (encode_all moves) ≡ ran_to 0 (run p moves).world
run_encoded p moves ok f =
    let s = all_encoded moves f in
    rw (eq-eqb (plan_refusal p) 0 ok, s.right, s.back)
