-- A master and its bytes, each back into the other.
use Prim.Native.Nat.{ℕ, zero, suc, ◌+◌, ◌*◌, ◌-◌, ◌/◌, ◌%◌, ◌<◌}
use mathlib.Core.Path.{◌≡◌, refl, ap, sym, ◌∙◌}
use mathlib.Core.Bool.{Bool, true, false}
use mathlib.Core.List.{List, ◌++◌}
use lib.ListN.{length, get_or, set, replicate, length-append, get_or-append}
use lib.Seq.{sets, get_or-append-add}
use lib.Dec.{ltb}
use native.Mathlib.Omega.{arith}
use native.Mathlib.Decide.{dec_lt}
use borrow.Author.Tests.{eq-eqb, ne_eqb, ltb-true, eqb-true}
use Rattle.base_lists.specs.Bounded.{tab}
use Rattle.base_lists.proofs.AllAny.{halves, all_at, all_intro}
use Rattle.base_lists.proofs.Choices.{no_way}
use Rattle.base_lists.proofs.Stores.{sets-append}
use Rattle.base_lists.proofs.Tables.{tab_of, get_or-tab, length-tab, tab_ext}
use Rattle.base_bytes.specs.Bytes.{byte, high_byte, low_byte}
use Rattle.base_bytes.proofs.Halves.{from_halves, high_at, low_at, long_high_at, long_low_at, from_quarters}
use Rattle.base_bytes.proofs.Parts.{head_and_rest}
use Rattle.machine_state.specs.State.{start_state}
use Rattle.machine_state.specs.Bytes.{state_byte, state_of, flag_of, table_at}
use Rattle.set_plan.specs.declared.Times.{Times}
use Rattle.machine_state.proofs.ByteTrips.{state_back, state_byte_back, state_byte_low, flag_back, flag_byte_back, flag_byte_low}
use Rattle.machine_master.specs.declared.Phase.{Phase}
use Rattle.machine_master.specs.declared.Hold.{Hold}
use Rattle.machine_master.specs.declared.Master.{Master}
use Rattle.machine_master.specs.Changes.{no_hold, no_causes, no_counts, power_on}
use Rattle.machine_master.specs.Range.{in_range}
use Rattle.packed_master.specs.States.{phase_byte, phase_of, master_head, hold_bytes, hold_byte_at, holds_bytes, hold_of, holds_of, cause_byte_at, causes_of, master_bytes, flag_at, is_master, master_from, master_out_of_range, master_of}
use Rattle.packed_master.proofs.Permissions.{hold_three}

phase_back : (x : Phase) → phase_of (phase_byte x) ≡ x
phase_back Phase.Open = refl
phase_back Phase.Sending = refl
phase_back Phase.Withdrawn = refl
phase_back Phase.Closing = refl

phase_byte_back : (b : ℕ) → b < 4 → phase_byte (phase_of b) ≡ b
phase_byte_back zero h = refl
phase_byte_back (suc zero) h = refl
phase_byte_back (suc (suc zero)) h = refl
phase_byte_back (suc (suc (suc zero))) h = refl
phase_byte_back (suc (suc (suc (suc b)))) h = absurd (omega arith)

pub other_length : (s : List ℕ) → (length s ≡ 201 → ⊥) → is_master s ≡ false
unfolding is_master
other_length s n = rw (ne_eqb (length s) 201 n)

-- "bytes that are no state give 11": what they are taken for is out of range under every plan
pub never_in_range : (sleeps : Bool) (nodecount : ℕ) (t : Times) → in_range sleeps nodecount t master_out_of_range ≡ false
unfolding in_range
never_in_range true nodecount t = refl
never_in_range false nodecount t = refl

state_is : (sleeps : Bool) (nodecount : ℕ) (t : Times) (s : List ℕ) → in_range sleeps nodecount t (master_of s) ≡ true → is_master s ≡ true
state_is sleeps nodecount t s e = go (is_master s) refl
  where
    go : (b : Bool) → is_master s ≡ b → is_master s ≡ true
    go true h = h
    go false h = no_way (sym (never_in_range sleeps nodecount t) ∙ (rw h at e))

pub holds_long : (holds : List Hold) → length (holds_bytes holds) ≡ 48
unfolding holds_bytes
holds_long holds = length-tab 48 (hold_byte_at holds)

-- the bytes before the counts
pub front_long : (m : Master) → length (master_head m ++ holds_bytes m.holds) ≡ 57
front_long m = length-append (master_head m) (holds_bytes m.holds) ∙ rw (holds_long m.holds)

-- the bytes before the causes
counts_end : (m : Master) → length m.counts ≡ 128 → length (master_head m ++ holds_bytes m.holds ++ m.counts) ≡ 185
counts_end m e = length-append (master_head m ++ holds_bytes m.holds) m.counts ∙ rw (front_long m, e)

pub master_put : (m : Master) → length m.counts ≡ 128 → (buffer head permissions x y z w : List ℕ) → head ≡ master_head m → permissions ≡ holds_bytes m.holds
    → x ≡ sets buffer 0 head → y ≡ sets x 9 permissions → z ≡ sets y 57 m.counts → w ≡ sets z 185 m.causes → w ≡ sets buffer 0 (master_bytes m)
unfolding master_bytes
master_put m long buffer head permissions x y z w h p e f g k =
    let u : 0 + length (master_head m ++ holds_bytes m.holds) ≡ 57 = omega (arith, front_long m) in
    let v : 0 + length (master_head m ++ holds_bytes m.holds ++ m.counts) ≡ 185 = omega (arith, counts_end m long) in
    let counts : z ≡ sets buffer 0 (master_head m ++ holds_bytes m.holds ++ m.counts) =
    g ∙ rw (f, e, h, p, sets-append (master_head m) (holds_bytes m.holds) buffer 0, ← u) (sets-append (master_head m ++ holds_bytes m.holds) m.counts buffer 0)
    in
    k ∙ rw (counts, ← v) (sets-append (master_head m ++ holds_bytes m.holds ++ m.counts) m.causes buffer 0)

-- power-on: the front, the counts and the causes as they are
pub power_on_put : (sleeps : Bool) (buffer x y z : List ℕ) (state : ℕ) → state ≡ state_byte (start_state sleeps) → x ≡ sets buffer 0 (set (replicate 57 0) 0 state) → y ≡ sets x 57 no_counts
    → z ≡ sets y 185 no_causes → z ≡ sets buffer 0 (master_bytes (power_on sleeps))
unfolding master_bytes holds_bytes tab
power_on_put sleeps buffer x y z state h e f g =
    g ∙ rw (f, e, sets-append (set (replicate 57 0) 0 state) no_counts buffer 0) (sets-append (set (replicate 57 0) 0 state ++ no_counts) no_causes buffer 0)
    ∙ ap (λ b. sets buffer 0 (set (replicate 57 0) 0 b ++ no_counts ++ no_causes)) h ∙ packed sleeps
  where
    packed : (s : Bool) → sets buffer 0 (set (replicate 57 0) 0 (state_byte (start_state s)) ++ no_counts ++ no_causes) ≡ sets buffer 0 (master_bytes (power_on s))
    packed true = refl
    packed false = refl

module _ (m : Master) (holds_long : length m.holds ≡ 16) (counts_long : length m.counts ≡ 128) (causes_long : length m.causes ≡ 16) where
  front_byte : (o : ℕ) → o < 57 → byte (master_bytes m) o ≡ get_or (master_head m ++ holds_bytes m.holds) o 0
  unfolding master_bytes
  front_byte o h =
      get_or-append (master_head m ++ holds_bytes m.holds ++ m.counts) m.causes 0 o (omega (arith, counts_end m counts_long))
      ∙ get_or-append (master_head m ++ holds_bytes m.holds) m.counts 0 o (omega (arith, front_long m))

  head_byte : (o : ℕ) → o < 9 → byte (master_bytes m) o ≡ get_or (master_head m) o 0
  head_byte o h = front_byte o (omega arith) ∙ get_or-append (master_head m) (holds_bytes m.holds) 0 o h

  hold-byte : (k i o : ℕ) → k < 16 → i < 3 → o ≡ 9 + 3 * k + i → byte (master_bytes m) o ≡ get_or (hold_bytes (get_or m.holds k no_hold)) i 0
  unfolding holds_bytes
  hold-byte k i o a b e =
      let z : o ≡ length (master_head m) + (3 * k + i) = omega arith in
      front_byte o (omega arith) ∙ ap (λ q. get_or (master_head m ++ holds_bytes m.holds) q 0) z ∙ get_or-append-add (master_head m) (holds_bytes m.holds) (3 * k + i) 0
      ∙ get_or-tab 48 (hold_byte_at m.holds) (3 * k + i) 0 (omega arith) ∙ sym (hold_three m.holds k i b)

  hold_back : (k : ℕ) → k < 16 → hold_of (master_bytes m) k ≡ get_or m.holds k no_hold
  hold_back k h =
      λ i. record {
        held = (ap flag_of (hold-byte k 0 (9 + 3 * k) h (omega arith) (omega arith)) ∙ flag_back (get_or m.holds k no_hold).held) i;
        age = from_halves (get_or m.holds k no_hold).age _ _ (hold-byte k 1 (9 + 3 * k + 1) h (omega arith) refl) (hold-byte k 2 (9 + 3 * k + 1 + 1) h (omega arith) (omega arith)) i;
      }

  counts_back : table_at (master_bytes m) 57 ≡ m.counts
  unfolding table_at master_bytes
  counts_back = sym (tab_of 0 128 (λ i. byte (master_bytes m) (57 + i)) m.counts counts_long (λ i h. sym (at i h)))
    where
      at : (i : ℕ) → i < 128 → byte (master_head m ++ holds_bytes m.holds ++ m.counts ++ m.causes) (57 + i) ≡ get_or m.counts i 0
      at i h =
          let z : 57 + i ≡ length (master_head m ++ holds_bytes m.holds) + i = omega (arith, front_long m) in
          get_or-append (master_head m ++ holds_bytes m.holds ++ m.counts) m.causes 0 (57 + i) (omega (arith, counts_end m counts_long))
          ∙ rw z (get_or-append-add (master_head m ++ holds_bytes m.holds) m.counts i 0)

  causes_back : causes_of (master_bytes m) ≡ m.causes
  unfolding causes_of master_bytes
  causes_back = sym (tab_of 0 16 (cause_byte_at (master_bytes m)) m.causes causes_long (λ i h. sym (at i)))
    where
      at : (i : ℕ) → byte (master_head m ++ holds_bytes m.holds ++ m.counts ++ m.causes) (185 + i) ≡ get_or m.causes i 0
      at i =
          let z : 185 + i ≡ length (master_head m ++ holds_bytes m.holds ++ m.counts) + i = omega (arith, counts_end m counts_long) in
          rw z (get_or-append-add (master_head m ++ holds_bytes m.holds ++ m.counts) m.causes i 0)

  -- unpacking what was packed gives the master back
  pub master_back : master_from (master_bytes m) ≡ m
  unfolding holds_of
  master_back =
      λ i. record {
        state = (ap state_of (head_byte 0 (omega arith)) ∙ state_back m.state) i;
        phase = (ap phase_of (head_byte 1 (omega arith)) ∙ phase_back m.phase) i;
        permission = (ap flag_of (head_byte 2 (omega arith)) ∙ flag_back m.permission) i;
        holds = sym (tab_of no_hold 16 (hold_of (master_bytes m)) m.holds holds_long (λ k h. sym (hold_back k h))) i;
        causes = causes_back i;
        counts = counts_back i;
        delay = from_halves m.delay _ _ (head_byte 3 (omega arith)) (head_byte 4 (omega arith)) i;
        ticks = from_quarters m.ticks _ _ _ _ (head_byte 5 (omega arith)) (head_byte 6 (omega arith)) (head_byte 7 (omega arith)) (head_byte 8 (omega arith)) i;
      }

  phase_low : (x : Phase) → ltb (phase_byte x) 4 ≡ true
  phase_low Phase.Open = refl
  phase_low Phase.Sending = refl
  phase_low Phase.Withdrawn = refl
  phase_low Phase.Closing = refl

  pub packed_long : length (master_bytes m) ≡ 201
  unfolding master_bytes
  packed_long = length-append (master_head m ++ holds_bytes m.holds ++ m.counts) m.causes ∙ rw (counts_end m counts_long, causes_long)

  -- and what was packed is a state
  pub packed_is : is_master (master_bytes m) ≡ true
  unfolding is_master
  packed_is =
      rw (
        eq-eqb (length (master_bytes m)) 201 packed_long,
        head_byte 0 (omega arith),
        head_byte 1 (omega arith),
        head_byte 2 (omega arith),
        state_byte_low m.state,
        phase_low m.phase,
        flag_byte_low m.permission,
      ) (all_intro (flag_at (master_bytes m)) 16 (λ k h. ap (λ b. ltb b 2) (hold-byte k 0 (9 + 3 * k) h (omega arith) (omega arith)) ∙ flag_byte_low (get_or m.holds k no_hold).held))

  pub packed_back : master_of (master_bytes m) ≡ m
  packed_back = rw packed_is master_back

module _ (s : List ℕ) (is : is_master s ≡ true) (bytes : (o : ℕ) → byte s o < 256) where
  size : length s ≡ 201
  unfolding is_master
  size = eqb-true (length s) 201 (search halves depth 6)

  head_right : (byte s 0 < 3) × (byte s 1 < 4) × (byte s 2 < 2)
  unfolding is_master
  head_right = (ltb-true (byte s 0) 3 (search halves depth 6), ltb-true (byte s 1) 4 (search halves depth 6), ltb-true (byte s 2) 2 (search halves depth 6))

  flag_right : (k : ℕ) → k < 16 → byte s (9 + 3 * k) < 2
  unfolding is_master
  flag_right k h = ltb-true (byte s (9 + 3 * k)) 2 (all_at (flag_at s) 16 (search halves depth 6) k h)

  head_is : master_head (master_from s) ≡ tab 9 (byte s)
  unfolding tab
  head_is =
      cc (
        state_byte_back (byte s 0) head_right.0,
        phase_byte_back (byte s 1) head_right.1,
        flag_byte_back (byte s 2) head_right.2,
        high_at s 3 (bytes 4),
        low_at s 3 (bytes 4),
        ap high_byte (long_high_at s 5 (bytes 7) (bytes 8)) ∙ high_at s 5 (bytes 6),
        ap low_byte (long_high_at s 5 (bytes 7) (bytes 8)) ∙ low_at s 5 (bytes 6),
        ap high_byte (long_low_at s 5 (bytes 7) (bytes 8)) ∙ high_at s 7 (bytes 8),
        ap low_byte (long_low_at s 5 (bytes 7) (bytes 8)) ∙ low_at s 7 (bytes 8),
      )

  hold_is : (k i : ℕ) → k < 16 → i < 3 → get_or (hold_bytes (hold_of s k)) i 0 ≡ byte s (9 + 3 * k + i)
  hold_is k zero a b = flag_byte_back (byte s (9 + 3 * k)) (flag_right k a) ∙ ap (byte s) (omega arith)
  hold_is k (suc zero) a b = high_at s (9 + 3 * k + 1) (bytes (9 + 3 * k + 1 + 1))
  hold_is k (suc (suc zero)) a b = low_at s (9 + 3 * k + 1) (bytes (9 + 3 * k + 1 + 1)) ∙ ap (byte s) (omega arith)
  hold_is k (suc (suc (suc i))) a b = absurd (omega arith)

  front_is : master_head (master_from s) ++ holds_bytes (holds_of s) ≡ tab 57 (byte s)
  unfolding holds_bytes holds_of
  front_is = tab_of 0 57 (byte s) (master_head (master_from s) ++ holds_bytes (holds_of s)) (front_long (master_from s)) (λ o h. at o h (dec_lt o 9))
    where
      at : (o : ℕ) → o < 57 → Dec (o < 9) → get_or (master_head (master_from s) ++ tab 48 (hold_byte_at (tab 16 (hold_of s)))) o 0 ≡ byte s o
      at o h (yes p) =
          get_or-append (master_head (master_from s)) (tab 48 (hold_byte_at (tab 16 (hold_of s)))) 0 o p
          ∙ ap (λ l. get_or l o 0) head_is ∙ get_or-tab 9 (byte s) o 0 p
      at o h (no p) =
          let i = o - 9 in
          let z : o ≡ length (master_head (master_from s)) + i = omega arith in
          let y : 9 + 3 * (i / 3) + i % 3 ≡ o = omega arith in
          ap (λ q. get_or (master_head (master_from s) ++ tab 48 (hold_byte_at (tab 16 (hold_of s)))) q 0) z
          ∙ get_or-append-add (master_head (master_from s)) (tab 48 (hold_byte_at (tab 16 (hold_of s)))) i 0
          ∙ get_or-tab 48 (hold_byte_at (tab 16 (hold_of s))) i 0 (omega arith)
          ∙ ap (λ (x : Hold). get_or (hold_bytes x) (i % 3) 0) (get_or-tab 16 (hold_of s) (i / 3) no_hold (omega arith))
          ∙ hold_is (i / 3) (i % 3) (omega arith) (omega arith) ∙ ap (byte s) y

  -- the bytes before the causes
  counts_are : master_head (master_from s) ++ holds_bytes (holds_of s) ++ table_at s 57 ≡ tab 185 (byte s)
  unfolding table_at
  counts_are =
      ap (λ l. master_head (master_from s) ++ holds_bytes (holds_of s) ++ l) (tab_ext 128 _ _ (λ i h. sym (same (57 + i) (omega arith))))
      ∙ head_and_rest (tab 185 (byte s)) (master_head (master_from s) ++ holds_bytes (holds_of s)) 57 128 (length-tab 185 (byte s)) (front_is ∙ tab_ext 57 _ _ (λ i h. sym (same i (omega arith))))
    where
      same : (o : ℕ) → o < 185 → byte (tab 185 (byte s)) o ≡ byte s o
      same o h = get_or-tab 185 (byte s) o 0 h

  -- packing what was unpacked gives the bytes back
  pub bytes_back : master_bytes (master_of s) ≡ s
  unfolding master_bytes causes_of
  bytes_back = rw is (head_and_rest s (master_head (master_from s) ++ holds_bytes (holds_of s) ++ table_at s 57) 185 16 size counts_are)

-- bytes whose master is in range are a state's
module _ (sleeps : Bool) (nodecount : ℕ) (t : Times) (s : List ℕ) (right : in_range sleeps nodecount t (master_of s) ≡ true) where
  pub range_long : length s ≡ 201
  unfolding is_master
  range_long =
      let is : is_master s ≡ true = state_is sleeps nodecount t s right in
      eqb-true (length s) 201 (search halves depth 6)

  pub range_packed : ((o : ℕ) → byte s o < 256) → s ≡ master_bytes (master_of s)
  range_packed bytes = sym (bytes_back s (state_is sleeps nodecount t s right) bytes)
