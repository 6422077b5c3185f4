-- A node and its bytes, each back into the other; and what bytes that are no state, or no event, are taken for.
use Rattle.std.specs.Prelude.{Option, Some, None}
use Prim.Native.Nat.{ℕ, ◌+◌, ◌*◌, ◌<◌}
use mathlib.Core.Path.{◌≡◌, refl, ap, sym, ◌∙◌}
use mathlib.Core.Bool.{Bool, true, false, ◌||◌}
use mathlib.Core.List.{List, ◌++◌}
use lib.ListN.{length, get_or, length-append, get_or-append}
use lib.Seq.{get_or-append-add}
use lib.Dec.{ltb, eqb}
use native.Mathlib.Omega.{arith}
use borrow.Author.Tests.{eq-eqb, ltb-true, eqb-true, eqb-false}
use Rattle.base_lists.specs.Bounded.{tab}
use Rattle.base_lists.proofs.AllAny.{halves}
use Rattle.base_lists.proofs.Tables.{tab_of}
use Rattle.base_bytes.specs.Bytes.{byte, number, high_byte, low_byte}
use Rattle.base_bytes.proofs.Halves.{from_halves, high_at, low_at, long_high_at, long_low_at, from_quarters}
use Rattle.machine_state.specs.Bytes.{state_of, flag_byte, flag_of, table_at}
use Rattle.machine_state.proofs.ByteTrips.{state_back, state_byte_back, state_byte_low, flag_back, flag_byte_back, flag_byte_low, head_and_table}
use Rattle.machine_node.specs.declared.Node.{Node}
use Rattle.packed_node.specs.States.{delay_bytes, delay_of, node_head, node_bytes, is_node, node_from, node_of}
use Rattle.packed_node.proofs.Heads.{head_list, head_listed, head_long}

module _ (n : Node) (counts_long : length n.counts ≡ 128) where
  head_byte : (o : ℕ) → o < 15 → byte (node_bytes n) o ≡ get_or (node_head n) o 0
  unfolding node_bytes
  head_byte o h = get_or-append (node_head n) n.counts 0 o (omega (arith, head_long n))

  listed_byte : (o : ℕ) → o < 15 → byte (node_bytes n) o ≡ get_or (head_list n) o 0
  listed_byte o h = head_byte o h ∙ ap (λ l. get_or l o 0) (sym (head_listed n))

  counts_back : table_at (node_bytes n) 15 ≡ n.counts
  unfolding table_at node_bytes
  counts_back = sym (tab_of 0 128 (λ i. byte (node_bytes n) (15 + i)) n.counts counts_long (λ i h. sym (at i)))
    where
      at : (i : ℕ) → byte (node_head n ++ n.counts) (15 + i) ≡ get_or n.counts i 0
      at i =
          let z : 15 + i ≡ length (node_head n) + i = omega (arith, head_long n) in
          rw z (get_or-append-add (node_head n) n.counts i 0)

  delay_back : delay_of (byte (node_bytes n) 8) (number (node_bytes n) 9) ≡ n.delay
  delay_back = rw (listed_byte 8 (omega arith), listed_byte 9 (omega arith), listed_byte 10 (omega arith)) (go n.delay)
    where
      go : (d : Option ℕ) → delay_of (get_or (delay_bytes d) 0 0) (get_or (delay_bytes d) 1 0 * 256 + get_or (delay_bytes d) 2 0) ≡ d
      go None = refl
      go (Some ticks) = ap Some (from_halves ticks _ _ refl refl)

  flag_at_lem : (o : ℕ) (f : Bool) → o < 15 → get_or (head_list n) o 0 ≡ flag_byte f → flag_of (byte (node_bytes n) o) ≡ f
  flag_at_lem o f h e = ap flag_of (listed_byte o h ∙ e) ∙ flag_back f

  -- unpacking what was packed gives the node back
  pub node_back : node_from (node_bytes n) ≡ n
  node_back =
      λ i. record {
        state = (ap state_of (listed_byte 0 (omega arith)) ∙ state_back n.state) i;
        permission = flag_at_lem 1 n.permission (omega arith) refl i;
        error = flag_at_lem 2 n.error (omega arith) refl i;
        wake = flag_at_lem 3 n.wake (omega arith) refl i;
        heard = flag_at_lem 4 n.heard (omega arith) refl i;
        caller = flag_at_lem 5 n.caller (omega arith) refl i;
        quiet = from_halves n.quiet _ _ (listed_byte 6 (omega arith)) (listed_byte 7 (omega arith)) i;
        delay = delay_back i;
        standby = from_quarters n.standby _ _ _ _ (listed_byte 11 (omega arith)) (listed_byte 12 (omega arith)) (listed_byte 13 (omega arith)) (listed_byte 14 (omega arith)) i;
        counts = counts_back i;
      }

  flag_low : (o : ℕ) (f : Bool) → o < 15 → get_or (head_list n) o 0 ≡ flag_byte f → ltb (byte (node_bytes n) o) 2 ≡ true
  flag_low o f h e = ap (λ b. ltb b 2) (listed_byte o h ∙ e) ∙ flag_byte_low f

  delay_right_lem : (ltb (byte (node_bytes n) 8) 2 ≡ true) × ((eqb (byte (node_bytes n) 8) 1 || eqb (number (node_bytes n) 9) 0) ≡ true)
  delay_right_lem = rw (listed_byte 8 (omega arith), listed_byte 9 (omega arith), listed_byte 10 (omega arith)) (go n.delay)
    where
      go : (d : Option ℕ) → (ltb (get_or (delay_bytes d) 0 0) 2 ≡ true) × ((eqb (get_or (delay_bytes d) 0 0) 1 || eqb (get_or (delay_bytes d) 1 0 * 256 + get_or (delay_bytes d) 2 0) 0) ≡ true)
      go None = (refl, refl)
      go (Some ticks) = (refl, refl)

  pub packed_long : length (node_bytes n) ≡ 143
  unfolding node_bytes
  packed_long = length-append (node_head n) n.counts ∙ rw (head_long n, counts_long)

  -- and what was packed is a state
  pub packed_is : is_node (node_bytes n) ≡ true
  unfolding is_node
  packed_is =
      rw (
        eq-eqb (length (node_bytes n)) 143 packed_long,
        ap (λ b. ltb b 3) (listed_byte 0 (omega arith)) ∙ state_byte_low n.state,
        flag_low 1 n.permission (omega arith) refl,
        flag_low 2 n.error (omega arith) refl,
        flag_low 3 n.wake (omega arith) refl,
        flag_low 4 n.heard (omega arith) refl,
        flag_low 5 n.caller (omega arith) refl,
        delay_right_lem.0,
        delay_right_lem.1,
      )

  pub packed_back : node_of (node_bytes n) ≡ n
  packed_back = rw packed_is node_back

module _ (s : List ℕ) (is : is_node s ≡ true) (bytes : (o : ℕ) → byte s o < 256) where
  size : length s ≡ 143
  unfolding is_node
  size = eqb-true (length s) 143 (search halves depth 10)

  state_right : byte s 0 < 3
  unfolding is_node
  state_right = ltb-true (byte s 0) 3 (search halves depth 10)

  flags_right : (byte s 1 < 2) × (byte s 2 < 2) × (byte s 3 < 2) × (byte s 4 < 2) × (byte s 5 < 2) × (byte s 8 < 2)
  unfolding is_node
  flags_right = (
    ltb-true (byte s 1) 2 (search halves depth 10),
    ltb-true (byte s 2) 2 (search halves depth 10),
    ltb-true (byte s 3) 2 (search halves depth 10),
    ltb-true (byte s 4) 2 (search halves depth 10),
    ltb-true (byte s 5) 2 (search halves depth 10),
    ltb-true (byte s 8) 2 (search halves depth 10),
  )

  no_ticks : (eqb (byte s 8) 1 || eqb (number s 9) 0) ≡ true
  unfolding is_node
  no_ticks = search halves depth 10

  delay_bytes_lem : (get_or (delay_bytes (node_from s).delay) 0 0 ≡ byte s 8) × (get_or (delay_bytes (node_from s).delay) 1 0 ≡ byte s 9) × (get_or (delay_bytes (node_from s).delay) 2 0 ≡ byte s 10)
  delay_bytes_lem = go (eqb (byte s 8) 1) refl no_ticks
    where
      go : (b : Bool) → eqb (byte s 8) 1 ≡ b → (b || eqb (number s 9) 0) ≡ true
          → (get_or (delay_bytes (node_from s).delay) 0 0 ≡ byte s 8) × (get_or (delay_bytes (node_from s).delay) 1 0 ≡ byte s 9) × (get_or (delay_bytes (node_from s).delay) 2 0 ≡ byte s 10)
      go true e q = rw e (sym (eqb-true (byte s 8) 1 e), high_at s 9 (bytes 10), low_at s 9 (bytes 10))
      go false e q =
          let z : number s 9 ≡ 0 = eqb-true (number s 9) 0 q in
          let y : byte s 8 ≡ 1 → ⊥ = eqb-false (byte s 8) 1 e in
          rw e (omega (arith, flags_right.5), omega arith, omega arith)

  head_is : head_list (node_from s) ≡ tab 15 (byte s)
  unfolding tab
  head_is =
      cc (
        state_byte_back (byte s 0) state_right,
        flag_byte_back (byte s 1) flags_right.0,
        flag_byte_back (byte s 2) flags_right.1,
        flag_byte_back (byte s 3) flags_right.2,
        flag_byte_back (byte s 4) flags_right.3,
        flag_byte_back (byte s 5) flags_right.4,
        high_at s 6 (bytes 7),
        low_at s 6 (bytes 7),
        delay_bytes_lem.0,
        delay_bytes_lem.1,
        delay_bytes_lem.2,
        ap high_byte (long_high_at s 11 (bytes 13) (bytes 14)) ∙ high_at s 11 (bytes 12),
        ap low_byte (long_high_at s 11 (bytes 13) (bytes 14)) ∙ low_at s 11 (bytes 12),
        ap high_byte (long_low_at s 11 (bytes 13) (bytes 14)) ∙ high_at s 13 (bytes 14),
        ap low_byte (long_low_at s 11 (bytes 13) (bytes 14)) ∙ low_at s 13 (bytes 14),
      )

  -- packing what was unpacked gives the bytes back
  pub bytes_back : node_bytes (node_of s) ≡ s
  unfolding node_bytes
  bytes_back = rw is (head_and_table s (node_head (node_from s)) 15 size (sym (head_listed (node_from s)) ∙ head_is))
