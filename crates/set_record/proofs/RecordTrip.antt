-- A packed plan record gives its plan back, and the plan its packed record.
use Prim.Native.Nat.{ℕ, ◌+◌, ◌*◌, ◌-◌, ◌/◌, ◌%◌, ◌<◌}
use mathlib.Core.Path.{◌≡◌, ap, sym, ◌∙◌}
use mathlib.Core.List.{List}
use lib.ListN.{length, get_or}
use native.Mathlib.Omega.{arith}
use native.Mathlib.Decide.{dec_lt}
use borrow.Author.Tests.{lt-ltb, le-ltb, eq-eqb}
use Rattle.base_lists.specs.Bounded.{tab}
use Rattle.base_lists.proofs.Tables.{get_or-tab, length-tab, tab_of}
use Rattle.base_bytes.specs.Bytes.{byte, number, high_byte, low_byte}
use Rattle.base_bytes.proofs.Halves.{from_halves, high_at, low_at}
use Rattle.set_plan.specs.declared.Plan.{Plan}
use Rattle.set_plan.specs.Record.{zero_entry, zero_row, entry_at, row_at}
use Rattle.set_record.specs.Entries.{times_from, entry_from, entry_bytes, entry_byte_at, row_from, row_bytes, row_byte_at}
use Rattle.set_record.specs.Record.{record_entry, record_row, record_of, record_head, record_byte, record_bytes}
use Rattle.set_record.proofs.FourBytes.{entry_byte, row_byte, entry_from_lem, row_from_lem, table_byte, four_there}

module _ (p : Plan) (nodes_long : length p.nodes ≡ 16) (rows_long : length p.rows ≡ 127) where
  byte_is : (o : ℕ) → o < 592 → byte (record_bytes p) o ≡ record_byte p o
  unfolding record_bytes
  byte_is o h = get_or-tab 592 (record_byte p) o 0 h

  head_byte : (o : ℕ) → o < 19 → byte (record_bytes p) o ≡ get_or (record_head p.revision p.nodecount p.rowcount p.times) o 0
  unfolding record_byte
  head_byte o h = byte_is o (omega arith) ∙ rw (lt-ltb o 19 h)

  times_back : times_from (record_bytes p) 5 ≡ p.times
  unfolding times_from record_head
  times_back =
      λ i. record {
        window = from_halves _ _ _ (head_byte 5 (omega arith)) (head_byte 6 (omega arith)) i;
        stop = from_halves _ _ _ (head_byte 7 (omega arith)) (head_byte 8 (omega arith)) i;
        sleep = from_halves _ _ _ (head_byte 9 (omega arith)) (head_byte 10 (omega arith)) i;
        quiet = from_halves _ _ _ (head_byte 11 (omega arith)) (head_byte 12 (omega arith)) i;
        recovery = from_halves _ _ _ (head_byte 13 (omega arith)) (head_byte 14 (omega arith)) i;
        space = from_halves _ _ _ (head_byte 15 (omega arith)) (head_byte 16 (omega arith)) i;
        start = from_halves _ _ _ (head_byte 17 (omega arith)) (head_byte 18 (omega arith)) i;
      }

  entry_back : (k : ℕ) → k < 16 → entry_from (record_bytes p) (19 + 4 * k) ≡ entry_at p.nodes k
  unfolding record_byte
  entry_back k h = entry_from_lem (record_bytes p) p.nodes (19 + 4 * k) k (λ m a.
      let o = 19 + 4 * k + m in
      let z : o - 19 ≡ 4 * k + m = omega arith in
      byte_is o (omega arith) ∙ rw (le-ltb o 19 (omega arith), lt-ltb o 83 (omega arith), z))

  row_back : (j : ℕ) → j < 127 → row_from (record_bytes p) (83 + 4 * j) ≡ row_at p.rows j
  unfolding record_byte
  row_back j h = row_from_lem (record_bytes p) p.rows (83 + 4 * j) j (λ m a.
      let o = 83 + 4 * j + m in
      let z : o - 83 ≡ 4 * j + m = omega arith in
      byte_is o (omega arith) ∙ rw (le-ltb o 19 (omega arith), le-ltb o 83 (omega arith), lt-ltb o 591 (omega arith), z))

  nodes_back : tab 16 (record_entry (record_bytes p)) ≡ p.nodes
  nodes_back = sym (tab_of zero_entry 16 (record_entry (record_bytes p)) p.nodes nodes_long (λ k h. sym (entry_back k h)))

  rows_back : tab 127 (record_row (record_bytes p)) ≡ p.rows
  rows_back = sym (tab_of zero_row 127 (record_row (record_bytes p)) p.rows rows_long (λ j h. sym (row_back j h)))

  profile_back : byte (record_bytes p) 591 ≡ p.profile
  unfolding record_byte
  profile_back = byte_is 591 (omega arith)

  -- unpacking what was packed gives the plan back
  pub record_back : record_of (record_bytes p) ≡ p
  unfolding record_of record_head record_bytes
  record_back =
      rw (eq-eqb (length (record_bytes p)) 592 (length-tab 592 (record_byte p))) λ i. record {
        revision = from_halves _ _ _ (head_byte 0 (omega arith)) (head_byte 1 (omega arith)) i;
        profile = profile_back i;
        nodecount = head_byte 2 (omega arith) i;
        times = times_back i;
        nodes = nodes_back i;
        rowcount = from_halves _ _ _ (head_byte 3 (omega arith)) (head_byte 4 (omega arith)) i;
        rows = rows_back i;
      }

module _ (s : List ℕ) (size : length s ≡ 592) where
  nodes_are : (record_of s).nodes ≡ tab 16 (record_entry s)
  unfolding record_of
  nodes_are = rw (eq-eqb (length s) 592 size)

  rows_are : (record_of s).rows ≡ tab 127 (record_row s)
  unfolding record_of
  rows_are = rw (eq-eqb (length s) 592 size)

  pub profile_is : (record_of s).profile ≡ byte s 591
  unfolding record_of
  profile_is = rw (eq-eqb (length s) 592 size)

  -- the bytes of the entries and of the rows
  pub entry_in : (i : ℕ) → i < 64 → entry_byte_at (record_of s).nodes i ≡ byte s (19 + i)
  entry_in i h =
      ap (λ l. entry_byte_at l i) nodes_are ∙ table_byte entry_bytes zero_entry (record_entry s) 16 i (omega arith)
      ∙ entry_byte s (19 + 4 * (i / 4)) (i % 4) (omega arith) ∙ four_there s 19 i

  pub row_in : (i : ℕ) → i < 508 → row_byte_at (record_of s).rows i ≡ byte s (83 + i)
  row_in i h =
      ap (λ l. row_byte_at l i) rows_are ∙ table_byte row_bytes zero_row (record_row s) 127 i (omega arith)
      ∙ row_byte s (83 + 4 * (i / 4)) (i % 4) (omega arith) ∙ four_there s 83 i

module _ (s : List ℕ) (size : length s ≡ 592) (bytes : (o : ℕ) → byte s o < 256) where
  high : (o : ℕ) → high_byte (number s o) ≡ byte s o
  high o = high_at s o (bytes (o + 1))

  low : (o : ℕ) → low_byte (number s o) ≡ byte s (o + 1)
  low o = low_at s o (bytes (o + 1))

  head_is : record_head (record_of s).revision (record_of s).nodecount (record_of s).rowcount (record_of s).times ≡ tab 19 (byte s)
  unfolding record_head record_of times_from tab
  head_is =
      rw (eq-eqb (length s) 592 size) cc (high 0, low 0, high 3, low 3, high 5, low 5, high 7, low 7, high 9, low 9, high 11, low 11, high 13, low 13, high 15, low 15, high 17, low 17)

  data_is : (o : ℕ) → o < 592 → record_byte (record_of s) o ≡ byte s o
  unfolding record_byte
  data_is o h = go (dec_lt o 19) (dec_lt o 83) (dec_lt o 591)
    where
      go : Dec (o < 19) → Dec (o < 83) → Dec (o < 591) → record_byte (record_of s) o ≡ byte s o
      go (yes a) b d = rw (lt-ltb o 19 a) (ap (λ l. get_or l o 0) head_is ∙ get_or-tab 19 (byte s) o 0 a)
      go (no a) (yes b) d =
          let z : 19 + (o - 19) ≡ o = omega arith in
          rw (le-ltb o 19 (omega arith), lt-ltb o 83 b) (entry_in s size (o - 19) (omega arith) ∙ ap (byte s) z)
      go (no a) (no b) (yes d) =
          let z : 83 + (o - 83) ≡ o = omega arith in
          rw (le-ltb o 19 (omega arith), le-ltb o 83 (omega arith), lt-ltb o 591 d) (row_in s size (o - 83) (omega arith) ∙ ap (byte s) z)
      go (no a) (no b) (no d) =
          let z : o ≡ 591 = omega arith in
          rw (le-ltb o 19 (omega arith), le-ltb o 83 (omega arith), le-ltb o 591 (omega arith)) (profile_is s size ∙ ap (byte s) (sym z))

  -- packing what was unpacked gives the bytes back
  pub bytes_back : record_bytes (record_of s) ≡ s
  unfolding record_bytes
  bytes_back = sym (tab_of 0 592 (record_byte (record_of s)) s size (λ o h. sym (data_is o h)))
