-- The blocks of a set, put span by span.
use Prim.Native.Nat.{ℕ, ◌+◌, ◌*◌, ◌-◌, ◌/◌, ◌%◌, ◌≤◌, ◌<◌}
use mathlib.Core.Path.{◌≡◌, refl, ap, sym, ◌∙◌}
use mathlib.Core.List.{List, ◌++◌}
use lib.ListN.{length, take, drop, length-take, length-drop}
use lib.Seq.{get_or-take, get_or-drop}
use native.Mathlib.Omega.{arith}
use borrow.Author.Tests.{lt-ltb, le-ltb}
use Rattle.base_lists.specs.Bounded.{tab}
use Rattle.base_bytes.specs.Bytes.{byte}
use Rattle.set_plan.specs.declared.Plan.{Plan}
use Rattle.set_writer.specs.Write.{block_byte, plan_head, plan_byte, rows_in_block, message_head, message_byte, data_byte}
use Rattle.set_writer.proofs.Blocks.{block_parts}
use Rattle.base_bytes.specs.Puts.{Put}
use Rattle.set_record.specs.Entries.{entry_byte_at, row_byte_at}
use Rattle.set_record.specs.Record.{record_of}
use Rattle.set_record.proofs.RecordTrip.{entry_in, row_in}
use Rattle.base_bytes.proofs.Puts.{put_as, put_next, put_whole}

plan_head_long : (p : Plan) → length (plan_head p) ≡ 32
unfolding plan_head
plan_head_long p = refl

message_head_long : (revision rows : ℕ) → length (message_head revision rows) ≡ 8
unfolding message_head
message_head_long revision rows = refl

module _ (p : Plan) where
  -- one message block more
  pub block_next : (b n m : ℕ) (d x y : List ℕ) → 1 ≤ b → n ≡ 512 * b → m ≡ n + 512 → Put 0 n (data_byte p) d x → Put (512 * b) 512 (message_byte p b) x y → Put 0 m (data_byte p) d y
  unfolding data_byte
  block_next b n m d x y f w v h j = put_next 0 n 512 m (data_byte p) (message_byte p b) d x y (512 * b) h j (omega arith) v
      (λ i q. let u : (n + i) / 512 ≡ b = omega arith in
      let t : (n + i) % 512 ≡ i = omega arith in
      rw (le-ltb (n + i) 512 (omega arith), u, t))

  pub short_put : (d x y : List ℕ) → Put 0 512 (data_byte p) d x → Put 512 512 (message_byte p 1) x y → 1024 ≤ length d → y ≡ tab 1024 (data_byte p) ++ drop 1024 d
  short_put d x y h j l = put_whole 1024 (data_byte p) d y (block_next 1 512 1024 d x y (omega arith) refl refl h j) l

  pub long_put : (d x y z : List ℕ) → Put 0 512 (data_byte p) d x → Put 512 512 (message_byte p 1) x y → Put 1024 512 (message_byte p 2) y z → 1536 ≤ length d
      → z ≡ tab 1536 (data_byte p) ++ drop 1536 d
  long_put d x y z h j k l =
      put_whole 1536 (data_byte p) d z (block_next 2 1024 1536 d y z (omega arith) refl refl (block_next 1 512 1024 d x y (omega arith) refl refl h j) k) l

-- bytes of a part of a list
part_byte : (s : List ℕ) (a k i : ℕ) → i < k → byte (take (a + k - a) (drop a s)) i ≡ byte s (a + i)
part_byte s a k i h =
    let w : a + k - a ≡ k = omega arith in
    ap (λ n. byte (take n (drop a s)) i) w ∙ get_or-take k (drop a s) i 0 h ∙ get_or-drop a s i 0

part_long : (s : List ℕ) (a k : ℕ) → a + k ≤ length s → length (take (a + k - a) (drop a s)) ≡ k
part_long s a k h = omega (arith, length-take (a + k - a) (drop a s), length-drop a s)

-- each from the bytes of a packed record
module _ (s : List ℕ) (size : length s ≡ 592) where
  pub plan_put : (n : ℕ) (d z head : List ℕ) → n ≡ (record_of s).nodecount → n ≤ 16 → head ≡ plan_head (record_of s)
      → Put 0 512 (byte (head ++ take (19 + 4 * n - 19) (drop 19 s))) d z → Put 0 512 (data_byte (record_of s)) d z
  unfolding data_byte plan_byte
  plan_put n d z head is few e h =
      let p = record_of s in
      let used = take (19 + 4 * n - 19) (drop 19 s) in
      let a : Put 0 512 (block_byte head 32 (entry_byte_at p.nodes) n) d z = put_as 0 512 (byte (head ++ used)) _ d z h
      (λ i q. sym (block_parts head 32 (entry_byte_at p.nodes) n used (ap length e ∙ plan_head_long p) (part_long s 19 (4 * n) (omega arith))
      (λ k r. entry_in s size k (omega arith) ∙ sym (part_byte s 19 (4 * n) k r)) i)) in
      put_as 0 512 _ (data_byte p) d z (rw (e, is) at a) (λ i q. rw (lt-ltb i 512 q))

  pub message_put : (b n : ℕ) (d z head : List ℕ) → 1 ≤ b → n ≡ rows_in_block (record_of s).rowcount b → n ≤ 100 → 100 * (b - 1) + n ≤ 127
      → head ≡ message_head (record_of s).revision (rows_in_block (record_of s).rowcount b)
      → Put (512 * b) 512 (byte (head ++ take (83 + 400 * (b - 1) + 4 * n - (83 + 400 * (b - 1))) (drop (83 + 400 * (b - 1)) s))) d z
      → Put (512 * b) 512 (message_byte (record_of s) b) d z
  unfolding message_byte
  message_put b n d z head some is few within e h =
      let p = record_of s in
      let first = 83 + 400 * (b - 1) in
      let used = take (first + 4 * n - first) (drop first s) in
      let rows : ℕ → ℕ = λ i. row_byte_at p.rows (400 * (b - 1) + i) in
      let a : Put (512 * b) 512 (block_byte head 8 rows n) d z = put_as (512 * b) 512 (byte (head ++ used)) _ d z h
      (λ i q. sym (block_parts head 8 rows n used (ap length e ∙ message_head_long p.revision (rows_in_block p.rowcount b)) (part_long s first (4 * n) (omega arith))
      (λ k r. let t : 83 + (400 * (b - 1) + k) ≡ first + k = omega arith in row_in s size (400 * (b - 1) + k) (omega arith) ∙ ap (byte s) t ∙ sym (part_byte s first (4 * n) k r)) i)) in
      rw (e, is) at a
