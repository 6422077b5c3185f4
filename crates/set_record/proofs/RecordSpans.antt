-- A packed plan record, put span by span.
use Prim.Native.Nat.{ℕ, ◌+◌, ◌*◌, ◌-◌, ◌≤◌}
use mathlib.Core.Path.{◌≡◌, refl, ap, ◌∙◌}
use mathlib.Core.List.{List, ◌++◌}
use lib.ListN.{length, drop, set}
use lib.Seq.{sets}
use native.Mathlib.Omega.{arith}
use borrow.Author.Tests.{lt-ltb, le-ltb}
use Rattle.base_bytes.specs.Bytes.{byte}
use Rattle.set_plan.specs.declared.Plan.{Plan}
use Rattle.base_bytes.specs.Puts.{Put}
use Rattle.base_bytes.proofs.Puts.{put_as, put_next, put_step, put_whole, put_list}
use Rattle.set_record.specs.Entries.{entry_byte_at, row_byte_at}
use Rattle.set_record.specs.Record.{record_head, record_byte, record_bytes}

pub record_put : (p : Plan) (d x y z head : List ℕ) (v : ℕ) → 592 ≤ length d → head ≡ record_head p.revision p.nodecount p.rowcount p.times → x ≡ sets d 0 head
    → Put 19 (4 * 16) (entry_byte_at p.nodes) x y → Put 83 (4 * 127) (row_byte_at p.rows) y z → v ≡ p.profile → set z 591 v ≡ record_bytes p ++ drop 592 d
unfolding record_bytes record_byte record_head
record_put p d x y z head v long e h1 h2 h3 h4 =
    let l : length head ≡ 19 = ap length e in
    let b1 : Put 0 (length head) (byte head) d x = put_list 0 head d x h1 (omega arith) in
    let a1 : Put 0 19 (record_byte p) d x = put_as 0 19 (byte head) (record_byte p) d x (rw l at b1)
    (λ i q. ap (λ t. byte t i) e ∙ rw (lt-ltb i 19 q)) in
    let a2 : Put 0 83 (record_byte p) d y = put_next 0 19 64 83 (record_byte p) (entry_byte_at p.nodes) d x y 19 a1 h2 refl refl
    (λ i q. let w : 19 + i - 19 ≡ i = omega arith in rw (le-ltb (19 + i) 19 (omega arith), lt-ltb (19 + i) 83 (omega arith), w)) in
    let a3 : Put 0 591 (record_byte p) d z = put_next 0 83 508 591 (record_byte p) (row_byte_at p.rows) d y z 83 a2 h3 refl refl
    (λ i q. let w : 83 + i - 83 ≡ i = omega arith in rw (le-ltb (83 + i) 19 (omega arith), le-ltb (83 + i) 83 (omega arith), lt-ltb (83 + i) 591 (omega arith), w)) in
    put_whole 592 (record_byte p) d (set z 591 v) (put_step 0 591 (record_byte p) d z 591 v a3 refl (omega (arith, a3.size)) h4) long
