-- What a write gives and leaves, by its refusal.
use Prim.Native.Nat.{ℕ, ◌≤◌, ◌<◌}
use mathlib.Core.Path.{◌≡◌, refl, sym}
use mathlib.Core.List.{List, ◌++◌}
use mathlib.Core.Bool.{Bool, true, false}
use lib.ListN.{length, drop}
use lib.Dec.{ltb, leb, eqb}
use native.Mathlib.Omega.{arith}
use borrow.Author.Tests.{eq-eqb, ne_eqb, lt-ltb, le-ltb, ltb-false, leb-true, leb-false, eqb-true}
use Rattle.base_lists.specs.Bounded.{tab}
use Rattle.base_refusals.specs.declared.Refusal.{Refusal}
use Rattle.base_refusals.specs.Numbers.{number_of, unless}
use Rattle.base_lists.proofs.Tables.{length-tab}
use Rattle.set_plan.specs.declared.Plan.{Plan}
use Rattle.set_plan.specs.Rules.{plan_refusal}
use Rattle.set_writer.specs.Write.{WriteResult}
use Rattle.set_writer.specs.Write.{set_length, data_byte, with_checks, write_set, write_refusal, write_result, written}
use Rattle.set_writer.proofs.SetBytes.{checks_front}

module _ (p : Plan) where
  -- nothing is refused exactly where the plan is accepted and the set has room
  pub room : (n : ℕ) → write_refusal p n ≡ 0 → (plan_refusal p ≡ 0) × (set_length p.rowcount ≤ n)
  unfolding write_refusal
  room n e = go (eqb (plan_refusal p) 0) refl (ltb n (set_length p.rowcount)) refl
    where
      go : (a : Bool) → eqb (plan_refusal p) 0 ≡ a → (b : Bool) → ltb n (set_length p.rowcount) ≡ b → (plan_refusal p ≡ 0) × (set_length p.rowcount ≤ n)
      go true u true v = let w : ◌≡◌ {A = ℕ} 10 0 = rw (u, v) at e in absurd (omega arith)
      go true u false v = (eqb-true _ _ u, ltb-false _ _ v)
      go false u b v =
          let w : plan_refusal p ≡ 0 = rw u at e in
          let z : eqb (plan_refusal p) 0 ≡ true = eq-eqb _ _ w in
          absurd (let q : ◌≡◌ {A = ℕ} 0 1 = cc in omega arith)

  pub plan-refused : (n : ℕ) → (plan_refusal p ≡ 0 → ⊥) → write_refusal p n ≡ plan_refusal p
  unfolding write_refusal
  plan-refused n h = rw (ne_eqb _ _ h)

  pub short_refused : (n : ℕ) → plan_refusal p ≡ 0 → n < set_length p.rowcount → write_refusal p n ≡ 10
  unfolding write_refusal
  short_refused n a b = rw (a, lt-ltb n (set_length p.rowcount) b)

  pub room-given : (n : ℕ) → plan_refusal p ≡ 0 → set_length p.rowcount ≤ n → write_refusal p n ≡ 0
  unfolding write_refusal
  room-given n a b = rw (a, le-ltb n (set_length p.rowcount) b)

  -- what the room allows an accepted plan
  pub by_room : (n : ℕ) → plan_refusal p ≡ 0 → number_of (unless Refusal.BufferShort (leb (set_length p.rowcount) n)) ≡ write_refusal p n
  by_room n a = go (leb (set_length p.rowcount) n) refl
    where
      go : (b : Bool) → leb (set_length p.rowcount) n ≡ b → number_of (unless Refusal.BufferShort b) ≡ write_refusal p n
      go true u = sym (room-given n a (leb-true _ _ u))
      go false u = sym (short_refused n a (leb-false _ _ u))

  pub refused-result : (n k : ℕ) → k ≡ write_refusal p n → (k ≡ 0 → ⊥) → ◌≡◌ {A = WriteResult} (record { refusal = k; length = 0 }) (write_result p n)
  unfolding write_result
  refused-result n k e h = rw (← e, ne_eqb _ _ h)

  pub refused_buffer : (d : List ℕ) (k : ℕ) → k ≡ write_refusal p (length d) → (k ≡ 0 → ⊥) → d ≡ written p d
  unfolding written
  refused_buffer d k e h = rw (← e, ne_eqb _ _ h)

  pub done_result : (n m : ℕ) → write_refusal p n ≡ 0 → m ≡ set_length p.rowcount → ◌≡◌ {A = WriteResult} (record { refusal = 0; length = m }) (write_result p n)
  unfolding write_result
  done_result n m e h = rw (e, h)

  pub done_buffer : (d : List ℕ) → write_refusal p (length d) ≡ 0
      → with_checks p.rowcount (tab (set_length p.rowcount) (data_byte p) ++ drop (set_length p.rowcount) d) ≡ written p d
  unfolding written write_set
  done_buffer d e =
      rw e (checks_front p (tab (set_length p.rowcount) (data_byte p)) (drop (set_length p.rowcount) d) (length-tab (set_length p.rowcount) (data_byte p)))
