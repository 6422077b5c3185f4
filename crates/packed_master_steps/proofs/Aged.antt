-- Permissions and causes a tick later, one node after the other, in the bytes of a state.
use Rattle.std.proofs.Common.{◌≡◌, ℕ, suc, ◌+◌, ◌*◌, ◌<◌, ◌≤◌, min, Bool, true, false, ltb, List, [], ◌∷◌, ◌++◌, length, get_or, take, sym, refl, ap, ◌∙◌, ap₂, append_assoc, arith, length-take, take_all, take-suc, ltb-false, ltb-true}
use lib.Seq.{sets, length-sets, set-get_or}
use native.Mathlib.Decide.{dec_lt}
use Rattle.base_lists.specs.Bounded.{if_else, tab}
use Rattle.base_lists.proofs.Stores.{sets-append}
use Rattle.base_lists.proofs.Tables.{get_or-tab, length-tab}
use Rattle.base_bytes.specs.Bytes.{byte}
use Rattle.machine_master.specs.declared.Hold.{Hold}
use Rattle.machine_master.specs.Changes.{no_hold, cause_new, cause_aged}
use Rattle.machine_master.specs.Ticks.{older, older_at, all_older, aged_out, aged_out_at, all_aged_out}
use Rattle.packed_master.specs.States.{hold_bytes, hold_byte_at, holds_bytes, hold_of, holds_of, cause_byte_at, causes_of}
use Rattle.packed_master.proofs.Permissions.{hold_three}
use Rattle.packed_master_steps.specs.InPlace.{is_normal_at, aged_holds, is_due, node_aged, aged_nodes}
use Rattle.packed_master_steps.proofs.Parts.{sets_past, sets_before, sets_apart}

module _ (s : List ℕ) (normal : Bool) (window : ℕ) where
  abbrev NewHolds : List ℕ
  NewHolds = holds_bytes (all_older window (holds_of s))

  abbrev NewCauses : List ℕ
  NewCauses = all_aged_out normal window (holds_of s) (causes_of s)

  -- the first k nodes are done
  abbrev pub so_far : ℕ → List ℕ
  so_far k = sets (sets s 9 (take (3 * k) NewHolds)) 185 (take k NewCauses)

  pub so_far_long : (k : ℕ) → length (so_far k) ≡ length s
  so_far_long k = length-sets (sets s 9 (take (3 * k) NewHolds)) 185 (take k NewCauses) ∙ length-sets s 9 (take (3 * k) NewHolds)

  holds_long : length NewHolds ≡ 48
  unfolding holds_bytes
  holds_long = length-tab 48 (hold_byte_at (all_older window (holds_of s)))

  causes_long : length NewCauses ≡ 16
  unfolding all_aged_out
  causes_long = length-tab 16 (aged_out_at normal window (holds_of s) (causes_of s))

  part_long : (k : ℕ) → k < 16 → length (take (3 * k) NewHolds) ≡ 3 * k
  part_long k h = length-take (3 * k) NewHolds ∙ omega (arith, holds_long, h)

  few_long : (k : ℕ) → k < 16 → length (take k NewCauses) ≡ k
  few_long k h = length-take k NewCauses ∙ omega (arith, causes_long, h)

  -- node k's permission and cause are still those that were there
  hold_kept : (k : ℕ) → k < 16 → hold_of (so_far k) k ≡ hold_of s k
  hold_kept k h =
      let past : (o : ℕ) → 9 + 3 * k ≤ o → o < 185 → byte (so_far k) o ≡ byte s o
      = λ o l u. sets_before (take k NewCauses) (sets s 9 (take (3 * k) NewHolds)) 185 o 0 u ∙ sets_past (take (3 * k) NewHolds) s 9 o 0 (omega (arith, part_long k h, l)) in
      rw (past (9 + 3 * k) (omega arith) (omega (arith, h)), past (9 + 3 * k + 1) (omega arith) (omega (arith, h)), past (9 + 3 * k + 1 + 1) (omega arith) (omega (arith, h)))

  cause_kept : (k : ℕ) → k < 16 → byte (sets (sets s 9 (take (3 * (k + 1)) NewHolds)) 185 (take k NewCauses)) (185 + k) ≡ cause_byte_at s k
  cause_kept k h =
      sets_past (take k NewCauses) (sets s 9 (take (3 * (k + 1)) NewHolds)) 185 (185 + k) 0 (omega (arith, few_long k h))
      ∙ sets_past (take (3 * (k + 1)) NewHolds) s 9 (185 + k) 0 (omega (arith, length-take (3 * (k + 1)) NewHolds, holds_long))

  older_there : (k : ℕ) → k < 16 → get_or (all_older window (holds_of s)) k no_hold ≡ older window (hold_of s k)
  unfolding all_older holds_of
  older_there k h = get_or-tab 16 (older_at window (tab 16 (hold_of s))) k no_hold h ∙ ap (older window) (get_or-tab 16 (hold_of s) k no_hold h)

  cause_there : (k : ℕ) → k < 16 → get_or NewCauses k 0 ≡ aged_out normal window (hold_of s k) (cause_byte_at s k)
  unfolding all_aged_out holds_of causes_of
  cause_there k h =
      get_or-tab 16 (aged_out_at normal window (tab 16 (hold_of s)) (tab 16 (cause_byte_at s))) k 0 h
      ∙ ap₂ (aged_out normal window) (get_or-tab 16 (hold_of s) k no_hold h) (get_or-tab 16 (cause_byte_at s) k cause_new h)

  byte_there : (k i : ℕ) → k < 16 → i < 3 → get_or NewHolds (3 * k + i) 0 ≡ get_or (hold_bytes (older window (hold_of s k))) i 0
  unfolding holds_bytes
  byte_there k i h g =
      get_or-tab 48 (hold_byte_at (all_older window (holds_of s))) (3 * k + i) 0 (omega arith) ∙ sym (hold_three (all_older window (holds_of s)) k i g)
      ∙ ap (λ (x : Hold). get_or (hold_bytes x) i 0) (older_there k h)

  three_there : (k : ℕ) → k < 16 → take (3 * (k + 1)) NewHolds ≡ take (3 * k) NewHolds ++ hold_bytes (older window (hold_of s k))
  three_there k h =
      let l = NewHolds in
      let a : 3 * (k + 1) ≡ suc (suc (suc (3 * k))) = omega arith in
      let z : 3 * k + 0 ≡ 3 * k = omega arith in
      let u : 3 * k + 1 ≡ suc (3 * k) = omega arith in
      let v : 3 * k + 2 ≡ suc (suc (3 * k)) = omega arith in
      rw (
        a,
        take-suc l (suc (suc (3 * k))) 0 (omega (arith, holds_long, h)),
        take-suc l (suc (3 * k)) 0 (omega (arith, holds_long, h)),
        take-suc l (3 * k) 0 (omega (arith, holds_long, h)),
        rw z at (byte_there k 0 h (omega arith)),
        rw u at (byte_there k 1 h (omega arith)),
        rw v at (byte_there k 2 h (omega arith)),
      ) (append_assoc (take (3 * k) l ++ (_ ∷ [])) (_ ∷ []) (_ ∷ []) ∙ append_assoc (take (3 * k) l) (_ ∷ []) (_ ∷ _ ∷ []))

  -- its permission, then its cause
  hold_next : (k : ℕ) → k < 16 → sets (so_far k) (9 + 3 * k) (hold_bytes (older window (hold_of s k))) ≡ sets (sets s 9 (take (3 * (k + 1)) NewHolds)) 185 (take k NewCauses)
  hold_next k h =
      let e : 9 + 3 * k ≡ 9 + length (take (3 * k) NewHolds) = omega (arith, part_long k h) in
      sets_apart (take k NewCauses) (hold_bytes (older window (hold_of s k))) (sets s 9 (take (3 * k) NewHolds)) 185 (9 + 3 * k) (omega (arith, h))
      ∙ ap (λ (l : List ℕ). sets l 185 (take k NewCauses))
      (ap (λ (o : ℕ). sets (sets s 9 (take (3 * k) NewHolds)) o (hold_bytes (older window (hold_of s k)))) e
      ∙ sets-append (take (3 * k) NewHolds) (hold_bytes (older window (hold_of s k))) s 9 ∙ ap (sets s 9) (sym (three_there k h)))

  cause_next : (k c : ℕ) → k < 16 → c ≡ aged_out normal window (hold_of s k) (cause_byte_at s k)
      → sets (sets (sets s 9 (take (3 * (k + 1)) NewHolds)) 185 (take k NewCauses)) (185 + k) (c ∷ []) ≡ so_far (k + 1)
  cause_next k c h q =
      let x = sets s 9 (take (3 * (k + 1)) NewHolds) in
      let e : 185 + k ≡ 185 + length (take k NewCauses) = omega (arith, few_long k h) in
      let z : suc k ≡ k + 1 = omega arith in
      ap (λ (o : ℕ). sets (sets x 185 (take k NewCauses)) o (c ∷ [])) e ∙ sets-append (take k NewCauses) (c ∷ []) x 185
      ∙ ap (sets x 185) (ap (λ (y : ℕ). take k NewCauses ++ (y ∷ [])) (q ∙ sym (cause_there k h)) ∙ sym (take-suc NewCauses k 0 (omega (arith, causes_long, h))) ∙ ap (λ (y : ℕ). take y NewCauses) z)

  next_node : (k : ℕ) → k < 16 → node_aged normal window k (so_far k) ≡ so_far (k + 1)
  next_node k h = ap by (hold_kept k h) ∙ go (is_due normal window (hold_of s k)) refl
    where
      by : Hold → List ℕ
      by x =
          if_else (is_due normal window x) (sets (sets (so_far k) (9 + 3 * k) (hold_bytes (older window x))) (185 + k) (cause_aged ∷ []))
          (sets (so_far k) (9 + 3 * k) (hold_bytes (older window x)))

      then : List ℕ
      then = sets (sets s 9 (take (3 * (k + 1)) NewHolds)) 185 (take k NewCauses)

      go : (b : Bool) → is_due normal window (hold_of s k) ≡ b
          → if_else b (sets (sets (so_far k) (9 + 3 * k) (hold_bytes (older window (hold_of s k)))) (185 + k) (cause_aged ∷ [])) (sets (so_far k) (9 + 3 * k) (hold_bytes (older window (hold_of s k)))) ≡ so_far (k + 1)
      go true d = ap (λ (l : List ℕ). sets l (185 + k) (cause_aged ∷ [])) (hold_next k h) ∙ cause_next k cause_aged h (sym (ap (λ (b : Bool). if_else b cause_aged (cause_byte_at s k)) d))
      go false d =
          hold_next k h ∙ sym (set-get_or then (185 + k) 0)
          ∙ cause_next k (byte then (185 + k)) h (cause_kept k h ∙ sym (ap (λ (b : Bool). if_else b cause_aged (cause_byte_at s k)) d))

  -- the next place, which is a node's or stays
  pub next_place : (nodecount k : ℕ) → k < 16 → if_else (ltb k nodecount) (node_aged normal window k (so_far (min nodecount k))) (so_far (min nodecount k)) ≡ so_far (min nodecount (k + 1))
  next_place nodecount k h = go (ltb k nodecount) refl
    where
      go : (b : Bool) → ltb k nodecount ≡ b → if_else b (node_aged normal window k (so_far (min nodecount k))) (so_far (min nodecount k)) ≡ so_far (min nodecount (k + 1))
      go true e =
          let l = ltb-true k nodecount e in
          let here : min nodecount k ≡ k = omega (arith, l) in
          let next : min nodecount (k + 1) ≡ k + 1 = omega (arith, l) in
          ap (λ (j : ℕ). node_aged normal window k (so_far j)) here ∙ next_node k h ∙ ap so_far (sym next)
      go false e =
          let l = ltb-false k nodecount e in
          let same : min nodecount k ≡ min nodecount (k + 1) = omega (arith, l) in
          ap so_far same

pub all_aged : (s : List ℕ) (window nodecount k : ℕ) → k ≡ min nodecount 16 → so_far s (is_normal_at s) window k ≡ aged_nodes nodecount window s
unfolding aged_nodes aged_holds
all_aged s window nodecount k e = go (dec_lt k nodecount)
  where
    holds : List ℕ
    holds = NewHolds s (is_normal_at s) window

    causes : List ℕ
    causes = NewCauses s (is_normal_at s) window

    go : Dec (k < nodecount) → so_far s (is_normal_at s) window k ≡ sets (sets s 9 (take (3 * nodecount) (NewHolds s (is_normal_at s) window))) 185 (take nodecount (NewCauses s (is_normal_at s) window))
    go (no n) =
        let z : k ≡ nodecount = omega (arith, e, n) in
        ap (so_far s (is_normal_at s) window) z
    go (yes l) =
        let long = holds_long s (is_normal_at s) window in
        let short = causes_long s (is_normal_at s) window in
        ap₂ (λ (x y : List ℕ). sets (sets s 9 x) 185 y)
        (take_all (3 * k) holds (omega (arith, long, e, l)) ∙ sym (take_all (3 * nodecount) holds (omega (arith, long, e, l))))
        (take_all k causes (omega (arith, short, e, l)) ∙ sym (take_all nodecount causes (omega (arith, short, e, l))))
