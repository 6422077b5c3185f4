-- A tick and a whole answer in the bytes of a master's state are the master's own.
use Rattle.std.proofs.Common.{◌≡◌, ℕ, ◌+◌, ◌*◌, ◌/◌, ◌%◌, ◌^◌, ◌<◌, ◌≤◌, Bool, true, false, ◌&&◌, eqb, ltb, leb, List, [], ◌∷◌, ◌++◌, length, get_or, take, set, sym, refl, ap, ◌∙◌, ap₂, arith, length-append, length-set, length-take, get_or-set_other, get_or-take, get_or-set_same, ltb-true}
use lib.Seq.{sets, length-sets}
use native.Mathlib.Decide.{dec_lt, ℕ_discrete}
use Rattle.base_lists.specs.Bounded.{if_else, tab}
use Rattle.base_lists.proofs.AllAny.{and_l, all_at}
use Rattle.base_lists.proofs.Choices.{by_test}
use Rattle.base_lists.proofs.Tables.{get_or-tab, length-tab, tab_of}
use Rattle.base_bytes.specs.Bytes.{byte, four_bytes}
use Rattle.machine_state.specs.Bytes.{state_byte, table_at}
use Rattle.set_plan.specs.declared.Row.{Row}
use Rattle.set_plan.specs.Answering.{is_counted}
use Rattle.machine_master.specs.declared.Hold.{Hold}
use Rattle.machine_master.specs.declared.Master.{Master}
use Rattle.machine_state.specs.declared.State.{State}
use Rattle.machine_state.specs.State.{is_normal}
use Rattle.machine_master.specs.Changes.{no_hold, cause_new, cause_aged, with_holds, with_causes, with_cause, hold}
use Rattle.machine_master.specs.Answers.{lost_after, count_stored}
use Rattle.machine_master.specs.Range.{hold_right_at, holds_right}
use Rattle.machine_master.specs.Ticks.{older, older_at, all_older, aged_out_at, all_aged_out, aged}
use Rattle.packed_master.specs.States.{master_head, hold_bytes, hold_byte_at, holds_bytes, holds_of, causes_of, master_bytes, master_from}
use Rattle.packed_master.proofs.StateTrips.{master_back, holds_long, front_long}
use Rattle.packed_master_steps.specs.InPlace.{is_normal_at, aged_holds, aged_nodes, tick_number_up, aged_bytes, lost_before, answer_kept}
use Rattle.packed_master_steps.proofs.Parts.{sets_front, sets_back, sets_before, sets_past, sets_inside}

-- a master's tables have their places
pub record Sized (m : Master) : Type 0 where
  pub holds : length m.holds ≡ 16
  pub counts : length m.counts ≡ 128
  pub causes : length m.causes ≡ 16

abbrev with_ticks : ℕ → Master → Master
with_ticks ticks m =
    record { state = m.state; phase = m.phase; permission = m.permission; holds = m.holds; causes = m.causes; counts = m.counts; delay = m.delay; ticks = ticks }

-- the bytes before the causes
counts_long : (m : Master) → length (master_head m ++ holds_bytes m.holds ++ m.counts) ≡ 57 + length m.counts
counts_long m = length-append (master_head m ++ holds_bytes m.holds) m.counts ∙ rw (front_long m)

module _ (m : Master) where
  -- bytes before the counts
  put_in_front : (vs : List ℕ) (i : ℕ) → i + length vs ≤ 57 → sets (master_bytes m) i vs ≡ sets (master_head m ++ holds_bytes m.holds) i vs ++ m.counts ++ m.causes
  unfolding master_bytes
  put_in_front vs i h =
      sets_back vs (master_head m ++ holds_bytes m.holds ++ m.counts) m.causes i (omega (arith, counts_long m, h))
      ∙ ap (λ (l : List ℕ). l ++ m.causes) (sets_back vs (master_head m ++ holds_bytes m.holds) m.counts i (omega (arith, front_long m, h)))

  -- over those of the permissions
  put_in_holds : (vs : List ℕ) (i : ℕ) → i + length vs ≤ 48 → sets (master_bytes m) (9 + i) vs ≡ master_head m ++ sets (holds_bytes m.holds) i vs ++ m.counts ++ m.causes
  put_in_holds vs i h =
      put_in_front vs (9 + i) (omega (arith, h)) ∙ ap (λ (l : List ℕ). l ++ m.counts ++ m.causes) (sets_front (master_head m) (holds_bytes m.holds) vs i)

  -- over those of the tick number
  put_ticks : (ticks : ℕ) → sets (master_bytes m) 5 (four_bytes ticks) ≡ master_bytes (with_ticks ticks m)
  unfolding master_bytes
  put_ticks ticks =
      put_in_front (four_bytes ticks) 5 (omega arith)
      ∙ ap (λ (l : List ℕ). l ++ m.counts ++ m.causes) (sets_back (four_bytes ticks) (master_head m) (holds_bytes m.holds) 5 (omega arith))

-- over those of one permission
hold-set : (holds : List Hold) (k : ℕ) (x : Hold) → length holds ≡ 16 → k < 16 → sets (holds_bytes holds) (3 * k) (hold_bytes x) ≡ holds_bytes (set holds k x)
unfolding holds_bytes
hold-set holds k x long h =
    tab_of 0 48 (hold_byte_at (set holds k x)) (sets (tab 48 (hold_byte_at holds)) (3 * k) (hold_bytes x))
    (length-sets (tab 48 (hold_byte_at holds)) (3 * k) (hold_bytes x) ∙ length-tab 48 (hold_byte_at holds)) (λ i p. at i p (ℕ_discrete (i / 3) k))
  where
    old : List ℕ
    old = tab 48 (hold_byte_at holds)

    at : (i : ℕ) → i < 48 → Dec (i / 3 ≡ k) → get_or (sets (tab 48 (hold_byte_at holds)) (3 * k) (hold_bytes x)) i 0 ≡ hold_byte_at (set holds k x) i
    at i p (yes e) =
        let z : i ≡ 3 * k + i % 3 = omega (arith, e) in
        ap (λ (o : ℕ). get_or (sets old (3 * k) (hold_bytes x)) o 0) z
        ∙ sets_inside (hold_bytes x) old (3 * k) (i % 3) 0 (omega arith) (omega (arith, length-tab 48 (hold_byte_at holds), h))
        ∙ rw (e, get_or-set_same holds k x no_hold (omega (arith, long, h)))
    at i p (no n) =
        away (dec_lt i (3 * k)) ∙ get_or-tab 48 (hold_byte_at holds) i 0 p ∙ rw (get_or-set_other holds k (i / 3) x no_hold n)
      where
        away : Dec (i < 3 * k) → get_or (sets old (3 * k) (hold_bytes x)) i 0 ≡ get_or old i 0
        away (yes l) = sets_before (hold_bytes x) old (3 * k) i 0 l
        away (no l) = sets_past (hold_bytes x) old (3 * k) i 0 (omega (arith, l, n))

-- a node from N on holds nothing, and nothing that could age
none-held : (n window : ℕ) (holds : List Hold) → holds_right n window holds ≡ true → (k : ℕ) → k < 16 → n ≤ k → (get_or holds k no_hold).held ≡ false
unfolding holds_right
none-held n window holds right k h far = go (get_or holds k no_hold).held refl
  where
    here : hold_right_at n window holds k ≡ true
    here = all_at (hold_right_at n window holds) 16 right k h

    go : (b : Bool) → (get_or holds k no_hold).held ≡ b → (get_or holds k no_hold).held ≡ false
    go true e =
        let w : (ltb k n && leb (get_or holds k no_hold).age window) ≡ true = rw e at here in
        let l = ltb-true k n (and_l (ltb k n) _ w) in
        absurd (omega (arith, l, far))
    go false e = e

none-older : (n window : ℕ) (holds : List Hold) → holds_right n window holds ≡ true → (k : ℕ) → k < 16 → n ≤ k → older window (get_or holds k no_hold) ≡ get_or holds k no_hold
none-older n window holds right k h far = rw (none-held n window holds right k h far)

module _ (m : Master) (sized : Sized m) where
  back : master_from (master_bytes m) ≡ m
  back = master_back m sized.holds sized.counts sized.causes

  put_hold : (k : ℕ) (x : Hold) → k < 16 → sets (master_bytes m) (9 + 3 * k) (hold_bytes x) ≡ master_bytes (with_holds (set m.holds k x) m)
  unfolding master_bytes
  put_hold k x h = put_in_holds m (hold_bytes x) (3 * k) (omega (arith, h)) ∙ ap (λ (l : List ℕ). master_head m ++ l ++ m.counts ++ m.causes) (hold-set m.holds k x sized.holds h)

  -- over that of a count
  put_count : (reqid count : ℕ) → reqid < 128 → sets (master_bytes m) (57 + reqid) (count ∷ []) ≡ master_bytes (count_stored reqid count m)
  unfolding master_bytes
  put_count reqid count h =
      let z : 57 + reqid ≡ length (master_head m ++ holds_bytes m.holds) + reqid = omega (arith, front_long m) in
      sets_back (count ∷ []) (master_head m ++ holds_bytes m.holds ++ m.counts) m.causes (57 + reqid) (omega (arith, counts_long m, sized.counts, h))
      ∙ ap (λ (l : List ℕ). l ++ m.causes)
      (ap (λ (o : ℕ). sets (master_head m ++ holds_bytes m.holds ++ m.counts) o (count ∷ [])) z ∙ sets_front (master_head m ++ holds_bytes m.holds) m.counts (count ∷ []) reqid)

  -- over those of the causes
  put_in_causes : (vs : List ℕ) (i : ℕ) → sets (master_bytes m) (185 + i) vs ≡ master_head m ++ holds_bytes m.holds ++ m.counts ++ sets m.causes i vs
  unfolding master_bytes
  put_in_causes vs i =
      let z : 185 + i ≡ length (master_head m ++ holds_bytes m.holds ++ m.counts) + i = omega (arith, counts_long m, sized.counts) in
      ap (λ (o : ℕ). sets (master_head m ++ holds_bytes m.holds ++ m.counts ++ m.causes) o vs) z
      ∙ sets_front (master_head m ++ holds_bytes m.holds ++ m.counts) m.causes vs i

  put_cause : (k cause : ℕ) → sets (master_bytes m) (185 + k) (cause ∷ []) ≡ master_bytes (with_cause cause k m)
  unfolding master_bytes
  put_cause k cause = put_in_causes (cause ∷ []) k

  -- the permissions from N on are as old as they were, so the first nodes' are all
  aged_parts : (n window i : ℕ) → holds_right n window m.holds ≡ true → i < 48 → Dec (i < 3 * n)
      → get_or (sets (holds_bytes m.holds) 0 (take (3 * n) (holds_bytes (all_older window m.holds)))) i 0 ≡ hold_byte_at (all_older window m.holds) i
  unfolding holds_bytes all_older
  aged_parts n window i right h (yes l) =
      let old = holds_bytes m.holds in
      let new = holds_bytes (all_older window m.holds) in
      let long : length (take (3 * n) new) ≤ 48 = omega (arith, length-take (3 * n) new, holds_long (all_older window m.holds)) in
      let z : i ≡ 0 + i = omega arith in
      ap (λ (o : ℕ). get_or (sets old 0 (take (3 * n) new)) o 0) z ∙ sets_inside (take (3 * n) new) old 0 i 0 (omega (arith, length-take (3 * n) new, holds_long (all_older window m.holds), h, l)) (omega (arith, long, holds_long m.holds))
      ∙ get_or-take (3 * n) new i 0 l ∙ get_or-tab 48 (hold_byte_at (all_older window m.holds)) i 0 h
  aged_parts n window i right h (no l) =
      let old = holds_bytes m.holds in
      let new = holds_bytes (all_older window m.holds) in
      sets_past (take (3 * n) new) old 0 i 0 (omega (arith, length-take (3 * n) new, l))
      ∙ get_or-tab 48 (hold_byte_at m.holds) i 0 h
      ∙ ap (λ (x : Hold). get_or (hold_bytes x) (i % 3) 0) (sym (get_or-tab 16 (older_at window m.holds) (i / 3) no_hold (omega (arith, h)) ∙ none-older n window m.holds right (i / 3) (omega (arith, h)) (omega (arith, l))))

  aged_holds_lem : (n window : ℕ) → holds_right n window m.holds ≡ true → aged_holds n window (master_bytes m) ≡ master_bytes (with_holds (all_older window m.holds) m)
  unfolding aged_holds master_bytes holds_bytes
  aged_holds_lem n window right =
      let new = holds_bytes (all_older window m.holds) in
      ap (λ (k : Master). sets (master_bytes m) 9 (take (3 * n) (holds_bytes (all_older window k.holds)))) back
      ∙ put_in_holds m (take (3 * n) new) 0 (omega (arith, length-take (3 * n) new, holds_long (all_older window m.holds)))
      ∙ ap (λ (l : List ℕ). master_head m ++ l ++ m.counts ++ m.causes)
      (tab_of 0 48 (hold_byte_at (all_older window m.holds)) (sets (holds_bytes m.holds) 0 (take (3 * n) new)) (length-sets (holds_bytes m.holds) 0 (take (3 * n) new) ∙ holds_long m.holds)
      (λ i h. aged_parts n window i right h (dec_lt i (3 * n))))

  count_there : (reqid : ℕ) → reqid < 128 → byte (master_bytes m) (57 + reqid) ≡ get_or m.counts reqid 0
  unfolding table_at
  count_there reqid h = sym (get_or-tab 128 (λ i. byte (master_bytes m) (57 + i)) reqid 0 h) ∙ ap (λ (k : Master). get_or k.counts reqid 0) back

older_sized : (m : Master) (window : ℕ) → Sized m → Sized (with_holds (all_older window m.holds) m)
unfolding all_older
older_sized m window sized = record { holds = length-tab 16 (older_at window m.holds); counts = sized.counts; causes = sized.causes }

count_stored_sized : (m : Master) (reqid count : ℕ) → Sized m → Sized (count_stored reqid count m)
count_stored_sized m reqid count sized = record { holds = sized.holds; counts = length-set m.counts reqid count ∙ sized.counts; causes = sized.causes }

pub aged_sized : (m : Master) (window : ℕ) → Sized m → Sized (aged window m)
unfolding all_older all_aged_out
aged_sized m window sized =
    record { holds = length-tab 16 (older_at window m.holds); counts = sized.counts; causes = length-tab 16 (aged_out_at (is_normal m.state) window m.holds m.causes) }

-- the state's own byte
normal_at : (m : Master) → is_normal_at (master_bytes m) ≡ is_normal m.state
unfolding master_bytes
normal_at m = go m.state
  where
    go : (s : State) → eqb (state_byte s) 0 ≡ is_normal s
    go State.Normal = refl
    go State.Standby = refl
    go State.Sleep = refl

-- the causes from N on stay, since nothing is held there
aged_causes : (m : Master) (n window : ℕ) (normal : Bool) → Sized m → holds_right n window m.holds ≡ true
    → sets m.causes 0 (take n (all_aged_out normal window m.holds m.causes)) ≡ all_aged_out normal window m.holds m.causes
unfolding all_aged_out
aged_causes m n window normal sized right =
    tab_of 0 16 (aged_out_at normal window m.holds m.causes) (sets m.causes 0 (take n new)) (length-sets m.causes 0 (take n new) ∙ sized.causes) (λ i h. at i h (dec_lt i n))
  where
    new : List ℕ
    new = tab 16 (aged_out_at normal window m.holds m.causes)

    long : length new ≡ 16
    long = length-tab 16 (aged_out_at normal window m.holds m.causes)

    at : (i : ℕ) → i < 16 → Dec (i < n) → get_or (sets m.causes 0 (take n new)) i 0 ≡ aged_out_at normal window m.holds m.causes i
    at i h (yes l) =
        let z : i ≡ 0 + i = omega arith in
        ap (λ (o : ℕ). get_or (sets m.causes 0 (take n new)) o 0) z
        ∙ sets_inside (take n new) m.causes 0 i 0 (omega (arith, length-take n new, long, h, l)) (omega (arith, length-take n new, long, sized.causes))
        ∙ get_or-take n new i 0 l ∙ get_or-tab 16 (aged_out_at normal window m.holds m.causes) i 0 h
    at i h (no l) =
        sets_past (take n new) m.causes 0 i 0 (omega (arith, length-take n new, l))
        ∙ sym (rw (none-held n window m.holds right i h (omega (arith, l))) (go normal))
      where
        go : (b : Bool) → if_else (b && false && leb window (get_or m.holds i no_hold).age) cause_aged (get_or m.causes i cause_new) ≡ get_or m.causes i 0
        go true = refl
        go false = refl

-- "Tick, any state: tick number up by one; held ages up by one, and one above W is let go"
pub aged_master : (m : Master) (n window : ℕ) → Sized m → holds_right n window m.holds ≡ true → aged_bytes n window (master_bytes m) ≡ master_bytes (aged window m)
unfolding tick_number_up aged_nodes master_bytes
aged_master m nodecount window sized right =
    let k = with_holds (all_older window m.holds) m in
    let normal = is_normal m.state in
    let new = all_aged_out normal window m.holds m.causes in
    let n = with_causes new k in
    let z = aged_sized m window sized in
    ap tick_number_up
    (ap₂ (λ (l : List ℕ) (b : Bool). sets l 185 (take nodecount (all_aged_out b window (holds_of (master_bytes m)) (causes_of (master_bytes m))))) (aged_holds_lem m sized nodecount window right) (normal_at m)
    ∙ ap₂ (λ (h : List Hold) (c : List ℕ). sets (master_bytes k) 185 (take nodecount (all_aged_out normal window h c))) (ap (λ (x : Master). x.holds) (back m sized)) (ap (λ (x : Master). x.causes) (back m sized))
    ∙ put_in_causes k (older_sized m window sized) (take nodecount new) 0
    ∙ ap (λ (l : List ℕ). master_head m ++ holds_bytes (all_older window m.holds) ++ m.counts ++ l) (aged_causes m nodecount window normal sized right))
    ∙ ap (λ (x : Master). sets (master_bytes n) 5 (four_bytes ((x.ticks + 1) % 2 ^ 32))) (back n (record { holds = z.holds; counts = z.counts; causes = z.causes }))
    ∙ put_ticks n ((m.ticks + 1) % 2 ^ 32)

-- what is kept of a whole answer that permits sleep
abbrev pub keeps : Row → ℕ → Master → Master
keeps row count m = hold row.publisher (with_cause cause_new row.publisher (if_else (is_counted row) (count_stored row.reqid count m) m))

module _ (m : Master) (row : Row) (count : ℕ) (sized : Sized m) (node : row.publisher < 16) (reqid : row.reqid < 128) where
  held_sized : (k : Master) → Sized k → Sized (hold row.publisher k)
  held_sized k s = record { holds = length-set k.holds row.publisher (record { held = true; age = 0 }) ∙ s.holds; counts = s.counts; causes = s.causes }

  pub kept_master : answer_kept row count (master_bytes m) ≡ master_bytes (keeps row count m)
  kept_master = go (is_counted row)
    where
      given : Hold
      given = record { held = true; age = 0 }

      then : (n : Master) → Sized n → sets (sets (master_bytes n) (9 + 3 * row.publisher) (hold_bytes given)) (185 + row.publisher) (cause_new ∷ []) ≡ master_bytes (hold row.publisher (with_cause cause_new row.publisher n))
      then n s =
          ap (λ (l : List ℕ). sets l (185 + row.publisher) (cause_new ∷ [])) (put_hold n s row.publisher given node)
          ∙ put_cause (hold row.publisher n) (held_sized n s) row.publisher cause_new

      go : (b : Bool) → sets (sets (if_else b (sets (master_bytes m) (57 + row.reqid) (count ∷ [])) (master_bytes m)) (9 + 3 * row.publisher) (hold_bytes (record { held = true; age = 0 }))) (185 + row.publisher) (cause_new ∷ [])
          ≡ master_bytes (hold row.publisher (with_cause cause_new row.publisher (if_else b (count_stored row.reqid count m) m)))
      go true =
          ap (λ (s : List ℕ). sets (sets s (9 + 3 * row.publisher) (hold_bytes given)) (185 + row.publisher) (cause_new ∷ [])) (put_count m sized row.reqid count reqid)
          ∙ then (count_stored row.reqid count m) (count_stored_sized m row.reqid count sized)
      go false = then m sized

  pub kept_sized : Sized (keeps row count m)
  kept_sized = by_test (λ (k : Master). Sized (hold row.publisher (with_cause cause_new row.publisher k))) (is_counted row) (λ e. held (count_stored_sized m row.reqid count sized)) (λ e. held sized)
    where
      held : {k : Master} → Sized k → Sized (hold row.publisher (with_cause cause_new row.publisher k))
      held {k} s =
          held_sized (with_cause cause_new row.publisher k) (record { holds = s.holds; counts = s.counts; causes = length-set k.causes row.publisher cause_new ∙ s.causes })

  pub lost_master : lost_before row count (master_bytes m) ≡ if_else (is_counted row) (lost_after (get_or m.counts row.reqid 0) count) 0
  lost_master = ap (λ (last : ℕ). if_else (is_counted row) (lost_after last count) 0) (count_there m sized row.reqid reqid)
