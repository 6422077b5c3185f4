-- The result of a read, and what it leaves in a buffer, by what its two judgements give.
use Prim.Native.Nat.{ℕ, ◌≤◌, ◌<◌}
use mathlib.Core.Path.{◌≡◌, refl, sym, ap, ◌∙◌}
use mathlib.Core.List.{List}
use mathlib.Core.Bool.{Bool, true, false}
use lib.ListN.{length}
use lib.Seq.{sets}
use lib.Dec.{eqb}
use native.Mathlib.Omega.{arith}
use borrow.Author.Tests.{ne_eqb, lt-ltb, le-ltb}
use Rattle.base_lists.specs.Bounded.{if_else}
use Rattle.base_lists.specs.FirstBroken.{first_broken}
use Rattle.base_lists.proofs.AllAny.{and_r}
use Rattle.base_lists.proofs.Choices.{by_test}
use Rattle.base_lists.proofs.Rules.{front_number, rest_number, none_only}
use Rattle.base_lists.proofs.Tables.{length-tab}
use Rattle.base_bytes.specs.Bytes.{byte}
use Rattle.set_plan.specs.Profile.{profile_right}
use Rattle.set_plan.specs.Record.{zero_plan}
use Rattle.set_record.specs.Record.{record_of, record_bytes, record_written}
use Rattle.set_record.proofs.Records.{record_front, record_whole}
use Rattle.set_record.proofs.RecordTrip.{record_back}
use Rattle.set_reader.specs.Read.{ReadResult}
use Rattle.set_reader.specs.Layout.{entry_of, entries_of, rowcount_of, row_of, rows_of, plan_of}
use Rattle.set_reader.specs.Rules.{length_right, types_right, shape_rules, content_rules}
use Rattle.set_reader.specs.Read.{set_refusal, refused, read_set, record_refusal}

module _ (s : List ℕ) where
  pub length_kept : first_broken 1 (shape_rules s) ≡ 0 → length_right s ≡ true
  length_kept e = none_only 1 (shape_rules s) (omega arith) e 0

  pub profile_kept : first_broken 1 (shape_rules s) ≡ 0 → profile_right (plan_of s).profile ≡ true
  profile_kept e = and_r (types_right s) (profile_right (plan_of s).profile) (none_only 1 (shape_rules s) (omega arith) e 2)

  pub by_shape : (k : ℕ) → k ≡ first_broken 1 (shape_rules s) → (k ≡ 0 → ⊥) → set_refusal s ≡ k
  unfolding set_refusal
  by_shape k e n = front_number 1 (shape_rules s) (content_rules s (plan_of s)) (λ z. n (e ∙ z)) ∙ sym e

  pub by_content : first_broken 1 (shape_rules s) ≡ 0 → (k : ℕ) → k ≡ first_broken 4 (content_rules s (plan_of s)) → set_refusal s ≡ k
  unfolding set_refusal
  by_content shape k e = rest_number 1 (shape_rules s) (content_rules s (plan_of s)) (omega arith) shape ∙ sym e

  module _ (buffer after : List ℕ) where
    pub read_refused : (k : ℕ) → set_refusal s ≡ k → (k ≡ 0 → ⊥) → after ≡ record_written zero_plan buffer
        → (k ≡ record_refusal s (length buffer)) × (after ≡ record_written (read_set s).plan buffer)
    unfolding read_set
    read_refused k e n f = rw (e, ne_eqb k 0 n) (refl, f)

    module _ (none : set_refusal s ≡ 0) where
      pub read_short : length buffer < 592 → (10 ≡ record_refusal s (length buffer)) × (buffer ≡ record_written (read_set s).plan buffer)
      read_short h = rw (none, lt-ltb (length buffer) 592 h) (refl, refl)

      pub read_done : (bytes : List ℕ) → 592 ≤ length buffer → bytes ≡ record_bytes (plan_of s) → after ≡ sets buffer 0 bytes
          → (0 ≡ record_refusal s (length buffer)) × (after ≡ record_written (read_set s).plan buffer)
      unfolding read_set
      read_done bytes h e f =
          rw (none, le-ltb (length buffer) 592 h) (refl, record_front (plan_of s) buffer after (rw e at f) h)

  -- the packed record of a set gives the set's plan
  pub record_of-set : record_of (record_bytes (plan_of s)) ≡ plan_of s
  unfolding plan_of entries_of rows_of
  record_of-set = record_back (plan_of s) (length-tab 16 (entry_of s (byte s 4))) (length-tab 127 (row_of s (rowcount_of s)))

  -- the record of a buffer that has its length
  nodes_long : length (read_set s).plan.nodes ≡ 16
  unfolding read_set plan_of entries_of zero_plan
  nodes_long = by_test (λ (a : ReadResult). length a.plan.nodes ≡ 16) (eqb (set_refusal s) 0) (λ _. length-tab 16 (entry_of s (byte s 4))) (λ _. refl)

  rows_long : length (read_set s).plan.rows ≡ 127
  unfolding read_set plan_of rows_of zero_plan
  rows_long = by_test (λ (a : ReadResult). length a.plan.rows ≡ 127) (eqb (set_refusal s) 0) (λ _. length-tab 127 (row_of s (rowcount_of s))) (λ _. refl)

  pub read_record_back : record_of (record_bytes (read_set s).plan) ≡ (read_set s).plan
  read_record_back = record_back (read_set s).plan nodes_long rows_long

  pub read_back : (d : List ℕ) → length d ≡ 592 → record_of (record_written (read_set s).plan d) ≡ (read_set s).plan
  read_back d n =
      rw (le-ltb (length d) 592 (omega arith), record_whole (read_set s).plan d n) read_record_back

  pub read_number : (room : ℕ) → 592 ≤ room → record_refusal s room ≡ (read_set s).refusal
  unfolding read_set
  read_number room h = rw (le-ltb room 592 h) (go (eqb (set_refusal s) 0) refl)
    where
      go : (b : Bool) → eqb (set_refusal s) 0 ≡ b → if_else (eqb (set_refusal s) 0) 0 (set_refusal s) ≡ (read_set s).refusal
      go true e = rw e
      go false e = rw e

  -- a number that a read gives tells all of it
  pub told_refused : (n : ℕ) → (n ≡ 0 → ⊥) → n ≡ (read_set s).refusal → refused n ≡ read_set s
  unfolding read_set
  told_refused n above e = go (eqb (set_refusal s) 0) refl
    where
      go : (b : Bool) → eqb (set_refusal s) 0 ≡ b → refused n ≡ read_set s
      go true z = absurd (above (rw z at e))
      go false z = rw z (ap refused (rw z at e))
