-- Places of four bytes each: the entries and the rows.
use Prim.Native.Nat.{ℕ, zero, suc, ◌+◌, ◌*◌, ◌-◌, ◌/◌, ◌%◌, ◌≤◌, ◌<◌}
use mathlib.Core.Path.{◌≡◌, refl, ap, ap₂, sym, ◌∙◌}
use mathlib.Core.List.{List, [], ◌∷◌, ◌++◌}
use lib.ListN.{length, get_or, get_or-append}
use lib.Seq.{sets}
use native.Mathlib.Omega.{arith}
use native.Mathlib.Decide.{dec_lt}
use Rattle.std.specs.Int.{w16, to_be_bytes}
use Rattle.std.specs.List.{flat_map}
use Rattle.std.proofs.lemmas.List.{get_or-append_right}
use Rattle.base_lists.specs.Bounded.{tab}
use Rattle.base_lists.proofs.Tables.{get_or-tab}
use Rattle.base_bytes.specs.Bytes.{byte, two_bytes}
use Rattle.base_bytes.specs.Puts.{Put}
use Rattle.base_bytes.proofs.Puts.{put_as, put_list}
use Rattle.set_plan.specs.declared.NodeEntry.{NodeEntry}
use Rattle.set_plan.specs.declared.Row.{Row}
use Rattle.set_plan.specs.Record.{entry_at, row_at}
use Rattle.set_record.specs.Entries.{four_byte_at, four_from, entry_from, entry_bytes, entry_byte_at, row_from, row_bytes, row_byte_at}

four_byte : (s : List ℕ) (o i : ℕ) → i < 4 → byte (four_from s o) i ≡ byte s (o + i)
four_byte s o zero q = ap (byte s) (omega arith)
four_byte s o (suc zero) q = refl
four_byte s o (suc (suc zero)) q = refl
four_byte s o (suc (suc (suc zero))) q = refl
four_byte s o (suc (suc (suc (suc i)))) q = absurd (omega arith)

-- places joined into one run of bytes
joined : (ys : List (List ℕ)) (place : ℕ → List ℕ) → ((k : ℕ) → k < length ys → get_or ys k [] ≡ place k) → ((k : ℕ) → k < length ys → length (place k) ≡ 4)
    → (i : ℕ) → i < 4 * length ys → byte (flat_map (λ y. y) ys) i ≡ four_byte_at place i
joined [] place is four i h = absurd (omega arith)
joined (y ∷ ys) place is four i h =
    go (dec_lt i 4) (is 0 (omega arith)) (four 0 (omega arith))
    (λ l. joined ys (λ k. place (suc k)) (λ k a. is (suc k) (omega arith)) (λ k a. four (suc k) (omega arith)) (i - 4) (omega arith))
  where
    go : Dec (i < 4) → y ≡ place 0 → length (place 0) ≡ 4 → (4 ≤ i → byte (flat_map (λ y. y) ys) (i - 4) ≡ four_byte_at (λ k. place (suc k)) (i - 4))
        → byte (y ++ flat_map (λ y. y) ys) i ≡ four_byte_at place i
    go (yes l) e f later =
        let u : i / 4 ≡ 0 = omega arith in
        let v : i % 4 ≡ i = omega arith in
        let n : length y ≡ 4 = ap length e ∙ f in
        get_or-append y (flat_map (λ y. y) ys) 0 i (omega arith) ∙ rw (u, v, e)
    go (no l) e f later =
        let u : suc ((i - 4) / 4) ≡ i / 4 = omega arith in
        let v : (i - 4) % 4 ≡ i % 4 = omega arith in
        let n : length y ≡ 4 = ap length e ∙ f in
        get_or-append_right y (flat_map (λ y. y) ys) 4 i 0 n (omega arith) ∙ later (omega arith) ∙ rw (u, v)

-- and put into a buffer
pub four_put : (start n : ℕ) (place : ℕ → List ℕ) (ys : List (List ℕ)) (bytes d x : List ℕ) → length ys ≡ n → ((k : ℕ) → k < n → get_or ys k [] ≡ place k) → ((k : ℕ) → k < n → length (place k) ≡ 4)
    → bytes ≡ flat_map (λ y. y) ys → length bytes ≡ 4 * n → x ≡ sets d start bytes → start + 4 * n ≤ length d → Put start (4 * n) (four_byte_at place) d x
four_put start n place ys bytes d x size is four e long put fits =
    put_as start (4 * n) (byte bytes) (four_byte_at place) d x (rw long at (put_list start bytes d x put (omega arith)))
    (λ i h. ap (λ b. byte b i) e ∙ joined ys place (λ k a. is k (omega arith)) (λ k a. four k (omega arith)) i (omega arith))

-- the two bytes of a number
pub two_be : (x : ℕ) → x < 65536 → to_be_bytes w16 x ≡ two_bytes x
two_be x h =
    let u : x / 256 % 256 ≡ x / 256 = omega arith in
    ap (λ a. a ∷ x % 256 ∷ []) u

-- of an entry and of a row that were read
pub entry_byte : (s : List ℕ) (o i : ℕ) → i < 4 → byte (entry_bytes (entry_from s o)) i ≡ byte s (o + i)
unfolding entry_from
entry_byte s o i q = four_byte s o i q

pub row_byte : (s : List ℕ) (o i : ℕ) → i < 4 → byte (row_bytes (row_from s o)) i ≡ byte s (o + i)
unfolding row_from
row_byte s o i q = four_byte s o i q

-- the bytes of one place
pub four_at : (place : ℕ → List ℕ) (k i : ℕ) → i < 4 → byte (place k) i ≡ four_byte_at place (4 * k + i)
four_at place k i h =
    let u : k ≡ (4 * k + i) / 4 = omega arith in
    let v : i ≡ (4 * k + i) % 4 = omega arith in
    ap₂ (λ x y. get_or (place x) y 0) u v

four_from_lem : (s : List ℕ) (place : ℕ → List ℕ) (o k : ℕ) → ((m : ℕ) → m < 4 → byte s (o + m) ≡ four_byte_at place (4 * k + m)) → (m : ℕ) → m < 4 → byte (four_from s o) m ≡ byte (place k) m
four_from_lem s place o k h m q = four_byte s o m q ∙ h m q ∙ sym (four_at place k m q)

-- what is read where these bytes stand
pub entry_from_lem : (s : List ℕ) (nodes : List NodeEntry) (o k : ℕ) → ((m : ℕ) → m < 4 → byte s (o + m) ≡ entry_byte_at nodes (4 * k + m)) → entry_from s o ≡ entry_at nodes k
unfolding entry_from
entry_from_lem s nodes o k h =
    let at = four_from_lem s (λ n. entry_bytes (entry_at nodes n)) o k h in
    λ i. record { address = at 0 (omega arith) i; class = at 1 (omega arith) i; method = at 2 (omega arith) i; reserved = at 3 (omega arith) i }

pub row_from_lem : (s : List ℕ) (rows : List Row) (o j : ℕ) → ((m : ℕ) → m < 4 → byte s (o + m) ≡ row_byte_at rows (4 * j + m)) → row_from s o ≡ row_at rows j
unfolding row_from
row_from_lem s rows o j h =
    let at = four_from_lem s (λ n. row_bytes (row_at rows n)) o j h in
    λ i. record { reqid = at 0 (omega arith) i; publisher = at 1 (omega arith) i; length = at 2 (omega arith) i; kind = at 3 (omega arith) i }

-- byte i of the places of a table
pub table_byte : {A : Type 0} (bytes : A → List ℕ) (none : A) (f : ℕ → A) (n i : ℕ) → i < 4 * n
    → four_byte_at (λ k. bytes (get_or (tab n f) k none)) i ≡ byte (bytes (f (i / 4))) (i % 4)
table_byte bytes none f n i h = ap (λ a. byte (bytes a) (i % 4)) (get_or-tab n f (i / 4) none (omega arith))

-- and where it stands
pub four_there : (s : List ℕ) (at i : ℕ) → byte s (at + 4 * (i / 4) + i % 4) ≡ byte s (at + i)
four_there s at i = ap (byte s) (omega arith)
