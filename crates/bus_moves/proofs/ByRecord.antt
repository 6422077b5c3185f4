-- Laws of bytes as records.
use Prim.Native.Nat.{ℕ, zero, suc, ◌+◌, ◌*◌}
use mathlib.Core.Path.{◌≡◌, refl, ap, ap₂, sym, ◌∙◌}
use mathlib.Core.Bool.{◌&&◌}
use mathlib.Core.List.{List, [], ◌∷◌, ◌++◌, map, append_assoc}
use lib.ListN.{length, take, drop, take-append-drop, length-append, length-drop}
use lib.Seq.{take_at, length-take-le, drop-append-add}
use native.Mathlib.Omega.{arith}
use Rattle.base_lists.specs.Bounded.{all_to, tab}
use Rattle.base_lists.proofs.AllAny.{all_cut, all_ext}
use Rattle.base_lists.proofs.Tables.{tab_ext}
use Rattle.bus_moves.specs.Decoding.{is_move}
use Rattle.bus_moves.specs.Records.{record_at, record_count, records, all_moves}

-- tests and tables over the records by their numbers
pub tab_last : {A : Type 0} (k : ℕ) (f : ℕ → A) → tab (suc k) f ≡ tab k f ++ (f k ∷ [])
unfolding tab
tab_last zero f = refl
tab_last (suc k) f = ap (λ l. f 0 ∷ l) (tab_last k (λ i. f (suc i)))

pub map-tab : {A B : Type 0} (g : A → B) (n : ℕ) (f : ℕ → A) → map g (tab n f) ≡ tab n (λ k. g (f k))
unfolding tab
map-tab g zero f = refl
map-tab g (suc n) f = ap (λ l. g (f 0) ∷ l) (map-tab g n (λ k. f (suc k)))

pub moves_tab : (n : ℕ) (f : ℕ → List ℕ) → all_moves (tab n f) ≡ all_to (λ k. is_move (f k)) n
unfolding tab all_to all_moves
moves_tab zero f = refl
moves_tab (suc n) f =
    let one : 1 + n ≡ suc n = omega arith in
    ap (λ b. is_move (f 0) && b) (moves_tab n (λ k. f (suc k)) ∙ all_ext _ _ n (λ k l. ap (λ i. is_move (f i)) (omega arith)))
    ∙ sym (all_cut (λ k. is_move (f k)) 1 n) ∙ ap (all_to (λ k. is_move (f k))) one

-- a first record, and the others
pub records-none : records [] ≡ []
unfolding records tab
records-none = refl

pub records_first : (a b : List ℕ) → length a ≡ 16 → records (a ++ b) ≡ a ∷ records b
unfolding records tab
records_first a b e =
    let n : record_count (a ++ b) ≡ suc (record_count b) = omega (arith, length-append a b) in
    ap (λ k. tab k (record_at (a ++ b))) n ∙ ap₂ ◌∷◌ (take_at a b 16 e) (tab_ext (record_count b) _ _ (λ k l. ap (take 16) (next k)))
  where
    next : (k : ℕ) → drop (16 * suc k) (a ++ b) ≡ drop (16 * k) b
    next k = let m : 16 * suc k ≡ length a + 16 * k = omega arith in ap (λ i. drop i (a ++ b)) m ∙ drop-append-add a b (16 * k)

-- whole records, and more behind them
pub records-append : (n : ℕ) (a b : List ℕ) → length a ≡ 16 * n → records (a ++ b) ≡ records a ++ records b
records-append zero [] b e = ap (λ l. l ++ records b) (sym records-none)
records-append zero (x ∷ a) b e = absurd (omega arith)
records-append (suc n) a b e =
    let size : length (take 16 a) ≡ 16 = length-take-le 16 a (omega arith) in
    let rest : length (drop 16 a) ≡ 16 * n = length-drop 16 a ∙ omega arith in
    ap (λ l. records (l ++ b)) (sym (take-append-drop 16 a)) ∙ ap records (append_assoc (take 16 a) (drop 16 a) b)
    ∙ records_first (take 16 a) (drop 16 a ++ b) size ∙ ap (λ l. take 16 a ∷ l) (records-append n (drop 16 a) b rest)
    ∙ ap (λ l. l ++ records b) (sym (records_first (take 16 a) (drop 16 a) size) ∙ ap records (take-append-drop 16 a))
