-- Laws of spans of bytes put into a buffer.
use Prim.Native.Nat.{ℕ, suc, ◌+◌, ◌-◌, ◌≤◌, ◌<◌}
use mathlib.Core.Path.{◌≡◌, refl, ap, sym, ◌∙◌}
use mathlib.Core.List.{List, [], ◌∷◌, ◌++◌}
use mathlib.Core.Logic.{⊎_elim}
use lib.ListN.{length, get_or, set, take, drop, length-take, replicate, length-append, length-drop, length-set, length-replicate, get_or-replicate, get_or-append}
use lib.Seq.{sets, ext_get_or, get_or-set_same, get_or-set_other, get_or-append-add, get_or-take, get_or-drop}
use native.Mathlib.Omega.{arith}
use native.Mathlib.Decide.{dec_lt}
use Rattle.base_lists.specs.Bounded.{tab}
use Rattle.base_lists.proofs.AllAny.{below_cases}
use Rattle.base_lists.proofs.Tables.{length-tab, get_or-tab}
use Rattle.base_bytes.specs.Bytes.{byte}
use Rattle.base_bytes.specs.Puts.{Put}

pub put_start : (a : ℕ) (f : ℕ → ℕ) (d : List ℕ) → Put a 0 f d d
put_start a f d = record { size = refl; inside = λ i p. absurd (omega arith); below = λ i p. refl; above = λ i p. refl }

-- one byte more
pub put_step : (a k : ℕ) (f : ℕ → ℕ) (d x : List ℕ) (o v : ℕ) → Put a k f d x → o ≡ a + k → o < length x → v ≡ f k → Put a (k + 1) f d (set x o v)
put_step a k f d x o v h w b e =
    record {
      size = length-set x o v ∙ h.size;
      inside = λ i p. ⊎_elim
          (λ q. get_or-set_other x o (a + i) v 0 (λ z. omega arith) ∙ h.inside i q)
          (λ q. let y : a + i ≡ o = omega arith in ap (λ n. get_or (set x o v) n 0) y ∙ get_or-set_same x o v 0 b ∙ e ∙ sym (ap f q))
          (below_cases i k (omega arith));
      below = λ i p. get_or-set_other x o i v 0 (λ z. omega arith) ∙ h.below i p;
      above = λ i p. get_or-set_other x o i v 0 (λ z. omega arith) ∙ h.above i (omega arith);
    }

-- a run after a run
pub put_join : (a k m : ℕ) (g f : ℕ → ℕ) (d x y : List ℕ) (o : ℕ) → Put a k g d x → Put o m f x y → o ≡ a + k → ((i : ℕ) → i < m → f i ≡ g (k + i)) → Put a (k + m) g d y
put_join a k m g f d x y o h j w e =
    record {
      size = j.size ∙ h.size;
      inside = λ i p. go i p (dec_lt i k);
      below = λ i p. j.below i (omega arith) ∙ h.below i p;
      above = λ i p. j.above i (omega arith) ∙ h.above i (omega arith);
    }
  where
    go : (i : ℕ) → i < k + m → Dec (i < k) → get_or y (a + i) 0 ≡ g i
    go i p (yes q) = j.below (a + i) (omega arith) ∙ h.inside i q
    go i p (no q) =
        let u : a + i ≡ o + (i - k) = omega arith in
        let z : k + (i - k) ≡ i = omega arith in
        ap (λ n. get_or y n 0) u ∙ j.inside (i - k) (omega arith) ∙ e (i - k) (omega arith) ∙ ap g z

pub put_next : (a k m n : ℕ) (g f : ℕ → ℕ) (d x y : List ℕ) (o : ℕ) → Put a k g d x → Put o m f x y → o ≡ a + k → n ≡ k + m → ((i : ℕ) → i < m → f i ≡ g (k + i)) → Put a n g d y
put_next a k m n g f d x y o h j w z e = rw z (put_join a k m g f d x y o h j w e)

-- the same run, told by another function
pub put_as : (a k : ℕ) (f g : ℕ → ℕ) (d x : List ℕ) → Put a k f d x → ((i : ℕ) → i < k → f i ≡ g i) → Put a k g d x
put_as a k f g d x h e = record { size = h.size; inside = λ i p. h.inside i p ∙ e i p; below = h.below; above = h.above }

-- a run from the front is the buffer that a table and the rest make
pub put_whole : (n : ℕ) (g : ℕ → ℕ) (d x : List ℕ) → Put 0 n g d x → n ≤ length d → x ≡ tab n g ++ drop n d
put_whole n g d x h l = ext_get_or 0 x (tab n g ++ drop n d) (h.size ∙ sym long) (λ i p. at i (dec_lt i n))
  where
    long : length (tab n g ++ drop n d) ≡ length d
    long = simp (length-append, length-tab, length-drop) (omega arith)

    at : (i : ℕ) → Dec (i < n) → get_or x i 0 ≡ get_or (tab n g ++ drop n d) i 0
    at i (yes q) =
        let z : 0 + i ≡ i = omega arith in
        sym (ap (λ k. get_or x k 0) z) ∙ h.inside i q ∙ sym (get_or-append (tab n g) (drop n d) 0 i (omega (arith, length-tab n g)) ∙ get_or-tab n g i 0 q)
    at i (no q) =
        let u : length (tab n g) + (i - n) ≡ i = omega (arith, length-tab n g) in
        let z : n + (i - n) ≡ i = omega arith in
        h.above i (omega arith)
        ∙ sym (ap (λ k. get_or (tab n g ++ drop n d) k 0) (sym u) ∙ get_or-append-add (tab n g) (drop n d) (i - n) 0 ∙ get_or-drop n d (i - n) 0 ∙ ap (λ k. get_or d k 0) z)

-- a list stored from an offset on is a run of its bytes
pub put_list : (start : ℕ) (a d x : List ℕ) → x ≡ sets d start a → start + length a ≤ length d → Put start (length a) (byte a) d x
put_list start a d x e l = rw e (stored start a d l)
  where
    first : (start c : ℕ) (d : List ℕ) → start < length d → Put start 1 (byte (c ∷ [])) d (set d start c)
    first start c d l = put_step start 0 (byte (c ∷ [])) d d start c (put_start start (byte (c ∷ [])) d) (omega arith) l refl

    stored : (start : ℕ) (a d : List ℕ) → start + length a ≤ length d → Put start (length a) (byte a) d (sets d start a)
    stored start [] d l = put_start start (byte []) d
    stored start (c ∷ a) d l =
        put_next start 1 (length a) (suc (length a)) (byte (c ∷ a)) (byte a) d (set d start c) (sets (set d start c) (suc start) a) (suc start)
        (put_as start 1 (byte (c ∷ [])) (byte (c ∷ a)) d (set d start c) (first start c d (omega arith)) (λ i p. let z : i ≡ 0 = omega arith in rw z))
        (stored (suc start) a (set d start c) (omega (arith, length-set d start c)))
        (omega arith) (omega arith) (λ i p. let z : 1 + i ≡ suc i = omega arith in rw z)

pub put_zero_run : (start k : ℕ) (d x : List ℕ) → x ≡ sets d start (replicate k 0) → start + k ≤ length d → Put start k (λ i. 0) d x
put_zero_run start k d x e l =
    let zeros : List ℕ = replicate k 0 in
    let n : length zeros ≡ k = length-replicate {A = ℕ} k 0 in
    put_as start k (byte zeros) (λ i. 0) d x (rw n at (put_list start zeros d x e (omega arith))) (λ i p. get_or-replicate k i 0 0 p)

-- bytes of a list from another offset on, stored
pub put_slice : (start a k : ℕ) (s d x : List ℕ) → x ≡ sets d start (take k (drop a s)) → a + k ≤ length s → start + k ≤ length d → Put start k (λ i. byte s (a + i)) d x
put_slice start a k s d x e inside room =
    let n : length (take k (drop a s)) ≡ k = length-take k (drop a s) ∙ omega (arith, length-drop a s) in
    put_as start k (byte (take k (drop a s))) (λ i. byte s (a + i)) d x (rw n at (put_list start (take k (drop a s)) d x e (omega arith)))
    (λ i p. get_or-take k (drop a s) i 0 p ∙ get_or-drop a s i 0)

-- such bytes, then zeros: a run that is told by those bytes and then by 0
pub put_filled : (start a k n : ℕ) (f : ℕ → ℕ) (s d x y : List ℕ) → x ≡ sets d start (take k (drop a s)) → y ≡ sets x (start + k) (replicate (n - k) 0) → k ≤ n → a + k ≤ length s
    → start + n ≤ length d → ((i : ℕ) → i < k → byte s (a + i) ≡ f i) → ((i : ℕ) → k ≤ i → i < n → 0 ≡ f i) → Put start n f d y
put_filled start a k n f s d x y e z h inside long same none =
    let u : Put start k (λ i. byte s (a + i)) d x = put_slice start a k s d x e inside (omega arith) in
    put_next start k (n - k) n f (λ i. 0) d x y (start + k) (put_as start k (λ i. byte s (a + i)) f d x u same)
    (put_zero_run (start + k) (n - k) x y z (omega (arith, u.size))) refl (omega arith) (λ i q. none (k + i) (omega arith) (omega arith))
