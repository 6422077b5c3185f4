-- Bytes stored over a part of a list that is put together from parts.
use Rattle.std.proofs.Common.{◌≡◌, ℕ, zero, suc, ◌+◌, ◌<◌, ◌≤◌, List, [], ◌∷◌, ◌++◌, length, get_or, drop, set, refl, ap, ◌∙◌, append-nil, arith, length-set, get_or-set_other, get_or-set_same}
use lib.Seq.{sets, sets-eq, drop-length, set_comm}

module _ {A : Type 0} where
  sets_behind : (vs l : List A) (x : A) (i : ℕ) → sets (x ∷ l) (suc i) vs ≡ x ∷ sets l i vs
  sets_behind [] l x i = refl
  sets_behind (v ∷ vs) l x i = sets_behind vs (set l i v) x (suc i)

  -- behind the first part
  pub sets_front : (a l vs : List A) (i : ℕ) → sets (a ++ l) (length a + i) vs ≡ a ++ sets l i vs
  sets_front [] l vs i =
      let z : 0 + i ≡ i = omega arith in
      ap (λ (k : ℕ). sets l k vs) z
  sets_front (x ∷ a) l vs i =
      let z : suc (length a) + i ≡ suc (length a + i) = omega arith in
      ap (λ (k : ℕ). sets (x ∷ (a ++ l)) k vs) z ∙ sets_behind vs (a ++ l) x (length a + i) ∙ ap (λ (r : List A). x ∷ r) (sets_front a l vs i)

  set_back : (l c : List A) (i : ℕ) (v : A) → i < length l → set (l ++ c) i v ≡ set l i v ++ c
  set_back [] c i v h = absurd (omega arith)
  set_back (x ∷ l) c zero v h = refl
  set_back (x ∷ l) c (suc i) v h = ap (λ (r : List A). x ∷ r) (set_back l c i v (omega (arith, h)))

  -- before the last part
  pub sets_back : (vs l c : List A) (i : ℕ) → i + length vs ≤ length l → sets (l ++ c) i vs ≡ sets l i vs ++ c
  sets_back [] l c i h = refl
  sets_back (v ∷ vs) l c i h =
      ap (λ (r : List A). sets r (suc i) vs) (set_back l c i v (omega (arith, h)))
      ∙ sets_back vs (set l i v) c (suc i) (omega (arith, h, length-set l i v))

  -- all of it
  pub sets-whole : (vs l : List A) → length vs ≡ length l → sets l 0 vs ≡ vs
  sets-whole vs l h =
      let z : 0 + length vs ≡ length l = omega (arith, h) in
      sets-eq vs l 0 (omega (arith, h)) ∙ ap (λ (k : ℕ). vs ++ drop k l) z ∙ ap (λ (r : List A). vs ++ r) (drop-length l) ∙ append-nil vs

  -- what lies before and past what is stored stays
  pub sets_before : (vs l : List A) (i o : ℕ) (d : A) → o < i → get_or (sets l i vs) o d ≡ get_or l o d
  sets_before [] l i o d h = refl
  sets_before (v ∷ vs) l i o d h = sets_before vs (set l i v) (suc i) o d (omega (arith, h)) ∙ get_or-set_other l i o v d (λ e. omega (arith, h, e))

  pub sets_past : (vs l : List A) (i o : ℕ) (d : A) → i + length vs ≤ o → get_or (sets l i vs) o d ≡ get_or l o d
  sets_past [] l i o d h = refl
  sets_past (v ∷ vs) l i o d h = sets_past vs (set l i v) (suc i) o d (omega (arith, h)) ∙ get_or-set_other l i o v d (λ e. omega (arith, h, e))

  pub sets_inside : (vs l : List A) (i j : ℕ) (d : A) → j < length vs → i + length vs ≤ length l → get_or (sets l i vs) (i + j) d ≡ get_or vs j d
  sets_inside [] l i j d h g = absurd (omega arith)
  sets_inside (v ∷ vs) l i zero d h g =
      let z : i + 0 ≡ i = omega arith in
      rw z (sets_before vs (set l i v) (suc i) i d (omega arith) ∙ get_or-set_same l i v d (omega (arith, g)))
  sets_inside (v ∷ vs) l i (suc j) d h g =
      let z : i + suc j ≡ suc i + j = omega arith in
      rw z (sets_inside vs (set l i v) (suc i) j d (omega (arith, h)) (omega (arith, g, length-set l i v)))

  -- one after the other
  pub three_stored : (l : List A) (i : ℕ) (a b c : A) → sets (sets (sets l i (a ∷ [])) (i + 1) (b ∷ [])) (i + 2) (c ∷ []) ≡ sets l i (a ∷ b ∷ c ∷ [])
  three_stored l i a b c =
      let u : i + 1 ≡ suc i = omega arith in
      let v : i + 2 ≡ suc (suc i) = omega arith in
      rw (u, v)

  -- what is stored further on can be stored first
  set_apart : (vs l : List A) (i j : ℕ) (u : A) → j + length vs ≤ i → sets (set l i u) j vs ≡ set (sets l j vs) i u
  set_apart [] l i j u h = refl
  set_apart (v ∷ vs) l i j u h =
      ap (λ (r : List A). sets r (suc j) vs) (set_comm l i j u v (λ e. omega (arith, h, e))) ∙ set_apart vs (set l j v) i (suc j) u (omega (arith, h))

  pub sets_apart : (us vs l : List A) (i j : ℕ) → j + length vs ≤ i → sets (sets l i us) j vs ≡ sets (sets l j vs) i us
  sets_apart [] vs l i j h = refl
  sets_apart (u ∷ us) vs l i j h = sets_apart us vs (set l i u) (suc i) j (omega (arith, h)) ∙ ap (λ (r : List A). sets r (suc i) us) (set_apart vs l i j u h)
