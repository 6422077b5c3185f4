-- A local array of plain records as a row of elements, which can be lent as a slice, and the way back.
--     rowed        the cell that holds the array is its row of elements
--     shown        the row is the cell again, and the array has what its type asks
-- R is the elements' type, of one machine value, which its relation tells (vals) and from which what it owns is made (mk), as of a record of plain data.
-- Assumes `Logic`.
use Prim.Native.Nat.{ℕ}
use mathlib.Core.Path.{refl, subst}
use mathlib.Core.List.{List, [], ◌∷◌}
use seplogic.Ra.Ura.{Ura}
use base.Fraction.{full_share}
use mir.Syntax.{Ty, ty_array}
use mir.Val.{Val}
use base.Logic.{ent, guard}
use base.Fml.{fsep, fat}
use types.Logic.{Logic, sem}
use types.Kit.{‵, ◌$◌, ◌∵◌, !, qed, move, use1, check, rewrite, fsplit, fjoin, fpick, fpack, done}
use types.Share.{arr_parts}
use denote.RattleType.{RattleType}
use denote.Laws.{Is, Tells, Makes, shows}
use denote.Memory.{cell_at, part_at, part_of, lone, shares}
use denote.Array.{Array, array_vals, Array-Tells, Array-Makes}
use denote.ArrayMemory.{Single, Array-apart, Array-whole}
use denote.Steps.{only, facts, owned}

module _ (R : RattleType) (single : Single R.mir) (vals : R.Denot → List Val) (tl : Tells R (Is R) vals) (n : ℕ) where
  abbrev pub array_ty : Ty
  array_ty = ty_array (lone R.mir) n

  abbrev pub array_val_lem : List R.Denot → Val
  array_val_lem xs = only (array_vals vals xs)

  module _ {M : Type 1} {𝓤 : Ura M} (𝓛 : Logic 𝓤) (mk : Makes 𝓛 R (Is R)) (xs : List R.Denot) (b : ℕ) where
    open 𝓛 use {H}

    pub rowed : Is (Array R n) xs (array_vals vals xs) → ent 𝓤 (H.at full_share array_ty b 0 (array_val_lem xs)) (sem 𝓛 ((arr_parts (shares R) n).part full_share xs b 0))
    unfolding part_of
    rowed g =
        qed 𝓛 (‵ (fat full_share array_ty b 0 (array_val_lem xs)) ∷ []) ∵ use1 𝓛 (‵ (cell_at full_share (array_ty ∷ []) (array_vals vals xs) b 0)) (𝓛.laws.at_raw full_share array_ty b 0 (array_val_lem xs)) $
        owned ! (Array R n) (Is (Array R n)) (Array-Makes 𝓛 R mk n) xs (array_vals vals xs) g $ move ! (1 ∷ 0 ∷ []) $ fjoin ! $
        fpack ! (List Val) (λ vs. fsep (cell_at full_share (array_ty ∷ []) vs b 0) ((Array R n).own_val xs vs)) (array_vals vals xs) $
        use1 𝓛 (‵ ((arr_parts (shares R) n).part full_share xs b 0)) (Array-apart 𝓛 R full_share single n xs b 0) $ done !

    pub shown : ent 𝓤 (sem 𝓛 ((arr_parts (shares R) n).part full_share xs b 0)) (guard 𝓤 (Is (Array R n) xs (array_vals vals xs)) (H.at full_share array_ty b 0 (array_val_lem xs)))
    unfolding part_of
    shown =
        qed 𝓛 (‵ ((arr_parts (shares R) n).part full_share xs b 0) ∷ []) ∵ use1 𝓛 (‵ (part_at (Array R n) full_share xs b 0)) (Array-whole 𝓛 R full_share n xs b 0) $
        fpick ! (λ vs. fsplit ! $ move ! (1 ∷ []) $ facts ! (Array R n) (Is (Array R n)) (shows 𝓛 (Array R n)) xs vs (λ p.
        rewrite ! 0 (λ (us : List Val). ‵ (cell_at full_share (array_ty ∷ []) us b 0)) (Array-Tells R vals tl n xs vs p) refl $
        use1 𝓛 (‵ (fat full_share array_ty b 0 (array_val_lem xs))) (𝓛.laws.raw_at full_share array_ty b 0 (array_val_lem xs)) $
        check ! (subst (Is (Array R n) xs) (Array-Tells R vals tl n xs vs p) p) $ done !))
