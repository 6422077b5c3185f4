-- No refusal has the number 0, which stands for none; a judgement of the number 0 refuses nothing.
use Rattle.std.proofs.Common.{◌≡◌, ◌<◌, Bool, true, false, Ok, Err, refl, sym, ap, arith}
use Rattle.std.specs.Prelude.{⊤}
use Rattle.base_refusals.specs.declared.Refusal.{Refusal}
use Rattle.base_refusals.specs.Numbers.{number, number_of, unless}

pub above_zero : (r : Refusal) → 0 < number r
above_zero Refusal.WrongSize = omega arith
above_zero Refusal.WrongCheck = omega arith
above_zero Refusal.WrongBlock = omega arith
above_zero Refusal.WrongRevision = omega arith
above_zero Refusal.WrongTime = omega arith
above_zero Refusal.WrongNode = omega arith
above_zero Refusal.WrongRow = omega arith
above_zero Refusal.NoRowOfNode = omega arith
above_zero Refusal.Filler = omega arith
above_zero Refusal.BufferShort = omega arith
above_zero Refusal.NoState = omega arith
above_zero Refusal.NoReqId = omega arith
above_zero Refusal.Damaged = omega arith
above_zero Refusal.WrongLength = omega arith
above_zero Refusal.NoEvent = omega arith
above_zero Refusal.NeedsNormal = omega arith
above_zero Refusal.NoResultDue = omega arith
above_zero Refusal.UnderWay = omega arith
above_zero Refusal.NotPermitted = omega arith
above_zero Refusal.NotHeld = omega arith
above_zero Refusal.NotAsked = omega arith
above_zero Refusal.RepliesShort = omega arith
above_zero Refusal.WrongRequest = omega arith
above_zero Refusal.NotSupported = omega arith
above_zero Refusal.NeverSleeps = omega arith

pub not_zero : (r : Refusal) → number r ≡ 0 → ⊥
not_zero r e = omega (arith, above_zero r, e)

-- a rule that let a judgement pass is kept
pub kept : (r : Refusal) (b : Bool) (x : ⊤) → unless r b ≡ Ok x → b ≡ true
kept r true x e = refl
kept r false x e = absurd (not_zero r (ap number_of e))

-- a rule that stopped a judgement is broken
pub broken : (r : Refusal) (b : Bool) (why : Refusal) → unless r b ≡ Err why → b ≡ false
broken r true why e = absurd (not_zero why (sym (ap number_of e)))
broken r false why e = refl
