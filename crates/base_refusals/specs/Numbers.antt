-- The numbers of the refusals, R2.1.
use Rattle.std.specs.Prelude.{ℕ, Bool, true, false, ⊤, Result, Ok, Err}
use Rattle.base_refusals.specs.declared.Refusal.{Refusal}

-- "A refusal is one number": each its own
abbrev pub number : Refusal → ℕ
number Refusal.WrongSize = 1
number Refusal.WrongCheck = 2
number Refusal.WrongBlock = 3
number Refusal.WrongRevision = 4
number Refusal.WrongTime = 5
number Refusal.WrongNode = 6
number Refusal.WrongRow = 7
number Refusal.NoRowOfNode = 8
number Refusal.Filler = 9
number Refusal.BufferShort = 10
number Refusal.NoState = 11
number Refusal.NoReqId = 12
number Refusal.Damaged = 13
number Refusal.WrongLength = 14
number Refusal.NoEvent = 15
number Refusal.NeedsNormal = 16
number Refusal.NoResultDue = 17
number Refusal.UnderWay = 18
number Refusal.NotPermitted = 19
number Refusal.NotHeld = 20
number Refusal.NotAsked = 21
number Refusal.RepliesShort = 22
number Refusal.WrongRequest = 23
number Refusal.NotSupported = 24
number Refusal.NeverSleeps = 25

-- the number of a judgement: 0 where nothing is refused
abbrev pub number_of : {A : Type 0} → Result A Refusal → ℕ
number_of (Ok x) = 0
number_of (Err refusal) = number refusal

-- a rule judged: refused where it is broken
abbrev pub unless : Refusal → Bool → Result ⊤ Refusal
unless refusal true = Ok tt
unless refusal false = Err refusal
