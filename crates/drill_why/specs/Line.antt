-- The line that tells why a master is awake.
use Rattle.std.specs.Prelude.{ℕ, List, ◌++◌, eqb}
use Rattle.base_lists.specs.Bounded.{if_else}
use Rattle.machine_reason.specs.declared.Cause.{Cause}
use Rattle.machine_reason.specs.declared.Explained.{Explained}
use Rattle.machine_reason.specs.declared.Reason.{Reason}
use Rattle.base_text.specs.Text.{ascii, decimal}

-- "`new`, `refused`, `aged`, `damaged` or `wake`"
unfoldable pub cause_word : Cause → List ℕ
cause_word Cause.New = ascii "new"
cause_word Cause.Refused = ascii "refused"
cause_word Cause.Aged = ascii "aged"
cause_word Cause.Damaged = ascii "damaged"
cause_word Cause.Woken = ascii "wake"

-- "`none`, `sleep`, `owed`, `own`, .. or the node and" its cause; W-206: "printed `profile`"
unfoldable pub reason_word : Reason → List ℕ
reason_word Reason.Nothing = ascii "none"
reason_word Reason.UnderWay = ascii "sleep"
reason_word Reason.Owed = ascii "owed"
reason_word Reason.Own = ascii "own"
reason_word (Reason.Node node cause) = decimal node ++ ascii " " ++ cause_word cause
reason_word Reason.Profile = ascii "profile"

-- or "the refusal's number"
unfoldable pub why_word : Explained → List ℕ
why_word e = if_else (eqb e.refusal 0) (reason_word e.reason) (decimal e.refusal)

-- "prints one line more: `why` and" the word
unfoldable pub why_line : Explained → List ℕ
why_line e = ascii "why " ++ why_word e ++ ascii "\n"
