-- A program's arguments, as people expect them: none, the file of a set, or `--help`; anything else is a wrong call.
use Rattle.std.specs.Prelude.{ℕ, List, ◌++◌, ltb, eqb, length}
use Rattle.base_lists.specs.Bounded.{if_else}
use Rattle.base_bytes.specs.Bytes.{byte}
use Rattle.base_text.specs.Text.{ascii, same}
use Rattle.program_arguments.specs.declared.Invocation.{Invocation}

-- `-` is 45
abbrev pub invocation_by_one : List ℕ → Invocation
invocation_by_one argument =
    if_else (same argument (ascii "--help")) Invocation.Help
    (if_else (eqb (length argument) 0) Invocation.Usage
    (if_else (eqb (byte argument 0) 45) Invocation.Usage
    Invocation.Named))

-- the count has the program's own name in it
abbrev pub invocation_of : ℕ → List ℕ → Invocation
invocation_of count argument = if_else (ltb count 2) Invocation.Default (if_else (ltb 2 count) Invocation.Usage (invocation_by_one argument))

unfoldable pub usage_text : List ℕ → List ℕ
usage_text program = ascii "usage: " ++ program ++ ascii " [FILE]\n"

unfoldable pub help_text : List ℕ → List ℕ → List ℕ
help_text program about = usage_text program ++ about ++ ascii "FILE is the release set, plan.set if none is named.\n"
