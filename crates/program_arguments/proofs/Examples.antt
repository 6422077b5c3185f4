-- Arguments judged.
use Prim.Native.String.{String}
use mathlib.Core.Path.{◌≡◌, refl}
use mathlib.Core.List.{List, [], ◌∷◌, map}
use Rattle.base_text.specs.Text.{ascii, same}
use Rattle.program_arguments.specs.declared.Invocation.{Invocation}
use Rattle.program_arguments.specs.Arguments.{invocation_of, usage_text}

abbrev one : List String → List Invocation
one arguments = map (λ argument. invocation_of 2 (ascii argument)) arguments

pub names : one ("t.set" ∷ "./-x" ∷ "--help.set" ∷ []) ≡ Invocation.Named ∷ Invocation.Named ∷ Invocation.Usage ∷ []
unfolding same
names = refl

pub options : one ("--help" ∷ "--hel" ∷ "-h" ∷ "--" ∷ "-" ∷ "" ∷ []) ≡ Invocation.Help ∷ Invocation.Usage ∷ Invocation.Usage ∷ Invocation.Usage ∷ Invocation.Usage ∷ Invocation.Usage ∷ []
unfolding same
options = refl

-- none, and more than one
pub counts : map (λ count. invocation_of count (ascii "--help")) (0 ∷ 1 ∷ 3 ∷ []) ≡ Invocation.Default ∷ Invocation.Default ∷ Invocation.Usage ∷ []
unfolding same
counts = refl

pub drill_usage : usage_text (ascii "drill") ≡ ascii "usage: drill [FILE]\n"
unfolding usage_text
drill_usage = refl
