-- By the words split off.
use Rattle.std.proofs.Common.{◌≡◌, ◌∷◌, List, [], ℕ, Option, sym, ◌∙◌, ap}
use Rattle.drill_line.specs.declared.LineMove.{LineMove}
use Rattle.drill_line.specs.Words.{words}
use Rattle.drill_line.specs.Parse.{line_of, parse_line}
use Rattle.drill_line.proofs.Words.{behind, last_word, too_many}
use Rattle.drill_line.proofs.parse.Goals as goal

-- the move of a line's words
judged : (s : List ℕ) (ws : List (List ℕ)) (n : ℕ) (r : Option LineMove) → r ≡ line_of ws n → words s ≡ ws → r ≡ parse_line s n
unfolding parse_line
judged s ws n r e w = e ∙ ap (λ ws. line_of ws n) (sym w)

pub returns-in_default : goal.returns-in_default
returns-in_default c = judged _ _ _ _ c.one_word.ensures c.in_default.ensures

pub returns-in_default-split_once : goal.returns-in_default-split_once
returns-in_default-split_once c = judged _ (_ ∷ _ ∷ []) _ _ c.two_words.ensures (behind _ _ _ _ c.in-Some.ensures c.in_default-split_once.ensures)

pub returns-in_default-split_once-2 : goal.returns-in_default-split_once-2
returns-in_default-split_once-2 c =
    judged _ (_ ∷ _ ∷ _ ∷ []) _ _ c.three_words.ensures
    (behind _ _ _ _ c.in-Some.ensures (behind _ _ _ _ c.in-Some-split_once.ensures c.in_default-split_once-2.ensures))

pub returns-then-is_some : goal.returns-then-is_some
returns-then-is_some c =
    judged _ (_ ∷ _ ∷ _ ∷ words _) _ _
    (too_many c.in-Some.first.now c.in-Some-split_once.second.now c.in-Some-split_once-2.third.now c.args.nodecount _ _ (sym c.if-is_some.ensures) c.split_once-4.ensures)
    (behind _ _ _ _ c.in-Some.ensures (behind _ _ _ _ c.in-Some-split_once.ensures c.in-Some-split_once-2.ensures))

pub returns : goal.returns
returns c =
    judged _ (_ ∷ _ ∷ _ ∷ _ ∷ []) _ _ c.four_words.ensures
    (behind _ _ _ _ c.in-Some.ensures
    (behind _ _ _ _ c.in-Some-split_once.ensures
    (behind _ _ _ _ c.in-Some-split_once-2.ensures (last_word _ _ (sym c.if-is_some.ensures) c.split_once-4.ensures))))
