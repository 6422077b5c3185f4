-- What the drill prints is what its lines print, of whatever length they are and in whatever pieces they come.
use Rattle.std.proofs.Common.{◌≡◌, ℕ, Bool, true, false, eqb, Option, List, [], ◌∷◌, ◌++◌, length, sym, refl, ap, ◌∙◌, ap₂, append_assoc, append-nil, arith}
use Rattle.base_lists.specs.Bounded.{if_else}
use Rattle.set_plan.specs.declared.Plan.{Plan}
use Rattle.bus.specs.declared.World.{World}
use Rattle.set_plan.specs.Profile.{sleeps}
use Rattle.bus.specs.World.{power_on}
use Rattle.drill_line.specs.declared.LineMove.{LineMove}
use Rattle.drill_line.specs.Words.{longer, cut}
use Rattle.drill_line.specs.Parse.{parse_line}
use Rattle.drill_line.proofs.Long.{enough}
use Rattle.drill_feed.specs.declared.Drill.{Drill}
use Rattle.drill_text.specs.Lines.{next_line}
use Rattle.drill_feed.specs.Feed.{room, world_after, line_text, lines_text, drill_text, empty_held, hold_byte, hold_all, started, held_line, ended, line_printed, keeps, fed, printed, last_printed, all_printed}
use Rattle.drill_feed.proofs.Holding.{held_line_lem, hold_one, held_none}
use Rattle.drill_feed.proofs.Feeding.{fed-append, printed-append}

-- there is always a last piece
data Some : List (List ℕ) → Type 0 where
  some : (l : List ℕ) (more : List (List ℕ)) → Some (l ∷ more)

longer-some : (c : ℕ) (pieces : List (List ℕ)) → Some (longer c pieces)
longer-some c [] = some (c ∷ []) []
longer-some c (l ∷ more) = some (c ∷ l) more

cut-some : (mark : ℕ) (text : List ℕ) → Some (cut mark text)
unfolding cut
cut-some mark [] = some [] []
cut-some mark (c ∷ text) = go (eqb c mark)
  where
    go : (t : Bool) → Some (if_else t ([] ∷ cut mark text) (longer c (cut mark text)))
    go true = some [] (cut mark text)
    go false = longer-some c (cut mark text)

-- pieces with a text before the first
abbrev behind : List ℕ → List (List ℕ) → List (List ℕ)
behind p [] = p ∷ []
behind p (l ∷ more) = (p ++ l) ∷ more

behind_longer : (p : List ℕ) (c : ℕ) (pieces : List (List ℕ)) → behind (p ++ (c ∷ [])) pieces ≡ behind p (longer c pieces)
behind_longer p c [] = refl
behind_longer p c (l ∷ more) = ap (λ x. x ∷ more) (append_assoc p (c ∷ []) l)

behind_none : {pieces : List (List ℕ)} → Some pieces → behind [] pieces ≡ pieces
behind_none (some l more) = refl

module _ (plan : Plan) where
  abbrev parsed : List ℕ → Option LineMove
  parsed l = parse_line l plan.nodecount

  -- the drill after so many lines, amid another
  abbrev amid : World → ℕ → List ℕ → Drill
  amid w lines l = record { plan = plan; world = w; lines = lines; held = hold_all empty_held l }

  amid_parsed : (w : World) (lines : ℕ) (l : List ℕ) → held_line (amid w lines l) ≡ parsed l
  amid_parsed w lines l = ap parsed (held_line_lem l) ∙ enough room l plan.nodecount (omega arith)

  amid_text : (w : World) (lines : ℕ) (l : List ℕ) → line_printed (amid w lines l) ≡ line_text plan w (next_line lines) (parsed l)
  unfolding line_printed
  amid_text w lines l = ap (line_text plan w (next_line lines)) (amid_parsed w lines l)

  amid_ended : (w : World) (lines : ℕ) (l : List ℕ) → ended (amid w lines l) ≡ amid (world_after plan w (parsed l)) (next_line lines) []
  unfolding ended hold_all
  amid_ended w lines l = ap (λ m. record { plan = plan; world = world_after plan w m; lines = next_line lines; held = empty_held }) (amid_parsed w lines l)

  one_more : (w : World) (lines : ℕ) (l : List ℕ) {pieces : List (List ℕ)} → Some pieces
      → lines_text plan w lines (l ∷ pieces) ≡ line_text plan w (next_line lines) (parsed l) ++ lines_text plan (world_after plan w (parsed l)) (next_line lines) pieces
  unfolding lines_text
  one_more w lines l (some m more) = refl

  abbrev Right : List ℕ → Type 0
  Right input = (w : World) (lines : ℕ) (l : List ℕ) → all_printed (amid w lines l) input ≡ lines_text plan w lines (behind l (cut 10 input))

  last : Right []
  unfolding all_printed printed fed last_printed cut lines_text
  last w lines l =
      ap₂ (λ b x. if_else b [] x) (held_none l) (amid_text w lines l)
      ∙ ap (λ x. if_else (eqb (length x) 0) [] (line_text plan w (next_line lines) (parsed x))) (sym (append-nil l))

  step : (c : ℕ) (input : List ℕ) → Right input → (t : Bool) → eqb c 10 ≡ t → Right (c ∷ input)
  unfolding all_printed printed fed cut
  step c input h true e w lines l =
      let d = amid w lines l in
      let w' = world_after plan w (parsed l) in
      rw e
      (append_assoc (line_printed d) (printed (ended d) input) (last_printed (fed (ended d) input))
      ∙ ap₂ (λ x y. x ++ all_printed y input) (amid_text w lines l) (amid_ended w lines l)
      ∙ ap (λ x. line_text plan w (next_line lines) (parsed l) ++ x) (h w' (next_line lines) [] ∙ ap (lines_text plan w' (next_line lines)) (behind_none (cut-some 10 input)))
      ∙ sym (one_more w lines l (cut-some 10 input))
      ∙ ap (λ x. lines_text plan w lines (x ∷ cut 10 input)) (sym (append-nil l)))
  step c input h false e w lines l =
      let f : ◌≡◌ {A = Drill} (keeps (amid w lines l) (hold_byte (hold_all empty_held l) c)) (amid w lines (l ++ (c ∷ []))) =
      ap (λ x. record { plan = plan; world = w; lines = lines; held = x }) (sym (hold_one l c)) in
      rw e (ap (λ d. all_printed d input) f ∙ h w lines (l ++ (c ∷ [])) ∙ ap (lines_text plan w lines) (behind_longer l c (cut 10 input)))

  right : (input : List ℕ) → Right input
  right [] w lines l = last w lines l
  right (c ∷ input) w lines l = step c input (right input) (eqb c 10) refl w lines l

  -- the whole input, from power-on
  pub by_lines : (input : List ℕ) → all_printed (started plan) input ≡ drill_text plan input
  unfolding hold_all
  by_lines input = right input (power_on (sleeps plan)) 0 [] ∙ ap (lines_text plan (power_on (sleeps plan)) 0) (behind_none (cut-some 10 input))

-- in two pieces as in one
pub in_pieces : (d : Drill) (a b : List ℕ) → all_printed d (a ++ b) ≡ printed d a ++ all_printed (fed d a) b
unfolding all_printed
in_pieces d a b = ap₂ (λ x y. x ++ last_printed y) (printed-append d a b) (fed-append d a b) ∙ append_assoc (printed d a) (printed (fed d a) b) (last_printed (fed (fed d a) b))
