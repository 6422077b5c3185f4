-- Laws of a line's end, and of bytes that come in pieces.
use Rattle.std.proofs.Common.{◌≡◌, ℕ, ◌+◌, ◌*◌, ◌<◌, ◌≤◌, eqb, List, [], ◌∷◌, ◌++◌, Option, Some, None, length, get_or, take, sym, refl, ap, ◌∙◌, ap₂, append_assoc, append-nil, add-one, arith, length-append, take-suc, eq-eqb, ne_eqb}
use Rattle.base_lists.specs.Bounded.{if_else}
use Rattle.base_lists.proofs.Choices.{by_test}
use Rattle.set_plan.specs.declared.Plan.{Plan}
use Rattle.bus.specs.declared.Move.{Move}
use Rattle.bus.specs.declared.Moved.{Moved}
use Rattle.bus.specs.declared.World.{World}
use Rattle.bus.specs.Moves.{world_act}
use Rattle.base_text.specs.Text.{wrote, Shown}
use Rattle.base_text.specs.declared.Writer.{Writer}
use Rattle.base_text.proofs.Appends.{wrote_none, wrote_append}
use Rattle.drill_line.specs.declared.LineMove.{LineMove}
use Rattle.drill_line.specs.Parse.{on_drill_bus}
use Rattle.drill_text.specs.Lines.{moved_line, bad_line, next_line}
use Rattle.drill_text.proofs.Lines.{moved_short, bad_short, Printed, printed_bad, printed_move}
use Rattle.drill_feed.specs.declared.Drill.{Drill}
use Rattle.drill_feed.specs.declared.Held.{Held}
use Rattle.drill_feed.specs.Feed.{line_moved, world_after, line_text, empty_held, hold_byte, held_line, ended, line_printed, keeps, byte_fed, byte_printed, fed, printed, last_printed, last_fed}

-- a line printed
abbrev pub LinePrinted : Plan → World → ℕ → Option LineMove → World → Writer → Writer → Type 0
LinePrinted plan w number line = Printed (world_after plan w line) (line_text plan w number line)

module _ (plan : Plan) (w : World) (number : ℕ) {line : Option LineMove} {w' : World} {out out' x : Writer} where
  pub line_bad : line ≡ None → out' ≡ x → w' ≡ w → x ≡ wrote (bad_line number) out → LinePrinted plan w number line w' out out'
  line_bad e = printed_bad w number (rw e) (rw e)

  pub line_move : {named : LineMove} {m : Move} {o : Moved} → line ≡ Some named → m ≡ on_drill_bus named.act named.reached named.fate → o ≡ world_act plan w m
      → out' ≡ x → w' ≡ o.world → x ≡ wrote (moved_line plan number o) out → LinePrinted plan w number line w' out out'
  unfolding line_moved
  line_move {named = named} e b c = printed_move w number plan (on_drill_bus named.act named.reached named.fate) (rw e) (rw e) (c ∙ ap (world_act plan w) b)

line_short : (plan : Plan) (w : World) (number : ℕ) (line : Option LineMove) → length (line_text plan w number line) ≤ 80
line_short plan w number (Some line) = moved_short plan number (line_moved plan w line.act line.reached line.fate)
line_short plan w number None = bad_short number

-- 80 bytes of text for each byte of input are room enough, and 80 at its end
pub last_room : (d : Drill) → length (line_printed d) ≤ 80
unfolding line_printed
last_room d = line_short d.plan d.world (next_line d.lines) (held_line d)

pub room_enough : (d : Drill) (input : List ℕ) → length (printed d input) ≤ 80 * length input
unfolding printed
room_enough d [] = omega arith
room_enough d (b ∷ input) =
    let one : length (byte_printed d b) ≤ 80 = by_test (λ text. length text ≤ 80) (eqb b 10) {x = line_printed d} {y = []} (λ e. last_room d) (λ e. omega arith) in
    omega (arith, length-append (byte_printed d b) (printed (byte_fed d b) input), one, room_enough (byte_fed d b) input)

-- bytes in pieces

pub fed-append : (d : Drill) (a b : List ℕ) → fed d (a ++ b) ≡ fed (fed d a) b
unfolding fed
fed-append d [] b = refl
fed-append d (x ∷ a) b = fed-append (byte_fed d x) a b

pub printed-append : (d : Drill) (a b : List ℕ) → printed d (a ++ b) ≡ printed d a ++ printed (fed d a) b
unfolding fed printed
printed-append d [] b = refl
printed-append d (x ∷ a) b =
    ap (λ l. byte_printed d x ++ l) (printed-append (byte_fed d x) a b) ∙ sym (append_assoc (byte_printed d x) (printed (byte_fed d x) a) (printed (fed (byte_fed d x) a) b))

-- the loop over bytes: none yet, and one more
pub fed-nothing : (d : Drill) → d ≡ fed d []
unfolding fed
fed-nothing d = refl

pub printed-nothing : (d : Drill) (out : Writer) → out ≡ wrote (printed d []) out
unfolding printed
printed-nothing d out = sym (wrote_none out)

module _ (d₀ : Drill) (input : List ℕ) (i : ℕ) (within : i < length input) (d : Drill) (a : d ≡ fed d₀ (take i input)) where
  abbrev pub next : ℕ
  next = get_or input i 0

  one_more : take (i + 1) input ≡ take i input ++ (next ∷ [])
  one_more = rw add-one (take-suc input i 0 within)

  fed_more : byte_fed d next ≡ fed d₀ (take (i + 1) input)
  unfolding fed
  fed_more = ap (λ x. byte_fed x next) a ∙ sym (fed-append d₀ (take i input) (next ∷ [])) ∙ ap (fed d₀) (sym one_more)

  printed_more : printed d₀ (take i input) ++ byte_printed d next ≡ printed d₀ (take (i + 1) input)
  unfolding printed
  printed_more =
      ap (λ x. printed d₀ (take i input) ++ byte_printed x next) a
      ∙ ap (λ l. printed d₀ (take i input) ++ l) (sym (append-nil (byte_printed (fed d₀ (take i input)) next)))
      ∙ sym (printed-append d₀ (take i input) (next ∷ [])) ∙ ap (printed d₀) (sym one_more)

  text_more : (out₀ : Writer) {out x : Writer} → out ≡ wrote (printed d₀ (take i input)) out₀ → x ≡ wrote (byte_printed d next) out → x ≡ wrote (printed d₀ (take (i + 1) input)) out₀
  text_more out₀ t e =
      e ∙ ap (wrote (byte_printed d next)) t ∙ sym (wrote_append (printed d₀ (take i input)) (byte_printed d next) out₀) ∙ ap (λ l. wrote l out₀) printed_more

  -- a byte that is held
  pub kept_state : (next ≡ 10 → ⊥) → {held : Held} → held ≡ hold_byte d.held next → keeps d held ≡ fed d₀ (take (i + 1) input)
  kept_state n e = ap (keeps d) e ∙ sym (ap (λ t. if_else t (ended d) (keeps d (hold_byte d.held next))) (ne_eqb next 10 n)) ∙ fed_more

  pub kept_text : (next ≡ 10 → ⊥) → (out₀ : Writer) {out : Writer} → out ≡ wrote (printed d₀ (take i input)) out₀ → out ≡ wrote (printed d₀ (take (i + 1) input)) out₀
  kept_text n out₀ {out} t = text_more out₀ t (sym (wrote_none out) ∙ ap (λ t. wrote (if_else t (line_printed d) []) out) (sym (ne_eqb next 10 n)))

  -- an LF: the held line ends
  module _ (e : next ≡ 10) {line : Option LineMove} {number : ℕ} {w' : World} {out x : Writer}
      (f : line ≡ held_line d) (g : number ≡ next_line d.lines) (p : LinePrinted d.plan d.world number line w' out x) where
    pub ended_state : {held : Held} → held ≡ empty_held → record { plan = d.plan; world = w'; lines = number; held = held } ≡ fed d₀ (take (i + 1) input)
    unfolding ended
    ended_state h =
        rw (g, h) (ap (λ w. record { plan = d.plan; world = w; lines = next_line d.lines; held = empty_held }) (p.world ∙ ap (world_after d.plan d.world) f))
        ∙ ap (λ t. if_else t (ended d) (keeps d (hold_byte d.held next))) (sym (eq-eqb next 10 e)) ∙ fed_more

    pub ended_text : (out₀ : Writer) → out ≡ wrote (printed d₀ (take i input)) out₀ → x ≡ wrote (printed d₀ (take (i + 1) input)) out₀
    unfolding line_printed
    ended_text out₀ t =
        text_more out₀ t
        (p.written ∙ ap₂ (λ n l. wrote (line_text d.plan d.world n l) out) g f ∙ ap (λ t. wrote (if_else t (line_printed d) []) out) (sym (eq-eqb next 10 e)))

-- the end of the input: nothing is held, or a line that lacks its LF
pub last_none : (d : Drill) (l : List ℕ) → d.held.count ≡ 0 → Shown (last_printed d) l l 0
unfolding last_printed
last_none d l e = rw (eq-eqb d.held.count 0 e) (record { count = omega arith; bytes = refl })

pub last_one : (d : Drill) {l l' : List ℕ} {r : ℕ} → (d.held.count ≡ 0 → ⊥) → Shown (line_printed d) l l' r → Shown (last_printed d) l l' r
unfolding last_printed
last_one d n s = rw (ne_eqb d.held.count 0 n) s

-- an LF ends it
pub printed_end : (d : Drill) → printed d (10 ∷ []) ≡ line_printed d
unfolding printed
printed_end d = append-nil (line_printed d)

pub fed_end : (d : Drill) → fed d (10 ∷ []) ≡ ended d
unfolding fed
fed_end d = refl

pub still_fed : (d : Drill) → d.held.count ≡ 0 → d ≡ last_fed d
unfolding last_fed
still_fed d e = rw (eq-eqb d.held.count 0 e)

pub ended-fed : (d : Drill) → (d.held.count ≡ 0 → ⊥) → ended d ≡ last_fed d
unfolding last_fed
ended-fed d n = rw (ne_eqb d.held.count 0 n)
