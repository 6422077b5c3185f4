-- By the first word.
use Rattle.std.proofs.Common.{◌≡◌, rules, arith, length, get_or}
use Rattle.std.proofs.lemmas.Slice.Eq.{text_from_reads}
use Rattle.base_text.specs.Text.{ascii}
use Rattle.drill_line.proofs.three_words.Goals as goal

pub returns-in-permit : goal.returns-in-permit
returns-in-permit c =
    let l : length c.args.first.now ≡ 6 = omega arith in
    let b : get_or c.args.first.now 0 0 ≡ 112 = search rules in
    let b1 : get_or c.args.first.now 1 0 ≡ 101 = search rules in
    let b2 : get_or c.args.first.now 2 0 ≡ 114 = search rules in
    let b3 : get_or c.args.first.now 3 0 ≡ 109 = search rules in
    let b4 : get_or c.args.first.now 4 0 ≡ 105 = search rules in
    let b5 : get_or c.args.first.now 5 0 ≡ 116 = search rules in
    let e : c.args.first.now ≡ ascii "permit" = text_from_reads c.args.first.now (ascii "permit") l (b, (b1, (b2, (b3, (b4, (b5, tt)))))) in
    rw e c.permit.ensures
