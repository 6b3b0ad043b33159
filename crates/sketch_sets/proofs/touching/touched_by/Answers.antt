use Rattle.std.proofs.Common.{◌≡◌, true, Bool, ◌&&◌, List, ap, sym, ◌∙◌}
use Rattle.std.proofs.lemmas.Bool.{and_left}
use Rattle.board_base.specs.Board.{is_in, same_colour}
use Rattle.figures.proofs.Filling.{none-in-zero}
use Rattle.figures.specs.Figures.{Figure}
use Rattle.sketch_sets.specs.Grounds.{surely_touches}
use Rattle.sketch_sets.proofs.Touched.{surely-none, surely-there}
use Rattle.sketch_sets.proofs.touching.touched_by.Goals as goal

pub returns-then-not-is_same_colour : goal.returns-then-not-is_same_colour
returns-then-not-is_same_colour c = λ s low. ap (λ (l : List Bool). is_in l s) c.from_bits.ensures.squares ∙ none-in-zero s ∙ sym (and_left (same_colour c.args.colour c.args.figure.colour) (surely_touches c.args.figure s) (ap (λ (f : Figure). same_colour c.args.colour f.colour) (sym c.figure.view_is) ∙ sym c.is_same_colour.ensures ∙ c.if-not-is_same_colour.true))

pub returns-in-Some : goal.returns-in-Some
returns-in-Some c = λ s low.
    let own : same_colour c.args.colour c.args.figure.colour ≡ true = ap (λ (f : Figure). same_colour c.args.colour f.colour) (sym c.figure.view_is) ∙ sym c.is_same_colour.ensures ∙ c.if-not-is_same_colour.false in
    c.touched_on.ensures s low ∙ surely-there c.args.figure c.in-Some.q s c.fixed_square.ensures.size c.in-Some.ensures.square ∙ sym (ap (λ (b : Bool). b && surely_touches c.args.figure s) own)

pub returns-in-None : goal.returns-in-None
returns-in-None c = λ s low.
    let own : same_colour c.args.colour c.args.figure.colour ≡ true = ap (λ (f : Figure). same_colour c.args.colour f.colour) (sym c.figure.view_is) ∙ sym c.is_same_colour.ensures ∙ c.if-not-is_same_colour.false in
    ap (λ (l : List Bool). is_in l s) c.from_bits-in-None.ensures.squares ∙ none-in-zero s ∙ surely-none c.args.figure s c.in-None.ensures.square ∙ sym (ap (λ (b : Bool). b && surely_touches c.args.figure s) own)
