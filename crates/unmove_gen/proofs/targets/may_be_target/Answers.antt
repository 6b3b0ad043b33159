use Rattle.std.proofs.Common.{◌≡◌, ℕ, length, sym, ap, ◌∙◌}
use Rattle.std.proofs.lemmas.Bool.{both_ways}
use Rattle.board_base.specs.Board.{at, is_in, is_of}
use Rattle.board_base.specs.declared.men.Colour.{Colour}
use Rattle.query_base.specs.Asked.{Asked}
use Rattle.unmove_gen.specs.Listed.{mover}
use Rattle.unmove_gen.proofs.Parts.{parts}
use Rattle.unmove_gen.proofs.Uncovered.{in-arrivals}
use Rattle.unmove_gen.proofs.targets.may_be_target.Goals as goal

pub returns-then-has : goal.returns-then-has
returns-then-has c = λ none u h there.
    let q : Asked = c.args.query.now in
    let own : is_of (mover q) (at q.board c.args.s) ≡ c.is_of.result =
    sym (c.is_of.ensures ∙ ap (is_of c.other.result) c.at.ensures.man ∙ ap (λ (d : Colour). is_of d (at c.query.inside.board c.args.s)) c.other.ensures ∙ ap (λ (a : Asked). is_of (mover a) (at a.board c.args.s)) c.query.view_is) in
    both_ways _ none (sym own ∙ ap (λ (t : ℕ). is_of (mover q) (at q.board t)) (sym there) ∙ (parts q u h).target)

pub returns-else-has : goal.returns-else-has
returns-else-has c = λ none u h there.
    let q : Asked = c.args.query.now in
    let whole : length q.board ≡ 64 = ap (λ (a : Asked). length a.board) (sym c.query.view_is) ∙ c.is_whole.ensures in
    both_ways _ (sym c.has.ensures.member ∙ c.if-has.false) (ap (is_in c.args.arrivals) (sym there) ∙ in-arrivals q u c.args.arrivals whole c.requires h)
