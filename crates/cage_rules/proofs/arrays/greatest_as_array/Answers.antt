use Rattle.std.proofs.Common.{◌≡◌, ap, sym, ◌∙◌, subst}
use Rattle.board_base.specs.Board.{array_of}
use Rattle.play_rules.specs.Reach.{IsWithin}
use Rattle.query_base.specs.Asked.{Asked}
use Rattle.cage_rules.specs.Tests.{squares_alike}
use Rattle.cage_rules.proofs.Greatest.{alike-within, occupied-inside, within-alike}
use Rattle.cage_rules.proofs.arrays.greatest_as_array.Goals as goal

pub returns-clause-as_array : goal.returns-clause-as_array
returns-clause-as_array c =
    let e : c.squares_alike.result ≡ squares_alike c.args.query.now.board (array_of c.args.query.now.odds) =
    c.squares_alike.ensures ∙ ap (squares_alike c.query.inside.board) c.array_of.ensures ∙ ap (λ (q : Asked). squares_alike q.board (array_of q.odds)) c.query.view_is in
    within-alike c.args.query.now.odds c.args.query.now.board c.settled.result (subst (IsWithin c.settled.result) e c.settled.ensures.within)

pub returns-clause-greatest : goal.returns-clause-greatest
returns-clause-greatest c = λ set frozen alike.
    let e : c.squares_alike.result ≡ squares_alike c.args.query.now.board (array_of c.args.query.now.odds) =
    c.squares_alike.ensures ∙ ap (squares_alike c.query.inside.board) c.array_of.ensures ∙ ap (λ (q : Asked). squares_alike q.board (array_of q.odds)) c.query.view_is in
    c.settled.ensures.greatest set frozen
    (subst (IsWithin set) (sym e) (alike-within c.args.query.now.odds c.args.query.now.board set (λ s member. occupied-inside c.args.query.now.board s c.has_whole_board.ensures (frozen.occupied s member)) alike))
