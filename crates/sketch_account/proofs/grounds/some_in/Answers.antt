use Rattle.std.proofs.Common.{◌≡◌, ◌∙◌, ◌||◌, Bool, List, ap}
use Rattle.board_base.specs.Board.{is_in}
use Rattle.cage_rules.specs.Sets.{union}
use Rattle.cage_rules.proofs.SetAlgebra.{is_in-union}
use Rattle.sketch_account.proofs.grounds.some_in.Goals as goal

pub returns : goal.returns
returns c = λ s inside.
    let a : List Bool = c.args.a in
    let b : List Bool = c.args.b in
    let x : List Bool = c.args.c in
    let d : List Bool = c.args.d in
    let made : c.either-3.result ≡ union (union (union a b) x) d = cc in
    ap (λ (l : List Bool). is_in l s) made ∙ is_in-union (union (union a b) x) d s inside
    ∙ ap (λ (t : Bool). t || is_in d s) (is_in-union (union a b) x s inside ∙ ap (λ (t : Bool). t || is_in x s) (is_in-union a b s inside))
