use Rattle.std.proofs.Common.{◌≡◌, ◌∙◌, false, true, ap}
use Rattle.board_base.specs.Board.{opponent}
use Rattle.cage_rules.specs.Frozen.{is_behind}
use Rattle.cage_rules.specs.Steps.{is_ahead, near}
use Rattle.figures.specs.Figures.{Figure}
use Rattle.sketch_grounds.proofs.Backing.{near-marked, near-unmarked}
use Rattle.sketch_grounds.proofs.zones.sources.Goals as goal

pub returns-then-figure : goal.returns-then-figure
returns-then-figure c =
    let colour : c.figure.inside.colour ≡ c.args.figure.now.colour = ap (λ (x : Figure). x.colour) c.figure.view_is in
    let marked : c.figure.inside.marked ≡ c.args.figure.now.marked = ap (λ (x : Figure). x.marked) c.figure.view_is in
    let yes_ : c.args.figure.now.marked ≡ true = cc in
    let made : c.ahead.result ≡ near (is_ahead (opponent c.args.figure.now.colour)) c.args.from = cc in
    made ∙ near-marked c.args.figure.now c.args.from yes_

pub returns-else-figure : goal.returns-else-figure
returns-else-figure c =
    let colour : c.figure.inside.colour ≡ c.args.figure.now.colour = ap (λ (x : Figure). x.colour) c.figure.view_is in
    let marked : c.figure.inside.marked ≡ c.args.figure.now.marked = ap (λ (x : Figure). x.marked) c.figure.view_is in
    let no_ : c.args.figure.now.marked ≡ false = cc in
    let made : c.pawn_steps.result ≡ near (is_behind (opponent c.args.figure.now.colour)) c.args.from = cc in
    made ∙ near-unmarked c.args.figure.now c.args.from no_
