use Rattle.std.proofs.Common.{ap, ◌∙◌}
use Rattle.play_rules.specs.States.{Position, legal_at}
use Rattle.unmove_gen.proofs.Arrivals.{legal-before}
use Rattle.unmove_gen.proofs.legality.state_before.Goals as goal

pub returns-clause-legal : goal.returns-clause-legal
returns-clause-legal c =
    ap (λ (p : Position). legal_at p c.args.u.now.mv) c.at.ensures
    ∙ ap (λ (e : _). legal_at (record { board = c.args.board.now; turn = c.args.colour; rights = c.all.result; ep = e; clock = 0 }) c.args.u.now.mv) c.crossed.ensures
    ∙ legal-before c.args.board.now c.args.colour c.all.result c.args.u.now c.all.ensures
