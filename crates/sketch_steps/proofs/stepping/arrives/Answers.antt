use Rattle.std.proofs.Common.{◌≡◌, ap, sym, ◌∙◌}
use Rattle.board_base.specs.Legal.{last_rank}
use Rattle.figures.specs.Figures.{Figure}
use Rattle.sketch_steps.proofs.Telling.{arrives-end, arrives-short}
use Rattle.sketch_steps.proofs.stepping.arrives.Goals as goal

pub returns-then-rank-last_rank : goal.returns-then-rank-last_rank
returns-then-rank-last_rank c = arrives-end c.args.figure.now c.args.t c.may_be_officer.result (sym c.rank.ensures ∙ c.if-rank-last_rank.true ∙ c.last_rank.ensures ∙ ap (λ (f : Figure). last_rank f.colour) c.figure.view_is) c.may_be_officer.ensures

pub returns : goal.returns
returns c =
    let last : c.last_rank.result ≡ last_rank c.args.figure.now.colour = c.last_rank.ensures ∙ ap (λ (f : Figure). last_rank f.colour) c.figure.view_is in
    arrives-short c.args.figure.now c.args.t c.may_be.result (λ same. c.if-rank-last_rank.false (c.rank.ensures ∙ same ∙ sym last)) c.may_be.ensures
