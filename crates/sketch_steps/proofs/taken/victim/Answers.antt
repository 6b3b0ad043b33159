use Rattle.std.proofs.Common.{◌≡◌, ◌<◌, ℕ, ap, sym, ◌∙◌, subst}
use Rattle.board_base.specs.Play.{ahead}
use Rattle.figures.specs.Figures.{Figure}
use Rattle.figures.specs.Steps.{Step}
use Rattle.sketch_steps.proofs.Before.{home-low}
use Rattle.sketch_steps.proofs.taken.victim.Goals as goal

pub known-home-requires : goal.known-home-requires
known-home-requires c =
    let home : c.ahead.result ≡ ahead c.args.mover.now.colour c.args.step.now.to = c.ahead.ensures ∙ ap (λ (x : Step). ahead c.mover.inside.colour x.to) c.step.view_is ∙ ap (λ (f : Figure). ahead f.colour c.args.step.now.to) c.mover.view_is in
    subst (λ (n : ℕ). n < 64) (sym home) (home-low c.args.mover.now c.args.step.now c.requires.home (sym (ap (λ (x : Step). x.passing) c.step.view_is) ∙ c.if-step.true))
