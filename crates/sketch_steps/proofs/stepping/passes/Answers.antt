use Rattle.std.proofs.Common.{ap, ◌∙◌}
use Rattle.board_base.specs.Attacks.{files_apart}
use Rattle.board_base.specs.Board.{rank}
use Rattle.figures.specs.Steps.{Step}
use Rattle.sketch_steps.proofs.Telling.{passes-made}
use Rattle.sketch_steps.proofs.stepping.passes.Goals as goal

pub returns : goal.returns
returns c = passes-made c.args.colour c.args.step.now c.files_between-aside.result c.rank.result c.en_passant_rank.result c.takes_nobody.result (c.files_between-aside.ensures.value ∙ ap (λ (x : Step). files_apart x.from x.to) c.step.view_is) (c.rank.ensures ∙ ap (λ (x : Step). rank x.from) c.step.view_is) c.en_passant_rank.ensures c.takes_nobody.ensures
