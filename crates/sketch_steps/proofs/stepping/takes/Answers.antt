use Rattle.std.proofs.Common.{ap, sym, ◌∙◌}
use Rattle.board_base.specs.Attacks.{files_apart}
use Rattle.board_base.specs.Board.{file, rank}
use Rattle.play_rules.specs.Laws.{is_end}
use Rattle.figures.specs.Steps.{Step}
use Rattle.sketch_steps.proofs.Telling.{takes-man, takes-nobody}
use Rattle.sketch_steps.proofs.stepping.takes.Goals as goal

pub returns-in-None : goal.returns-in-None
returns-in-None c = takes-nobody c.args.colour c.args.step.now c.file.result c.file-in-None.result c.rank.result c.last_rank.result (c.file.ensures ∙ ap (λ (x : Step). file x.from) c.step.view_is) (c.file-in-None.ensures ∙ ap (λ (x : Step). file x.to) c.step.view_is) (c.rank.ensures ∙ ap (λ (x : Step). rank x.to) c.step.view_is) c.last_rank.ensures (sym (ap (λ (x : Step). x.taken) c.step.view_is) ∙ c.in-None.is)

pub returns-in-Some : goal.returns-in-Some
returns-in-Some c = takes-man c.args.colour c.args.step.now c.in-Some.kind c.files_between-aside.result c.is_king.result c.is_pawn.result c.is_end.result (c.files_between-aside.ensures.value ∙ ap (λ (x : Step). files_apart x.from x.to) c.step.view_is) c.is_king.ensures c.is_pawn.ensures (c.is_end.ensures ∙ ap (λ (x : Step). is_end x.to) c.step.view_is) (sym (ap (λ (x : Step). x.taken) c.step.view_is) ∙ c.in-Some.is)
