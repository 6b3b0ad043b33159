use Rattle.dossier_checker.proofs.StageFeeding.{stands_more}
use Rattle.dossier_checker.proofs.stages.feed.Goals as goal

pub returns : goal.returns
returns c = λ bytes stands. stands_more c.args.stage.now c.take.new.stage c.args.piece.now bytes c.take.ensures.rest c.take.ensures.told stands
