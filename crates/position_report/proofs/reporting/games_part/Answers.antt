use Rattle.std.proofs.Common.{[]}
use Rattle.position_report.specs.Lengths.{TellsGame, length_text}
use Rattle.position_report.proofs.Joining.{from-text}
use Rattle.position_report.proofs.reporting.games_part.Goals as goal

pub returns : goal.returns
returns c =
    from-text (TellsGame c.args.query.now [] c.args.games.now) c.new-part.result.items _ _ (length_text c.args.query.now c.args.found.now.length) c.new-part.ensures.items c.in_ok-push_length.ensures c.in_ok-push_first.ensures
