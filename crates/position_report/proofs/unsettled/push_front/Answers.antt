use Rattle.std.proofs.lemmas.Result.{on_ok_weaker}
use Rattle.position_report.proofs.Stuck.{front-told}
use Rattle.position_report.proofs.unsettled.push_front.Goals as goal

pub returns-in_ok-tell_open_line-in-len1-up : goal.returns-in_ok-tell_open_line-in-len1-up
returns-in_ok-tell_open_line-in-len1-up c =
    on_ok_weaker c.draw.result
    (front-told c.args.query.now c.before_all.result c.args.steps.now _ _ _ c.in-len1-up.len_at_least c.before_all.ensures c.in_ok-tell_open_line-in-len1-up.ensures)
    c.draw.ensures
