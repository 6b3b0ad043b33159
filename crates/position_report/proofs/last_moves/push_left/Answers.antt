use Rattle.std.proofs.lemmas.Bool.{both_ways}
use Rattle.std.proofs.lemmas.Result.{on_ok_weaker}
use Rattle.position_report.proofs.Lasting.{few-told, many-told}
use Rattle.position_report.proofs.last_moves.push_left.Goals as goal

pub returns-in_ok-tell_last : goal.returns-in_ok-tell_last
returns-in_ok-tell_last c =
    on_ok_weaker c.push_possible.result
    (λ e. few-told c.args.query.now c.args.found.now _ _ _ c.requires.none c.requires.among c.requires.ends (c.can_be_named.ensures.0 c.if-can_be_named.true) c.in_ok-tell_last.ensures (rw c.len.ensures at e))
    c.push_possible.ensures

pub returns-else-can_be_named : goal.returns-else-can_be_named
returns-else-can_be_named c =
    on_ok_weaker c.tell_left.result
    (many-told c.args.query.now c.args.found.now _ _ _ c.requires.none c.requires.among c.requires.all (λ few. both_ways _ c.if-can_be_named.false (c.can_be_named.ensures.1 few)) c.len-else-can_be_named.ensures)
    c.tell_left.ensures
