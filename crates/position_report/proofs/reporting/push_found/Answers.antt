use Rattle.std.proofs.Common.{◌∙◌}
use Rattle.std.proofs.lemmas.Result.{on_ok_weaker}
use Rattle.std.proofs.lemmas.List.Elements.{All-same}
use Rattle.position_report.proofs.Joining.{IsPlain, plain-claims}
use Rattle.position_report.proofs.Reported.{found-told}
use Rattle.position_report.proofs.Saying.{steps-so}
use Rattle.position_report.proofs.Stuck.{pairs-listed, rights-listed}
use Rattle.position_report.proofs.reporting.push_found.Goals as goal

pub said_part-requires-clause-line : goal.said_part-requires-clause-line
said_part-requires-clause-line c = steps-so c.args.query.now c.args.limits.depth c.args.limits.nodes c.args.found.now.steps c.requires.found.steps

pub said_part-requires-clause-among : goal.said_part-requires-clause-among
said_part-requires-clause-among c = c.requires.found.left.games

pub said_part-requires-clause-ends : goal.said_part-requires-clause-ends
said_part-requires-clause-ends c = (c.args.games.now, c.requires.found.ends)

pub proofs_part-requires : goal.proofs_part-requires
proofs_part-requires c = All-same IsPlain _ _ (c.as_slice.ensures.value ∙ c.in_ok-shown.ensures) (plain-claims c.args.query.now c.args.found.now c.requires.plain)

pub open_part-requires-clause-rights : goal.open_part-requires-clause-rights
open_part-requires-clause-rights c = rights-listed c.args.query.now c.args.limits.depth c.args.limits.nodes c.args.games.now c.args.found.now.rights.items c.requires.found.rights.each

pub open_part-requires-clause-pairs : goal.open_part-requires-clause-pairs
open_part-requires-clause-pairs c = pairs-listed c.args.query.now c.args.limits.depth c.args.limits.nodes c.args.games.now c.args.found.now.pairs.items c.requires.found.pairs.each

pub returns : goal.returns
returns c =
    on_ok_weaker c.push_part-8.result
    (λ e. found-told c.args.query.now c.args.limits.depth c.args.limits.nodes c.args.games.now c.args.found.now _ _ _ _ _ _ _ _ c.args.out.now.items _ _ _ _ _ _ _ _ c.told_lines_hold.ensures c.sentences_hold.ensures.reached c.news_hold.ensures c.requires.found
    (record {
      said_told = c.in_ok-said.ensures;
      ledger_told = c.in_ok-ledger.ensures;
      held_told = c.in_ok-held.ensures;
      proofs_told = rw (c.as_slice.ensures.value, c.in_ok-shown.ensures) at c.in_ok-proofs.ensures;
      ask_told = c.in_ok-ask.ensures;
      line_told = c.in_ok-line.ensures;
      unsettled_told = c.in_ok-unsettled.ensures;
      ends_told = c.in_ok-ends.ensures;
    })
    (rw c.as_slice-2.ensures.value at c.in_ok-push_part.ensures)
    (rw c.as_slice-3.ensures.value at c.in_ok-push_part-2.ensures)
    (rw c.as_slice-4.ensures.value at c.in_ok-push_part-3.ensures)
    (rw c.as_slice-5.ensures.value at c.in_ok-push_part-4.ensures)
    (rw c.as_slice-6.ensures.value at c.in_ok-push_part-5.ensures)
    (rw c.as_slice-7.ensures.value at c.in_ok-push_part-6.ensures)
    (rw c.as_slice-8.ensures.value at c.in_ok-push_part-7.ensures)
    (rw c.as_slice-9.ensures.value at e))
    c.push_part-8.ensures
