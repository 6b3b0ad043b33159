use Rattle.std.proofs.Common.{sym, ◌∙◌}
use Rattle.proof_story.proofs.Wraps.{after-few, cut-here, cut-on}
use Rattle.proof_story.proofs.wrapping.push_letter.Goals as goal

pub returns-then-is_cut-clause-cut : goal.returns-then-is_cut-clause-cut
returns-then-is_cut-clause-cut c = cut-here c.args.column c.args.letter c.args.rest.now c.args.out.now.items _ (sym c.is_cut.ensures ∙ c.if-is_cut.true) c.in_ok-say.ensures

pub returns-clause-cut : goal.returns-clause-cut
returns-clause-cut c =
    let now = cut-on c.args.column c.args.letter c.args.rest.now c.args.out.now.items _ (sym c.is_cut.ensures ∙ c.if-is_cut.false) c.in_ok-push.ensures.items in
    rw c.column_after.ensures now

pub returns-clause-next : goal.returns-clause-next
returns-clause-next c = λ most few four. rw c.column_after.ensures (after-few c.args.column c.args.letter most few)
