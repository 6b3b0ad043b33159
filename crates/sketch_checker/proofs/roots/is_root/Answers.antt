use Rattle.sketch_checker.proofs.Rooted.{root-begins}
use Rattle.sketch_checker.proofs.roots.is_root.Goals as goal

pub returns-then-has_few-clause-root : goal.returns-then-has_few-clause-root
returns-then-has_few-clause-root c = (
  λ h. record {
    kings = c.has_one_king_each.ensures.0 c.if-not-has_one_king_each.false;
    ranks = c.has_no_pawn_on_ends.ensures.law.0 c.if-not-has_no_pawn_on_ends.false;
    white = c.has_few.ensures.0 c.if-has_few.true;
    black = c.has_few-then-has_few.ensures.0 h;
  },
  λ root. c.has_few-then-has_few.ensures.1 root.black,
)

pub returns-then-has_few-clause-begins : goal.returns-then-has_few-clause-begins
returns-then-has_few-clause-begins c = λ h. root-begins c.args.odds c.args.board.now (record {
  kings = c.has_one_king_each.ensures.0 c.if-not-has_one_king_each.false;
  ranks = c.has_no_pawn_on_ends.ensures.law.0 c.if-not-has_no_pawn_on_ends.false;
  white = c.has_few.ensures.0 c.if-has_few.true;
  black = c.has_few-then-has_few.ensures.0 h;
})
