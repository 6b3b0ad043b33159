use Rattle.std.proofs.Common.{◌∙◌, reverse, sym, subst}
use Rattle.cert_checker.specs.Counting.{AreCounts}
use Rattle.cert_checker.proofs.Counted.{closed_rest, counts_popped, open_rest}
use Rattle.cert_checker.proofs.stages.step_skipping.Goals as goal

pub returns-then-not-is_over-clause-rest : goal.returns-then-not-is_over-clause-rest
returns-then-not-is_over-clause-rest c = λ frames n lines a rest.
    open_rest _ c.args.claim c.args.query c.args.sketching.now.reading (reverse c.args.counts.now.items) n lines a (sym c.is_over.ensures ∙ c.if-not-is_over.true) rest

pub returns-clause-rest : goal.returns-clause-rest
returns-clause-rest c = λ frames n lines a rest.
    closed_rest c.args.found c.args.claim c.args.query c.args.sketching.now.reading (reverse c.args.counts.now.items) (reverse c.settle_counts.new.counts.items) c.close.new.self.units n lines a (sym c.is_over.ensures ∙ c.if-not-is_over.false) c.close.ensures c.settle_counts.ensures.due rest

pub returns-clause-ready : goal.returns-clause-ready
returns-clause-ready c = λ frames. (subst AreCounts (sym c.settle_counts.ensures.due) (counts_popped (reverse c.args.counts.now.items) c.requires.counts), c.settle_counts.ensures.open)
