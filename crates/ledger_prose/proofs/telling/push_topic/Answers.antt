use Rattle.ledger_lines.specs.declared.lines.Line.{Line}
use Rattle.ledger_prose.specs.Sentences.{line_sentences, topic_sentences}
use Rattle.ledger_prose.specs.Words.{spaced_words}
use Rattle.ledger_prose.proofs.Spacing.{joined-step, joined-whole}
use Rattle.ledger_prose.proofs.telling.push_topic.Goals as goal

pub loop-line-preserved : goal.loop-line-preserved
loop-line-preserved c =
    joined-step (λ (x : Line). spaced_words c.args.query.now (line_sentences c.args.topic c.args.query.now c.args.lines.now x)) c.args.lines.now c.loop-line.line-index c.line-item.result c.args.out.now.items c.loop-line.out.items _ c.loop-line-test.true
    c.line-item.is c.loop-line.invariant c.in_ok-push_of_line.ensures

pub returns : goal.returns
unfolding topic_sentences
returns c = joined-whole c.args.query.now (line_sentences c.args.topic c.args.query.now c.args.lines.now) c.args.lines.now c.loop-line.line-index c.args.out.now.items c.loop-line.out.items c.loop-line-test.false c.loop-line.invariant
