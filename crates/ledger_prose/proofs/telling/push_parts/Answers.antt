use Rattle.std.proofs.lemmas.List.{get_or_default}
use Rattle.ledger_prose.specs.declared.parts.Part.{Part}
use Rattle.ledger_prose.specs.Sentences.{part_sentences, sentences_in}
use Rattle.ledger_prose.specs.Words.{spaced_words}
use Rattle.ledger_prose.proofs.Spacing.{joined-step, joined-whole}
use Rattle.ledger_prose.proofs.telling.push_parts.Goals as goal

pub loop-part-preserved : goal.loop-part-preserved
loop-part-preserved c =
    joined-step (λ (x : Part). spaced_words c.args.query.now (part_sentences x c.args.query.now c.args.lines.now)) c.args.parts.now c.loop-part.part-index _ c.args.out.now.items c.loop-part.out.items _ c.loop-part-test.true
    (get_or_default c.args.parts.now c.loop-part.part-index _ _ c.loop-part-test.true) c.loop-part.invariant c.in_ok-push_part.ensures

pub returns : goal.returns
unfolding sentences_in
returns c =
    joined-whole c.args.query.now (λ (x : Part). part_sentences x c.args.query.now c.args.lines.now) c.args.parts.now c.loop-part.part-index c.args.out.now.items c.loop-part.out.items c.loop-part-test.false c.loop-part.invariant
