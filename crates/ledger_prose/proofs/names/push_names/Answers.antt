use Rattle.std.proofs.Common.{◌∙◌, arith}
use Rattle.prose_words.proofs.Squares.{flat_more, flat_whole}
use Rattle.ledger_prose.specs.Sentences.{is_named}
use Rattle.ledger_prose.specs.Words.{name_at, names_words}
use Rattle.ledger_prose.proofs.Listing.{name-told}
use Rattle.ledger_prose.proofs.names.push_names.Goals as goal
use Rattle.ledger_lines.proofs.Homes.{any-more}

pub loop-i-preserved : goal.loop-i-preserved
loop-i-preserved c = record {
  text = name-told c.args.joint c.args.style c.args.query.now c.args.lines.now c.loop-i.i c.known-s.result c.is_named-given.result c.loop-i.several c.names_any-more.result _ _ c.known-s.ensures c.is_named-given.ensures c.loop-i.invariant.before c.names_any-more.ensures c.in_ok-push_name.ensures
      ∙ flat_more (name_at c.args.joint c.args.style c.args.query.now c.args.lines.now) _ _ c.loop-i.i c.loop-i.invariant.text;
  before = any-more (is_named c.args.query.now c.args.lines.now) c.loop-i.i c.known-s.result c.loop-i.several c.is_named-given.result c.either-several.result c.loop-i.invariant.before c.known-s.ensures c.is_named-given.ensures c.either-several.ensures;
}

pub returns : goal.returns
unfolding names_words
returns c = flat_whole (name_at c.args.joint c.args.style c.args.query.now c.args.lines.now) _ _ _ 64 c.loop-i.invariant.text (omega arith)
