use Rattle.std.proofs.Common.{◌++◌, ◌∙◌, ℕ, Bool, [], ap, cond, arith}
use Rattle.prose_words.proofs.Squares.{flat_more, flat_whole}
use Rattle.ledger_prose.specs.Words.{class_words, classes_words, is_elsewhere}
use Rattle.ledger_prose.proofs.leftovers.push_classes.Goals as goal

pub loop-k-preserved : goal.loop-k-preserved
loop-k-preserved c =
    c.in_ok-push_class_if.ensures
    ∙ ap (λ (b : Bool). c.loop-k.out.items ++ cond b (class_words c.loop-k.k) []) c.is_elsewhere.ensures
    ∙ flat_more (λ (k : ℕ). cond (is_elsewhere c.args.x.now c.args.ways.now k) (class_words k) []) _ _ c.loop-k.k c.loop-k.invariant

pub returns : goal.returns
unfolding classes_words
returns c = flat_whole (λ (k : ℕ). cond (is_elsewhere c.args.x.now c.args.ways.now k) (class_words k) []) _ _ _ 16 c.loop-k.invariant (omega arith)
