use Rattle.std.proofs.lemmas.Result.{IfOk-weaker}
use Rattle.proof_sentences.specs.declared.sentences.Sentence.TheVariants.{Caged, Changed}
use Rattle.proof_sentences.proofs.Adding.{adds-two}
use Rattle.proof_sentences.proofs.Changes.{changed-means}
use Rattle.proof_sentences.proofs.reasons.push_frozen.Goals as goal

pub push_sentence-requires-2 : goal.push_sentence-requires-2
push_sentence-requires-2 c =
    let first = rw c.unwrap-odd.ensures at c.changed_square.ensures.first in
    changed-means c.args.query.now.odds c.args.query.now.board c.args.set c.unwrap-odd.result first.0

pub returns : goal.returns
returns c =
    let first = rw c.unwrap-odd.ensures at c.changed_square.ensures.first in
    let odd = changed-means c.args.query.now.odds c.args.query.now.board c.args.set c.unwrap-odd.result first.0 in
    IfOk-weaker c.push_sentence-2.result _ _
    (λ done words. (c.unwrap-odd.result, first, adds-two c.args.query.now (Caged c.args.set) (Changed c.args.set c.unwrap-odd.result) c.args.out.now.items _ _ c.requires.frozen odd c.in_ok-push_sentence.ensures words))
    c.push_sentence-2.ensures
