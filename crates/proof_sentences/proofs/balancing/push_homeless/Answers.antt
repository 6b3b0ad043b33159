use Rattle.std.proofs.lemmas.Result.{IfOk-weaker}
use Rattle.proof_sentences.specs.Sentences.{NeverMoved}
use Rattle.proof_sentences.specs.declared.sentences.BalanceFact.TheVariants.{Homeless}
use Rattle.proof_sentences.specs.declared.sentences.Sentence.TheVariants.{OnBalance, Settled}
use Rattle.proof_sentences.proofs.Adding.{adds-two}
use Rattle.proof_sentences.proofs.Homeless.{homeless-says}
use Rattle.proof_sentences.proofs.balancing.push_homeless.Goals as goal

pub push_sentence-requires-2 : goal.push_sentence-requires-2
push_sentence-requires-2 c = homeless-says c.args.query.now c.args.set c.args.prices.now c.args.side c.requires.supports c.requires.homeless

pub returns : goal.returns
returns c =
    let never : NeverMoved c.args.query.now c.args.set = (c.requires.supports.settled.frozen, c.requires.supports.settled.as_array) in
    IfOk-weaker c.push_sentence-2.result _ _
    (λ done words. adds-two c.args.query.now (Settled c.args.set) (OnBalance (Homeless c.args.side c.args.set)) c.args.out.now.items _ _ never
    (homeless-says c.args.query.now c.args.set c.args.prices.now c.args.side c.requires.supports c.requires.homeless) c.in_ok-push_sentence.ensures words)
    c.push_sentence-2.ensures
