use Rattle.std.proofs.lemmas.Result.{IfOk-weaker}
use Rattle.balance_prose.specs.Accounts.{CountTooMany}
use Rattle.proof_sentences.specs.Sentences.{NeverMoved}
use Rattle.proof_sentences.specs.declared.sentences.BalanceFact.TheVariants.{Best, Counted}
use Rattle.proof_sentences.specs.declared.sentences.Sentence.TheVariants.{OnBalance, Settled}
use Rattle.proof_sentences.proofs.Adding.{adds-three}
use Rattle.proof_sentences.proofs.balancing.push_counted.Goals as goal

pub push_sentence-requires-2 : goal.push_sentence-requires-2
push_sentence-requires-2 c = ((c.requires.1.settled.frozen, c.requires.1.settled.as_array), c.requires.0, c.one_treads.ensures c.args.query.now.odds)

pub push_sentence-requires-3 : goal.push_sentence-requires-3
push_sentence-requires-3 c =
    ((c.requires.1.settled.frozen, c.requires.1.settled.as_array), c.balance_counts_too_many.ensures c.args.query.now c.args.set c.args.prices.now c.least_homes-white.result.items c.least_homes-black.result.items c.requires.1 c.least_homes-white.ensures.least c.least_homes-black.ensures.least)

pub returns : goal.returns
returns c =
    let never : NeverMoved c.args.query.now c.args.set = (c.requires.1.settled.frozen, c.requires.1.settled.as_array) in
    let best : CountTooMany c.args.query.now c.args.prices.now c.args.set c.least_homes-white.result.items c.least_homes-black.result.items =
    c.balance_counts_too_many.ensures c.args.query.now c.args.set c.args.prices.now c.least_homes-white.result.items c.least_homes-black.result.items c.requires.1 c.least_homes-white.ensures.least c.least_homes-black.ensures.least in
    IfOk-weaker c.push_sentence-3.result _ _ (λ done words. (
      c.least_homes-white.result,
      c.least_homes-black.result,
      c.least_homes-white.ensures.first,
      c.least_homes-black.ensures.first,
      adds-three c.args.query.now (Settled c.args.set) (OnBalance (Counted c.args.set c.args.prices.now)) (OnBalance (Best c.args.set c.args.prices.now c.least_homes-white.result c.least_homes-black.result c.args.first c.args.numbers)) c.args.out.now.items _ _ _ never
          (never, c.requires.0, c.one_treads.ensures c.args.query.now.odds) (never, best) c.in_ok-push_sentence.ensures c.in_ok-push_sentence-2.ensures words,
    )) c.push_sentence-3.ensures
