use Rattle.std.proofs.Common.{◌<◌, ◌+◌}
use Rattle.std.proofs.lemmas.Result.{IfOk-weaker}
use Rattle.balance_rule.specs.Balance.{most_cost}
use Rattle.proof_sentences.specs.Sentences.{NeverMoved}
use Rattle.proof_sentences.specs.declared.sentences.BalanceFact.TheVariants.{Balanced, Priced}
use Rattle.proof_sentences.specs.declared.sentences.Sentence.TheVariants.{OnBalance, Settled}
use Rattle.proof_sentences.proofs.Adding.{adds-three, some-given}
use Rattle.proof_sentences.proofs.balancing.push_priced.Goals as goal

pub unwrap-white-requires : goal.unwrap-white-requires
unwrap-white-requires c = some-given _ _ _ c.side_cost.ensures.value c.requires.white

pub unwrap-black-requires : goal.unwrap-black-requires
unwrap-black-requires c = some-given _ _ _ c.side_cost-2.ensures.value c.requires.black

pub push_sentence-requires-3 : goal.push_sentence-requires-3
push_sentence-requires-3 c =
    let white = (rw c.unwrap-white.ensures at c.side_cost.ensures.value).1 in
    let black = (rw c.unwrap-black.ensures at c.side_cost-2.ensures.value).1 in
    ((c.requires.settled.frozen, c.requires.settled.as_array), white, black, rw (white, black) c.requires.above, c.requires.white, c.requires.black)

pub returns : goal.returns
returns c =
    let never : NeverMoved c.args.query.now c.args.set = (c.requires.settled.frozen, c.requires.settled.as_array) in
    let white = (rw c.unwrap-white.ensures at c.side_cost.ensures.value).1 in
    let black = (rw c.unwrap-black.ensures at c.side_cost-2.ensures.value).1 in
    let above : most_cost c.args.query.now.odds c.args.prices.now < c.unwrap-white.result + c.unwrap-black.result = rw (white, black) c.requires.above in
    IfOk-weaker c.push_sentence-3.result _ _ (λ done words. (
      c.unwrap-white.result,
      c.unwrap-black.result,
      adds-three c.args.query.now (Settled c.args.set) (OnBalance (Priced c.args.set c.args.prices.now)) (OnBalance (Balanced c.args.set c.args.prices.now c.unwrap-white.result c.unwrap-black.result c.args.numbers)) c.args.out.now.items _ _ _ never never
          (never, white, black, above, c.requires.white, c.requires.black) c.in_ok-push_sentence.ensures c.in_ok-push_sentence-2.ensures words,
    )) c.push_sentence-3.ensures
