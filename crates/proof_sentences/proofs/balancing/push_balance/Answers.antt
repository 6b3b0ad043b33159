use Rattle.std.proofs.Common.{subst, sym}
use Rattle.std.specs.Prelude.{IfOk, Option}
use Rattle.board_base.specs.declared.men.Colour.{Colour}
use Rattle.proof_sentences.specs.Reasons.{TellsBy}
use Rattle.proof_sentences.proofs.balancing.push_balance.Goals as goal

pub push_homeless-requires : goal.push_homeless-requires
push_homeless-requires c = record {
  supports = c.requires;
  homeless = sym c.in-Some.ensures;
}

pub returns-in-Some : goal.returns-in-Some
returns-in-Some c =
    subst (λ (o : Option Colour). IfOk c.push_homeless.result (λ _. TellsBy c.args.numbers o c.args.first c.args.query.now c.args.set c.args.prices.now c.args.out.now.items c.push_homeless.new.out.items)) c.in-Some.ensures c.push_homeless.ensures

pub returns-in-None : goal.returns-in-None
returns-in-None c =
    subst (λ (o : Option Colour). IfOk c.push_by_prices.result (λ _. TellsBy c.args.numbers o c.args.first c.args.query.now c.args.set c.args.prices.now c.args.out.now.items c.push_by_prices.new.out.items)) c.in-None.ensures c.push_by_prices.ensures
