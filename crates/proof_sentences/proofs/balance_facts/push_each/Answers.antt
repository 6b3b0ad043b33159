use Rattle.std.proofs.Common.{◌++◌}
use Rattle.std.proofs.lemmas.Result.{IfOk-weaker}
use Rattle.std.specs.Prelude.{codes}
use Rattle.prose_words.proofs.Squares.{thence}
use Rattle.board_base.specs.Board.{array_of}
use Rattle.board_base.specs.declared.men.Colour.TheVariants.{White, Black}
use Rattle.balance_rule.specs.Balance.{men_on}
use Rattle.proof_sentences.specs.Sentences.{most_words, net_words}
use Rattle.proof_sentences.proofs.balance_facts.push_each.Goals as goal

pub returns : goal.returns
returns c =
    let h0 = rw (c.begun_with.ensures.number) at c.in_ok-push_net.ensures in
    let h1 = thence c.args.out.now.items _ _ (net_words White c.args.white (men_on White (array_of c.args.odds))) (codes ", and ") h0 (c.in_ok-say.ensures) in
    let h2 = thence c.args.out.now.items _ _ ((net_words White c.args.white (men_on White (array_of c.args.odds))) ++ (codes ", and ")) (net_words Black c.args.black (men_on Black (array_of c.args.odds))) h1 (rw (c.begun_with-2.ensures.number) at c.in_ok-push_net-2.ensures) in
    IfOk-weaker c.push_most.result _ _ (λ done words. thence c.args.out.now.items _ _ (((net_words White c.args.white (men_on White (array_of c.args.odds))) ++ (codes ", and ")) ++ (net_words Black c.args.black (men_on Black (array_of c.args.odds)))) (most_words c.args.gates) h2 words) c.push_most.ensures
