use Rattle.std.proofs.Common.{◌++◌}
use Rattle.std.proofs.lemmas.Result.{IfOk-weaker}
use Rattle.std.specs.Prelude.{codes, drop}
use Rattle.prose_words.proofs.Squares.{thence}
use Rattle.proof_sentences.specs.Sentences.{counted}
use Rattle.proof_sentences.proofs.pawn_facts.push_few.Goals as goal

pub returns : goal.returns
returns c =
    let made = codes "'s pawns have made at least " ++ counted c.args.captures (codes " capture") (codes " captures") ++ codes ". A cheapest way:" in
    let ways = thence c.args.out.now.items _ _ made (drop 1 c.args.ways.now) c.in_ok-push_made.ensures (rw c.rest_of.ensures at c.in_ok-say.ensures) in
    IfOk-weaker c.say-2.result _ _ (λ done words. thence c.args.out.now.items _ _ (made ++ drop 1 c.args.ways.now) (codes ". ") ways words) c.say-2.ensures
