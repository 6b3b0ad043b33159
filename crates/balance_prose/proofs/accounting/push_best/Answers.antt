use Rattle.std.proofs.Common.{◌++◌, refl}
use Rattle.std.proofs.lemmas.Result.{IfOk-equal}
use Rattle.std.specs.Prelude.{codes, drop}
use Rattle.std.specs.Fmt.{decimal}
use Rattle.prose_words.proofs.Squares.{thence}
use Rattle.balance_prose.proofs.accounting.push_best.Goals as goal

pub returns : goal.returns
returns c =
    let front = codes "That makes at least " ++ decimal c.args.n in
    let h1 = thence c.args.out.now.items _ _ front (codes ":") c.in_ok-push_at_least.ensures c.in_ok-say.ensures in
    IfOk-equal c.say-2.result c.say-2.new.out.items _ _ (rw c.rest_of.ensures at c.say-2.ensures)
    (thence c.args.out.now.items _ _ (front ++ codes ":") (drop 1 c.args.ways.now) h1 refl)
