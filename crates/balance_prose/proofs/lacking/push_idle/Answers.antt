use Rattle.std.proofs.Common.{◌∙◌, arith}
use Rattle.prose_words.proofs.Squares.{flat_more, flat_whole}
use Rattle.balance_prose.specs.AccountWords.{idle_if, idle_words}
use Rattle.balance_prose.proofs.lacking.push_idle.Goals as goal

pub loop-j-preserved : goal.loop-j-preserved
loop-j-preserved c =
    rw (c.is_idle.ensures, c.home_of.ensures) at c.in_ok-push_square_if.ensures ∙ flat_more (idle_if c.args.side c.args.gone.now c.args.homes.now) c.args.list.now.items _ _ c.loop-j.invariant

pub returns : goal.returns
unfolding idle_words
returns c = flat_whole (idle_if c.args.side c.args.gone.now c.args.homes.now) c.args.list.now.items _ _ 16 c.loop-j.invariant (omega arith)
