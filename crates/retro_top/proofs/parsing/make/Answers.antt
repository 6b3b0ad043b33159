use Rattle.retro_top.proofs.Parsed.{three-told, two-told}
use Rattle.retro_top.proofs.parsing.make.Goals as goal

pub returns-in-len2 : goal.returns-in-len2
returns-in-len2 c =
    two-told c.args.calls c.in-Search.search c.in-Search.usual c.args.words.now c.depth-item.result c.nodes-item.result c.read_limits.result c.in-Search.is c.in-len2.len_at_least c.in-len2.len_below c.depth-item.is c.nodes-item.is c.read_limits.ensures

pub returns-in-len3 : goal.returns-in-len3
returns-in-len3 c =
    three-told c.args.calls c.args.words.now c.start-item.result c.games-item.result c.plies-item.result c.read_sample.result c.in-Sample.is c.in-len3.len_at_least c.in-len3.len_below c.start-item.is c.games-item.is c.plies-item.is c.read_sample.ensures
