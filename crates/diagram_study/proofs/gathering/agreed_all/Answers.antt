use Rattle.diagram_study.proofs.Gathered.{all_gathered}
use Rattle.diagram_study.proofs.gathering.agreed_all.Goals as goal

pub returns : goal.returns
returns c =
    let most = c.args.subject.now.limits.depth in
    let nodes = c.args.subject.now.limits.nodes in
    all_gathered c.parts_make_lines_hold.ensures c.args.subject.now.query most nodes c.args.games.now.found.items c.args.gathered _ c.requires.sought (c.agreed-illegal.ensures.agrees most nodes c.requires.sought.illegal) c.agreed-illegal.ensures.proved c.in_ok-rights.ensures.rights c.in_ok-rights.ensures.proved
    (c.in_ok-rights.ensures.found most nodes c.requires.sought.rights) c.in_ok-pairs.ensures.pairs (c.in_ok-pairs.ensures.found most nodes c.requires.sought.pairs)
