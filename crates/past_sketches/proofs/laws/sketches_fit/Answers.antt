use Rattle.past_sketches.proofs.Knowing.{kind-fits, mark-fits}
use Rattle.past_sketches.proofs.Queries.{query-fits}
use Rattle.past_sketches.proofs.Rearranged.{rearranged-fits}
use Rattle.past_sketches.proofs.Trimmed.{trim-fits}
use Rattle.past_sketches.proofs.Wider.{fits-wider}
use Rattle.past_sketches.proofs.laws.sketches_fit.Goals as goal

pub returns-clause-query : goal.returns-clause-query
returns-clause-query c = query-fits

pub returns-clause-wider : goal.returns-clause-wider
returns-clause-wider c = fits-wider

pub returns-clause-rearranged : goal.returns-clause-rearranged
returns-clause-rearranged c = rearranged-fits

pub returns-clause-trim : goal.returns-clause-trim
returns-clause-trim c = trim-fits

pub returns-clause-mark : goal.returns-clause-mark
returns-clause-mark c = mark-fits

pub returns-clause-kind : goal.returns-clause-kind
returns-clause-kind c o p T i f fits found =
    let his = fits.stand i f found in
    (his.1.kind, his.2.kind, kind-fits o p T i f fits found his.0 his.1 his.2)
