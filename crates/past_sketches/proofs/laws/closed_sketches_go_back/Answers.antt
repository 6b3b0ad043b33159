use Rattle.past_sketches.proofs.Back.{fits-before}
use Rattle.past_sketches.proofs.Checks.{step-calm}
use Rattle.past_sketches.proofs.Climbing.{steps-back}
use Rattle.past_sketches.proofs.laws.closed_sketches_go_back.Goals as goal

pub returns-clause-quiet : goal.returns-clause-quiet
returns-clause-quiet c o p m held exact T it closed quiet =
    fits-before o p m held exact T (record { game = it.game; rights = it.rights; fits = it.fits; closed = closed }) (λ i f found label. quiet)

pub returns-clause-steps : goal.returns-clause-steps
returns-clause-steps c o p m held exact T it closed =
    steps-back o p m held exact T (record { game = it.game; rights = it.rights; fits = it.fits; closed = closed })

pub returns-clause-calm : goal.returns-clause-calm
returns-clause-calm c = step-calm
