use Rattle.past_sketches.specs.Figures.{sketch_of}
use Rattle.past_sketches.proofs.Queries.{query-fits}
use Rattle.past_account.proofs.Refutes.{no-game}
use Rattle.past_account.proofs.laws.refuted_sketches_fit_no_game.Goals as goal

pub returns-clause-sketches : goal.returns-clause-sketches
returns-clause-sketches c = no-game

pub returns-clause-queries : goal.returns-clause-queries
returns-clause-queries c o q refuted g leads =
    no-game o q.held (sketch_of q.board) refuted g (record { game = leads.game; rights = leads.held; fits = query-fits o g q leads })
