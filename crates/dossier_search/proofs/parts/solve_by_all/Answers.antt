use Rattle.std.proofs.Common.{ℕ, List}
use Rattle.board_base.specs.declared.moves.Move.{Move}
use Rattle.query_base.specs.Asked.{Asked}
use Rattle.query_base.specs.Targets.{target}
use Rattle.query_base.specs.declared.claims.Claim.{Claim}
use Rattle.retro_search.specs.Plain.{HasPlainSketch}
use Rattle.retro_search.specs.Unsettled.{IsAgainst}
use Rattle.retro_search.proofs.Contradicted.{contradiction-reaches}
use Rattle.retro_search.proofs.Unsketched.{plain-unreached}
use Rattle.dossier_search.proofs.parts.solve_by_all.Goals as goal

-- a game contradicts no claim whose target one node of a sketch refutes
unsketched : (game : List Move) (claim : Claim) (q : Asked) (depth : ℕ) → IsAgainst game claim q depth → HasPlainSketch (target q claim) → ⊥
unsketched game claim q depth against has = plain-unreached (target q claim) has game (contradiction-reaches game claim q against.contradicts)

pub returns-in-Countered-clause-unsketched : goal.returns-in-Countered-clause-unsketched
returns-in-Countered-clause-unsketched c none has = unsketched _ c.args.claim.now c.args.query.now _ (rw c.in-Countered.is at c.in_ok-cert.ensures.countered) has
