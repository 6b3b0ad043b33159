-- Inner: no public clause cites this file.
-- The answers that tell what a search came to.
use Rattle.std.specs.Prelude.{ℕ, ◌≡◌, ◌↔◌, false, true, Result, Ok, Err, List, map, reverse}
use Rattle.board_base.specs.declared.moves.Move.{Move}
use Rattle.query_base.specs.Asked.{Asked}
use Rattle.query_base.specs.Reach.{Contradicts, Reaches}
use Rattle.query_base.specs.Targets.{target}
use Rattle.query_base.specs.declared.claims.Claim.{Claim}
use Rattle.cert_text.specs.declared.certificates.Cert.{Cert}
use Rattle.cert_text.specs.declared.nodes.Node.{Node}
use Rattle.retro_search.specs.Attempts.{ComesTo, IsPaidSearch}
use Rattle.retro_search.specs.Tidy.{IsFresh}
use Rattle.retro_search.specs.declared.answers.Found.{Found}
use Rattle.retro_search.specs.declared.answers.Found.TheVariants as found
use Rattle.retro_search.specs.declared.refutations.Refutation.{Refutation}
use Rattle.retro_search.specs.declared.runs.Reasons.TheVariants.{RuleLines}
use Rattle.retro_search.specs.declared.runs.Run.{Run as ARun}
use Rattle.retro_search.specs.declared.unrefuted.OpenLine.{OpenLine}
use Rattle.retro_search.specs.declared.unrefuted.Unrefuted.{Unrefuted}
use Rattle.retro_search.specs.declared.unrefuted.Unrefuted.TheVariants as why

-- the open line itself, or the game that it is where it ends at the array
abbrev pub TellsOpenLine : OpenLine → Found → Type 0
TellsOpenLine line (found.Proved cert) = ⊥
TellsOpenLine line (found.Undecided l) = (l ≡ reverse line.back.items) × (line.at_array ≡ false)
TellsOpenLine line (found.Countered game) = (game ≡ map (λ u. u.mv) line.back.items) × (line.at_array ≡ true)
TellsOpenLine line (found.Spent n) = ⊥

-- the certificate of the claim about the query with this root
abbrev pub certificate : Claim → Asked → Node → Cert
certificate claim q root = record { claim = claim; query = q; root = root }

-- what is answered of the claim about the query, where the search of its target came to this with so many nodes
abbrev pub Tells : Claim → Asked → ℕ → Result Refutation Unrefuted → Found → Type 0
Tells claim q nodes came (found.Proved cert) = (r : Refutation) × (came ≡ Ok r) × (cert ≡ certificate claim q r.node)
Tells claim q nodes came (found.Undecided l) = (line : OpenLine) × (came ≡ Err (why.Open line)) × TellsOpenLine line (found.Undecided l)
Tells claim q nodes came (found.Countered game) = (line : OpenLine) × (came ≡ Err (why.Open line)) × TellsOpenLine line (found.Countered game)
Tells claim q nodes came (found.Spent n) = (came ≡ Err why.Spent) × (n ≡ nodes)

-- the answer tells what a search of the claim's target came to, with what the run had at hand
pub record IsTold (depth nodes : ℕ) (run : ARun) (claim : Claim) (q : Asked) (answer : Found) : Type 0 where
  pub came : Result Refutation Unrefuted
  pub tells : Tells claim q nodes came answer
  pub comes : ComesTo came (target q claim) depth nodes run.reasons
  pub lone : run.reasons ≡ RuleLines → IsFresh run.memo → IsPaidSearch came (target q claim) depth nodes
  pub contradicted : (game : List Move) → Reaches game (target q claim) ↔ Contradicts game claim q
