-- Which retractions of a query are left.
use Rattle.std.specs.Prelude.{ℕ, ◌≡◌, ◌≤◌, ◌-◌, cond, IfSome, IsTrue, List, [], ◌∷◌, ◌++◌, Option, Some, None}
use Rattle.std.specs.List.{Contains, list_all}
use Rattle.std.specs.Option.{option_map}
use Rattle.board_base.specs.Legal.{is_move}
use Rattle.board_base.specs.declared.moves.Move.{Move}
use Rattle.board_base.specs.declared.unmoves.Unmove.{Unmove}
use Rattle.query_base.specs.Asked.{Asked}
use Rattle.query_base.specs.Reach.{Reaches}
use Rattle.query_base.specs.declared.claims.Claim.TheVariants.{Illegal, Last}
use Rattle.unmove_gen.specs.Predecessor.{predecessor, unmove_after}
use Rattle.unmove_gen.specs.Listed.{unmoves}
use Rattle.claim_findings.specs.Outcome.{Outcome}
use Rattle.claim_findings.specs.Findings.{IsFound, IsOutcome, is_proved, is_refuted}
use Rattle.diagram_study.specs.declared.retractions.MoveFound.{MoveFound}

-- Of these unmoves of the query those are left whose predecessor the search doesn't refute, in order.
abbrev pub AreLeft : Asked → ℕ → ℕ → List Unmove → List Unmove → Type 0
AreLeft q depth nodes [] left = left ≡ []
AreLeft q depth nodes (u ∷ us) left =
    (outcome : Outcome) × (others : List Unmove) × IsOutcome (predecessor q u) Illegal depth nodes outcome × AreLeft q depth nodes us others × (left ≡ cond (is_refuted outcome) others (u ∷ others))

-- each game that reaches the query, and has a move, ends with the move of one of these unmoves, with what it captured
abbrev pub EndsAmong : Asked → List Unmove → Type 0
EndsAmong q left = (g : List Move) (m : Move) → Reaches (g ++ m ∷ []) q → Contains left (unmove_after q.odds g m)

-- Which unmoves of the query are left where what is before them is searched one move less far; each game ends among them.
pub record HasLeft (q : Asked) (most nodes : ℕ) (left : List Unmove) : Type 0 where
  pub are : AreLeft q (most - 1) nodes (unmoves q) left
  pub games : EndsAmong q left

-- the move of all these unmoves, if it is one
unfoldable pub one_move : List Unmove → Option Move
one_move [] = None
one_move (u ∷ us) = cond (list_all (λ v. is_move (Some u.mv) v.mv) (u ∷ us)) (Some u.mv) None

-- What was found of the claim that this was the last move, which it was of all unmoves that are left: where a move may be taken back, and
-- the game of no moves doesn't reach the query, it is proved.
pub record IsMoveFound (q : Asked) (most nodes : ℕ) (f : MoveFound) : Type 0 where
  pub found : IsFound q (Last f.mv) most nodes f.finding
  pub sure : 1 ≤ most → (Reaches [] q → ⊥) → IsTrue (is_proved f.finding)

-- what was found of the last move: of that of all these unmoves, if it is one
pub record IsLastFound (q : Asked) (most nodes : ℕ) (left : List Unmove) (last : Option MoveFound) : Type 0 where
  pub one : option_map (λ f. f.mv) last ≡ one_move left
  pub found : IfSome last (IsMoveFound q most nodes)
