-- What is to be shown of a claim of several steps: claims of one query each.
use Rattle.std.specs.Prelude.{Bool, ◌&&◌, not, List, [], ◌∷◌, ◌++◌, map, Some}
use Rattle.std.specs.Bool.{beq}
use Rattle.std.specs.List.{filter}
use Rattle.board_base.specs.Legal.{is_move, same_promo}
use Rattle.board_base.specs.Rights.{with_castling}
use Rattle.board_base.specs.declared.castles.Castle.{Castle}
use Rattle.board_base.specs.declared.unmoves.Unmove.{Unmove}
use Rattle.query_base.specs.Asked.{Asked}
use Rattle.query_base.specs.declared.claims.Claim.{Claim}
use Rattle.query_base.specs.declared.claims.Claim.TheVariants.{Illegal, Last}
use Rattle.unmove_gen.specs.Listed.{unmoves}
use Rattle.unmove_gen.specs.Predecessor.{predecessor}
use Rattle.line_claims.specs.declared.claims.LineClaim.{LineClaim}
use Rattle.line_claims.specs.declared.claims.LineClaim.TheVariants.{NotBoth, Line}

-- the second is another unmove of the first one's move: it differs in what was captured, or in whether that was en passant
abbrev pub is_other : Unmove → Unmove → Bool
is_other u v = is_move (Some u.mv) v.mv && not (same_promo u.captured v.captured && beq u.ep v.ep)

-- the other unmoves of the query that have this one's move, as they ascend
unfoldable pub siblings : Asked → Unmove → List Unmove
siblings q u = filter (is_other u) (unmoves q)

-- no game reaches what the unmove leaves
abbrev pub excluded : Asked → Unmove → Claim × Asked
excluded q u = (Illegal, predecessor q u)

-- the parts of one step: its move was the last, and each sibling is excluded
abbrev pub parts_of_step : Asked → Unmove → List (Claim × Asked)
parts_of_step q u = (Last u.mv, q) ∷ map (excluded q) (siblings q u)

-- the parts of the steps in order, each step taken back from what those before it leave
abbrev pub parts_of_steps : Asked → List Unmove → List (Claim × Asked)
parts_of_steps q [] = []
parts_of_steps q (u ∷ us) = parts_of_step q u ++ parts_of_steps (predecessor q u) us

-- the query with both castlings added to those held
abbrev pub with_both : Asked → Castle → Castle → Asked
with_both q x y = record q { held = with_castling (with_castling q.held x) y }

-- the parts due
abbrev pub parts_due : LineClaim → Asked → List (Claim × Asked)
parts_due (NotBoth x y) q = (Illegal, with_both q x y) ∷ []
parts_due (Line steps) q = parts_of_steps q steps
