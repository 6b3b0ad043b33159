-- The rights that a position seems to give.
use Rattle.std.specs.Prelude.{◌≡◌, List, ◌++◌, map}
use Rattle.std.specs.List.{filter}
use Rattle.board_base.specs.Board.{Places}
use Rattle.board_base.specs.declared.men.Colour.{Colour}
use Rattle.board_base.specs.declared.moves.Move.{Move}
use Rattle.board_base.specs.Play.{all_castles}
use Rattle.castle_history.specs.Homes.{are_at_home}
use Rattle.ep_history.specs.Fits.{ep_fits}
use Rattle.play_rules.specs.Listed.{IsAscending, ListsAll}
use Rattle.query_base.specs.declared.claims.Claim.{Claim}
use Rattle.query_base.specs.declared.claims.Claim.TheVariants.{Lost, Ep}
use Rattle.codex_verdict.specs.declared.kinds.Right.{Right}
use Rattle.codex_verdict.specs.declared.kinds.Right.TheVariants.{Castling, EnPassant}

-- what is to be proved of a right: that the castling is lost, or that the capture en passant is legal
abbrev pub claim_of : Right → Claim
claim_of (Castling x) = Lost x
claim_of (EnPassant m) = Ep m

-- First come the castlings whose king and rook stand at home (article 3.8.2), then the captures en passant by the side to move that
-- the board admits (article 3.7.3), by the order of moves.
pub record AreRights (board : Places) (turn : Colour) (rights : List Right) : Type 0 where
  pub captures : List Move
  pub rights_are : rights ≡ map (λ x. Castling x) (filter (are_at_home board) all_castles) ++ map (λ m. EnPassant m) captures
  pub ascending : IsAscending captures
  pub all : ListsAll (ep_fits board turn) captures
