-- What is told of a position's ledger besides, if a right to castle is held.
use Rattle.std.specs.Prelude.{◌≡◌, ◌⊎◌, List, [], ◌∷◌}
use Rattle.std.specs.List.{Contains}
use Rattle.board_base.specs.Rights.{with_castling}
use Rattle.board_base.specs.declared.castles.Castle.{Castle}
use Rattle.query_base.specs.Asked.{Asked}
use Rattle.ledger_lines.specs.declared.lines.Line.{Line}
use Rattle.ledger_told.specs.Told.{TellsLines}

-- the query with a castling added to those that it demands
abbrev pub with_held : Asked → Castle → Asked
with_held q x = record q { held = with_castling q.held x }

-- the news are those of these lines that aren't known already, in order
abbrev pub AreNews : List Line → List Line → List Line → Type 0
AreNews known [] news = news ≡ []
AreNews known (x ∷ xs) news =
    (others : List Line) × AreNews known xs others × ((Contains known x × (news ≡ others)) ⊎ ((Contains known x → ⊥) × (news ≡ x ∷ others)))

-- the lines that are told if the castling is held, but for those that are known already
pub record TellsIf (q : Asked) (known : List Line) (x : Castle) (news : List Line) : Type 0 where
  pub lines : List Line
  pub told : TellsLines (with_held q x) lines
  pub are : AreNews known lines news
