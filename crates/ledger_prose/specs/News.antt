-- Lines of men who never moved, without those of whom other lines say so.
use Rattle.std.specs.Prelude.{ℕ, ◌&&◌, Bool, false, not, List}
use Rattle.std.specs.List.{list_any}
use Rattle.board_base.specs.Board.{is_in}
use Rattle.cage_rules.specs.Sets.{squares_that}
use Rattle.ledger_lines.specs.declared.lines.Line.{Line}
use Rattle.ledger_lines.specs.declared.lines.Line.TheVariants as line

-- the line says of whoever stands on s that he never moved
abbrev pub says_unmoved : ℕ → Line → Bool
says_unmoved s (line.Unmoved set) = is_in set s
says_unmoved s _ = false

-- s is in the set, and none of the lines says of whoever stands there that he never moved
abbrev pub is_news : List Line → List Bool → ℕ → Bool
is_news known set s = is_in set s && not (list_any (says_unmoved s) known)

-- the line with only those men who never moved of whom none of these lines says so
abbrev pub news_of : List Line → Line → Line
news_of known (line.Unmoved set) = line.Unmoved (squares_that (is_news known set))
news_of known x = x
