-- Inner: no public clause cites this file.
-- Quiet ways, as the ground tells them.
use Rattle.std.specs.Prelude.{ℕ, Bool, ◌&&◌, ◌||◌, not, List}
use Rattle.std.specs.List.{list_any, range_with_len}
use Rattle.board_base.specs.Board.{is_in, opponent}
use Rattle.board_base.specs.Attacks.{kind_attacks, on_the_way, one_ahead}
use Rattle.board_base.specs.declared.men.Colour.{Colour}
use Rattle.board_base.specs.declared.men.Kind.{Kind}
use Rattle.board_base.specs.declared.men.Kind.TheVariants.{Pawn, Knight, Bishop, Rook, Queen, King}
use Rattle.figures.specs.Frozen.{is_past_home}
use Rattle.figures.specs.Regions.{walls}
use Rattle.figures.specs.Touching.{touches}
use Rattle.sketch_sets.specs.declared.ground.Ground.{Ground}
use Rattle.sketch_sets.specs.Files.{straight}
use Rattle.sketch_sets.specs.Grounds.{kings, touched}

-- from e a man of this colour and kind touches the square of a fixed enemy king
unfoldable pub guards_on : Ground → Colour → Kind → ℕ → Bool
guards_on g c k e = list_any (λ q. is_in (kings g (opponent c)) q && touches c k e q) (range_with_len 0 64)

-- a pawn goes straight on, over a square that isn't of the fixed if it goes two
unfoldable pub pawn_past : List Bool → Colour → ℕ → ℕ → Bool
pawn_past fixed c e s = straight c e s && (one_ahead c e s || not (is_in fixed (on_the_way e s 1)))

unfoldable pub goes_on : Ground → Colour → Kind → ℕ → ℕ → Bool
goes_on g c Pawn e s = is_past_home c s && pawn_past g.fixed c e s
goes_on g c King e s = kind_attacks (walls g.fixed) c King e s && not (is_in (touched g (opponent c)) s)
goes_on g c Knight e s = kind_attacks (walls g.fixed) c Knight e s
goes_on g c Bishop e s = kind_attacks (walls g.fixed) c Bishop e s
goes_on g c Rook e s = kind_attacks (walls g.fixed) c Rook e s
goes_on g c Queen e s = kind_attacks (walls g.fixed) c Queen e s

unfoldable pub quiet_on : Ground → Colour → Kind → ℕ → ℕ → Bool
quiet_on g c k e s = not (is_in g.fixed e) && (not (is_in g.held s) && (not (guards_on g c k e) && goes_on g c k e s))
