-- What fixed figures surely touch, and from where a man touches a fixed king.
use Rattle.std.specs.Prelude.{ℕ, Bool, false, ◌&&◌, ◌||◌, List, Option, Some, None}
use Rattle.std.specs.List.{list_all, list_any, range_with_len}
use Rattle.board_base.specs.Board.{is_in, no_men, opponent, same_colour, same_kind}
use Rattle.board_base.specs.Attacks.{kind_attacks}
use Rattle.board_base.specs.declared.men.Colour.{Colour}
use Rattle.board_base.specs.declared.men.Kind.{Kind}
use Rattle.board_base.specs.declared.men.Kind.TheVariants.{Knight, King}
use Rattle.cage_rules.specs.Frozen.{is_next}
use Rattle.cage_rules.specs.Sets.{squares_that}
use Rattle.past_sketches.specs.Figures.{Figure, Sketch, is_fixed_on}

-- Articles 3.2 to 3.8: a man of this colour and kind on q attacks s, and no square lies between
unfoldable pub touches : Colour → Kind → ℕ → ℕ → Bool
touches c k q s = kind_attacks no_men c k q s && (same_kind Knight k || is_next q s)

-- the figure is fixed on q, and touches s from there whichever of his kinds he is
abbrev pub touches_from : Figure → ℕ → ℕ → Bool
touches_from f s q = is_fixed_on q f && list_all (λ k. touches f.colour k q s) f.kinds

-- the squares that some fixed figure of this colour surely touches
unfoldable pub touched_squares : Sketch → Colour → List Bool
touched_squares T c = squares_that (λ s. list_any (λ f. same_colour c f.colour && list_any (touches_from f s) (range_with_len 0 64)) T)

-- the figure is a king of this colour, and fixed on q
abbrev pub is_king_on : Colour → ℕ → Figure → Bool
is_king_on c q f = same_colour c f.colour && is_fixed_on q f && list_all (same_kind King) f.kinds

-- the squares on which a king of this colour is fixed
unfoldable pub kings_of : Sketch → Colour → List Bool
kings_of T c = squares_that (λ q. list_any (is_king_on c q) T)

-- the squares from which a man of this colour and kind touches one of the set
abbrev pub squares_touching : List Bool → Colour → Kind → List Bool
squares_touching set c k = squares_that (λ e. list_any (λ q. is_in set q && touches c k e q) (range_with_len 0 64))

-- those from which he touches a fixed enemy king
unfoldable pub guarded_squares : Sketch → Colour → Kind → List Bool
guarded_squares T c k = squares_touching (kings_of T (opponent c)) c k

-- the sets have a square in common
abbrev pub do_meet : List Bool → List Bool → Bool
do_meet a b = list_any (λ q. is_in a q && is_in b q) (range_with_len 0 64)

-- a fixed figure of this colour surely touches a fixed enemy king
unfoldable pub gives_check : Sketch → Colour → Bool
gives_check T c = do_meet (kings_of T (opponent c)) (touched_squares T c)

-- a figure of this one's colour does
abbrev pub side_checks : Sketch → Option Figure → Bool
side_checks T None = false
side_checks T (Some f) = gives_check T f.colour
