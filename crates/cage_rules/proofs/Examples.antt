-- What the definitions say on boards that are written out.
use Rattle.std.proofs.Common.{◌≡◌, ℕ, ◌<◌, ◌==◌, Bool, true, false, List, [], ◌∷◌, set, refl, ap, sym, ◌∙◌, arith}
use Rattle.std.proofs.lemmas.Bool.{agree_below_at, eqb-true}
use Rattle.board_base.specs.Board.{Places, initial_array, is_in, man, no_men}
use Rattle.board_base.specs.Attacks.{distance, kind_attacks, king_distance, on_the_way, toward}
use Rattle.board_base.specs.Squares.{squares_of}
use Rattle.board_base.specs.declared.men.Colour.{Colour}
use Rattle.board_base.specs.declared.men.Colour.TheVariants.{White, Black}
use Rattle.board_base.specs.declared.men.Kind.{Kind}
use Rattle.board_base.specs.declared.men.Kind.TheVariants.{Pawn, Knight, Bishop, Rook, Queen, King}
use Rattle.cage_rules.specs.Frozen.{is_entry, must_be_in}
use Rattle.board_base.specs.SquareNumbers.{length-squares_of}
use Rattle.cage_rules.specs.Regions.{beginner, is_closed, is_exposed, region, walls}
use Rattle.cage_rules.proofs.Regions.{only-region}
use Rattle.cage_rules.proofs.Tested.{member-inside}

-- one man alone on the board
abbrev alone : Colour → Kind → ℕ → Places
alone c k s = set no_men s (man c k)

-- a knight on a1 may have come from c2 and b3
knight_in_corner : must_be_in (alone White Knight 0) 0 ≡ 10 ∷ 17 ∷ []
unfolding must_be_in is_entry distance king_distance
knight_in_corner = refl

-- a white knight on a8 besides as a pawn from a7 and b7
knight_on_last_rank : must_be_in (alone White Knight 56) 56 ≡ 41 ∷ 48 ∷ 49 ∷ 50 ∷ []
unfolding must_be_in is_entry distance king_distance
knight_on_last_rank = refl

-- a black knight on a8 hasn't
black_knight_on_a8 : must_be_in (alone Black Knight 56) 56 ≡ 41 ∷ 50 ∷ []
unfolding must_be_in is_entry distance king_distance
black_knight_on_a8 = refl

-- a white bishop on c8 crossed b7 or d7, or was promoted there and came from b7, c7 or d7
promoted_bishop : must_be_in (alone White Bishop 58) 58 ≡ 49 ∷ 50 ∷ 51 ∷ []
unfolding must_be_in is_entry distance king_distance
promoted_bishop = refl

-- a bishop on h1 crossed g2
cornered_bishop : must_be_in (alone White Bishop 7) 7 ≡ 14 ∷ []
unfolding must_be_in is_entry distance king_distance
cornered_bishop = refl

-- a white bishop on c1 crossed b2 or d2
home_bishop : must_be_in (alone White Bishop 2) 2 ≡ 9 ∷ 11 ∷ []
unfolding must_be_in is_entry distance king_distance
home_bishop = refl

-- a black bishop on c1 may also have been promoted there, from b2, c2 or d2
black_bishop_on_c1 : must_be_in (alone Black Bishop 2) 2 ≡ 9 ∷ 10 ∷ 11 ∷ []
unfolding must_be_in is_entry distance king_distance
black_bishop_on_c1 = refl

-- a rook on a1 crossed b1 or a2, or came from there
cornered_rook : must_be_in (alone White Rook 0) 0 ≡ 1 ∷ 8 ∷ []
unfolding must_be_in is_entry distance king_distance
cornered_rook = refl

-- a queen on e4 came over one of the eight squares next to it
queen_on_e4 : must_be_in (alone Black Queen 28) 28 ≡ 19 ∷ 20 ∷ 21 ∷ 27 ∷ 29 ∷ 35 ∷ 36 ∷ 37 ∷ []
unfolding must_be_in is_entry distance king_distance
queen_on_e4 = refl

-- a king on h8 came from g7, h7 or g8, and he isn't promoted
cornered_king : must_be_in (alone White King 63) 63 ≡ 54 ∷ 55 ∷ 62 ∷ []
unfolding must_be_in is_entry distance king_distance
cornered_king = refl

-- a white pawn on a2 came from nowhere, and one on a3 from a2 or b2
home_pawn : must_be_in (alone White Pawn 8) 8 ≡ []
unfolding must_be_in is_entry distance king_distance
home_pawn = refl

stepped_pawn : must_be_in (alone White Pawn 16) 16 ≡ 8 ∷ 9 ∷ []
unfolding must_be_in is_entry distance king_distance
stepped_pawn = refl

-- a white pawn on e7 came from d6, e6 or f6
far_pawn : must_be_in (alone White Pawn 52) 52 ≡ 43 ∷ 44 ∷ 45 ∷ []
unfolding must_be_in is_entry distance king_distance
far_pawn = refl

-- a black pawn on e7 came from nowhere, and one on e2 from d3, e3 or f3
black_home_pawn : must_be_in (alone Black Pawn 52) 52 ≡ []
unfolding must_be_in is_entry distance king_distance
black_home_pawn = refl

black_far_pawn : must_be_in (alone Black Pawn 12) 12 ≡ 19 ∷ 20 ∷ 21 ∷ []
unfolding must_be_in is_entry distance king_distance
black_far_pawn = refl

-- an empty square needs nobody
nobody : must_be_in no_men 28 ≡ []
unfolding must_be_in
nobody = refl

abbrev squares : ℕ → List Bool
squares = squares_of

-- behind men on b2 and d2 the bishop of c1 goes nowhere, so his region is c1
c1_closed : is_closed (squares 2560) (beginner 2) (squares 4) ≡ true
unfolding is_closed beginner initial_array squares_of walls kind_attacks on_the_way toward king_distance distance
c1_closed = refl

only_c1 : (s : ℕ) → is_in (squares 4) s ≡ true → s ≡ 2
unfolding squares_of
only_c1 s member =
    let inside : s < 64 = member-inside (squares 4) s (length-squares_of 4) member in
    eqb-true s 2 (sym (agree_below_at (is_in (squares 4)) (λ x. x == 2) 64 s refl inside) ∙ member)

c1_home : is_in (squares 4) 2 ≡ true
unfolding squares_of
c1_home = refl

c1_alone : squares 4 ≡ region (squares 2560) 2
c1_alone = only-region (squares 2560) (beginner 2) 2 (squares 4) (omega arith) (record {
  size = length-squares_of 4;
  home = c1_home;
  closed = c1_closed;
  least = λ within home closed s member. ap (is_in within) (only_c1 s member) ∙ home;
})

-- no black pawn captures on c1, since b2 and d2 are in the set; without the pawn of d2 one may
c1_covered : is_exposed (squares 2560) (beginner 2) 2 ≡ false
unfolding is_exposed beginner initial_array squares_of distance
c1_covered = refl

c1_open : is_exposed (squares 512) (beginner 2) 2 ≡ true
unfolding is_exposed beginner initial_array squares_of distance
c1_open = refl
