-- Games that reach a query, and games that don't.
use Rattle.std.proofs.Common.{◌≡◌, ◌==◌, ℕ, Bool, true, false, List, [], ◌∷◌, refl, ap}
use Rattle.std.specs.Prelude.{Option, Some, None, IsTrue, slice_set}
use Rattle.board_base.specs.Board.{Places, array_of, initial_array, man, no_odds}
use Rattle.board_base.specs.Attacks.{attacks, attacks_from, distance, kind_attacks, king_distance, on_the_way, toward}
use Rattle.board_base.specs.Play.{play}
use Rattle.board_base.specs.Legal.{in_check, king_castles, legal_on, man_moves, may_go, pawn_captures, pawn_captures_en_passant, pawn_doubles, pawn_steps, promotion_fits}
use Rattle.board_base.specs.Game.{unmoved}
use Rattle.board_base.specs.Rights.{Rights, holds}
use Rattle.board_base.specs.declared.men.Colour.TheVariants.{White, Black}
use Rattle.board_base.specs.declared.men.Kind.TheVariants.{King, Knight, Pawn}
use Rattle.board_base.specs.declared.moves.Move.{Move}
use Rattle.board_base.specs.declared.castles.Castle.TheVariants.{WhiteShort, WhiteLong, BlackShort, BlackLong}
use Rattle.board_base.proofs.EachCastle.{each-castle}
use Rattle.board_base.proofs.Without.{are-no-odds}
use Rattle.play_rules.proofs.Games.{game_more, no_moves}
use Rattle.query_base.specs.Asked.{Asked}
use Rattle.query_base.specs.Reach.{Reaches}

abbrev move : ℕ → ℕ → Move
move from to = record { from = from; to = to; promo = None }

abbrev e2e4 : Move
e2e4 = move 12 28

abbrev e7e5 : Move
e7e5 = move 52 36

abbrev e1e2 : Move
e1e2 = move 4 12

abbrev g1f3 : Move
g1f3 = move 6 21

abbrev g8f6 : Move
g8f6 = move 62 45

-- the move is given, and begins on this square
abbrev begins_on : ℕ → Option Move → Bool
begins_on s None = false
begins_on s (Some m) = m.from == s

-- the array with White's king's pawn on e4
abbrev king_pawn : Places
king_pawn = slice_set (slice_set initial_array 12 None) 28 (man White Pawn)

-- the same with Black's king's pawn on e5 and White's king on e2
abbrev king_out : Places
king_out = slice_set (slice_set (slice_set (slice_set king_pawn 52 None) 36 (man Black Pawn)) 4 None) 12 (man White King)

-- White's king's pawn on e4, and the king's knights on f3 and f6
abbrev knights_out : Places
knights_out = slice_set (slice_set (slice_set (slice_set king_pawn 6 None) 21 (man White Knight)) 62 None) 45 (man Black Knight)

-- the rights of White's two castlings are held or not, and those of Black's
abbrev rights : Bool → Bool → Rights
rights white black = record { white_short = white; white_long = white; black_short = black; black_long = black }

-- Black to move, with these rights, this last move demanded and this one barred
abbrev blacks_turn : Places → Rights → Option Move → Option Move → Asked
blacks_turn board held only barred = record { board = board; turn = Black; odds = no_odds; held = held; only = only; barred = barred; clock = None }

-- 1. e4 reaches its position with all rights, and its double step may be demanded
one_move : Reaches (e2e4 ∷ []) (blacks_turn king_pawn (rights true true) (Some e2e4) None)
unfolding initial_array array_of attacks attacks_from kind_attacks distance toward on_the_way king_distance play legal_on may_go in_check promotion_fits man_moves pawn_steps pawn_doubles pawn_captures pawn_captures_en_passant king_castles
one_move = record {
  odds = are-no-odds;
  game = game_more no_odds [] e2e4 (no_moves no_odds) refl;
  board = refl;
  turn = refl;
  held = λ x h. each-castle (unmoved no_odds (e2e4 ∷ [])) refl x;
  only = (refl, refl);
  barred = tt;
  clock = tt;
}

-- it reaches no position with White to move
wrong_turn : Reaches (e2e4 ∷ []) (record (blacks_turn king_pawn (rights true true) None None) { turn = White }) → ⊥
wrong_turn reached = let turn : Black ≡ White = reached.turn in cc

-- 1. e4 e5 2. Ke2 reaches its position with Black's rights, and not with the right of White's short castling
abbrev king_goes_out : List Move
king_goes_out = e2e4 ∷ e7e5 ∷ e1e2 ∷ []

right_kept : Reaches king_goes_out (blacks_turn king_out (rights false true) None None)
unfolding initial_array array_of attacks attacks_from kind_attacks distance toward on_the_way king_distance play legal_on may_go in_check promotion_fits man_moves pawn_steps pawn_doubles pawn_captures pawn_captures_en_passant king_castles
right_kept = record {
  odds = are-no-odds;
  game = game_more no_odds (e2e4 ∷ e7e5 ∷ []) e1e2 (game_more no_odds (e2e4 ∷ []) e7e5 (game_more no_odds [] e2e4 (no_moves no_odds) refl) refl) refl;
  board = refl;
  turn = refl;
  held = λ x. elim x as (λ y. IsTrue (holds (rights false true) y) → IsTrue (unmoved no_odds king_goes_out y)) [ WhiteShort ↦ λ h. h | WhiteLong ↦ λ h. h | BlackShort ↦ λ h. refl | BlackLong ↦ λ h. refl ];
  only = tt;
  barred = tt;
  clock = tt;
}

right_lost : Reaches king_goes_out (blacks_turn king_out (record (rights false true) { white_short = true }) None None) → ⊥
right_lost reached = let moved : false ≡ true = reached.held WhiteShort refl in cc

-- 1. Nf3 Nf6 2. e4 reaches its position where the double step is demanded, and not where it is barred
abbrev pawn_last : List Move
pawn_last = g1f3 ∷ g8f6 ∷ e2e4 ∷ []

demanded : Reaches pawn_last (blacks_turn knights_out (rights true true) (Some e2e4) None)
unfolding initial_array array_of attacks attacks_from kind_attacks distance toward on_the_way king_distance play legal_on may_go in_check promotion_fits man_moves pawn_steps pawn_doubles pawn_captures pawn_captures_en_passant king_castles
demanded = record {
  odds = are-no-odds;
  game = game_more no_odds (g1f3 ∷ g8f6 ∷ []) e2e4 (game_more no_odds (g1f3 ∷ []) g8f6 (game_more no_odds [] g1f3 (no_moves no_odds) refl) refl) refl;
  board = refl;
  turn = refl;
  held = λ x h. each-castle (unmoved no_odds pawn_last) refl x;
  only = (refl, refl);
  barred = tt;
  clock = tt;
}

barred : Reaches pawn_last (blacks_turn knights_out (rights true true) None (Some e2e4)) → ⊥
barred reached = reached.barred refl

-- 1. e4 Nf6 2. Nf3 comes to the same board and turn, and ends with another move
abbrev knight_last : List Move
knight_last = e2e4 ∷ g8f6 ∷ g1f3 ∷ []

not_barred : Reaches knight_last (blacks_turn knights_out (rights true true) None (Some e2e4))
unfolding initial_array array_of attacks attacks_from kind_attacks distance toward on_the_way king_distance play legal_on may_go in_check promotion_fits man_moves pawn_steps pawn_doubles pawn_captures pawn_captures_en_passant king_castles
not_barred = record {
  odds = are-no-odds;
  game = game_more no_odds (e2e4 ∷ g8f6 ∷ []) g1f3 (game_more no_odds (e2e4 ∷ []) g8f6 (game_more no_odds [] e2e4 (no_moves no_odds) refl) refl) refl;
  board = refl;
  turn = refl;
  held = λ x h. each-castle (unmoved no_odds knight_last) refl x;
  only = tt;
  barred = λ last. let same : false ≡ true = ap (begins_on 12) last in cc;
  clock = tt;
}

not_demanded : Reaches knight_last (blacks_turn knights_out (rights true true) (Some e2e4) None) → ⊥
not_demanded reached =
    let same : false ≡ true = ap (begins_on 12) reached.only.0 in
    cc (same)
