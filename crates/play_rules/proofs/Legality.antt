-- A legal move, taken apart.
use Rattle.std.proofs.Common.{◌≡◌, ◌<◌, Bool, true, false, inl, inr}
use Rattle.std.proofs.lemmas.Bool.{and_parts, or_cases, not-true, ltb-true}
use Rattle.std.specs.Prelude.{Option}
use Rattle.board_base.specs.Board.{Places, at, is_of, is_a}
use Rattle.board_base.specs.Play.{play}
use Rattle.board_base.specs.Legal.{legal_on, may_go, in_check, promotion_fits, man_moves, pawn_steps, pawn_doubles, pawn_captures, pawn_captures_en_passant, king_castles}
use Rattle.board_base.specs.declared.men.Colour.{Colour}
use Rattle.board_base.specs.declared.men.Kind.TheVariants.{King}
use Rattle.board_base.specs.declared.moves.Move.{Move}
use Rattle.board_base.specs.declared.castles.Castle.{Castle}

-- the cases in which a man may go so
pub data Manner (board : Places) (c : Colour) (rights : Castle → Bool) (last : Option Move) (m : Move) : Type 0 where
  moves : man_moves board m ≡ true → Manner board c rights last m
  steps : pawn_steps board c m ≡ true → Manner board c rights last m
  doubles : pawn_doubles board c m ≡ true → Manner board c rights last m
  takes : pawn_captures board c m ≡ true → Manner board c rights last m
  passes : pawn_captures_en_passant board c last m ≡ true → Manner board c rights last m
  castles : king_castles board c rights m ≡ true → Manner board c rights last m

pub record Legality (board : Places) (c : Colour) (rights : Castle → Bool) (last : Option Move) (m : Move) : Type 0 where
  pub on_board : m.to < 64
  pub mover : is_of c (at board m.from) ≡ true
  pub not_own : is_of c (at board m.to) ≡ false
  pub no_king : is_a King (at board m.to) ≡ false
  pub promotion : promotion_fits board c m ≡ true
  pub safe : in_check (play board m) c ≡ false
  pub manner : Manner board c rights last m

manner_of : (board : Places) (c : Colour) (rights : Castle → Bool) (last : Option Move) (m : Move) → may_go board c rights last m ≡ true → Manner board c rights last m
unfolding may_go
manner_of board c rights last m h = elim (or_cases _ _ h) [
  | inr e ↦ castles e
  | inl h5 ↦ elim (or_cases _ _ h5) [
    | inr e ↦ passes e
    | inl h4 ↦ elim (or_cases _ _ h4) [
      | inr e ↦ takes e
      | inl h3 ↦ elim (or_cases _ _ h3) [
        | inr e ↦ doubles e
        | inl h2 ↦ elim (or_cases _ _ h2) [ inr e ↦ steps e | inl e ↦ moves e ]
      ]
    ]
  ]
]

pub legality : (board : Places) (c : Colour) (rights : Castle → Bool) (last : Option Move) (m : Move) → legal_on board c rights last m ≡ true → Legality board c rights last m
unfolding legal_on
legality board c rights last m h =
    let p6 = and_parts _ _ h in
    let p5 = and_parts _ _ p6.0 in
    let p4 = and_parts _ _ p5.0 in
    let p3 = and_parts _ _ p4.0 in
    let p2 = and_parts _ _ p3.0 in
    let p1 = and_parts _ _ p2.0 in
    record {
      on_board = ltb-true _ _ p1.0;
      mover = p1.1;
      not_own = not-true _ p2.1;
      no_king = not-true _ p3.1;
      promotion = p4.1;
      safe = not-true _ p6.1;
      manner = manner_of board c rights last m p5.1;
    }
