-- A castling's king and rook stand at home until one of them moves or is captured.
use Rattle.std.proofs.Common.{◌≡◌, ◌≢◌, ℕ, ◌+◌, ◌*◌, ◌==◌, Bool, true, false, cond, ◌||◌, List, set, refl, ap, sym, ◌∙◌, subst, arith}
use Rattle.std.proofs.lemmas.Bool.{and_parts, and_from, or_from, or_parts, not-true, eqb-false, both_ways}
use Rattle.std.proofs.lemmas.List.{get_or-set_other}
use Rattle.std.specs.Prelude.{Option, Some, None}
use Rattle.board_base.specs.Board.{Places, initial_array, array_of, at, is_a, is_in, is_the, rank}
use Rattle.board_base.specs.Play.{play, castling, goes_en_passant, en_passant_victim, side, king_home, rook_home, crossed}
use Rattle.board_base.specs.Parts.{played_as}
use Rattle.board_base.specs.Carry.{carry}
use Rattle.board_base.specs.Game.{IsGame, board_after, lacks_home, touches, unmoved}
use Rattle.board_base.specs.declared.men.Colour.{Colour}
use Rattle.board_base.specs.declared.men.Kind.{Kind}
use Rattle.board_base.specs.declared.men.Kind.TheVariants.{Pawn, Rook, King}
use Rattle.board_base.specs.declared.men.Man.{Man}
use Rattle.board_base.specs.declared.moves.Move.{Move}
use Rattle.board_base.specs.declared.castles.Castle.{Castle}
use Rattle.board_base.proofs.Without.{at-without}
use Rattle.board_base.proofs.CastleSquares.{king_home-by_rank, rank-crossed, rank-rook_home}
use Rattle.board_base.proofs.EachCastle.{each-castle}
use Rattle.castle_history.specs.Homes.{are_at_home}
use Rattle.play_rules.specs.Laws.{HasNoPawnOnEnds}
use Rattle.play_rules.proofs.Games.{in_every_game, board_after-more, unmoved-before}
use Rattle.play_rules.proofs.Kings.{castle-ends}
use Rattle.play_rules.proofs.Ends.{is_end-king_home, no_pawn_on_ends}

at-carry : (board : Places) (from to s : ℕ) (promo : Option Kind) → s ≢ from → s ≢ to → at (carry board from to promo) s ≡ at board s
at-carry board from to s promo not_from not_to = get_or-set_other (set board from None) to s _ None not_to ∙ get_or-set_other board from s None None not_from

-- what stands on the rank of a castling's homes, apart from the move's own squares, stays where the king of that rank does
stays : (board : Places) (m : Move) (x : Castle) (s : ℕ) (o : Option Castle) → castling board m ≡ o → rank s ≡ rank (king_home x) → m.from ≢ king_home x → s ≢ m.from → s ≢ m.to → HasNoPawnOnEnds board → at (played_as board m o) s ≡ at board s
stays board m x s (Some y) e home not_king not_from not_to no_pawn =
    let from : king_home y ≡ m.from = (castle-ends board m y e).from in
    let other : rank (king_home y) ≢ rank (king_home x) = λ same. not_king (sym from ∙ king_home-by_rank y ∙ ap (λ (r : ℕ). 8 * r + 4) same ∙ sym (king_home-by_rank x)) in
    let not_rook : s ≢ rook_home y = λ same. other (sym (rank-rook_home y) ∙ ap rank (sym same) ∙ home) in
    let not_crossed : s ≢ crossed y = λ same. other (sym (rank-crossed y) ∙ ap rank (sym same) ∙ home) in
    at-carry (carry board m.from m.to None) (rook_home y) (crossed y) s None not_rook not_crossed ∙ at-carry board m.from m.to s None not_from not_to
stays board m x s None e home not_king not_from not_to no_pawn = elim (goes_en_passant board m) as (λ b. goes_en_passant board m ≡ b → at (cond b (set (carry board m.from m.to m.promo) (en_passant_victim m) None) (carry board m.from m.to m.promo)) s ≡ at board s) [
  | true ↦ λ goes.
      let pawn : is_a Pawn (at board m.from) ≡ true = (and_parts _ _ (and_parts _ _ goes).0).0 in
      let apart : s ≢ en_passant_victim m = λ same.
      let ranks : rank m.from ≡ rank (king_home x) = let victim : rank s ≡ rank (en_passant_victim m) = ap rank same in omega arith in
      both_ways _ (no_pawn m.from (ap (λ (r : ℕ). (r == 0) || (r == 7)) ranks ∙ is_end-king_home x)) pawn in
      get_or-set_other (carry board m.from m.to m.promo) (en_passant_victim m) s None None apart ∙ at-carry board m.from m.to s m.promo not_from not_to
  | false ↦ λ goes. at-carry board m.from m.to s m.promo not_from not_to
] refl

-- the move's squares are no homes of the castling
record Apart (m : Move) (x : Castle) : Type 0 where
  from_king : m.from ≢ king_home x
  from_rook : m.from ≢ rook_home x
  to_king : m.to ≢ king_home x
  to_rook : m.to ≢ rook_home x

apart : (m : Move) (x : Castle) → touches m x ≡ false → Apart m x
apart m x untouched =
    let three = or_parts _ _ untouched in
    let two = or_parts _ _ three.0 in
    let one = or_parts _ _ two.0 in
    record {
      from_king = eqb-false _ _ one.0;
      from_rook = eqb-false _ _ one.1;
      to_king = eqb-false _ _ two.1;
      to_rook = eqb-false _ _ three.1;
    }

home-stays : (board : Places) (m : Move) (x : Castle) → touches m x ≡ false → HasNoPawnOnEnds board → are_at_home board x ≡ true → are_at_home (play board m) x ≡ true
unfolding play
home-stays board m x untouched no_pawn home =
    let a : Apart m x = apart m x untouched in
    let king = stays board m x (king_home x) (castling board m) refl refl a.from_king (λ e. a.from_king (sym e)) (λ e. a.to_king (sym e)) no_pawn in
    let rook = stays board m x (rook_home x) (castling board m) refl (rank-rook_home x) a.from_king (λ e. a.from_rook (sym e)) (λ e. a.to_rook (sym e)) no_pawn in
    let parts = and_parts _ _ home in
    and_from _ _ (ap (is_the (side x) King) king ∙ parts.0) (ap (is_the (side x) Rook) rook ∙ parts.1)

first-king : (x : Castle) → is_the (side x) King (at initial_array (king_home x)) ≡ true
unfolding initial_array
first-king = each-castle (λ x. is_the (side x) King (at initial_array (king_home x))) refl

first-rook : (x : Castle) → is_the (side x) Rook (at initial_array (rook_home x)) ≡ true
unfolding initial_array
first-rook = each-castle (λ x. is_the (side x) Rook (at initial_array (rook_home x))) refl

-- where neither is left out they stand at home in the array, and only there
pub first-at_home : (o : List Bool) (x : Castle) → lacks_home o x ≡ false → are_at_home (array_of o) x ≡ true
unfolding array_of
first-at_home o x there =
    let lacks = or_parts _ _ there in
    let king : at (array_of o) (king_home x) ≡ at initial_array (king_home x) = at-without o initial_array (king_home x) ∙ ap (λ (b : Bool). cond b None (at initial_array (king_home x))) lacks.0 in
    let rook : at (array_of o) (rook_home x) ≡ at initial_array (rook_home x) = at-without o initial_array (rook_home x) ∙ ap (λ (b : Bool). cond b None (at initial_array (rook_home x))) lacks.1 in
    and_from _ _ (ap (is_the (side x) King) king ∙ first-king x) (ap (is_the (side x) Rook) rook ∙ first-rook x)

not-out : (b : Bool) (c : Colour) (k : Kind) (place : Option Man) → is_the c k (cond b None place) ≡ true → b ≡ false
not-out true c k place h = absurd (both_ways false refl h)
not-out false c k place h = refl

pub at_home-first : (o : List Bool) (x : Castle) → are_at_home (array_of o) x ≡ true → lacks_home o x ≡ false
unfolding array_of
at_home-first o x home =
    let parts = and_parts _ _ home in
    or_from (is_in o (king_home x)) (is_in o (rook_home x)) (not-out (is_in o (king_home x)) (side x) King (at initial_array (king_home x)) (sym (ap (is_the (side x) King) (at-without o initial_array (king_home x))) ∙ parts.0)) (not-out (is_in o (rook_home x)) (side x) Rook (at initial_array (rook_home x)) (sym (ap (is_the (side x) Rook) (at-without o initial_array (rook_home x))) ∙ parts.1))

-- the king and the rook of a castling whose right is held stand at home, in every game
pub rights_have_homes : (o : List Bool) (g : List Move) (x : Castle) → IsGame o g → unmoved o g x ≡ true → are_at_home (board_after o g) x ≡ true
rights_have_homes o g x game =
    in_every_game o (λ h. unmoved o h x ≡ true → are_at_home (board_after o h) x ≡ true) (λ there. first-at_home o x (not-true _ (and_parts _ _ there).0)) (λ h m before legal home there.
    let parts = unmoved-before o h m x there in
    subst (λ (b : Places). are_at_home b x ≡ true) (sym (board_after-more o h m)) (home-stays (board_after o h) m x parts.1 (no_pawn_on_ends o h before) (home parts.0))) g game
