-- The board after a capture en passant that the board admits.
use Rattle.std.proofs.Common.{◌≡◌, ℕ, Bool, true, false, ◌&&◌, not, set, refl, ap, sym, ◌∙◌}
use Rattle.std.proofs.lemmas.Bool.{and_parts, and_from, cond-true, cond-false, not_from_false, not-true}
use Rattle.std.specs.Prelude.{Option, Some, None}
use Rattle.board_base.specs.Board.{Places, at, is_a, is_the, is_empty, opponent}
use Rattle.board_base.specs.Play.{play, castling, castling_from, goes_en_passant, en_passant_victim, double_of}
use Rattle.board_base.specs.Parts.{played_as}
use Rattle.board_base.specs.Carry.{carry}
use Rattle.board_base.specs.Legal.{in_check}
use Rattle.ep_history.specs.Fits.{stand_after, fits_after, ep_fits}
use Rattle.board_base.specs.declared.men.Colour.{Colour}
use Rattle.board_base.specs.declared.men.Kind.{Kind}
use Rattle.board_base.specs.declared.men.Kind.TheVariants.{Pawn, King}
use Rattle.board_base.specs.declared.moves.Move.{Move}
use Rattle.board_base.proofs.KindsOfMen.{another_kind}
use Rattle.board_base.proofs.Passing.{may_pass, double-en_passant_victim, other-files}

-- the capturing pawn goes to its target, and the pawn that made the double step is gone
pub captured : (board : Places) (c : Colour) (m d : Move) → double_of m c ≡ Some d → is_the c Pawn (at board m.from) ≡ true → is_empty (at board m.to) ≡ true → set (carry board m.from m.to None) d.to None ≡ play board m
unfolding play
captured board c m d e man empty =
    let may = may_pass m c d e in
    let pawn : is_a Pawn (at board m.from) ≡ true = (and_parts _ _ man).1 in
    let no_castling : castling board m ≡ None = cond-false _ (castling_from m.from m.to) None (another_kind King Pawn (at board m.from) pawn) in
    let goes : goes_en_passant board m ≡ true = and_from _ _ (and_from _ _ pawn (not_from_false _ (other-files m may.files))) empty in
    let victim : en_passant_victim m ≡ d.to = sym (double-en_passant_victim m d c e) in
    sym (ap (played_as board m) no_castling
    ∙ cond-true _ (set (carry board m.from m.to m.promo) (en_passant_victim m) None) (carry board m.from m.to m.promo) goes
    ∙ ap (λ (p : Option Kind). set (carry board m.from m.to p) (en_passant_victim m) None) may.promo
    ∙ ap (λ (v : ℕ). set (carry board m.from m.to None) v None) victim)

pub fits-if-safe : (board : Places) (c : Colour) (m d : Move) → double_of m c ≡ Some d → stand_after board c m d ≡ true → (b : Bool) → b ≡ in_check (set (carry board m.from m.to None) d.to None) c → not b ≡ ep_fits board c m
unfolding ep_fits
fits-if-safe board c m d e stands b is =
    let men = and_parts _ _ (and_parts _ _ (and_parts _ _ stands).0).0 in
    ap not (is ∙ ap (λ (after : Places). in_check after c) (captured board c m d e men.0 men.1))
    ∙ sym (ap (λ (s : Bool). s && not (in_check (play board m) c)) stands) ∙ sym (ap (fits_after board c m) e)

-- a capture en passant that fits the board, taken apart
pub record Fitting (board : Places) (c : Colour) (m : Move) : Type 0 where
  pub step : Move
  pub answers : double_of m c ≡ Some step
  pub pawn : is_the c Pawn (at board m.from) ≡ true
  pub target : is_empty (at board m.to) ≡ true
  pub enemy : is_the (opponent c) Pawn (at board step.to) ≡ true
  pub origin : is_empty (at board step.from) ≡ true
  pub safe : in_check (play board m) c ≡ false

fitting-after : (board : Places) (c : Colour) (m : Move) (o : Option Move) → double_of m c ≡ o → fits_after board c m o ≡ true → Fitting board c m
fitting-after board c m None e h = absurd cc
fitting-after board c m (Some d) e h =
    let p4 = and_parts _ _ h in
    let p3 = and_parts _ _ p4.0 in
    let p2 = and_parts _ _ p3.0 in
    let p1 = and_parts _ _ p2.0 in
    record { step = d; answers = e; pawn = p1.0; target = p1.1; enemy = p2.1; origin = p3.1; safe = not-true _ p4.1 }

pub fitting : (board : Places) (c : Colour) (m : Move) → ep_fits board c m ≡ true → Fitting board c m
unfolding ep_fits
fitting board c m h = fitting-after board c m (double_of m c) refl h

pub fits : (board : Places) (c : Colour) (m : Move) → Fitting board c m → ep_fits board c m ≡ true
unfolding ep_fits
fits board c m f =
    ap (fits_after board c m) f.answers ∙ and_from _ _ (and_from _ _ (and_from _ _ (and_from _ _ f.pawn f.target) f.enemy) f.origin) (not_from_false _ f.safe)
