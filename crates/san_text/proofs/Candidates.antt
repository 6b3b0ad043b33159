-- What a text fits is the candidate from its square.
use Rattle.std.proofs.Common.{◌≡◌, ◌<◌, ℕ, ◌==◌, true, length, refl, sym}
use Rattle.std.proofs.lemmas.Bool.{and_parts, eqb-true}
use Rattle.std.specs.Prelude.{Option, None}
use Rattle.board_base.specs.Board.{at, is_a, is_of, rank}
use Rattle.board_base.specs.Legal.{promotion_fits, last_rank}
use Rattle.board_base.specs.declared.men.Kind.{Kind}
use Rattle.board_base.specs.declared.men.Kind.TheVariants.{Pawn, King}
use Rattle.board_base.specs.declared.moves.Move.{Move}
use Rattle.board_base.specs.declared.castles.Castle.{Castle}
use Rattle.board_base.proofs.Equal.{moves_equal, promo_is}
use Rattle.board_base.proofs.KindsOfMen.{another_kind, no-promo}
use Rattle.play_rules.specs.States.{Position, legal_at}
use Rattle.play_rules.specs.Listed.{move_of}
use Rattle.play_rules.proofs.Legality.{legality}
use Rattle.play_rules.proofs.Kings.{within}
use Rattle.board_base.specs.Play.{king_target}
use Rattle.san_text.specs.Candidates.{candidate}
use Rattle.san_text.specs.Fits.{fits, castles_by, short_of, long_of}
use Rattle.san_text.specs.declared.grammar.San.{San}
use Rattle.san_text.specs.declared.grammar.San.TheVariants.{Short, Long, Goes}
use Rattle.san_text.proofs.Search.{AreCandidates}

-- a move by its parts
pub made_of : (m : Move) (to : ℕ) (promo : Option Kind) → m.to ≡ to → m.promo ≡ promo → m ≡ move_of m.from to promo
made_of m to promo t p = moves_equal m (move_of m.from to promo) refl t p

pub from_inside : (p : Position) → length p.board ≡ 64 → (m : Move) → legal_at p m ≡ true → m.from < 64
from_inside p len m legal =
    let l = legality p.board p.turn _ _ m legal in
    rw (← len) (within (is_of p.turn) p.board m.from refl l.mover)

-- a king isn't promoted
king_stays : (p : Position) (m : Move) → legal_at p m ≡ true → is_a King (at p.board m.from) ≡ true → m.promo ≡ None
unfolding promotion_fits
king_stays p m legal king =
    let l = legality p.board p.turn _ _ m legal in
    no-promo m.promo (is_a Pawn (at p.board m.from)) (rank m.to == last_rank p.turn) (another_kind Pawn King (at p.board m.from) king) l.promotion

pub castled : (p : Position) (x : Castle) (m : Move) → legal_at p m ≡ true → castles_by p.board x m ≡ true → m ≡ move_of m.from (king_target x) None
castled p x m legal h =
    let parts = and_parts _ _ h in
    made_of m (king_target x) None (eqb-true _ _ parts.1) (king_stays p m legal (and_parts _ _ parts.0).0)

fitting : (p : Position) (said : San) (m : Move) → fits said p m ≡ true → m ≡ candidate p.turn said m.from
unfolding fits
fitting p Short m h = let both = and_parts _ _ h in castled p (short_of p.turn) m both.0 both.1
fitting p Long m h = let both = and_parts _ _ h in castled p (long_of p.turn) m both.0 both.1
fitting p (Goes d) m h =
    let both = and_parts _ _ h in
    let p6 = and_parts _ _ both.1 in
    let p5 = and_parts _ _ p6.0 in
    let p4 = and_parts _ _ p5.0 in
    let p3 = and_parts _ _ p4.0 in
    let p2 = and_parts _ _ p3.0 in
    made_of m d.to d.promo (eqb-true _ _ p2.1) (sym (promo_is d.promo m.promo p3.1))

pub are_candidates : (p : Position) (said : San) → length p.board ≡ 64 → AreCandidates (fits said p) (candidate p.turn said)
unfolding fits
are_candidates p said len = λ m h. (from_inside p len m (and_parts _ _ h).0, fitting p said m h)
