-- What is told of an origin, and the state after a move.
use Rattle.std.proofs.Common.{◌≡◌, ◌<◌, ℕ, Bool, true, false, cond, ap, ◌∙◌, arith}
use Rattle.std.specs.Prelude.{Option, Some, None}
use Rattle.board_base.specs.Board.{Places, opponent, file}
use Rattle.board_base.specs.Rights.{Rights}
use Rattle.board_base.specs.Play.{castling, play}
use Rattle.board_base.specs.declared.men.Colour.{Colour}
use Rattle.board_base.specs.declared.men.Kind.{Kind}
use Rattle.board_base.specs.declared.men.Kind.TheVariants.{Pawn, Knight, Bishop, Rook, Queen, King}
use Rattle.board_base.specs.declared.moves.Move.{Move}
use Rattle.board_base.specs.declared.castles.Castle.{Castle}
use Rattle.board_base.specs.declared.castles.Castle.TheVariants.{WhiteShort, WhiteLong, BlackShort, BlackLong}
use Rattle.play_rules.specs.States.{Position, Follows, crossed_by}
use Rattle.san_text.specs.Fits.{captures}
use Rattle.san_text.specs.Small.{IsSmall}
use Rattle.san_text.specs.Spellable.{IsSmallSaid}
use Rattle.san_text.specs.Spelling.{told, origin_of, named, named_as, kind_at, next, kept}

abbrev pub AreSmall : Option ℕ × Option ℕ → Type 0
AreSmall o = IsSmall o.0 × IsSmall o.1

told_small : (a b c : Bool) (s : ℕ) → s < 64 → AreSmall (told a b c s)
told_small false b c s low = (tt, tt)
told_small true false c s low = (omega arith, tt)
told_small true true false s low = (tt, omega arith)
told_small true true true s low = (omega arith, omega arith)

pawn_small : (b : Bool) (s : ℕ) → AreSmall (cond b (Some (file s)) None, None)
pawn_small true s = (omega arith, tt)
pawn_small false s = (tt, tt)

pub origin_small : (p : Position) (k : Kind) (m : Move) → m.from < 64 → AreSmall (origin_of p k m)
origin_small p Pawn m low = pawn_small (captures p.board m) m.from
origin_small p Knight m low = told_small _ _ _ m.from low
origin_small p Bishop m low = told_small _ _ _ m.from low
origin_small p Rook m low = told_small _ _ _ m.from low
origin_small p Queen m low = told_small _ _ _ m.from low
origin_small p King m low = told_small _ _ _ m.from low

named_as_small : (o : Option Castle) (p : Position) (m : Move) → m.from < 64 → IsSmallSaid (named_as o p m)
named_as_small None p m low = origin_small p (kind_at p.board m.from) m low
named_as_small (Some WhiteShort) p m low = tt
named_as_small (Some WhiteLong) p m low = tt
named_as_small (Some BlackShort) p m low = tt
named_as_small (Some BlackLong) p m low = tt

pub named_small : (p : Position) (m : Move) → m.from < 64 → IsSmallSaid (named p m)
unfolding named
named_small p m low = named_as_small (castling p.board m) p m low

abbrev pub rights_of : Bool → Bool → Bool → Bool → Rights
rights_of a b c d = record { white_short = a; white_long = b; black_short = c; black_long = d }

abbrev pub position_of : Places → Colour → Rights → Option ℕ → ℕ → Position
position_of board turn rights ep clock = record { board = board; turn = turn; rights = rights; ep = ep; clock = clock }

-- the state that follows a move
pub next_is : (p : Position) (m : Move) (q : Position) → Follows p m q → q ≡ next p m
next_is p m q f =
    let r : Rights = kept p.rights m in
    let rights : q.rights ≡ r =
    ap (λ (b : Bool). rights_of b q.rights.white_long q.rights.black_short q.rights.black_long) (f.rights_are WhiteShort)
    ∙ ap (λ (b : Bool). rights_of r.white_short b q.rights.black_short q.rights.black_long) (f.rights_are WhiteLong)
    ∙ ap (λ (b : Bool). rights_of r.white_short r.white_long b q.rights.black_long) (f.rights_are BlackShort)
    ∙ ap (λ (b : Bool). rights_of r.white_short r.white_long r.black_short b) (f.rights_are BlackLong) in
    ap (λ (b : Places). position_of b q.turn q.rights q.ep q.clock) f.board_is
    ∙ ap (λ (c : Colour). position_of (play p.board m) c q.rights q.ep q.clock) f.turn_is
    ∙ ap (λ (s : Rights). position_of (play p.board m) (opponent p.turn) s q.ep q.clock) rights
    ∙ ap (λ (e : Option ℕ). position_of (play p.board m) (opponent p.turn) r e q.clock) f.ep_is
    ∙ ap (λ (k : ℕ). position_of (play p.board m) (opponent p.turn) r (crossed_by (play p.board m) (opponent p.turn) (Some m)) k) f.clock_is
