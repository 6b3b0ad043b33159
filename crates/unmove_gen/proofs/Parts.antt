-- What the test of the list says.
use Rattle.std.proofs.Common.{◌≡◌, true}
use Rattle.std.proofs.lemmas.Bool.{and_parts}
use Rattle.board_base.specs.Board.{at, is_empty, is_of}
use Rattle.board_base.specs.Play.{play}
use Rattle.board_base.specs.declared.unmoves.Unmove.{Unmove}
use Rattle.query_base.specs.Asked.{Asked}
use Rattle.unmove_gen.specs.Listed.{answered, before, every_right, is_legal_before, is_listed, is_marked, is_retraction, keeps_held, mover, obeys_clock, obeys_barred, obeys_only}
use Rattle.unmove_gen.specs.Sane.{is_sane}
use Rattle.play_rules.proofs.Legality.{Legality, legality}
use Rattle.unmove_gen.proofs.Equal.{places_are}

pub record Parts (q : Asked) (u : Unmove) : Type 0 where
  pub origin : is_empty (at q.board u.mv.from) ≡ true
  pub target : is_of (mover q) (at q.board u.mv.to) ≡ true
  pub held : keeps_held q u.mv ≡ true
  pub only : obeys_only q.only q.board u.mv ≡ true
  pub barred : obeys_barred q.barred u.mv ≡ true
  pub marked : is_marked (before q u) (mover q) u ≡ true
  pub legal : is_legal_before (before q u) (mover q) u ≡ true
  pub here : play (before q u) u.mv ≡ q.board

pub fitted : (q : Asked) (u : Unmove) → is_retraction q u ≡ true → Parts q u
unfolding is_retraction
fitted q u h =
    let p4 = and_parts _ _ (and_parts _ _ h).0 in
    let p3 = and_parts _ _ p4.0 in
    let p2 = and_parts _ _ p3.0 in
    let p1 = and_parts _ _ p2.0 in
    let ends = and_parts _ _ p1.0 in
    let asked = and_parts _ _ p1.1 in
    let kept = and_parts _ _ asked.0 in
    record {
      origin = ends.0;
      target = ends.1;
      held = kept.0;
      only = kept.1;
      barred = asked.1;
      marked = p2.1;
      legal = p3.1;
      here = places_are _ _ p4.1;
    }

pub clocked : (q : Asked) (u : Unmove) → is_listed q u ≡ true → (is_retraction q u ≡ true) × (obeys_clock q u ≡ true)
unfolding is_listed
clocked q u h = and_parts _ _ h

pub parts : (q : Asked) (u : Unmove) → is_listed q u ≡ true → Parts q u
parts q u h = fitted q u (clocked q u h).0

pub legality_of : (q : Asked) (u : Unmove) → Parts q u → Legality (before q u) (mover q) every_right (answered u (mover q)) u.mv
legality_of q u p = legality _ _ _ _ _ p.legal

-- the board before a listed retraction is sane
pub listed-sane : (q : Asked) (u : Unmove) → is_listed q u ≡ true → is_sane q.odds (before q u) (mover q) ≡ true
unfolding is_retraction
listed-sane q u h = (and_parts _ _ (clocked q u h).0).1
