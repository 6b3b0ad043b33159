-- The target of a claim that a capture en passant is legal.
use Rattle.std.proofs.Common.{◌≡◌, ◌≢◌, ◌+◌, ◌<◌, ◌==◌, Bool, true, false, cond, ◌&&◌, not, List, refl, ap, sym, ◌∙◌, subst, arith}
use Rattle.std.proofs.lemmas.Bool.{and_parts, and_from, eqb-true, ne_eqb, both_ways, not_from_false, lt-ltb, and_right, or_left, or_right}
use Rattle.std.specs.Prelude.{Option, Some, None, IfSome, IsTrue, ◌↔◌}
use Rattle.board_base.specs.Board.{Places, at, is_a, is_of, is_the, is_empty, opponent, rank}
use Rattle.board_base.specs.Attacks.{one_ahead}
use Rattle.board_base.specs.Play.{double_of, en_passant_rank}
use Rattle.board_base.specs.Legal.{legal_on, may_go, promotion_fits, is_officer, last_rank, pawn_captures_en_passant, is_move}
use Rattle.board_base.specs.Game.{IsGame, board_after, turn_after, last_move, unmoved}
use Rattle.board_base.specs.declared.men.Colour.{Colour}
use Rattle.board_base.specs.declared.men.Colour.TheVariants.{White, Black}
use Rattle.board_base.specs.declared.men.Kind.{Kind}
use Rattle.board_base.specs.declared.men.Kind.TheVariants.{Pawn, King}
use Rattle.board_base.specs.declared.moves.Move.{Move}
use Rattle.board_base.specs.declared.castles.Castle.{Castle}
use Rattle.board_base.proofs.Equal.{last_is, move_self}
use Rattle.board_base.proofs.Passing.{may_pass}
use Rattle.play_rules.specs.Fits.{ep_fits}
use Rattle.play_rules.proofs.Captured.{Fitting, fitting, fits}
use Rattle.play_rules.proofs.Legality.{legality}
use Rattle.play_rules.proofs.Kings.{empty-not}
use Rattle.play_rules.proofs.Left.{left-in-game}
use Rattle.query_base.specs.Asked.{Asked}
use Rattle.query_base.specs.Reach.{Reaches, EndsWith, Contradicts, captures_en_passant}
use Rattle.query_base.specs.Targets.{target}
use Rattle.query_base.specs.declared.claims.Claim.{Claim}
use Rattle.query_base.specs.declared.claims.Claim.TheVariants.{Ep}

-- a capture en passant goes to a square of the board that isn't on the last rank
on_board : (c : Colour) (m : Move) → rank m.from ≡ en_passant_rank c → one_ahead c m.from m.to ≡ true → (m.to < 64) × (rank m.to ≢ last_rank c)
on_board White m r up = let e : rank m.to ≡ rank m.from + 1 = eqb-true _ _ up in (omega arith, λ z. let l : rank m.to ≡ 7 = z in omega arith)
on_board Black m r up = let e : rank m.from ≡ rank m.to + 1 = eqb-true _ _ up in (omega arith, λ z. let l : rank m.to ≡ 0 = z in omega arith)

-- a legal capture en passant fits the board, and answers the last move

record Answering (board : Places) (c : Colour) (last : Option Move) (m : Move) : Type 0 where
  step : Move
  answers : double_of m c ≡ Some step
  last_is : last ≡ Some step
  enemy : is_the (opponent c) Pawn (at board step.to) ≡ true

answering-from : (board : Places) (c : Colour) (last : Option Move) (m : Move) (o : Option Move) → double_of m c ≡ o → elim o as (λ _. Bool) [ None ↦ false | Some d ↦ is_move last d && is_the (opponent c) Pawn (at board d.to) ] ≡ true → Answering board c last m
answering-from board c last m None e h = absurd cc
answering-from board c last m (Some d) e h =
    let parts = and_parts _ _ h in
    record { step = d; answers = e; last_is = last_is last d parts.0; enemy = parts.1 }

record Passing (board : Places) (c : Colour) (last : Option Move) (m : Move) : Type 0 where
  pawn : is_a Pawn (at board m.from) ≡ true
  target : is_empty (at board m.to) ≡ true
  answering : Answering board c last m

passing : (board : Places) (c : Colour) (last : Option Move) (m : Move) → pawn_captures_en_passant board c last m ≡ true → Passing board c last m
unfolding pawn_captures_en_passant
passing board c last m h =
    let p2 = and_parts _ _ h in
    let p1 = and_parts _ _ p2.0 in
    record { pawn = p1.0; target = p1.1; answering = answering-from board c last m (double_of m c) refl p2.1 }

record FitsAfter (o : List Bool) (g : List Move) (m : Move) : Type 0 where
  fit : Fitting (board_after o g) (turn_after g) m
  ends : EndsWith g fit.step

fits-after : (o : List Bool) (g : List Move) (m : Move) → IsGame o g → captures_en_passant o g m ≡ true → FitsAfter o g m
fits-after o g m game h =
    let both = and_parts _ _ h in
    let l = legality (board_after o g) (turn_after g) _ _ m both.0 in
    let p = passing (board_after o g) (turn_after g) (last_move g) m both.1 in
    let a = p.answering in
    record {
      fit = record {
        step = a.step;
        answers = a.answers;
        pawn = and_from _ _ l.mover p.pawn;
        target = p.target;
        enemy = a.enemy;
        origin = ap is_empty (left-in-game o g game a.step a.last_is);
        safe = l.safe;
      };
      ends = a.last_is;
    }

-- a capture en passant that fits the board and answers the last move is legal

passes : (board : Places) (c : Colour) (last : Option Move) (m : Move) (f : Fitting board c m) → last ≡ Some f.step → pawn_captures_en_passant board c last m ≡ true
unfolding pawn_captures_en_passant
passes board c last m f last_is =
    and_from _ _ (and_from _ _ (and_parts _ _ f.pawn).1 f.target)
    (ap (λ (o : Option Move). elim o as (λ _. Bool) [ None ↦ false | Some d ↦ is_move last d && is_the (opponent c) Pawn (at board d.to) ]) f.answers
    ∙ and_from _ _ (ap (λ (o : Option Move). is_move o f.step) last_is ∙ move_self f.step) f.enemy)

goes : (board : Places) (c : Colour) (rights : Castle → Bool) (last : Option Move) (m : Move) → pawn_captures_en_passant board c last m ≡ true → may_go board c rights last m ≡ true
unfolding may_go
goes board c rights last m h = or_left _ _ (or_right _ _ h)

no_promotion : (board : Places) (c : Colour) (m : Move) → m.promo ≡ None → rank m.to ≢ last_rank c → promotion_fits board c m ≡ true
unfolding promotion_fits
no_promotion board c m none other =
    ap (λ (p : Option Kind). elim p as (λ _. Bool) [ None ↦ not (is_a Pawn (at board m.from) && (rank m.to == last_rank c)) | Some k ↦ is_a Pawn (at board m.from) && (rank m.to == last_rank c) && is_officer k ]) none
    ∙ not_from_false _ (and_right _ _ (ne_eqb (rank m.to) (last_rank c) other))

legal : (board : Places) (c : Colour) (rights : Castle → Bool) (last : Option Move) (m : Move) (f : Fitting board c m) → last ≡ Some f.step → legal_on board c rights last m ≡ true
unfolding legal_on
legal board c rights last m f last_is =
    let may = may_pass m c f.step f.answers in
    let there = on_board c m may.rank_is may.ahead_is in
    and_from _ _ (and_from _ _ (and_from _ _ (and_from _ _ (and_from _ _ (and_from _ _ (lt-ltb m.to 64 there.0) (and_parts _ _ f.pawn).0)
    (not_from_false _ (empty-not (is_of c) _ refl f.target))) (not_from_false _ (empty-not (is_a King) _ refl f.target)))
    (no_promotion board c m may.promo there.1)) (goes board c rights last m (passes board c last m f last_is))) (not_from_false _ f.safe)

legal-after : (o : List Bool) (g : List Move) (m : Move) (f : Fitting (board_after o g) (turn_after g) m) → EndsWith g f.step → captures_en_passant o g m ≡ true
legal-after o g m f ends = and_from _ _ (legal (board_after o g) (turn_after g) (unmoved o g) (last_move g) m f ends) (passes (board_after o g) (turn_after g) (last_move g) m f ends)

-- the target

fits-there : (o : List Bool) (g : List Move) (m : Move) (board : Places) (c : Colour) → board_after o g ≡ board → turn_after g ≡ c → ep_fits (board_after o g) (turn_after g) m ≡ ep_fits board c m
fits-there o g m board c b t = ap (λ (x : Places). ep_fits x (turn_after g) m) b ∙ ap (λ (x : Colour). ep_fits board x m) t

step-barred : (o : List Bool) (g : List Move) (m : Move) (f : Fitting (board_after o g) (turn_after g) m) → (IsTrue (captures_en_passant o g m) → ⊥) → IfSome (double_of m (turn_after g)) (λ d. EndsWith g d → ⊥)
step-barred o g m f other = subst (λ (o : Option Move). IfSome o (λ d. EndsWith g d → ⊥)) (sym f.answers) (λ ends. other (legal-after o g m f ends))

reaches-as : (g : List Move) (m : Move) (q : Asked) (b : Bool) → ep_fits q.board q.turn m ≡ b → Contradicts g (Ep m) q → Reaches g (cond b (record q { barred = double_of m q.turn }) q)
reaches-as g m q false e h = h.0
reaches-as g m q true e h =
    let r : Reaches g q = h.0 in
    let f = fitting (board_after q.odds g) (turn_after g) m (fits-there q.odds g m q.board q.turn r.board r.turn ∙ e) in
    let barred : IfSome (double_of m q.turn) (λ d. EndsWith g d → ⊥) = subst (λ (c : Colour). IfSome (double_of m c) (λ d. EndsWith g d → ⊥)) r.turn (step-barred q.odds g m f h.1) in
    record { odds = r.odds; game = r.game; board = r.board; turn = r.turn; held = r.held; only = r.only; barred = barred; clock = r.clock }

-- what contradicts the claim reaches the target
pub ep-reaches : (g : List Move) (m : Move) (q : Asked) → Contradicts g (Ep m) q → Reaches g (target q (Ep m))
ep-reaches g m q h = reaches-as g m q (ep_fits q.board q.turn m) refl h

not-passing : (g : List Move) (m : Move) (q : Asked) → board_after q.odds g ≡ q.board → turn_after g ≡ q.turn → IsGame q.odds g → IfSome (double_of m q.turn) (λ d. EndsWith g d → ⊥) → IsTrue (captures_en_passant q.odds g m) → ⊥
not-passing g m q board turn game barred h =
    let after = fits-after q.odds g m game h in
    let there : double_of m q.turn ≡ Some after.fit.step = ap (double_of m) (sym turn) ∙ after.fit.answers in
    let never : EndsWith g after.fit.step → ⊥ = subst (λ (o : Option Move). IfSome o (λ d. EndsWith g d → ⊥)) there barred in
    never after.ends

contradicts-as : (g : List Move) (m : Move) (q : Asked) (b : Bool) → q.barred ≡ None → ep_fits q.board q.turn m ≡ b → Reaches g (cond b (record q { barred = double_of m q.turn }) q) → Contradicts g (Ep m) q
contradicts-as g m q false none e r =
    (r, λ h. both_ways _ e (sym (fits-there q.odds g m q.board q.turn r.board r.turn) ∙ fits (board_after q.odds g) (turn_after g) m (fits-after q.odds g m r.game h).fit))
contradicts-as g m q true none e r = (
  record { odds = r.odds; game = r.game; board = r.board; turn = r.turn; held = r.held; only = r.only; barred = subst (λ (o : Option Move). IfSome o (λ d. EndsWith g d → ⊥)) (sym none) tt; clock = r.clock },
  not-passing g m q r.board r.turn r.game r.barred,
)

-- and what reaches the target contradicts the claim
pub ep-contradicts : (g : List Move) (m : Move) (q : Asked) → q.barred ≡ None → Reaches g (target q (Ep m)) → Contradicts g (Ep m) q
ep-contradicts g m q none r = contradicts-as g m q (ep_fits q.board q.turn m) none refl r

pub by-target : (q v a : Asked) (m : Move) (claim : Claim) → v ≡ q → claim ≡ Ep m → q.barred ≡ None → target v (Ep m) ≡ a → (g : List Move) → Reaches g a ↔ Contradicts g claim q
by-target q v a m claim same is none t g =
    let there : target q (Ep m) ≡ a = sym (ap (λ (p : Asked). target p (Ep m)) same) ∙ t in (
      λ r. subst (λ (x : Claim). Contradicts g x q) (sym is) (ep-contradicts g m q none (subst (Reaches g) (sym there) r)),
      λ h. subst (Reaches g) there (ep-reaches g m q (subst (λ (x : Claim). Contradicts g x q) is h)),
    )
