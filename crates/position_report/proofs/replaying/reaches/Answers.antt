use Rattle.std.proofs.lemmas.Bool.{both_ways}
use Rattle.std.specs.Prelude.{◌↔◌, IsTrue}
use Rattle.std.proofs.Common.{◌≡◌, Bool, false, ◌+◌, ◌++◌, ◌∷◌, [], List, take, refl, ap, sym, subst, ◌∙◌, arith}
use Rattle.std.proofs.lemmas.List.{take_all}
use Rattle.general_lemmas.proofs.Splits.{up_to}
use Rattle.board_base.specs.Game.{IsGame, last_move}
use Rattle.board_base.specs.declared.moves.Move.{Move}
use Rattle.query_base.specs.Asked.{Asked}
use Rattle.query_base.specs.Reach.{Reaches}
use Rattle.play_rules.specs.States.{StandsFor}
use Rattle.play_rules.proofs.Doubles.{last_move-more}
use Rattle.play_rules.proofs.Games.{no_moves}
use Rattle.position_report.proofs.Playing.{stops-game}
use Rattle.position_report.proofs.replaying.reaches.Goals as goal

pub loop-m-init : goal.loop-m-init
loop-m-init c =
    let odds_are : c.query.inside.odds ≡ c.args.query.now.odds = ap (λ (q : Asked). q.odds) c.query.view_is in
    record {
      game = no_moves c.args.query.now.odds;
      state = subst (λ (o : List Bool). StandsFor c.start_of-state.result o []) odds_are c.start_of-state.ensures;
      last = refl;
    }

pub loop-m-preserved : goal.loop-m-preserved
loop-m-preserved c =
    let o = c.args.query.now.odds in
    let i = c.loop-m.m-index in
    let m = c.m-item.result in
    let g : List Move = take i c.args.moves.now in
    let grown : take (i + 1) c.args.moves.now ≡ g ++ m ∷ [] = up_to c.args.moves.now i m c.loop-m-test.true c.m-item.is in
    let stepped = c.in-Ok.ensures.in_games o g c.loop-m.invariant.game c.loop-m.invariant.state in
    record {
      game = subst (IsGame o) (sym grown) stepped.0;
      state = subst (λ (h : List Move). StandsFor c.in-Ok.next o h) (sym grown) stepped.1;
      last = ap last_move grown ∙ last_move-more g m;
    }

pub returns-in-Err : goal.returns-in-Err
returns-in-Err c =
    let o = c.args.query.now.odds in
    let i = c.loop-m.m-index in
    let m = c.m-item.result in
    let stopped = c.in-Err.ensures.in_games o (take i c.args.moves.now) c.loop-m.invariant.game c.loop-m.invariant.state in (
      λ h. absurd (both_ways false refl h),
      λ here. absurd (stops-game o c.args.moves.now i m c.loop-m-test.true c.m-item.is stopped here.game),
    )

pub returns : goal.returns
returns c =
    let whole : take c.loop-m.m-index c.args.moves.now ≡ c.args.moves.now = take_all c.loop-m.m-index c.args.moves.now (omega arith) in
    let here = c.matches_end.ensures.in_games (take c.loop-m.m-index c.args.moves.now) c.loop-m.invariant.game c.loop-m.invariant.state c.loop-m.invariant.last in
    subst (λ (g : List Move). IsTrue c.matches_end.result ↔ Reaches g c.args.query.now) whole here
