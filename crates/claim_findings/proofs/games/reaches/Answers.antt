use Rattle.std.proofs.lemmas.Bool.{both_ways}
use Rattle.std.specs.Prelude.{◌↔◌, IsTrue}
use Rattle.std.proofs.Common.{◌≡◌, ℕ, false, ◌+◌, ◌++◌, ◌∷◌, [], Bool, List, take, refl, ap, sym, subst, ◌∙◌, arith}
use Rattle.general_lemmas.proofs.Splits.{up_to}
use Rattle.board_base.specs.Game.{IsGame, last_move}
use Rattle.board_base.specs.declared.moves.Move.{Move}
use Rattle.query_base.specs.Asked.{Asked}
use Rattle.query_base.specs.Reach.{Reaches}
use Rattle.play_rules.specs.States.{StandsFor}
use Rattle.play_rules.proofs.Doubles.{last_move-more}
use Rattle.play_rules.proofs.Games.{no_moves}
use Rattle.claim_findings.proofs.Steps.{at_place, some_within}
use Rattle.claim_findings.proofs.Playing.{illegal_in}
use Rattle.claim_findings.proofs.games.reaches.Goals as goal

pub loop-i-init : goal.loop-i-init
loop-i-init c =
    let odds_are : c.query.inside.odds ≡ c.args.query.now.odds = ap (λ (q : Asked). q.odds) c.query.view_is in
    record {
      game = no_moves c.args.query.now.odds;
      state = subst (λ (o : List Bool). StandsFor c.start_of-state.result o []) odds_are c.start_of-state.ensures;
      last = refl;
    }

pub unwrap-m-requires : goal.unwrap-m-requires
unwrap-m-requires c = rw c.get.ensures (some_within c.args.game.now c.loop-i.i (omega arith))

pub loop-i-preserved : goal.loop-i-preserved
loop-i-preserved c =
    let o = c.args.query.now.odds in
    let i = c.loop-i.i in
    let m = c.unwrap-m.result in
    let g : List Move = take i c.args.game.now in
    let grown : take (i + 1) c.args.game.now ≡ g ++ m ∷ [] = up_to c.args.game.now i m (omega arith) (at_place c.args.game.now i m (sym c.get.ensures ∙ c.unwrap-m.ensures)) in
    let stepped = c.in-Ok.ensures.in_games o g c.loop-i.invariant.game c.loop-i.invariant.state in
    record {
      game = subst (IsGame o) (sym grown) stepped.0;
      state = subst (λ (h : List Move). StandsFor c.in-Ok.next o h) (sym grown) stepped.1;
      last = ap last_move grown ∙ last_move-more g m;
    }

pub returns-in-Err : goal.returns-in-Err
returns-in-Err c =
    let o = c.args.query.now.odds in
    let i = c.loop-i.i in
    let m = c.unwrap-m.result in
    let stopped = c.in-Err.ensures.in_games o (take i c.args.game.now) c.loop-i.invariant.game c.loop-i.invariant.state in (
      λ h. absurd (both_ways false refl h),
      λ here. absurd (illegal_in o c.args.game.now c.args.number i m c.loop-i-test.true c.requires (sym c.get.ensures ∙ c.unwrap-m.ensures) stopped here.game),
    )

pub returns : goal.returns
returns c =
    let same : c.loop-i.i ≡ c.args.number = omega arith in
    let here = c.matches_end.ensures.in_games (take c.loop-i.i c.args.game.now) c.loop-i.invariant.game c.loop-i.invariant.state c.loop-i.invariant.last in
    subst (λ (n : ℕ). IsTrue c.matches_end.result ↔ Reaches (take n c.args.game.now) c.args.query.now) same here
