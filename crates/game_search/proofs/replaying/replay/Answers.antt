use Rattle.std.proofs.Common.{◌≡◌, ◌+◌, ◌++◌, ◌∷◌, [], List, Some, ap, subst, sym, take, ◌∙◌}
use Rattle.general_lemmas.proofs.Splits.{up_to}
use Rattle.board_base.specs.Game.{IsGame, last_move}
use Rattle.board_base.specs.declared.moves.Move.{Move}
use Rattle.play_rules.proofs.Doubles.{last_move-more}
use Rattle.play_rules.specs.States.{StandsFor}
use Rattle.game_search.proofs.replaying.replay.Goals as goal

pub loop-m-preserved : goal.loop-m-preserved
loop-m-preserved c =
    let o = c.args.query.now.odds in
    let g = c.loop-m.game in
    let m = c.m-item.result in
    let stepped = c.in-Ok.ensures.in_games o g c.loop-m.invariant.0 c.loop-m.invariant.1 in
    let grown : take (c.loop-m.m-index + 1) c.args.moves.now ≡ take c.loop-m.m-index c.args.moves.now ++ m ∷ [] = up_to c.args.moves.now c.loop-m.m-index m c.loop-m-test.true c.m-item.is in
    subst (λ (h : List Move). IsGame o h × StandsFor c.in-Ok.next o h × (last_move h ≡ Some m) × (h ≡ take (c.loop-m.m-index + 1) c.args.moves.now)) (sym c.in_ok-push.ensures.ok)
    (stepped.0, stepped.1, last_move-more g m, ap (λ (l : List Move). l ++ m ∷ []) c.loop-m.invariant.3 ∙ sym grown)
