use Rattle.std.proofs.Common.{◌<◌, ◌≤◌, ◌+◌, ℕ, List, take, drop, length, ap, sym, subst, arith}
use Rattle.std.proofs.lemmas.List.{length-take-le}
use Rattle.board_base.specs.Game.{IsGame}
use Rattle.board_base.specs.declared.moves.Move.{Move}
use Rattle.play_rules.proofs.Games.{no_moves}
use Rattle.play_rules.specs.States.{StandsFor}
use Rattle.general_lemmas.proofs.Splits.{up_to, split_at}
use Rattle.game_text.proofs.replaying.replay_from.Goals as goal

pub loop-i-init : goal.loop-i-init
loop-i-init c = (no_moves c.args.odds, c.start_of-state.ensures)

pub returns-in-Err : goal.returns-in-Err
returns-in-Err c =
    let g = c.args.moves.now in
    let below : c.loop-i.i < length g = c.loop-i-test.true in
    let short : c.loop-i.i ≤ length g = omega arith in
    record {
      before = take c.loop-i.i g;
      move = c.index-moves-i.result;
      after = drop (c.loop-i.i + 1) g;
      split = split_at g c.loop-i.i c.index-moves-i.result below c.index-moves-i.is;
      number = ap (λ (n : ℕ). n + 1) (length-take-le c.loop-i.i g short);
      game = c.loop-i.invariant.0;
      illegal = c.in-Err.ensures.in_games c.args.odds (take c.loop-i.i g) c.loop-i.invariant.0 c.loop-i.invariant.1;
    }

pub loop-i-preserved : goal.loop-i-preserved
loop-i-preserved c =
    let g = c.args.moves.now in
    let below : c.loop-i.i < length g = c.loop-i-test.true in
    subst (λ (h : List Move). IsGame c.args.odds h × StandsFor c.in-Ok.next c.args.odds h) (sym (up_to g c.loop-i.i c.index-moves-i.result below c.index-moves-i.is))
    (c.in-Ok.ensures.in_games c.args.odds (take c.loop-i.i g) c.loop-i.invariant.0 c.loop-i.invariant.1)
