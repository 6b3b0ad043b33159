use Rattle.std.proofs.Common.{◌≡◌, ◌∙◌, ◌+◌, ◌-◌, ◌<◌, suc, sym, arith}
use Rattle.board_base.specs.Board.{no_odds}
use Rattle.position_maker.proofs.DrawnGames.{among}
use Rattle.position_maker.proofs.Runs.{draws, legal-list, none-left, on_more, on_start, on_stop}
use Rattle.std.proofs.lemmas.Option.{slice_get_read}
use Rattle.position_maker.proofs.sampling.sample_game.Goals as goal

pub loop-init : goal.loop-init
loop-init c = on_start c.args.plies c.start-state.result c.args.tally.now c.start-state.ensures

pub returns-then-is_empty-clause-counted : goal.returns-then-is_empty-clause-counted
returns-then-is_empty-clause-counted c =
    let w = c.loop.invariant in
    let moves = legal-list c.in_ok-moves.moves.items w.g (c.in_ok-moves.ensures.in_games no_odds w.g w.game w.stands) in
    on_stop _ _ _ _ _ _ w (sym moves ∙ none-left c.in_ok-moves.moves.items c.in_ok-moves.moves.len c.in_ok-moves.moves.ok.0 (sym c.is_empty.ensures ∙ c.if-is_empty.true))

pub visit-state-requires-clause-legal : goal.visit-state-requires-clause-legal
visit-state-requires-clause-legal c =
    (c.in_ok-moves.ensures.all c.index.result.now).0 (among c.in_ok-moves.moves.items c.place.result c.index.result.now (slice_get_read c.in_ok-moves.moves.items c.len.result c.place.result c.index.result.now (c.len.ensures ∙ c.in_ok-moves.moves.ok.0) c.place.ensures.within c.index.ensures))

pub loop-preserved : goal.loop-preserved
loop-preserved c =
    let w = c.loop.invariant in
    let m = c.index.result.now in
    let moves = legal-list c.in_ok-moves.moves.items w.g (c.in_ok-moves.ensures.in_games no_odds w.g w.game w.stands) in
    let drawn = draws c.in_ok-moves.moves.items w.g c.loop.tally.number c.next-tally.result c.len.result c.place.result m moves c.next-tally.ensures (c.len.ensures ∙ c.in_ok-moves.moves.ok.0) c.place.ensures.answer c.place.ensures.within c.index.ensures in
    let here = c.visit-state.ensures.here w.g w.game w.stands in
    let counted = c.visit-state.ensures.counted w.g w.game w.stands in
    let below : c.loop.counter < c.args.plies = c.loop-test.true in
    let left : c.args.plies - c.loop.counter ≡ suc (c.args.plies - (c.loop.counter + 1)) = omega (arith, below) in
    on_more _ _ _ _ _ _ _ _ c.visit-state.new.tally m left w drawn here.0 here.1 (record { number = counted.0 ∙ c.next-tally.ensures; plies = counted.1; unmoves = counted.2; missing = counted.3 }) c.visit-state.ensures.few
