use Rattle.std.proofs.Common.{rules, tests, ◌≡◌, ◌||◌, not}
use Rattle.std.proofs.lemmas.Iterator.{YieldsList-from_slice}
use Rattle.std.proofs.lemmas.Iterator.Search.{all_from_yields_List}
use Rattle.std.specs.List.{list_all}
use Rattle.board_base.specs.Play.{all_castles}
use Rattle.board_base.specs.Rights.{holds}
use Rattle.castle_history.specs.Homes.{are_at_home}
use Rattle.board_base.proofs.EachCastle.{each-held}
use Rattle.castle_history.proofs.homes.held_fits.Goals as goal

pub returns : goal.returns
returns c =
    let all : c.all.result ≡ list_all (λ x. not (holds c.args.held x) || are_at_home c.args.board.now x) all_castles =
    all_from_yields_List (λ x. not (holds c.args.held x) || are_at_home c.args.board.now x) _ _ c.all.result c.all.ensures.ran (YieldsList-from_slice all_castles cc) (λ x b q k. search (rules, tests)) in
    each-held (holds c.args.held) (are_at_home c.args.board.now) c.all.result all
