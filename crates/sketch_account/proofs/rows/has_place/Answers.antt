use Rattle.std.proofs.Common.{◌≡◌, ◌∙◌, ◌&&◌, ◌||◌, Bool, true, false, List, get_or, rules, ap, sym, arith}
use Rattle.std.proofs.lemmas.Bool.{or_left}
use Rattle.std.specs.Prelude.{Some}
use Rattle.board_base.specs.Board.{is_in, same_kind}
use Rattle.board_base.specs.Legal.{is_officer}
use Rattle.board_base.specs.declared.men.Kind.TheVariants.{King}
use Rattle.balance_rule.specs.LeastWays.{seen_by}
use Rattle.sketch_account.proofs.Aiming.{any-board}
use Rattle.sketch_account.proofs.RowsMade.{some-square}
use Rattle.sketch_account.proofs.rows.has_place.Goals as goal
use Rattle.balance_rule.proofs.StandingMen.{is-officer}

pub returns-then-eq : goal.returns-then-eq
returns-then-eq c = λ o p R m ground there kind piece.
    let king : same_kind c.args.first King ≡ true = search rules in
    some-square c.args.free c.next_from.result (λ s. same_kind c.args.first King || R (Some m) (seen_by c.args.ground.now.base.side c.args.f) s) (λ s. or_left (same_kind c.args.first King) _ king) (λ s low. c.next_from.ensures.none s (omega arith) low) c.next_from.ensures.found

pub returns-else-eq : goal.returns-else-eq
returns-else-eq c = λ o p R m ground there kind piece.
    let no_king : same_kind c.args.first King ≡ false = search rules in
    let officer : is_officer m.kind ≡ true = ap is_officer kind ∙ is-officer c.args.first piece no_king in
    let room : List Bool = get_or c.args.ground.now.rooms c.args.f c.index-ground-f.result in
    c.meets.ensures
    ∙ any-board (λ s. is_in c.args.free s && is_in room s) (λ s. is_in c.args.free s && (same_kind c.args.first King || R (Some m) (seen_by c.args.ground.now.base.side c.args.f) s)) (λ s inside.
    ap (λ (b : Bool). is_in c.args.free s && b) (ground.rooms c.args.f s c.index-ground-f.result m c.requires inside there officer ∙ ap (λ (b : Bool). b || R (Some m) (seen_by c.args.ground.now.base.side c.args.f) s) (sym no_king)))
