-- Where a rule line supports a query, no game reaches it.
use Rattle.std.proofs.Common.{◌≡◌, true, false, List, ap, sym, ◌∙◌, subst}
use Rattle.std.proofs.lemmas.Bool.{and_parts, both_ways, not-true}
use Rattle.board_base.specs.Board.{Places, opponent}
use Rattle.board_base.specs.Legal.{in_check}
use Rattle.board_base.specs.Game.{board_after}
use Rattle.board_base.specs.declared.men.Colour.{Colour}
use Rattle.board_base.specs.declared.moves.Move.{Move}
use Rattle.castle_history.specs.Homes.{are_at_home}
use Rattle.play_rules.specs.Kings.{HasOneKingEach}
use Rattle.play_rules.specs.Laws.{HasNoPawnOnEnds}
use Rattle.play_rules.proofs.Kings.{one_king_each}
use Rattle.play_rules.proofs.Ends.{no_pawn_on_ends}
use Rattle.play_rules.proofs.Attacked.{no_king_left_attacked}
use Rattle.men_account.specs.Account.{accounts_for}
use Rattle.men_account.proofs.Accounts.{accounts_hold}
use Rattle.query_base.specs.Asked.{Asked}
use Rattle.query_base.specs.Reach.{Reaches}
use Rattle.query_base.specs.declared.rule_lines.RuleLine.{RuleLine}
use Rattle.query_base.specs.declared.rule_lines.RuleLine.TheVariants.{Kings, Ranks, Check, Rights, Count, Frozen, Caps, Promo}
use Rattle.static_rules.proofs.Closed.{caps-unreached, frozen-unreached, promo-unreached}
use Rattle.static_rules.specs.Supports.{Supports}
use Rattle.static_rules.proofs.Homes.{rights_have_homes}

pub unreached : (q : Asked) (rule : RuleLine) → Supports q rule → (g : List Move) → Reaches g q → ⊥
unreached q Kings broken g r = broken (subst HasOneKingEach r.board (one_king_each q.odds g r.odds r.game))
unreached q Ranks broken g r = broken (subst HasNoPawnOnEnds r.board (no_pawn_on_ends q.odds g r.game))
unreached q Check attacked g r =
    let here : in_check q.board (opponent q.turn) ≡ false =
    ap (λ (b : Places). in_check b (opponent q.turn)) (sym r.board)
    ∙ ap (λ (c : Colour). in_check (board_after q.odds g) (opponent c)) (sym r.turn) ∙ no_king_left_attacked q.odds g r.game in
    both_ways _ here attacked
unreached q Rights broken g r =
    broken (record {
      begun = λ x held. not-true _ (and_parts _ _ (r.held x held)).0;
      at_home = λ x held. subst (λ (b : Places). are_at_home b x ≡ true) r.board (rights_have_homes q.odds g x r.game (r.held x held));
    })
unreached q (Count side) broken g r =
    broken (subst (λ (b : Places). accounts_for q.odds b side ≡ true) r.board (accounts_hold q.odds g r.game side))
unreached q (Frozen set) h g r = frozen-unreached q set h g r
unreached q (Caps side set p) h g r = caps-unreached q side set p.u p.v h g r
unreached q (Promo side set) h g r = promo-unreached q side set h g r
