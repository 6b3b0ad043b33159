-- It can be settled whether sketches may be asked about a board.
use Rattle.std.proofs.Common.{◌≡◌, ◌≤◌, Bool, List, refl}
use Rattle.std.proofs.lemmas.Bool.Decides.{Decides-eqb}
use Rattle.std.specs.Prelude.{IsTrue}
use Rattle.std.specs.List.{Contains}
use Rattle.board_base.specs.Board.{Places, array_of}
use Rattle.board_base.specs.declared.men.Colour.TheVariants.{White, Black}
use Rattle.board_base.proofs.Settled.{each_colour}
use Rattle.capture_prices.specs.Prices.{PriceList, are_prices}
use Rattle.play_rules.specs.Kings.{HasOneKingEach, kings}
use Rattle.play_rules.specs.Laws.{HasNoPawnOnEnds, has_no_pawn_on_ends}
use Rattle.play_rules.proofs.NoPawns.{answers_law}
use Rattle.men_account.specs.Account.{is_any}
use Rattle.men_account.specs.Homes.{men_of}
use Rattle.query_base.specs.Asked.{Asked}
use Rattle.sketch_checker.specs.Roots.{IsRoot}
use Rattle.sketch_checker.specs.Supports.{MayAsk}
use Rattle.general_lemmas.proofs.Settling.{Settled, at_most, both, by_test, each_member, same, test}

root-settled : (o : List Bool) (board : Places) → Settled (IsRoot o board)
root-settled o board =
    let king : Settled (HasOneKingEach board) = each_colour (λ c. kings c board ≡ 1) (by_test _ _ (Decides-eqb (kings White board) 1)) (by_test _ _ (Decides-eqb (kings Black board) 1)) in
    let ends : Settled (HasNoPawnOnEnds board) = by_test (HasNoPawnOnEnds board) (has_no_pawn_on_ends board) (answers_law board (has_no_pawn_on_ends board) refl) in
    let few : Settled ((men_of White is_any board ≤ men_of White is_any (array_of o)) × (men_of Black is_any board ≤ men_of Black is_any (array_of o))) = both _ _ (at_most _ _) (at_most _ _) in
    same ((HasOneKingEach board × HasNoPawnOnEnds board) × ((men_of White is_any board ≤ men_of White is_any (array_of o)) × (men_of Black is_any board ≤ men_of Black is_any (array_of o)))) (IsRoot o board)
    (λ h. record { kings = h.0.0; ranks = h.0.1; white = h.1.0; black = h.1.1 }) (λ h. ((h.kings, h.ranks), (h.white, h.black))) (both _ _ (both _ _ king ends) few)

-- they may, or they may not
pub ask_settled : (q : Asked) (prices : List PriceList) → Settled (MayAsk q prices)
ask_settled q prices =
    let known : Settled ((p : PriceList) → Contains prices p → IsTrue (are_prices p)) = each_member (λ p. IsTrue (are_prices p)) prices (λ p. test (are_prices p)) in
    same (IsRoot q.odds q.board × ((p : PriceList) → Contains prices p → IsTrue (are_prices p))) (MayAsk q prices) (λ h. record { root = h.0; known = h.1 }) (λ h. (h.root, h.known)) (both _ _ (root-settled q.odds q.board) known)
