-- What refutes a count of captures.
use Rattle.std.proofs.Common.{◌≡◌, ℕ, ◌+◌, ◌*◌, ◌<◌, Bool, List, refl, arith}
use Rattle.std.specs.Prelude.{◌↔◌, IsTrue}
use Rattle.board_base.specs.Board.{Places, opponent}
use Rattle.board_base.specs.declared.men.Colour.{Colour}
use Rattle.board_base.specs.declared.men.Colour.TheVariants.{White, Black}
use Rattle.query_base.specs.Asked.{Asked}
use Rattle.capture_prices.specs.Prices.{PriceList, are_prices}
use Rattle.ledger_facts.specs.Accounts.{cost_table_if, gone_row_if, raised, side_cost_if, stand_row_if}
use Rattle.ledger_facts.specs.Refuted.{IsRefuted}
use Rattle.ledger_facts.specs.declared.suppositions.Squares.{Squares}
use Rattle.ledger_facts.specs.declared.suppositions.Supposition.TheVariants.{AtMost, AtLeast}
use Rattle.ledger_rule.specs.Kept.{IsAccount, nothing}
use Rattle.ledger_rule.specs.Touched.{dear_cost}
use Rattle.ledger_rule.specs.declared.accounts.Account.{Account}

-- it rules out no cell
pub most-cost : (side : Colour) (squares : Squares) (n : ℕ) (o : List Bool) (board : Places) (p : PriceList) (set : List Bool) (c : Colour) → side_cost_if (AtMost side squares n) o board p set c ≡ side_cost_if nothing o board p set c
unfolding cost_table_if stand_row_if gone_row_if
most-cost side squares n o board p set c = refl

pub least-cost : (side : Colour) (squares : Squares) (n : ℕ) (o : List Bool) (board : Places) (p : PriceList) (set : List Bool) (c : Colour) → side_cost_if (AtLeast side squares n) o board p set c ≡ side_cost_if nothing o board p set c
unfolding cost_table_if stand_row_if gone_row_if
least-cost side squares n o board p set c = refl

-- which prices a side's men are reckoned by
pub counts-most : (q : Asked) (a : Account) (side : Colour) (squares : Squares) (n cost : ℕ) → IsAccount q a → IsTrue (are_prices (raised side squares a.prices)) → cost ≡ dear_cost q a side side squares → (a.most + 24 * n < cost) ↔ IsRefuted (AtMost side squares n) q a.set a.prices
counts-most q a White squares n cost kept known is =
    let white = most-cost White squares n q.odds q.board (raised White squares a.prices) a.set White in
    let black = most-cost White squares n q.odds q.board a.prices a.set Black in
    let most = kept.most in (
      λ above. record {
        settled = kept.settled;
        white_prices = known;
        black_prices = kept.known;
        white = kept.white.few;
        black = kept.black.few;
        above = omega (arith, above, is, white, black, most);
      },
      λ it. omega (arith, it.above, is, white, black, most),
    )
counts-most q a Black squares n cost kept known is =
    let white = most-cost Black squares n q.odds q.board a.prices a.set White in
    let black = most-cost Black squares n q.odds q.board (raised Black squares a.prices) a.set Black in
    let most = kept.most in (
      λ above. record {
        settled = kept.settled;
        white_prices = kept.known;
        black_prices = known;
        white = kept.white.few;
        black = kept.black.few;
        above = omega (arith, above, is, white, black, most);
      },
      λ it. omega (arith, it.above, is, white, black, most),
    )

pub counts-least : (q : Asked) (a : Account) (side : Colour) (squares : Squares) (n cost : ℕ) → IsAccount q a → IsTrue (are_prices (raised side squares a.prices)) → cost ≡ dear_cost q a (opponent side) side squares → (a.most < cost + 24 * n) ↔ IsRefuted (AtLeast side squares n) q a.set a.prices
counts-least q a White squares n cost kept known is =
    let white = least-cost White squares n q.odds q.board a.prices a.set White in
    let black = least-cost White squares n q.odds q.board (raised White squares a.prices) a.set Black in
    let most = kept.most in (
      λ above. record {
        settled = kept.settled;
        white_prices = kept.known;
        black_prices = known;
        white = kept.white.few;
        black = kept.black.few;
        above = omega (arith, above, is, white, black, most);
      },
      λ it. omega (arith, it.above, is, white, black, most),
    )
counts-least q a Black squares n cost kept known is =
    let white = least-cost Black squares n q.odds q.board (raised Black squares a.prices) a.set White in
    let black = least-cost Black squares n q.odds q.board a.prices a.set Black in
    let most = kept.most in (
      λ above. record {
        settled = kept.settled;
        white_prices = known;
        black_prices = kept.known;
        white = kept.white.few;
        black = kept.black.few;
        above = omega (arith, above, is, white, black, most);
      },
      λ it. omega (arith, it.above, is, white, black, most),
    )

-- no price is too high for it to be refuted
pub known-most : (q : Asked) (side : Colour) (squares : Squares) (n : ℕ) (set : List Bool) (p : PriceList) → IsRefuted (AtMost side squares n) q set p → IsTrue (are_prices (raised side squares p))
known-most q White squares n set p it = it.white_prices
known-most q Black squares n set p it = it.black_prices

pub known-least : (q : Asked) (side : Colour) (squares : Squares) (n : ℕ) (set : List Bool) (p : PriceList) → IsRefuted (AtLeast side squares n) q set p → IsTrue (are_prices (raised side squares p))
known-least q White squares n set p it = it.black_prices
known-least q Black squares n set p it = it.white_prices
