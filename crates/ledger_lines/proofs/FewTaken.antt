-- A side's pawns took no more men than the other side lacks.
use Rattle.std.proofs.Common.{◌≡◌, ℕ, ◌≤◌, Bool, true, false, List, length, refl, ap, sym, ◌∙◌, arith}
use Rattle.std.proofs.lemmas.Bool.{both_ways, leb-true}
use Rattle.std.proofs.lemmas.List.{length-map}
use Rattle.std.proofs.lemmas.List.Sums.{count_by-le-length, length-filter}
use Rattle.board_base.specs.Board.{Places, opponent}
use Rattle.board_base.specs.declared.men.Colour.{Colour}
use Rattle.board_base.specs.declared.moves.Move.{Move}
use Rattle.men_account.specs.Account.{is_any}
use Rattle.men_account.specs.Captures.{captured_by_pawns}
use Rattle.men_account.specs.Homes.{men_of}
use Rattle.men_account.proofs.Missing.{men-missing}
use Rattle.query_base.specs.Asked.{Asked}
use Rattle.cage_rules.specs.Reach.{LeadsTo}
use Rattle.men_fates.specs.Deeds.{Strike, strikes}
use Rattle.men_fates.proofs.Strikes.{strikes-take}
use Rattle.capture_prices.specs.Prices.{class_of}
use Rattle.ledger_facts.specs.Supposed.{captures, has_class}
use Rattle.ledger_facts.specs.declared.suppositions.Squares.{Squares}
use Rattle.ledger_facts.specs.declared.suppositions.Squares.TheVariants.{All}
use Rattle.ledger_facts.proofs.Raised.{counted}
use Rattle.ledger_lines.specs.Known.{are_lacking, lacking}
use Rattle.ledger_facts.proofs.Counts.{all-counted}

taken-are : (q : Asked) (c : Colour) (g : List Move) → LeadsTo q.odds g q → length (captured_by_pawns q.odds g c) ≡ captures q.odds g c All
taken-are q c g leads =
    ap (λ (l : List ℕ). length l) (sym (strikes-take q.odds g c leads.game)) ∙ length-map (strikes q.odds g c) (λ (x : Strike). x.of) ∙ sym (all-counted (strikes q.odds g c))

few-captured : (q : Asked) (c : Colour) (g : List Move) → LeadsTo q.odds g q → captures q.odds g c All ≤ lacking q (opponent c)
few-captured q c g leads =
    let none = men-missing q.odds g c (λ h. false) leads.game (λ h home dead. absurd (both_ways false refl dead)) in
    let same = ap (λ (b : Places). men_of (opponent c) is_any b) leads.board in
    omega (arith, none, same, taken-are q c g leads)

some-counted : (squares : Squares) (all : List Strike) → counted squares all ≤ length all
some-counted squares all = omega (arith, length-filter (λ (x : Strike). has_class squares (class_of x.on)) all, count_by-le-length (λ (x : Strike). has_class squares (class_of x.on)) all)

-- they made no more on some squares than in all
pub some-captured : (o : List Bool) (g : List Move) (c : Colour) (squares : Squares) → captures o g c squares ≤ captures o g c All
some-captured o g c squares = omega (arith, some-counted squares (strikes o g c), all-counted (strikes o g c))

pub lacking-most : (q : Asked) (c : Colour) (squares : Squares) (n : ℕ) (g : List Move) → LeadsTo q.odds g q → are_lacking q c n ≡ true → captures q.odds g c squares ≤ n
lacking-most q c squares n g leads lack =
    omega (arith, few-captured q c g leads, some-captured q.odds g c squares, leb-true (lacking q (opponent c)) n lack)
