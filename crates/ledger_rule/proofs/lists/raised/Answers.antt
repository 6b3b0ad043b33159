use Rattle.std.proofs.Common.{◌≡◌, ℕ, List, ap, sym, subst, ◌∙◌, SomeIff}
use Rattle.std.specs.Prelude.{IsTrue}
use Rattle.capture_prices.specs.Prices.{PriceList, are_prices, priced, takes}
use Rattle.capture_prices.specs.declared.prices.Gate.{Gate}
use Rattle.board_base.specs.Board.{opponent}
use Rattle.board_base.specs.declared.men.Colour.{Colour}
use Rattle.ledger_facts.specs.Accounts.{dearer, raised}
use Rattle.ledger_rule.proofs.lists.raised.Goals as goal

pub returns-in-White : goal.returns-in-White
returns-in-White c =
    let p : PriceList = c.args.prices.now in
    let dear = c.dearer_takes-dear.ensures ∙ ap (λ (d : Colour). dearer c.args.squares (takes p d)) c.in-White.is in
    let other = c.takes-other.ensures.value ∙ ap (takes p) (c.other.ensures ∙ ap opponent c.in-White.is) in
    let same : priced c.dearer_takes-dear.result c.takes-other.result.now c.gates.result.now ≡ raised c.args.side c.args.squares p =
    ap (λ (l : List ℕ). priced l c.takes-other.result.now c.gates.result.now) dear ∙ ap (λ (l : List ℕ). priced (dearer c.args.squares p.white) l c.gates.result.now) other ∙ ap (λ (l : List Gate). priced (dearer c.args.squares p.white) p.black l) c.gates.ensures.value
    ∙ ap (λ (d : Colour). raised d c.args.squares p) (sym c.in-White.is) in
    subst (λ (r : PriceList). SomeIff c.new.result (IsTrue (are_prices r)) r) same c.new.ensures

pub returns-in-Black : goal.returns-in-Black
returns-in-Black c =
    let p : PriceList = c.args.prices.now in
    let dear = c.dearer_takes-dear.ensures ∙ ap (λ (d : Colour). dearer c.args.squares (takes p d)) c.in-Black.is in
    let other = c.takes-other.ensures.value ∙ ap (takes p) (c.other.ensures ∙ ap opponent c.in-Black.is) in
    let same : priced c.takes-other.result.now c.dearer_takes-dear.result c.gates-in-Black.result.now ≡ raised c.args.side c.args.squares p =
    ap (λ (l : List ℕ). priced c.takes-other.result.now l c.gates-in-Black.result.now) dear ∙ ap (λ (l : List ℕ). priced l (dearer c.args.squares p.black) c.gates-in-Black.result.now) other ∙ ap (λ (l : List Gate). priced p.white (dearer c.args.squares p.black) l) c.gates-in-Black.ensures.value
    ∙ ap (λ (d : Colour). raised d c.args.squares p) (sym c.in-Black.is) in
    subst (λ (r : PriceList). SomeIff c.new-in-Black.result (IsTrue (are_prices r)) r) same c.new-in-Black.ensures
