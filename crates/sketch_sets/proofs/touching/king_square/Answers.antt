use Rattle.std.proofs.Common.{◌≡◌, ◌==◌, true, false, Bool, ◌&&◌, List, refl, ap, sym, ◌∙◌}
use Rattle.std.specs.List.{list_all}
use Rattle.board_base.specs.Board.{is_in, same_colour, same_kind}
use Rattle.board_base.specs.declared.men.Kind.TheVariants.{King}
use Rattle.figures.proofs.Filling.{is_in-that, none-in-zero}
use Rattle.figures.specs.Figures.{Figure, is_fixed_on}
use Rattle.figures.proofs.Singles.{fixed-same}
use Rattle.sketch_sets.specs.Grounds.{is_king_there}
use Rattle.sketch_sets.proofs.touching.king_square.Goals as goal

-- he may be a king of this colour, and is fixed there
no-king : (a b k : Bool) → (a && k) ≡ false → false ≡ ((a && b) && k)
no-king true true k h = sym h
no-king true false k h = refl
no-king false b k h = refl

one-king : (a b k : Bool) → (a && k) ≡ true → b ≡ ((a && b) && k)
one-king true true k h = sym h
one-king true false k h = refl
one-king false b k h = cc

tested : (colour : _) (f g : Figure) (a k : Bool) → f ≡ g → a ≡ same_colour colour f.colour → k ≡ list_all (same_kind King) f.kinds → (a && k) ≡ (same_colour colour g.colour && list_all (same_kind King) g.kinds)
tested colour f g a k e p q = cc

pub returns-then-not-is_same_colour-king : goal.returns-then-not-is_same_colour-king
unfolding is_king_there
returns-then-not-is_same_colour-king c = λ q low.
    ap (λ (l : List Bool). is_in l q) c.from_bits.ensures.squares ∙ none-in-zero q
    ∙ no-king (same_colour c.args.colour c.args.figure.colour) (is_fixed_on q c.args.figure) (list_all (same_kind King) c.args.figure.kinds) (sym (tested c.args.colour _ c.args.figure _ _ c.figure.view_is c.is_same_colour.ensures c.is_only-king.ensures) ∙ c.if-not-is_same_colour-king.true)

pub returns-in-Some : goal.returns-in-Some
unfolding is_king_there
returns-in-Some c = λ q low.
    ap (λ (l : List Bool). is_in l q) c.only_on.ensures ∙ is_in-that (λ t. t == c.in-Some.s) q low ∙ fixed-same c.args.figure c.in-Some.s q c.fixed_square.ensures.size c.in-Some.ensures.square
    ∙ one-king (same_colour c.args.colour c.args.figure.colour) (is_fixed_on q c.args.figure) (list_all (same_kind King) c.args.figure.kinds) (sym (tested c.args.colour _ c.args.figure _ _ c.figure.view_is c.is_same_colour.ensures c.is_only-king.ensures) ∙ c.if-not-is_same_colour-king.false)

pub returns-in-None : goal.returns-in-None
unfolding is_king_there
returns-in-None c = λ q low.
    ap (λ (l : List Bool). is_in l q) c.from_bits-in-None.ensures.squares ∙ none-in-zero q ∙ sym (c.in-None.ensures.square q)
    ∙ one-king (same_colour c.args.colour c.args.figure.colour) (is_fixed_on q c.args.figure) (list_all (same_kind King) c.args.figure.kinds) (sym (tested c.args.colour _ c.args.figure _ _ c.figure.view_is c.is_same_colour.ensures c.is_only-king.ensures) ∙ c.if-not-is_same_colour-king.false)
