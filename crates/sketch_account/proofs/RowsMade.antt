-- Rows of costs of figures.
use Rattle.std.proofs.Common.{◌≡◌, ℕ, ◌<◌, inl, inr, Bool, true, false, ◌&&◌, ◌||◌, List, refl, ap, sym, ◌∙◌, arith}
use Rattle.std.proofs.lemmas.Bool.{and_parts, and_from, cases_lt, cond-true, cond-false, lt-ltb, ltb-true, both_ways}
use Rattle.std.specs.Prelude.{Option, Some, None, nat_lt}
use Rattle.std.specs.List.{list_any, range_with_len}
use Rattle.general_lemmas.proofs.Ranges.{any-found}
use Rattle.general_lemmas.proofs.Truth.{same_truth}
use Rattle.board_base.specs.Board.{is_in, man, same_colour}
use Rattle.board_base.specs.declared.men.Colour.{Colour}
use Rattle.board_base.specs.declared.men.Kind.{Kind}
use Rattle.board_base.specs.declared.men.Kind.TheVariants.{Pawn, Knight, Bishop, Rook, Queen, King}
use Rattle.board_base.specs.declared.men.Man.{Man}
use Rattle.cage_rules.proofs.Tested.{any-told}
use Rattle.capture_prices.specs.Prices.{PriceList}
use Rattle.balance_rule.specs.Costs.{never}
use Rattle.figures.specs.Figures.{Figure, may_be}
use Rattle.sketch_grounds.specs.Account.{figure_comes}
use Rattle.sketch_grounds.specs.Limits.{Limit, comes, comes_as}
use Rattle.sketch_grounds.specs.Zones.{Room}
use Rattle.sketch_account.specs.Over.{IsLeastOver}
use Rattle.sketch_account.specs.Rows.{counted}
use Rattle.sketch_grounds.proofs.Freezing.{kinds-six}
use Rattle.sketch_account.proofs.Over.{only-over, over-listed, over-never, over-same}

and-true : (x : Bool) → (x && true) ≡ x
and-true true = refl
and-true false = refl

-- a set that isn't empty
pub some-square : (free : List Bool) (n : ℕ) (test : ℕ → Bool) → ((s : ℕ) → test s ≡ true) → ((s : ℕ) → s < n → is_in free s ≡ false) → (n < 64 → is_in free n ≡ true) → nat_lt n 64 ≡ list_any (λ s. is_in free s && test s) (range_with_len 0 64)
some-square free n test all none found = same_truth (nat_lt n 64) (list_any (λ s. is_in free s && test s) (range_with_len 0 64))
    (λ low. let inside : n < 64 = ltb-true n 64 low in any-found (λ s. is_in free s && test s) 0 64 n (omega arith) (omega arith) (and_from _ _ (found inside) (all n)))
    (λ h.
    let x = any-told (λ s. is_in free s && test s) 0 64 h in
    let inside : x.0 < 64 = x.1 in
    elim (cases_lt x.0 n) [
      | inl below ↦ absurd (both_ways _ (none x.0 below) (and_parts (is_in free x.0) (test x.0) x.2).0)
      | inr past ↦ lt-ltb n 64 (omega arith)
    ])

pub same-man : (m : Man) (c : Colour) (k : Kind) → m.colour ≡ c → m.kind ≡ k → Some m ≡ man c k
same-man m c k ec ek = ap (λ (x : Colour). man x m.kind) ec ∙ ap (man c) ek

pub some-kinds : (f : Figure) (a b d r q k : Bool) → a ≡ may_be f Pawn → b ≡ may_be f Knight → d ≡ may_be f Bishop → r ≡ may_be f Rook → q ≡ may_be f Queen → k ≡ may_be f King → (a || ((b || d) || (r || (q || k)))) ≡ list_any (λ k. true) f.kinds
some-kinds f a b d r q k ea eb ed er eq ek =
    let t : Kind → Bool = λ x. may_be f x && true in
    ap (λ (x : Bool). x || ((b || d) || (r || (q || k)))) (ea ∙ sym (and-true (may_be f Pawn))) ∙ ap (λ (x : Bool). t Pawn || ((x || d) || (r || (q || k)))) (eb ∙ sym (and-true (may_be f Knight)))
    ∙ ap (λ (x : Bool). t Pawn || ((t Knight || x) || (r || (q || k)))) (ed ∙ sym (and-true (may_be f Bishop))) ∙ ap (λ (x : Bool). t Pawn || ((t Knight || t Bishop) || (x || (q || k)))) (er ∙ sym (and-true (may_be f Rook)))
    ∙ ap (λ (x : Bool). t Pawn || ((t Knight || t Bishop) || (t Rook || (x || k)))) (eq ∙ sym (and-true (may_be f Queen))) ∙ ap (λ (x : Bool). t Pawn || ((t Knight || t Bishop) || (t Rook || (t Queen || x)))) (ek ∙ sym (and-true (may_be f King)))
    ∙ kinds-six f.kinds (λ x. true)

-- the least over a figure, as it is told
pub comes-some : (p : PriceList) (wall : List Bool) (R : Room) (c : Colour) (l : Limit) (m : Man) (place : Option Man) (h : ℕ) (f : Figure) (n : ℕ) → f.colour ≡ c → place ≡ Some m → same_colour c m.colour ≡ true → IsLeastOver f (comes_as p wall R c l m.kind h) n → n ≡ figure_comes p wall R place h (counted f l)
unfolding figure_comes
comes-some p wall R c l m place h f n of there own least =
    only-over f (comes p wall R f.colour l place h) n _
    (over-same f (comes_as p wall R c l m.kind h) (comes p wall R f.colour l place h) n
    (λ k s may inside member.
    sym (cond-true (same_colour c m.colour) (comes_as p wall R c l m.kind h k s) never own) ∙ ap (λ (x : Colour). comes p wall R x l (Some m) h k s) (sym of) ∙ ap (λ (x : Option Man). comes p wall R f.colour l x h k s) (sym there)) least)
    (over-listed f (comes p wall R f.colour l place h))

pub comes-other : (p : PriceList) (wall : List Bool) (R : Room) (c : Colour) (l : Limit) (m : Man) (place : Option Man) (h : ℕ) (f : Figure) → f.colour ≡ c → place ≡ Some m → same_colour c m.colour ≡ false → never ≡ figure_comes p wall R place h (counted f l)
unfolding figure_comes
comes-other p wall R c l m place h f of there own =
    only-over f (comes p wall R f.colour l place h) never _
    (over-never f (comes p wall R f.colour l place h)
    (λ k s may inside member. ap (λ (x : Option Man). comes p wall R f.colour l x h k s) there ∙ ap (λ (x : Colour). comes p wall R x l (Some m) h k s) of ∙ cond-false (same_colour c m.colour) (comes_as p wall R c l m.kind h k s) never own))
    (over-listed f (comes p wall R f.colour l place h))

pub comes-none : (p : PriceList) (wall : List Bool) (R : Room) (l : Limit) (place : Option Man) (h : ℕ) (f : Figure) → place ≡ None → never ≡ figure_comes p wall R place h (counted f l)
unfolding figure_comes
comes-none p wall R l place h f there =
    only-over f (comes p wall R f.colour l place h) never _
    (over-never f (comes p wall R f.colour l place h) (λ k s may inside member. ap (λ (x : Option Man). comes p wall R f.colour l x h k s) there))
    (over-listed f (comes p wall R f.colour l place h))
