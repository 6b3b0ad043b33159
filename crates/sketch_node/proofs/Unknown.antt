-- Figures that may be a knight, a rook or a queen.
use Rattle.std.proofs.Common.{◌≡◌, ℕ, ◌<◌, ◌≤◌, ◌⊎◌, inl, inr, List, false, length, get_or, ap, sym, ◌∙◌}
use Rattle.std.proofs.lemmas.Bool.{both_ways}
use Rattle.std.proofs.lemmas.Option.{none-some, same_Some}
use Rattle.std.specs.Prelude.{Some}
use Rattle.board_base.specs.declared.men.Kind.{Kind}
use Rattle.figures.specs.Figures.{Figure, Sketch, figure_at, is_fixed_on, may_be}
use Rattle.figures.proofs.Numbered.{at-none, at-some}
use Rattle.sketch_rule.specs.Trees.{is_heavy}
use Rattle.sketch_node.specs.Nodes.{IsUnknownOn}

-- a figure that was read is there
pub read-there : (S items : Sketch) (i : ℕ) (f : Figure) → items ≡ S → i < length items → f ≡ get_or items i f → figure_at S i ≡ Some f
read-there S items i f value low is = ap (λ (T : Sketch). figure_at T i) (sym value) ∙ sym (at-some items i f low (sym is))

-- who has another square, or may be of another kind, isn't unknown there
pub known-there : (S : Sketch) (s i : ℕ) (f : Figure) → figure_at S i ≡ Some f → (is_fixed_on s f ≡ false) ⊎ (((k : Kind) → may_be f k ≡ is_heavy k) → ⊥) → IsUnknownOn S s i → ⊥
known-there S s i f there other it =
    let same : it.unknown.figure ≡ f = same_Some it.unknown.figure f (sym it.unknown.found ∙ there) in
    elim other [
      | inl loose ↦ both_ways _ loose (ap (is_fixed_on s) (sym same) ∙ it.fixed)
      | inr kinds ↦ kinds (λ k. ap (λ (g : Figure). may_be g k) (sym same) ∙ it.unknown.kinds k)
    ]

-- nobody is beyond the last
pub none-there : (S : Sketch) (s i : ℕ) → length S ≤ i → IsUnknownOn S s i → ⊥
none-there S s i past it = none-some it.unknown.figure (at-none S i past ∙ it.unknown.found)
