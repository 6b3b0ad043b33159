use Rattle.std.proofs.Common.{◌≡◌, Bool, ◌||◌, List, ap, ◌∙◌}
use Rattle.std.specs.List.{list_any}
use Rattle.board_base.specs.declared.men.Kind.{Kind}
use Rattle.figures.proofs.EachKind.{any-kinds}
use Rattle.figures.proofs.kinds.KindSet.any.Goals as goal

six : (a b c d e f a' b' c' d' e' f' : Bool) → a ≡ a' → b ≡ b' → c ≡ c' → d ≡ d' → e ≡ e' → f ≡ f' → (a || (b || (c || (d || (e || f))))) ≡ (a' || (b' || (c' || (d' || (e' || f')))))
six a b c d e f a' b' c' d' e' f' p q r s t u = cc

pub returns : goal.returns
returns g c = λ p agrees. six _ _ _ _ _ _ _ _ _ _ _ _ (c.is_met-pawn.ensures p agrees) (c.is_met-knight.ensures p agrees) (c.is_met-bishop.ensures p agrees) (c.is_met-rook.ensures p agrees) (c.is_met-queen.ensures p agrees) (c.is_met-king.ensures p agrees) ∙ any-kinds p c.self.inside.pawn c.self.inside.knight c.self.inside.bishop c.self.inside.rook c.self.inside.queen c.self.inside.king ∙ ap (λ (l : List Kind). list_any p l) c.self.view_is
