use Rattle.std.proofs.Common.{◌≡◌, ap, ◌∙◌, ℕ}
use Rattle.board_base.specs.Attacks.{toward}
use Rattle.sketch_sets.proofs.Wayside.{way-number}
use Rattle.sketch_sets.proofs.ways.on_the_way.Goals as goal

ends : (a b x y n r : ℕ) → r ≡ toward a b n → a ≡ x → b ≡ y → r ≡ toward x y n
ends a b x y n r e p q = e ∙ ap (λ (z : ℕ). toward z b n) p ∙ ap (λ (z : ℕ). toward x z n) q

pub returns : goal.returns
returns c = way-number c.args.e c.args.s c.args.n c.step_toward.result c.step_toward-2.result (ends _ _ _ _ _ _ c.step_toward.ensures.value c.rank.ensures c.rank-2.ensures) (ends _ _ _ _ _ _ c.step_toward-2.ensures.value c.file.ensures c.file-2.ensures)
