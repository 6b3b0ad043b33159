-- Sets of squares of both, and outside.
use Rattle.std.proofs.Common.{◌≡◌, ℕ, ◌<◌, Bool, ◌&&◌, not, List, ap, ◌∙◌}
use Rattle.board_base.specs.Board.{is_in}
use Rattle.cage_rules.specs.Sets.{squares_that}
use Rattle.cage_rules.proofs.Filling.{is_in-that}

pub in-both : (a b set : List Bool) (s : ℕ) → set ≡ squares_that (λ t. is_in a t && is_in b t) → s < 64 → is_in set s ≡ (is_in a s && is_in b s)
in-both a b set_ s e inside = ap (λ (l : List Bool). is_in l s) e ∙ is_in-that (λ t. is_in a t && is_in b t) s inside

pub in-outside : (a set : List Bool) (s : ℕ) → set ≡ squares_that (λ t. not (is_in a t)) → s < 64 → is_in set s ≡ not (is_in a s)
in-outside a set_ s e inside = ap (λ (l : List Bool). is_in l s) e ∙ is_in-that (λ t. not (is_in a t)) s inside
