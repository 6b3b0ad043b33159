use Rattle.std.proofs.Common.{◌≡◌, ◌==◌, ◌<◌, ◌^◌, ℕ, Bool, List, ap, sym, ◌∙◌}
use Rattle.general_lemmas.proofs.Truth.{same_truth}
use Rattle.std.specs.Bool.{beq}
use Rattle.std.specs.Cmp.{unsigned_Decides}
use Rattle.std.specs.Cmp.Lexicographic.{pointwise}
use Rattle.board_base.specs.Squares.{squares_of, number_of}
use Rattle.board_base.specs.SameSets.{sets_decide}
use Rattle.board_base.specs.SquareNumbers.{number_of-squares_of}
use Rattle.board_base.proofs.square_sets.SquareSetPartialEq.eq.Goals as goal

-- numbers of 64 bits are equal exactly where their sets are
same-sets : (m n : ℕ) → m < 2 ^ 64 → n < 2 ^ 64 → (m == n) ≡ pointwise beq (squares_of m) (squares_of n)
same-sets m n m_fits n_fits =
    let numbers = unsigned_Decides m n in
    let sets = sets_decide (squares_of m) (squares_of n) in
    same_truth _ _
    (λ e. sets.1 (ap squares_of (numbers.0 e)))
    (λ e. numbers.1 (sym (number_of-squares_of m m_fits) ∙ ap number_of (sets.0 e) ∙ number_of-squares_of n n_fits))

pub returns : goal.returns
returns c =
    same-sets c.self.inside.bits c.other.inside.bits c.self.invariant c.other.invariant
    ∙ ap (λ (set : List Bool). pointwise beq set (squares_of c.other.inside.bits)) c.self.view_is
    ∙ ap (pointwise beq c.args.self.now) c.other.view_is
