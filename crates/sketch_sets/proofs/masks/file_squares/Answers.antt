use Rattle.std.proofs.Common.{◌≡◌, ◌==◌, ℕ, ap, refl, sym, ◌∙◌, arith}
use Rattle.board_base.specs.Board.{file}
use Rattle.board_base.specs.Squares.{squares_of}
use Rattle.figures.specs.Sets.{squares_that}
use Rattle.sketch_sets.proofs.masks.file_squares.Goals as goal

row-0 : squares_of 72340172838076673 ≡ squares_that (λ q. file q == 0)
unfolding squares_of squares_that
row-0 = refl

row-1 : squares_of 144680345676153346 ≡ squares_that (λ q. file q == 1)
unfolding squares_of squares_that
row-1 = refl

row-2 : squares_of 289360691352306692 ≡ squares_that (λ q. file q == 2)
unfolding squares_of squares_that
row-2 = refl

row-3 : squares_of 578721382704613384 ≡ squares_that (λ q. file q == 3)
unfolding squares_of squares_that
row-3 = refl

row-4 : squares_of 1157442765409226768 ≡ squares_that (λ q. file q == 4)
unfolding squares_of squares_that
row-4 = refl

row-5 : squares_of 2314885530818453536 ≡ squares_that (λ q. file q == 5)
unfolding squares_of squares_that
row-5 = refl

row-6 : squares_of 4629771061636907072 ≡ squares_that (λ q. file q == 6)
unfolding squares_of squares_that
row-6 = refl

row-7 : squares_of 9259542123273814144 ≡ squares_that (λ q. file q == 7)
unfolding squares_of squares_that
row-7 = refl

pub returns-in-0 : goal.returns-in-0
returns-in-0 c = c.from_bits.ensures.squares ∙ row-0 ∙ ap (λ (n : ℕ). squares_that (λ q. file q == n)) (sym c.in-0.is)

pub returns-in-1 : goal.returns-in-1
returns-in-1 c = c.from_bits-in-1.ensures.squares ∙ row-1 ∙ ap (λ (n : ℕ). squares_that (λ q. file q == n)) (sym c.in-1.is)

pub returns-in-2 : goal.returns-in-2
returns-in-2 c = c.from_bits-in-2.ensures.squares ∙ row-2 ∙ ap (λ (n : ℕ). squares_that (λ q. file q == n)) (sym c.in-2.is)

pub returns-in-3 : goal.returns-in-3
returns-in-3 c = c.from_bits-in-3.ensures.squares ∙ row-3 ∙ ap (λ (n : ℕ). squares_that (λ q. file q == n)) (sym c.in-3.is)

pub returns-in-4 : goal.returns-in-4
returns-in-4 c = c.from_bits-in-4.ensures.squares ∙ row-4 ∙ ap (λ (n : ℕ). squares_that (λ q. file q == n)) (sym c.in-4.is)

pub returns-in-5 : goal.returns-in-5
returns-in-5 c = c.from_bits-in-5.ensures.squares ∙ row-5 ∙ ap (λ (n : ℕ). squares_that (λ q. file q == n)) (sym c.in-5.is)

pub returns-in-6 : goal.returns-in-6
returns-in-6 c = c.from_bits-in-6.ensures.squares ∙ row-6 ∙ ap (λ (n : ℕ). squares_that (λ q. file q == n)) (sym c.in-6.is)

pub returns-in_default : goal.returns-in_default
returns-in_default c = c.from_bits-in_default.ensures.squares ∙ row-7 ∙ ap (λ (n : ℕ). squares_that (λ q. file q == n)) (sym (let same : c.args.n ≡ 7 = omega arith in same))
