-- Four rays together.
use Rattle.std.proofs.Common.{◌≡◌, ℕ, ◌<◌, Bool, ◌||◌, List, ap, ◌∙◌}
use Rattle.board_base.specs.Board.{is_in}
use Rattle.board_base.specs.declared.lines.Change.TheVariants.{Falls, Stays, Rises}
use Rattle.board_base.specs.declared.lines.Direction.{Direction}
use Rattle.board_base.proofs.Ways.{heading}
use Rattle.figures.specs.Sets.{union}
use Rattle.sketch_sets.specs.Shifts.{comes_by, goes_diagonally, goes_straight_on, reaches}
use Rattle.sketch_sets.specs.Tests.{some_that}
use Rattle.sketch_sets.proofs.Rays.{diagonal-reached, line-reached}
use Rattle.sketch_sets.proofs.Sets.{told-either}
use Rattle.sketch_sets.proofs.Shifting.{ray-reaches, some-four, some-same}

-- a square of one of four sets
pub told-four : (a b c d ab cd all : List Bool) (e : ℕ) → e < 64 → ab ≡ union a b → cd ≡ union c d → all ≡ union ab cd → is_in all e ≡ ((is_in a e || is_in b e) || (is_in c e || is_in d e))
told-four a b c d ab cd all e low eab ecd eall =
    told-either ab cd all e low eall ∙ ap (λ (x : Bool). x || is_in cd e) (told-either a b ab e low eab)
    ∙ ap (λ (x : Bool). (is_in a e || is_in b e) || x) (told-either c d cd e low ecd)

pub four-equal : {x y z w x' y' z' w' : Bool} → x ≡ x' → y ≡ y' → z ≡ z' → w ≡ w' → ((x || y) || (z || w)) ≡ ((x' || y') || (z' || w'))
four-equal p q r t = cc

abbrev pub IsRay : Direction → List Bool → List Bool → ℕ → List Bool → Type 0
IsRay d to fixed n set = (e : ℕ) → e < 64 → is_in set e ≡ comes_by d to fixed n e

pub straight-made : (to fixed : List Bool) (n e : ℕ) → e < 64 → (a b c d ab cd all : List Bool) → ab ≡ union a b → cd ≡ union c d → all ≡ union ab cd → IsRay (heading Falls Stays) to fixed n a → IsRay (heading Stays Falls) to fixed n b → IsRay (heading Stays Rises) to fixed n c → IsRay (heading Rises Stays) to fixed n d → is_in all e ≡ some_that to (goes_straight_on fixed n e)
straight-made to fixed n e low a b c d ab cd all eab ecd eall ra rb rc rd =
    let p : Direction → ℕ → Bool = λ x. reaches x fixed n e in
    told-four a b c d ab cd all e low eab ecd eall
    ∙ some-four to (p (heading Falls Stays)) (p (heading Stays Falls)) (p (heading Stays Rises)) (p (heading Rises Stays)) (ra e low ∙ ray-reaches (heading Falls Stays) to fixed n e low) (rb e low ∙ ray-reaches (heading Stays Falls) to fixed n e low) (rc e low ∙ ray-reaches (heading Stays Rises) to fixed n e low) (rd e low ∙ ray-reaches (heading Rises Stays) to fixed n e low)
    ∙ some-same to (λ s. (p (heading Falls Stays) s || p (heading Stays Falls) s) || (p (heading Stays Rises) s || p (heading Rises Stays) s)) (goes_straight_on fixed n e) (λ s inside. line-reached fixed n e s low inside)

pub diagonal-made : (to fixed : List Bool) (n e : ℕ) → e < 64 → (a b c d ab cd all : List Bool) → ab ≡ union a b → cd ≡ union c d → all ≡ union ab cd → IsRay (heading Falls Falls) to fixed n a → IsRay (heading Falls Rises) to fixed n b → IsRay (heading Rises Falls) to fixed n c → IsRay (heading Rises Rises) to fixed n d → is_in all e ≡ some_that to (goes_diagonally fixed n e)
diagonal-made to fixed n e low a b c d ab cd all eab ecd eall ra rb rc rd =
    let p : Direction → ℕ → Bool = λ x. reaches x fixed n e in
    told-four a b c d ab cd all e low eab ecd eall
    ∙ some-four to (p (heading Falls Falls)) (p (heading Falls Rises)) (p (heading Rises Falls)) (p (heading Rises Rises)) (ra e low ∙ ray-reaches (heading Falls Falls) to fixed n e low) (rb e low ∙ ray-reaches (heading Falls Rises) to fixed n e low) (rc e low ∙ ray-reaches (heading Rises Falls) to fixed n e low) (rd e low ∙ ray-reaches (heading Rises Rises) to fixed n e low)
    ∙ some-same to (λ s. (p (heading Falls Falls) s || p (heading Falls Rises) s) || (p (heading Rises Falls) s || p (heading Rises Rises) s)) (goes_diagonally fixed n e) (λ s inside. diagonal-reached fixed n e s low inside)
