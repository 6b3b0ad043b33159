-- What captures by pawns cost and yield, home by home.
use Rattle.std.specs.Prelude.{ℕ, ◌==◌, List, map}
use Rattle.std.specs.List.{filter, sum_by}
use Rattle.men_fates.specs.Deeds.{Strike, struck_by}

-- the squares on which the man with label h was taken, in order
abbrev pub fallen_on : ℕ → List Strike → List ℕ
fallen_on h all = map (λ x. x.on) (filter (λ x. x.of == h) all)

-- what the pawn with label h pays: the prices of the squares on which he captured
abbrev pub paid : (ℕ → ℕ) → List Strike → ℕ → ℕ
paid price all h = sum_by price (struck_by h all)

-- what the man with label h earns: the price of the square on which a pawn took him, 0 if none did
abbrev pub earned : (ℕ → ℕ) → List Strike → ℕ → ℕ
earned price all h = sum_by price (fallen_on h all)

-- what is paid and earned in all
abbrev pub turnover : (ℕ → ℕ) → List Strike → ℕ
turnover price all = sum_by (λ x. price x.on) all
