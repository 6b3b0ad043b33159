-- The ledger and the gates added up over the homes of both sides.
use Rattle.std.proofs.Common.{◌≡◌, ◌≢◌, ℕ, ◌+◌, ◌*◌, ◌≤◌, Bool, true, List, [], ◌∷◌, length, arith}
use Rattle.std.proofs.lemmas.Bool.{and_parts}
use Rattle.std.proofs.lemmas.List.Sums.{sum_by-cons}
use Rattle.std.specs.List.{AllPairs, Contains, range_with_len, sum_by}
use Rattle.board_base.specs.Board.{array_of, at, is_of, is_a, is_the, opponent}
use Rattle.board_base.specs.Game.{IsGame}
use Rattle.board_base.specs.declared.men.Colour.{Colour}
use Rattle.board_base.specs.declared.men.Colour.TheVariants.{White, Black}
use Rattle.board_base.specs.declared.men.Kind.TheVariants.{Pawn}
use Rattle.board_base.specs.declared.moves.Move.{Move}
use Rattle.general_lemmas.proofs.Lists.{contains-first, contains-later}
use Rattle.general_lemmas.proofs.SumsAmong.{sum-both}
use Rattle.men_fates.specs.Deeds.{strikes}
use Rattle.men_ledger.specs.Files.{gates_passed}
use Rattle.men_ledger.specs.Ledger.{earned, paid, turnover}
use Rattle.men_ledger.proofs.Balance.{paid-in-all, earned-in-all}
use Rattle.men_ledger.proofs.Gates.{gates-most}

-- what is no more for each number is no more in all
pub sum-each : (f g : ℕ → ℕ) (xs : List ℕ) → ((x : ℕ) → Contains xs x → f x ≤ g x) → sum_by f xs ≤ sum_by g xs
sum-each f g [] each = omega arith
sum-each f g (x ∷ xs) each = omega (arith, sum_by-cons f x xs, sum_by-cons g x xs, each x (contains-first x xs), sum-each f g xs (λ y there. each y (contains-later x xs y there)))

pub sum-base : (base : ℕ) (f : ℕ → ℕ) (xs : List ℕ) → sum_by (λ x. base + f x) xs ≡ base * length xs + sum_by f xs
sum-base base f [] = omega arith
sum-base base f (x ∷ xs) = omega (arith, sum_by-cons (λ y. base + f y) x xs, sum_by-cons f x xs, sum-base base f xs)

-- one side's homes
pub side-sum : (base : ℕ) (cost pays gates earns : ℕ → ℕ) (xs : List ℕ) → ((x : ℕ) → Contains xs x → cost x + earns x ≤ base + (pays x + gates x)) → sum_by cost xs + sum_by earns xs ≤ base * length xs + (sum_by pays xs + sum_by gates xs)
side-sum base cost pays gates earns xs each =
    omega (arith, sum-each (λ x. cost x + earns x) (λ x. base + (pays x + gates x)) xs each, sum-both cost earns xs, sum-base base (λ x. pays x + gates x) xs, sum-both pays gates xs)

pub pawn-of : (c : Colour) (o : List Bool) (h : ℕ) → is_the c Pawn (at (array_of o) h) ≡ true → is_of c (at (array_of o) h) ≡ true
pawn-of c o h pawn = (and_parts (is_of c (at (array_of o) h)) (is_a Pawn (at (array_of o) h)) pawn).0

added : (w b ew eb pw pb gw gb basew baseb most tw tb : ℕ) → w + ew ≤ basew + (pw + gw) → b + eb ≤ baseb + (pb + gb) → pw ≡ tw → eb ≡ tw → pb ≡ tb → ew ≡ tb → gw + gb ≤ most → w + b ≤ basew + baseb + most
added w b ew eb pw pb gw gb basew baseb most tw tb white black one other two another gates = omega arith

pub costs-fit : (o : List Bool) (g : List Move) (base : ℕ) (price : Colour → ℕ → ℕ) (gate : ℕ → ℕ) (homes : Colour → List ℕ) (cost : Colour → ℕ → ℕ) → IsGame o g → ((c : Colour) → AllPairs (λ h k. h ≢ k) (homes c)) → ((c : Colour) (h : ℕ) → is_of c (at (array_of o) h) ≡ true → Contains (homes c) h) → ((c : Colour) (h : ℕ) → Contains (homes c) h → cost c h + earned (price (opponent c)) (strikes o g (opponent c)) h ≤ base + (paid (price c) (strikes o g c) h + gates_passed gate o g c h)) → sum_by (cost White) (homes White) + sum_by (cost Black) (homes Black) ≤ base * length (homes White) + base * length (homes Black) + sum_by gate (range_with_len 0 64)
costs-fit o g base price gate homes cost game differ all each =
    let side : (c : Colour) → sum_by (cost c) (homes c) + sum_by (earned (price (opponent c)) (strikes o g (opponent c))) (homes c) ≤ base * length (homes c) + (sum_by (paid (price c) (strikes o g c)) (homes c) + sum_by (gates_passed gate o g c) (homes c)) =
    λ c. side-sum base (cost c) (paid (price c) (strikes o g c)) (gates_passed gate o g c) (earned (price (opponent c)) (strikes o g (opponent c))) (homes c) (each c) in
    let pays : (c : Colour) → sum_by (paid (price c) (strikes o g c)) (homes c) ≡ turnover (price c) (strikes o g c) =
    λ c. paid-in-all o g c (price c) (homes c) game (differ c) (λ h pawn. all c h (pawn-of c o h pawn)) in
    let earns : (c : Colour) → sum_by (earned (price c) (strikes o g c)) (homes (opponent c)) ≡ turnover (price c) (strikes o g c) =
    λ c. earned-in-all o g c (price c) (homes (opponent c)) game (differ (opponent c)) (all (opponent c)) in
    added _ _ _ _ _ _ _ _ _ _ _ (turnover (price White) (strikes o g White)) (turnover (price Black) (strikes o g Black)) (side White) (side Black) (pays White) (earns White) (pays Black) (earns Black) (gates-most o g gate (homes White) (homes Black) game (differ White) (differ Black))
