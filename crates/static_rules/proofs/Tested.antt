-- What the tests of the rules tell.
use Rattle.std.proofs.Common.{◌≡◌, ℕ, ◌+◌, ◌<◌, ◌≤◌, Bool, true, List, length, ap, sym, ◌∙◌, subst, arith}
use Rattle.std.proofs.lemmas.Bool.{ltb-true, lt-ltb}
use Rattle.std.proofs.lemmas.List.{length-map}
use Rattle.std.specs.Prelude.{not, nat_lt, ℤ, pos, ◌+ℤ◌, ◌<ℤ◌}
use Rattle.board_base.specs.Board.{Places, array_of, opponent}
use Rattle.board_base.specs.declared.men.Colour.{Colour}
use Rattle.board_base.specs.declared.men.Kind.TheVariants.{Pawn}
use Rattle.men_account.specs.Account.{men, is_any, counts_of, excess_of, allowance_of}
use Rattle.men_account.specs.Homes.{men_of}
use Rattle.men_account.specs.declared.tallies.Counts.{Counts}
use Rattle.men_account.specs.declared.tallies.Allowance.{Allowance}
use Rattle.query_base.specs.Asked.{Asked}
use Rattle.cage_rules.specs.Refuted.{HasTooMany, is_spent}
use Rattle.cage_rules.specs.Regions.{is_dead}
use Rattle.assignment.specs.Assignments.{IsBounded, total}
use Rattle.pawn_assign.specs.PawnCosts.{pawn_costs, pawn_row, pawn_squares}
use Rattle.static_rules.specs.SetRules.{IsAbove}

more-told : (p all n m : ℕ) → p ≡ all → n ≡ m → (nat_lt p n ≡ true → all < m) × (all < m → nat_lt p n ≡ true)
more-told p all n m first e =
    (λ yes. let above : p < n = ltb-true p n yes in omega arith, λ more. lt-ltb p n (omega arith))

-- what the comparison of a sum with the men of the first board tells
abbrev Over : Bool → List Bool → ℤ → Colour → Places → Places → Type 0
Over b set sum enemy first board = (b ≡ true → (pos (men_of enemy is_any first) <ℤ (sum +ℤ pos (men_of enemy is_any board + men_of enemy (is_spent board set) first)))) × ((pos (men_of enemy is_any first) <ℤ (sum +ℤ pos (men_of enemy is_any board + men_of enemy (is_spent board set) first))) → b ≡ true)

above-told : (o : List Bool) (q : Asked) (c : Colour) (set : List Bool) (u v : List ℤ) (table : List (List ℕ)) (sum : ℤ) (b : Bool) → (length (pawn_squares c q.board) ≤ 8) × (table ≡ pawn_costs o c q.board) → IsBounded 8 table u v × (sum ≡ total u +ℤ total v) → Over b set sum (opponent c) (array_of o) q.board → (b ≡ true → IsAbove o q c set u v) × (IsAbove o q c set u v → b ≡ true)
above-told o q c set u v table sum b few bound over =
    let all : ℕ = men_of (opponent c) is_any (array_of o) in
    let rest : ℕ = men_of (opponent c) is_any q.board + men_of (opponent c) (is_spent q.board set) (array_of o) in
    let bounded : IsBounded 8 (pawn_costs o c q.board) u v = subst (λ (t : List (List ℕ)). IsBounded 8 t u v) few.1 bound.0 in
    let size : length u ≡ length (pawn_squares c q.board) = bounded.rows ∙ length-map (pawn_squares c q.board) (pawn_row o c) in (
      λ yes. record {
        pawns = sym size;
        eight = (let most = few.0 in omega arith);
        needs = record { bounded = bounded; above = subst (λ (x : ℤ). pos all <ℤ (x +ℤ pos rest)) bound.1 (over.0 yes) };
      },
      λ above. over.1 (subst (λ (x : ℤ). pos all <ℤ (x +ℤ pos rest)) (sym bound.1) above.needs.above),
    )

-- the same, of equal odds, boards, colours and sums
pub above-from : (q : Asked) (c : Colour) (set : List Bool) (u v : List ℤ) (table : List (List ℕ)) (sum : ℤ) (b : Bool) (o : List Bool) (first board : Places) (enemy : Colour) (given : ℤ) → o ≡ q.odds → first ≡ array_of o → board ≡ q.board → enemy ≡ opponent c → given ≡ sum → length (pawn_squares c q.board) ≤ 8 → table ≡ pawn_costs q.odds c q.board → IsBounded 8 table u v × (sum ≡ total u +ℤ total v) → Over b set given enemy first board → (b ≡ true → IsAbove q.odds q c set u v) × (IsAbove q.odds q c set u v → b ≡ true)
above-from q c set u v table sum b o first board enemy given eo ef eb ee eg few costs bound over =
    above-told q.odds q c set u v table sum b (few, costs) bound
    (subst (λ (x : ℤ). Over b set x (opponent c) (array_of q.odds) q.board) eg (subst (λ (y : Colour). Over b set given y (array_of q.odds) q.board) ee (subst (λ (z : Places). Over b set given enemy (array_of q.odds) z) eb (subst (λ (f : Places). Over b set given enemy f board) (ef ∙ ap array_of eo) over))))

pub more-from : (q : Asked) (c : Colour) (set : List Bool) (n : ℕ) (counted : Counts) (allowed : Allowance) (o : List Bool) (board : Places) → o ≡ q.odds → board ≡ q.board → n ≡ excess_of counted allowed → counted ≡ counts_of c board → allowed ≡ allowance_of c (λ h. not (is_dead board set h)) (array_of o) → (nat_lt allowed.pawns n ≡ true → HasTooMany q.odds q set c) × (HasTooMany q.odds q set c → nat_lt allowed.pawns n ≡ true)
more-from q c set n counted allowed o board eo eb en ec ea =
    subst (λ (x : List Bool). (nat_lt allowed.pawns n ≡ true → HasTooMany x q set c) × (HasTooMany x q set c → nat_lt allowed.pawns n ≡ true)) eo
    (more-told allowed.pawns (men c Pawn is_any (array_of o)) n (excess_of (counts_of c q.board) (allowance_of c (λ h. not (is_dead q.board set h)) (array_of o))) (ap (λ (a : Allowance). a.pawns) ea)
    (en ∙ ap (λ (x : Counts). excess_of x allowed) ec ∙ ap (excess_of (counts_of c board)) ea ∙ ap (λ (b : Places). excess_of (counts_of c b) (allowance_of c (λ h. not (is_dead b set h)) (array_of o))) eb))
