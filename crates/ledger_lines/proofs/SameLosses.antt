-- Losses whose numbers compare equal are equal.
use Rattle.std.proofs.Common.{◌≡◌, ◌==◌, ℕ, true, refl, subst}
use Rattle.std.proofs.lemmas.Bool.{and_from, and_parts, eq-eqb, eqb-true}
use Rattle.ledger_lines.specs.SameLosses.{are_same}
use Rattle.ledger_lines.specs.declared.losses.Losses.{Losses}

same-losses : (a b : Losses) → a.queens ≡ b.queens → a.rooks ≡ b.rooks → a.dark_bishops ≡ b.dark_bishops → a.light_bishops ≡ b.light_bishops → a.knights ≡ b.knights → a.pawns ≡ b.pawns → a ≡ b
same-losses a b q r d l n p = λ i. record { queens = q i; rooks = r i; dark_bishops = d i; light_bishops = l i; knights = n i; pawns = p i }

pub same-equal : (a b : Losses) → are_same a b ≡ true → a ≡ b
same-equal a b h =
    let p1 = and_parts _ (a.pawns == b.pawns) h in
    let p2 = and_parts _ (a.knights == b.knights) p1.0 in
    let p3 = and_parts _ (a.light_bishops == b.light_bishops) p2.0 in
    let p4 = and_parts _ (a.dark_bishops == b.dark_bishops) p3.0 in
    let p5 = and_parts (a.queens == b.queens) (a.rooks == b.rooks) p4.0 in
    same-losses a b (eqb-true a.queens b.queens p5.0) (eqb-true a.rooks b.rooks p5.1) (eqb-true a.dark_bishops b.dark_bishops p4.1) (eqb-true a.light_bishops b.light_bishops p3.1) (eqb-true a.knights b.knights p2.1) (eqb-true a.pawns b.pawns p1.1)

self : (n : ℕ) → (n == n) ≡ true
self n = eq-eqb n n refl

same-itself : (a : Losses) → are_same a a ≡ true
same-itself a = and_from _ _ (and_from _ _ (and_from _ _ (and_from _ _ (and_from _ _ (self a.queens) (self a.rooks)) (self a.dark_bishops)) (self a.light_bishops)) (self a.knights)) (self a.pawns)

pub equal-same : (a b : Losses) → a ≡ b → are_same a b ≡ true
equal-same a b e = subst (λ (x : Losses). are_same a x ≡ true) e (same-itself a)
