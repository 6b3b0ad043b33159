-- Some men began as pawns, since others have all the homes.
use Rattle.std.proofs.Common.{◌≡◌, ℕ, ◌+◌, ◌<◌, ◌≤◌, inl, inr, Bool, true, false, cond, not, List, [], ◌∷◌, refl, ap, arith}
use Rattle.std.specs.Prelude.{◌&&◌, Option, Some, None, is_none}
use Rattle.std.specs.List.{count_by, filter, range_with_len}
use Rattle.std.proofs.lemmas.Bool.{both_ways}
use Rattle.std.proofs.lemmas.List.Sums.{length-filter}
use Rattle.general_lemmas.proofs.Counts.{count-cons, one_if}
use Rattle.general_lemmas.proofs.Differing.{Has, contains-has, differ-filter, differ-range, has-contains, has-filter, has-range, pairs-differ, range-has}
use Rattle.general_lemmas.proofs.Lists.{contains-filter}
use Rattle.board_base.specs.Board.{Places, array_of, at, is_a, is_in}
use Rattle.board_base.specs.Game.{IsGame}
use Rattle.board_base.specs.declared.men.Kind.TheVariants.{Pawn}
use Rattle.board_base.specs.declared.moves.Move.{Move}
use Rattle.men_account.specs.Labels.{label_at, labels_after}
use Rattle.ledger_facts.specs.Lines.{began_as_piece, is_of_piece}
use Rattle.ledger_facts.proofs.Pieces.{pieces-few}
use Rattle.ledger_lines.specs.Facts.{began_as_pawns, is_of_pawn}
use Rattle.ledger_lines.specs.Known.{number_in}

not-twice : (b : Bool) → not (not b) ≡ b
not-twice true = refl
not-twice false = refl

-- who didn't begin as a piece began as a pawn
piece-or-pawn : (first : Places) (label : Option ℕ) → is_none label ≡ false → not (is_of_piece first label) ≡ is_of_pawn first label
piece-or-pawn first None some = absurd (both_ways true some refl)
piece-or-pawn first (Some h) some = not-twice (is_a Pawn (at first h))

count-kept : (q : ℕ → Bool) (b : Bool) (x : ℕ) (ys : List ℕ) → count_by q (cond b (x ∷ ys) ys) ≡ one_if (b && q x) + count_by q ys
count-kept q true x ys = count-cons q x ys
count-kept q false x ys = omega arith

both-or-none : (a q r : Bool) → (a ≡ true → q ≡ r) → (a && q) ≡ (a && r)
both-or-none true q r same = same refl
both-or-none false q r same = refl

-- two tests of what passes a first one
count-both : (p q r : ℕ → Bool) (xs : List ℕ) → ((s : ℕ) → Has xs s → p s ≡ true → q s ≡ r s) → count_by q (filter p xs) ≡ count_by (λ s. p s && r s) xs
count-both p q r [] each = refl
count-both p q r (x ∷ xs) each =
    let here : one_if (p x && q x) ≡ one_if (p x && r x) = ap one_if (both-or-none (p x) (q x) (r x) (each x (inl refl))) in
    let later = count-both p q r xs (λ s there. each s (inr there)) in
    omega (arith, count-kept q (p x) x (filter p xs), here, later, count-cons (λ s. p s && r s) x xs)

-- The men on a set who began as no pawns began on homes that pass a test. So no more than these homes did, and the rest began as pawns.
pub pawns-among : (o : List Bool) (g : List Move) (set : List Bool) (may : ℕ → Bool) → IsGame o g → ((s h : ℕ) → s < 64 → is_in set s ≡ true → label_at (labels_after o g) s ≡ Some h → is_a Pawn (at (array_of o) h) ≡ false → (h < 64) × (may h ≡ true)) → ((s : ℕ) → s < 64 → is_in set s ≡ true → is_none (label_at (labels_after o g) s) ≡ false) → number_in set ≤ count_by may (range_with_len 0 64) + began_as_pawns o g set
unfolding number_in began_as_pawns
pawns-among o g set may game each labelled =
    let range : List ℕ = range_with_len 0 64 in
    let squares : List ℕ = filter (is_in set) range in
    let homes : List ℕ = filter may range in
    let few = pieces-few o g squares homes game (pairs-differ squares (differ-filter (is_in set) range (differ-range 0 64))) (λ s h there label piece.
    let found = has-filter (is_in set) range s (contains-has squares s there) in
    let home = each s h (range-has 0 64 s found.1).1 found.0 label piece in
    contains-filter may range h (has-contains range h (has-range 0 64 h (omega arith) (let low = home.0 in omega arith))) home.1) in
    let rest = count-both (is_in set) (λ s. not (began_as_piece o g s)) (λ s. is_of_pawn (array_of o) (label_at (labels_after o g) s)) range (λ s there member. piece-or-pawn (array_of o) (label_at (labels_after o g) s) (labelled s (range-has 0 64 s there).1 member)) in
    omega (arith, few, rest, length-filter (is_in set) range, length-filter may range, length-filter (λ s. not (began_as_piece o g s)) squares)
