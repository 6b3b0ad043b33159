-- Each board of a game is sane.
use Rattle.std.proofs.Common.{◌≡◌, ℕ, suc, ◌+◌, ◌<◌, Bool, true, cond, ◌&&◌, List, [], ◌∷◌, length, get_or, refl, ap, sym, ◌∙◌, arith}
use Rattle.std.proofs.lemmas.Bool.{and_from, not_from_false, eq-eqb}
use Rattle.std.proofs.lemmas.List.Sums.{sum_by-cons}
use Rattle.std.specs.Prelude.{Option, None}
use Rattle.std.specs.List.{count_by, range_with_len}
use Rattle.std.proofs.Math.Bool.{and-true}
use Rattle.board_base.specs.Board.{AreOdds, Places, at, is_the}
use Rattle.board_base.specs.Game.{IsGame, board_after, turn_after}
use Rattle.board_base.specs.declared.men.Man.{Man}
use Rattle.board_base.specs.declared.men.Colour.{Colour}
use Rattle.board_base.specs.declared.men.Colour.TheVariants.{White, Black}
use Rattle.board_base.specs.declared.men.Kind.TheVariants.{King}
use Rattle.board_base.specs.declared.moves.Move.{Move}
use Rattle.play_rules.specs.Kings.{kings}
use Rattle.play_rules.proofs.NoPawns.{no_pawns}
use Rattle.play_rules.proofs.Kings.{one_king_each}
use Rattle.play_rules.proofs.Ends.{no_pawn_on_ends}
use Rattle.play_rules.proofs.Attacked.{no_king_left_attacked}
use Rattle.men_account.specs.Account.{is_any, men}
use Rattle.general_lemmas.proofs.Counts.{one_if}
use Rattle.men_account.proofs.Accounts.{accounts_hold}
use Rattle.unmove_gen.specs.Sane.{has_one_king, is_sane}

-- a count over the squares is a count over the places
count-places : (p : Option Man → Bool) (f : ℕ → Bool) (xs : Places) (k : ℕ) → ((i : ℕ) → i < length xs → f (k + i) ≡ p (get_or xs i None)) → count_by f (range_with_len k (length xs)) ≡ count_by p xs
count-places p f [] k same = refl
count-places p f (x ∷ xs) k same =
    let first : k ≡ k + 0 = omega arith in
    let head : f k ≡ p x = ap f first ∙ same 0 (omega arith) in
    let here : one_if (f k) ≡ one_if (p x) = ap one_if head in
    let next : (i : ℕ) → i < length xs → f (k + 1 + i) ≡ p (get_or xs i None) = λ i inside. let e : k + 1 + i ≡ k + suc i = omega arith in ap f e ∙ same (suc i) (omega arith) in
    omega (arith, here, count-places p f xs (k + 1) next, sum_by-cons (λ s. cond (f s) 1 0) k (range_with_len (k + 1) (length xs)), sum_by-cons (λ y. cond (p y) 1 0) x xs)

-- the kings that are counted by their squares
pub men-kings : (c : Colour) (board : Places) → length board ≡ 64 → men c King is_any board ≡ kings c board
unfolding men
men-kings c board len =
    ap (λ (n : ℕ). count_by (λ s. is_the c King (at board s) && is_any s) (range_with_len 0 n)) (sym len)
    ∙ count-places (is_the c King) (λ s. is_the c King (at board s) && is_any s) board 0 (λ i inside. let e : 0 + i ≡ i = omega arith in ap (λ (s : ℕ). is_the c King (at board s) && true) e ∙ and-true _)

one-king : (o : List Bool) (g : List Move) → AreOdds o → IsGame o g → (c : Colour) → has_one_king (board_after o g) c ≡ true
one-king o g odds game c = eq-eqb _ 1 (one_king_each o g odds game c)

pub sane-in-game : (o : List Bool) (g : List Move) → AreOdds o → IsGame o g → is_sane o (board_after o g) (turn_after g) ≡ true
unfolding is_sane
sane-in-game o g odds game =
    and_from _ _ (and_from _ _ (and_from _ _ (and_from _ _ (and_from _ _ (one-king o g odds game White) (accounts_hold o g game White)) (one-king o g odds game Black)) (accounts_hold o g game Black)) (no_pawns _ (no_pawn_on_ends o g game))) (not_from_false _ (no_king_left_attacked o g game))
