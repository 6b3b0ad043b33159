-- What men need from their homes, one after another.
use Rattle.std.proofs.Common.{◌≡◌, ℕ, suc, ◌+◌, ◌-◌, ◌<◌, ◌≤◌, Bool, true, false, List, [], ◌∷◌, ◌++◌, length, drop, get_or, refl, sym, ap, ◌∙◌, append-nil, append_assoc, arith}
use Rattle.std.proofs.lemmas.Bool.{cond-false, cond-true}
use Rattle.std.proofs.lemmas.List.{drop_more}
use Rattle.std.specs.List.{range_with_len}
use Rattle.board_base.specs.Board.{Places, at, home_of, is_of}
use Rattle.board_base.specs.declared.men.Colour.{Colour}
use Rattle.dossier_prose.specs.Lengths.{way_words, ways_words}

-- without homes nothing is said
pub no_homes : (o : List Bool) (c : Colour) (board : Places) (squares : List ℕ) → ways_words o c board squares [] ≡ []
unfolding ways_words
no_homes o c board [] = refl
no_homes o c board (s ∷ squares) = refl

-- who isn't of the side is passed over
pub passed : (o : List Bool) (c : Colour) (board : Places) (s : ℕ) (squares homes : List ℕ) → is_of c (at board s) ≡ false → ways_words o c board squares homes ≡ ways_words o c board (s ∷ squares) homes
unfolding ways_words
passed o c board s squares [] other = no_homes o c board squares
passed o c board s squares (j ∷ homes) other =
    sym (cond-false (is_of c (at board s)) (way_words o (at board s) s (home_of c j) ++ ways_words o c board squares homes) (ways_words o c board squares (j ∷ homes)) other)

-- the next man takes the next home
pub taken : (o : List Bool) (c : Colour) (board : Places) (s j n : ℕ) (squares homes old new : List ℕ) → is_of c (at board s) ≡ true → n < length homes → j ≡ get_or homes n 0 → new ≡ old ++ way_words o (at board s) s (home_of c j) → new ++ ways_words o c board squares (drop (n + 1) homes) ≡ old ++ ways_words o c board (s ∷ squares) (drop n homes)
unfolding ways_words
taken o c board s j n squares homes old new own inside is more =
    let next : drop n homes ≡ j ∷ drop (n + 1) homes = drop_more homes n 0 inside ∙ ap (λ (k : ℕ). k ∷ drop (n + 1) homes) (sym is) in
    let later : List ℕ = ways_words o c board squares (drop (n + 1) homes) in
    ap (λ (l : List ℕ). l ++ later) more
    ∙ append_assoc old (way_words o (at board s) s (home_of c j)) later
    ∙ ap (λ (l : List ℕ). old ++ l) (sym (cond-true (is_of c (at board s)) (way_words o (at board s) s (home_of c j) ++ later) (ways_words o c board squares (j ∷ drop (n + 1) homes)) own))
    ∙ ap (λ (l : List ℕ). old ++ ways_words o c board (s ∷ squares) l) (sym next)

-- the squares from this one on
from_square : (i : ℕ) → i < 64 → range_with_len i (64 - i) ≡ i ∷ range_with_len (i + 1) (64 - (i + 1))
from_square i inside = let more : 64 - i ≡ suc (64 - (i + 1)) = omega arith in ap (range_with_len i) more

-- one square more
pub next_square : (o : List Bool) (c : Colour) (board : Places) (i s : ℕ) (homes : List ℕ) (n m : ℕ) (old new whole : List ℕ) → i < 64 → s ≡ i → new ++ ways_words o c board (range_with_len (i + 1) (64 - (i + 1))) (drop m homes) ≡ old ++ ways_words o c board (s ∷ range_with_len (i + 1) (64 - (i + 1))) (drop n homes) → old ++ ways_words o c board (range_with_len i (64 - i)) (drop n homes) ≡ whole → new ++ ways_words o c board (range_with_len (i + 1) (64 - (i + 1))) (drop m homes) ≡ whole
next_square o c board i s homes n m old new whole inside is step before =
    step
    ∙ ap (λ (k : ℕ). old ++ ways_words o c board (k ∷ range_with_len (i + 1) (64 - (i + 1))) (drop n homes)) is
    ∙ ap (λ (l : List ℕ). old ++ ways_words o c board l (drop n homes)) (sym (from_square i inside))
    ∙ before

-- behind the last square
pub last_square : (o : List Bool) (c : Colour) (board : Places) (i : ℕ) (homes old whole : List ℕ) → 64 ≤ i → old ++ ways_words o c board (range_with_len i (64 - i)) homes ≡ whole → old ≡ whole
unfolding ways_words
last_square o c board i homes old whole all before =
    let none : 64 - i ≡ 0 = omega arith in
    sym (append-nil old) ∙ ap (λ (k : ℕ). old ++ ways_words o c board (range_with_len i k) homes) (sym none) ∙ before
