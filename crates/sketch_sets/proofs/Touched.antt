-- Touched squares, figure by figure.
use Rattle.std.proofs.Common.{◌≡◌, ℕ, ◌*◌, ◌<◌, ◌==◌, Bool, true, false, ◌&&◌, ◌||◌, not, List, length, refl, ap, sym, ◌∙◌, arith}
use Rattle.std.proofs.lemmas.Bool.{and_from, and_parts, both_ways, eq-eqb, eqb-true, false_from_ne_true}
use Rattle.std.specs.List.{list_all, list_any, range_with_len}
use Rattle.general_lemmas.proofs.Truth.{same_truth}
use Rattle.general_lemmas.proofs.Ranges.{any-found}
use Rattle.board_base.specs.Board.{file, is_in, opponent, rank}
use Rattle.board_base.specs.Attacks.{files_apart, kind_attacks, on_one_diagonal, on_one_line, one_ahead, ranks_apart}
use Rattle.board_base.specs.declared.men.Colour.{Colour}
use Rattle.board_base.specs.declared.men.Colour.TheVariants.{White, Black}
use Rattle.board_base.specs.declared.men.Kind.{Kind}
use Rattle.board_base.specs.declared.men.Kind.TheVariants.{Pawn, Knight, Bishop, Rook, Queen, King}
use Rattle.board_base.proofs.Ways.{distance-sym, king_distance-sym}
use Rattle.figures.specs.Frozen.{is_next}
use Rattle.figures.proofs.SetAlgebra.{that-is}
use Rattle.figures.proofs.Tested.{any-told, member-inside}
use Rattle.figures.specs.Figures.{Figure, Sketch, is_fixed_on, only_on}
use Rattle.figures.specs.Touching.{gives_check, kings_of, touched_squares, touches, touches_from}
use Rattle.figures.proofs.Sketches.{fixed-there}
use Rattle.figures.proofs.Singles.{in-only, only-in}
use Rattle.sketch_sets.specs.Grounds.{is_king_there, surely_touches, touched_by}
use Rattle.sketch_sets.specs.Shifts.{attacks_past}
use Rattle.sketch_sets.specs.Tests.{meets, some_that}
use Rattle.sketch_sets.proofs.Attacking.{line-touched, touches-made}
use Rattle.sketch_sets.proofs.Shifting.{some-same}

pub surely-there : (f : Figure) (q s : ℕ) → length f.squares ≡ 64 → is_fixed_on q f ≡ true → list_all (λ k. touches f.colour k q s) f.kinds ≡ surely_touches f s
unfolding surely_touches
surely-there f q s size fixed =
    let low : q < 64 = member-inside f.squares q size (and_parts (is_in f.squares q) (list_all (λ t. not (is_in f.squares t) || (t == q)) (range_with_len 0 64)) fixed).0 in
    same_truth _ _
    (λ all. any-found (touches_from f s) 0 64 q (omega arith) low (and_from _ _ fixed all))
    (λ some.
    let it = any-told (touches_from f s) 0 64 some in
    let parts = and_parts (is_fixed_on it.0 f) (list_all (λ k. touches f.colour k it.0 s) f.kinds) it.2 in
    let there = and_parts (is_in f.squares it.0) (list_all (λ t. not (is_in f.squares t) || (t == it.0)) (range_with_len 0 64)) parts.0 in
    let same : it.0 ≡ q = fixed-there q it.0 f fixed it.1 there.0 in
    ap (λ (n : ℕ). list_all (λ k. touches f.colour k n s) f.kinds) (sym same) ∙ parts.1)

pub surely-none : (f : Figure) (s : ℕ) → ((q : ℕ) → is_fixed_on q f ≡ false) → false ≡ surely_touches f s
unfolding surely_touches
surely-none f s none = sym (false_from_ne_true _ (λ some.
    let it = any-told (touches_from f s) 0 64 some in
    both_ways _ (none it.0) (and_parts (is_fixed_on it.0 f) (list_all (λ k. touches f.colour k it.0 s) f.kinds) it.2).0))

-- who touches a square from another is touched from there by his like of the other colour
eqb-back : (a b : ℕ) → (a == b) ≡ (b == a)
eqb-back a b = same_truth _ _ (λ h. eq-eqb b a (sym (eqb-true a b h))) (λ h. eq-eqb a b (sym (eqb-true b a h)))

next-back : (e s : ℕ) → is_next e s ≡ is_next s e
next-back e s = ap (λ (n : ℕ). n == 1) (king_distance-sym e s)

line-back : (e s : ℕ) → on_one_line e s ≡ on_one_line s e
line-back e s = ap (λ (x : Bool). x || (rank e == rank s)) (eqb-back (file e) (file s)) ∙ ap (λ (x : Bool). (file s == file e) || x) (eqb-back (rank e) (rank s))

diagonal-back : (e s : ℕ) → on_one_diagonal e s ≡ on_one_diagonal s e
diagonal-back e s = ap (λ (n : ℕ). n == ranks_apart e s) (distance-sym (file e) (file s)) ∙ ap (λ (n : ℕ). files_apart s e == n) (distance-sym (rank e) (rank s))

along-back : (e s : ℕ) (a b : Bool) → a ≡ b → (a && is_next e s) ≡ (b && is_next s e)
along-back e s a b same = ap (λ (x : Bool). x && is_next e s) same ∙ ap (λ (x : Bool). b && x) (next-back e s)

touch-back : (c : Colour) (k : Kind) (e s : ℕ) → touches c k e s ≡ touches (opponent c) k s e
unfolding touches kind_attacks
touch-back White Pawn e s = ap (λ (n : ℕ). (one_ahead White e s && (n == 1)) && (false || is_next e s)) (distance-sym (file e) (file s)) ∙ ap (λ (x : Bool). (one_ahead White e s && (files_apart s e == 1)) && (false || x)) (next-back e s)
touch-back Black Pawn e s = ap (λ (n : ℕ). (one_ahead Black e s && (n == 1)) && (false || is_next e s)) (distance-sym (file e) (file s)) ∙ ap (λ (x : Bool). (one_ahead Black e s && (files_apart s e == 1)) && (false || x)) (next-back e s)
touch-back c Knight e s = ap (λ (n : ℕ). (n * ranks_apart e s == 2) && true) (distance-sym (file e) (file s)) ∙ ap (λ (n : ℕ). (files_apart s e * n == 2) && true) (distance-sym (rank e) (rank s))
touch-back c Bishop e s = sym (line-touched e s (on_one_diagonal e s)) ∙ along-back e s (on_one_diagonal e s) (on_one_diagonal s e) (diagonal-back e s) ∙ line-touched s e (on_one_diagonal s e)
touch-back c Rook e s = sym (line-touched e s (on_one_line e s)) ∙ along-back e s (on_one_line e s) (on_one_line s e) (line-back e s) ∙ line-touched s e (on_one_line s e)
touch-back c Queen e s =
    let both : (on_one_line e s || on_one_diagonal e s) ≡ (on_one_line s e || on_one_diagonal s e) = ap (λ (x : Bool). x || on_one_diagonal e s) (line-back e s) ∙ ap (λ (x : Bool). on_one_line s e || x) (diagonal-back e s) in
    sym (line-touched e s (on_one_line e s || on_one_diagonal e s)) ∙ along-back e s (on_one_line e s || on_one_diagonal e s) (on_one_line s e || on_one_diagonal s e) both ∙ line-touched s e (on_one_line s e || on_one_diagonal s e)
touch-back c King e s = ap (λ (x : Bool). x && (false || is_next e s)) (next-back e s) ∙ ap (λ (x : Bool). is_next s e && (false || x)) (next-back e s)

some-only : (q : ℕ) (p : ℕ → Bool) → q < 64 → some_that (only_on q) p ≡ p q
unfolding some_that
some-only q p low = same_truth _ _
    (λ h.
    let it = any-told (λ s. is_in (only_on q) s && p s) 0 64 h in
    let parts = and_parts (is_in (only_on q) it.0) (p it.0) it.2 in
    ap p (sym (only-in q it.0 parts.0)) ∙ parts.1)
    (λ h. any-found (λ s. is_in (only_on q) s && p s) 0 64 q (omega arith) low (and_from _ _ (in-only q low) h))

pub touched-from : (c : Colour) (k : Kind) (q s : ℕ) (here fixed : List Bool) → q < 64 → here ≡ only_on q → some_that here (attacks_past k (opponent c) fixed 1 s) ≡ touches c k q s
touched-from c k q s here fixed low is =
    ap (λ (l : List Bool). some_that l (attacks_past k (opponent c) fixed 1 s)) is
    ∙ some-same (only_on q) (attacks_past k (opponent c) fixed 1 s) (touches (opponent c) k s) (λ t inside. touches-made fixed (opponent c) k s t)
    ∙ some-only q (touches (opponent c) k s) low
    ∙ sym (touch-back c k q s)

pub touched-made : (T : Sketch) (c : Colour) (made : List Bool) → length made ≡ 64 → ((s : ℕ) → s < 64 → is_in made s ≡ list_any (touched_by c s) T) → made ≡ touched_squares T c
unfolding touched_squares surely_touches
touched-made T c made size each = that-is (λ s. list_any (touched_by c s) T) made size each

pub kings-made : (T : Sketch) (c : Colour) (made : List Bool) → length made ≡ 64 → ((q : ℕ) → q < 64 → is_in made q ≡ list_any (is_king_there c q) T) → made ≡ kings_of T c
unfolding kings_of is_king_there
kings-made T c made size each = that-is (λ q. list_any (is_king_there c q) T) made size each

pub check-made : (T : Sketch) (c : Colour) → meets (kings_of T (opponent c)) (touched_squares T c) ≡ gives_check T c
unfolding gives_check meets
check-made T c = refl
