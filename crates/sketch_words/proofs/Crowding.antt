-- Figures for whom there are too few homes.
use Rattle.std.proofs.Common.{◌≡◌, ℕ, zero, suc, ◌+◌, ◌≤◌, ◌==◌, Bool, true, false, cond, ◌&&◌, ◌||◌, not, List, [], ◌∷◌, ◌++◌, drop, length, refl, ap, sym, ◌∙◌, arith}
use Rattle.std.specs.Prelude.{None, Option, Some, count_by, nat_lt}
use Rattle.std.proofs.lemmas.List.{drop_all}
use Rattle.std.proofs.lemmas.List.Sums.{sum_by-cons}
use Rattle.std.specs.List.{range_with_len}
use Rattle.board_base.specs.Board.{Places, array_of, is_in}
use Rattle.figures.proofs.Filling.{is_in-that}
use Rattle.figures.specs.Figures.{Figure, Sketch, figure_at}
use Rattle.figures.specs.Homes.{is_home, lives_within}
use Rattle.figures.specs.Sets.{squares_that}
use Rattle.sketch_sets.proofs.Sets.{all-same, inside-told}
use Rattle.sketch_sets.specs.Homes.{has_like, home_count, homes_on}
use Rattle.sketch_words.specs.Crowds.{came_words, first_lacking, is_lodger, lacks_homes, lodgers_words, why_at}
use Rattle.sketch_words.specs.Lodging.{lacks_on, lives_on, lodges_on}
use Rattle.sketch_words.specs.Words.{set_words}
use Rattle.sketch_words.specs.declared.crowds.Lack.{Lack}
use Rattle.sketch_words.specs.declared.crowds.Lack.TheVariants.{Home, Room}
use Rattle.sketch_sets.proofs.Lodging.{count-same}

-- HOMES

homes-are : (o : List Bool) (f : Figure) → homes_on (array_of o) f ≡ squares_that (is_home o f)
unfolding homes_on has_like
homes-are o f = refl

lives-told : (o : List Bool) (f g : Figure) → lives_on (array_of o) (homes_on (array_of o) f) g ≡ lives_within o f g
unfolding homes_on has_like
lives-told o f g =
    inside-told (squares_that (is_home o g)) (is_home o f)
    ∙ all-same (λ q. not (is_in (squares_that (is_home o g)) q) || is_home o f q) (λ q. not (is_home o g q) || is_home o f q) 0 64 (λ q low. ap (λ (b : Bool). not b || is_home o f q) (is_in-that (is_home o g) q (omega arith)))

pub lodges-told : (o : List Bool) (f : Figure) (first : Places) (homes : List Bool) (g : Option Figure) → first ≡ array_of o → homes ≡ homes_on first f → lodges_on first homes g ≡ is_lodger o f g
lodges-told o f first homes None same is = refl
lodges-told o f first homes (Some g) same is =
    ap (λ (l : List Bool). lives_on first l g) is ∙ ap (λ (b : Places). lives_on b (homes_on b f) g) same ∙ lives-told o f g

-- COUNTS

count-each : (p r : Figure → Bool) (l : List Figure) → ((x : Figure) → p x ≡ r x) → count_by p l ≡ count_by r l
count-each p r [] same = refl
count-each p r (x ∷ l) same =
    sum_by-cons (λ y. cond (p y) 1 0) x l
    ∙ ap (λ (b : Bool). cond b 1 0 + count_by p l) (same x)
    ∙ ap (λ (m : ℕ). cond (r x) 1 0 + m) (count-each p r l same)
    ∙ sym (sum_by-cons (λ y. cond (r y) 1 0) x l)

lodgers-told : (o : List Bool) (T : Sketch) (f : Figure) → count_by (lives_on (array_of o) (homes_on (array_of o) f)) T ≡ count_by (lives_within o f) T
lodgers-told o T f = count-each (lives_on (array_of o) (homes_on (array_of o) f)) (lives_within o f) T (lives-told o f)

beds-told : (o : List Bool) (f : Figure) → home_count (homes_on (array_of o) f) ≡ count_by (is_home o f) (range_with_len 0 64)
unfolding home_count homes_on has_like
beds-told o f = count-same (is_in (squares_that (is_home o f))) (is_home o f) 0 64 (λ q low. is_in-that (is_home o f) q (omega arith))

not-not : (b : Bool) → b ≡ not (not b)
not-not true = refl
not-not false = refl

seats-told : (set : List Bool) → home_count set ≡ count_by (is_in set) (range_with_len 0 64)
unfolding home_count
seats-told set = refl

pub lacks-told : (lack : Lack) (o : List Bool) (T : Sketch) (f : Figure) → lacks_on lack (array_of o) T f ≡ lacks_homes lack o T f
lacks-told (Home below) o T f =
    ap (λ (n : ℕ). (n == 0) && nat_lt (home_count f.squares) below) (beds-told o f)
    ∙ ap (λ (n : ℕ). (count_by (is_home o f) (range_with_len 0 64) == 0) && nat_lt n below) (seats-told f.squares)
lacks-told Room o T f =
    ap (λ (n : ℕ). nat_lt n (count_by (lives_on (array_of o) (homes_on (array_of o) f)) T)) (beds-told o f)
    ∙ ap (λ (n : ℕ). nat_lt (count_by (is_home o f) (range_with_len 0 64)) n) (lodgers-told o T f)
    ∙ not-not (nat_lt (count_by (is_home o f) (range_with_len 0 64)) (count_by (lives_within o f) T))

-- ONE AFTER ANOTHER

drop-at : (S : Sketch) (i : ℕ) (f : Figure) → figure_at S i ≡ Some f → drop i S ≡ f ∷ drop (i + 1) S
drop-at [] i f e = cc
drop-at (g ∷ S) zero f e = let same : g ≡ f = cc in ap (λ (x : Figure). x ∷ S) same
drop-at (g ∷ S) (suc i) f e = let later : suc i + 1 ≡ suc (i + 1) = omega arith in drop-at S i f e ∙ ap (λ (n : ℕ). f ∷ drop n (g ∷ S)) (sym later)

pub none-past : (S : Sketch) (i : ℕ) → figure_at S i ≡ None → length S ≤ i
none-past [] i e = omega arith
none-past (f ∷ S) zero e = cc
none-past (f ∷ S) (suc i) e = let past : length S ≤ i = none-past S i e in omega (arith, past)

crowd-at : (lack : Lack) (o : List Bool) (T : Sketch) (i : ℕ) (f : Figure) (first : Places) (b : Bool) → first ≡ array_of o → figure_at T i ≡ Some f → lacks_on lack first T f ≡ b → first_lacking lack o T i (drop i T) ≡ cond b (Some i) (first_lacking lack o T (i + 1) (drop (i + 1) T))
crowd-at lack o T i f first b same found is =
    ap (first_lacking lack o T i) (drop-at T i f found)
    ∙ ap (λ (h : Bool). cond h (Some i) (first_lacking lack o T (i + 1) (drop (i + 1) T))) (sym (lacks-told lack o T f) ∙ ap (λ (p : Places). lacks_on lack p T f) (sym same) ∙ is)

pub crowd-on : (lack : Lack) (o : List Bool) (T : Sketch) (i : ℕ) (f : Figure) (first : Places) → first ≡ array_of o → figure_at T i ≡ Some f → lacks_on lack first T f ≡ false → first_lacking lack o T i (drop i T) ≡ first_lacking lack o T 0 T → first_lacking lack o T (i + 1) (drop (i + 1) T) ≡ first_lacking lack o T 0 T
crowd-on lack o T i f first same found is before = sym (crowd-at lack o T i f first false same found is) ∙ before

pub crowd-here : (lack : Lack) (o : List Bool) (T : Sketch) (i : ℕ) (f : Figure) (first : Places) → first ≡ array_of o → figure_at T i ≡ Some f → lacks_on lack first T f ≡ true → first_lacking lack o T i (drop i T) ≡ first_lacking lack o T 0 T → Some i ≡ first_lacking lack o T 0 T
crowd-here lack o T i f first same found is before = sym (crowd-at lack o T i f first true same found is) ∙ before

pub crowd-end : (lack : Lack) (o : List Bool) (T : Sketch) (i : ℕ) → length T ≤ i → first_lacking lack o T i (drop i T) ≡ first_lacking lack o T 0 T → None ≡ first_lacking lack o T 0 T
crowd-end lack o T i past before = sym (ap (first_lacking lack o T i) (drop_all i T past)) ∙ before

-- IN WORDS

pub crowd-words : (o : List Bool) (D S T : Sketch) (i : ℕ) (f : Figure) (first : Places) (homes : List Bool) (own : Option Figure) (names home_list squares : List ℕ) (old new : List ℕ) → first ≡ array_of o → homes ≡ homes_on first f → own ≡ figure_at S i → names ≡ lodgers_words o D S T f → home_list ≡ set_words homes → squares ≡ set_words f.squares → new ≡ old ++ came_words D i own names home_list squares → new ≡ old ++ why_at o D S T i (Some f)
crowd-words o D S T i f first homes own names home_list squares old new same is own_is named listed seen text =
    let homes_is : homes ≡ squares_that (is_home o f) = is ∙ ap (λ (p : Places). homes_on p f) same ∙ homes-are o f in
    text
    ∙ ap (λ (x : Option Figure). old ++ came_words D i x names home_list squares) own_is
    ∙ ap (λ (l : List ℕ). old ++ came_words D i (figure_at S i) l home_list squares) named
    ∙ ap (λ (l : List ℕ). old ++ came_words D i (figure_at S i) (lodgers_words o D S T f) l squares) (listed ∙ ap set_words homes_is)
    ∙ ap (λ (l : List ℕ). old ++ came_words D i (figure_at S i) (lodgers_words o D S T f) (set_words (squares_that (is_home o f))) l) seen
