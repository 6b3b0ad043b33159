-- Homes, as the array has them.
use Rattle.std.proofs.Common.{◌≡◌, ℕ, zero, suc, ◌+◌, ◌-◌, ◌<◌, ◌≤◌, Bool, cond, ◌&&◌, ◌||◌, not, List, [], ◌∷◌, map, refl, ap, sym, ◌∙◌, arith, add_assoc, add-zero, zero-add}
use Rattle.std.specs.Prelude.{count_by, nat_lt}
use Rattle.std.proofs.lemmas.List.Sums.{sum_by-cons}
use Rattle.std.specs.List.{list_all, range_with_len}
use Rattle.board_base.specs.Board.{array_of, at, is_in, is_of, Places, same_colour}
use Rattle.board_base.specs.declared.men.Colour.{Colour}
use Rattle.figures.specs.Sets.{squares_that}
use Rattle.figures.proofs.Filling.{is_in-that}
use Rattle.figures.specs.Clashes.{is_crowded}
use Rattle.figures.specs.Figures.{Figure, Sketch}
use Rattle.figures.specs.Homes.{has_homes, is_home, lives_within, may_be_array}
use Rattle.sketch_sets.specs.Homes.{has_like, home_count, homes_on}
use Rattle.sketch_sets.specs.Lodging.{lives_in, suffices}
use Rattle.sketch_sets.specs.Remade.{with_set}
use Rattle.sketch_sets.proofs.Sets.{all-same, inside-told}

pub count-same : (p r : ℕ → Bool) (k n : ℕ) → ((q : ℕ) → q < k + n → p q ≡ r q) → count_by p (range_with_len k n) ≡ count_by r (range_with_len k n)
count-same p r k zero same = refl
count-same p r k (suc n) same =
    sum_by-cons (λ x. cond (p x) 1 0) k (range_with_len (k + 1) n)
    ∙ ap (λ (b : Bool). cond b 1 0 + count_by p (range_with_len (k + 1) n)) (same k (omega arith))
    ∙ ap (λ (m : ℕ). cond (r k) 1 0 + m) (count-same p r (k + 1) n (λ q low. same q (omega arith)))
    ∙ sym (sum_by-cons (λ x. cond (r x) 1 0) k (range_with_len (k + 1) n))

count-made : {A B : Type 0} (p : B → Bool) (r : A → Bool) (h : A → B) (l : List A) → ((x : A) → p (h x) ≡ r x) → count_by p (map h l) ≡ count_by r l
count-made p r h [] same = refl
count-made p r h (x ∷ l) same =
    sum_by-cons (λ y. cond (p y) 1 0) (h x) (map h l)
    ∙ ap (λ (b : Bool). cond b 1 0 + count_by p (map h l)) (same x)
    ∙ ap (λ (m : ℕ). cond (r x) 1 0 + m) (count-made p r h l same)
    ∙ sym (sum_by-cons (λ y. cond (r y) 1 0) x l)

all-made : {A B : Type 0} (p : B → Bool) (r : A → Bool) (h : A → B) (l : List A) → ((x : A) → p (h x) ≡ r x) → list_all p (map h l) ≡ list_all r l
all-made p r h [] same = refl
all-made p r h (x ∷ l) same = ap (λ (b : Bool). b && list_all p (map h l)) (same x) ∙ ap (λ (b : Bool). r x && b) (all-made p r h l same)

lives-told : (o : List Bool) (f g : Figure) → lives_in (with_set (homes_on (array_of o)) f) (with_set (homes_on (array_of o)) g) ≡ lives_within o f g
unfolding lives_in homes_on has_like
lives-told o f g =
    inside-told (squares_that (is_home o g)) (is_home o f)
    ∙ all-same (λ q. not (is_in (squares_that (is_home o g)) q) || is_home o f q) (λ q. not (is_home o g q) || is_home o f q) 0 64 (λ q low. ap (λ (b : Bool). not b || is_home o f q) (is_in-that (is_home o g) q (omega arith)))

homes-told : (o : List Bool) (T : Sketch) (f : Figure) → suffices (map (with_set (homes_on (array_of o))) T) (with_set (homes_on (array_of o)) f) ≡ has_homes o T f
unfolding suffices home_count homes_on has_like
homes-told o T f =
    ap (λ (n : ℕ). not (nat_lt n (count_by (lives_in (with_set (homes_on (array_of o)) f)) (map (with_set (homes_on (array_of o))) T)))) (count-same (is_in (squares_that (is_home o f))) (is_home o f) 0 64 (λ q low. is_in-that (is_home o f) q (omega arith)))
    ∙ ap (λ (n : ℕ). not (nat_lt (count_by (is_home o f) (range_with_len 0 64)) n)) (count-made (lives_in (with_set (homes_on (array_of o)) f)) (lives_within o f) (with_set (homes_on (array_of o))) T (lives-told o f))

pub array-made : (o : List Bool) (T : Sketch) (first : Places) → first ≡ array_of o → (made : Sketch) → made ≡ map (with_set (homes_on first)) T → list_all (suffices made) made ≡ may_be_array o T
unfolding may_be_array
array-made o T first e made m =
    ap (λ (S : Sketch). list_all (suffices S) S) (m ∙ ap (λ (b : Places). map (with_set (homes_on b)) T) e)
    ∙ all-made (suffices (map (with_set (homes_on (array_of o))) T)) (has_homes o T) (with_set (homes_on (array_of o))) T (homes-told o T)

-- counting square by square
pub counted : (set : List Bool) (i n : ℕ) (b : Bool) → i < 64 → is_in set i ≡ b → n + count_by (is_in set) (range_with_len i (64 - i)) ≡ home_count set → (n + cond b 1 0) + count_by (is_in set) (range_with_len (i + 1) (64 - (i + 1))) ≡ home_count set
counted set i n b low here before =
    let e : 64 - i ≡ suc (64 - (i + 1)) = omega arith in
    let rest : ℕ = count_by (is_in set) (range_with_len (i + 1) (64 - (i + 1))) in
    let all : count_by (is_in set) (range_with_len i (64 - i)) ≡ cond b 1 0 + rest =
    ap (λ (m : ℕ). count_by (is_in set) (range_with_len i m)) e ∙ sum_by-cons (λ s. cond (is_in set s) 1 0) i (range_with_len (i + 1) (64 - (i + 1))) ∙ ap (λ (x : Bool). cond x 1 0 + rest) here in
    let moved : n + (cond b 1 0 + rest) ≡ home_count set = ap (λ (m : ℕ). n + m) (sym all) ∙ before in
    add_assoc n (cond b 1 0) rest ∙ moved

pub counted-all : (set : List Bool) (i n : ℕ) → 64 ≤ i → n + count_by (is_in set) (range_with_len i (64 - i)) ≡ home_count set → n ≡ home_count set
counted-all set i n past before =
    let e : 64 - i ≡ 0 = omega arith in
    let rest : n + 0 ≡ home_count set = sym (ap (λ (m : ℕ). n + count_by (is_in set) (range_with_len i m)) e) ∙ before in
    sym (add-zero n) ∙ rest

pub counted-none : (set : List Bool) → 0 + count_by (is_in set) (range_with_len 0 64) ≡ home_count set
unfolding home_count
counted-none set = zero-add (count_by (is_in set) (range_with_len 0 64))

pub begun-made : (o : List Bool) (c : Colour) (first : Places) (set : List Bool) (begun : ℕ) → first ≡ array_of o → set ≡ squares_that (λ h. is_of c (at first h)) → begun ≡ home_count set → begun ≡ count_by (λ h. is_of c (at (array_of o) h)) (range_with_len 0 64)
unfolding home_count
begun-made o c first set begun a b d =
    d ∙ ap (λ (l : List Bool). count_by (is_in l) (range_with_len 0 64)) (b ∙ ap (λ (p : Places). squares_that (λ h. is_of c (at p h))) a) ∙ count-same (is_in (squares_that (λ h. is_of c (at (array_of o) h)))) (λ h. is_of c (at (array_of o) h)) 0 64 (λ q low. is_in-that (λ h. is_of c (at (array_of o) h)) q (omega arith))

pub crowd-made : (o : List Bool) (T : Sketch) (c : Colour) (begun now : ℕ) → begun ≡ count_by (λ h. is_of c (at (array_of o) h)) (range_with_len 0 64) → now ≡ count_by (λ f. same_colour c f.colour) T → nat_lt begun now ≡ is_crowded o T c
unfolding is_crowded
crowd-made o T c begun now a b = ap (λ (n : ℕ). nat_lt n now) a ∙ ap (λ (n : ℕ). nat_lt (count_by (λ h. is_of c (at (array_of o) h)) (range_with_len 0 64)) n) b
