-- What stood before a step, figure by figure.
use Rattle.std.proofs.Common.{◌≡◌, ℕ, zero, suc, ◌+◌, ◌*◌, ◌<◌, ◌≤◌, ◌==◌, Bool, true, false, cond, ◌&&◌, ◌||◌, not, List, [], ◌∷◌, ◌++◌, length, get_or, take, append_assoc, length-take-le, refl, ap, sym, ◌∙◌, subst, arith}
use Rattle.std.specs.Prelude.{None, Option, Some, nat_lt}
use Rattle.std.proofs.lemmas.List.{take_all, take_more}
use Rattle.board_base.specs.Attacks.{on_the_way, ranks_apart}
use Rattle.board_base.specs.Board.{is_in, opponent}
use Rattle.board_base.specs.Play.{ahead, behind}
use Rattle.board_base.specs.declared.men.Colour.{Colour}
use Rattle.board_base.specs.declared.men.Kind.{Kind}
use Rattle.board_base.specs.declared.men.Kind.TheVariants.{Pawn}
use Rattle.figures.specs.Sets.{squares_that}
use Rattle.figures.proofs.Filling.{is_in-that}
use Rattle.figures.proofs.SetAlgebra.{same-that}
use Rattle.figures.specs.Figures.{Figure, IsRearranged, Sketch, each_changed, figure_at, only_on}
use Rattle.figures.specs.Steps.{Step, back_by, changed_by, taken_back, victim_on, victims}
use Rattle.sketch_steps.specs.Cleared.{bystander_of, bystander_with, changed_of, changed_with, clears, pawn_of}
use Rattle.sketch_steps.specs.Places.{before_by, before_step, can_go_back, fits_before, fits_by, has_home, has_low_place, others_first, recounted}
use Rattle.sketch_steps.proofs.Rearranging.{moved-behind, moved-recounted}
use Rattle.sketch_sets.proofs.Under.{all-figure}
use Rattle.std.specs.List.{list_all}
use Rattle.std.proofs.lemmas.Bool.{and_parts, ltb-true}

eight : (n a b ra w be ah n' a' b' ra' w' be' ah' : ℕ) (p : Bool) → n ≡ n' → a ≡ a' → b ≡ b' → ra ≡ ra' → w ≡ w' → be ≡ be' → ah ≡ ah' → ((n == a) || (n == b) || ((ra == 2) && (n == w)) || (p && ((n == be) || (n == ah)))) ≡ ((n' == a') || (n' == b') || ((ra' == 2) && (n' == w')) || (p && ((n' == be') || (n' == ah'))))
eight n a b ra w be ah n' a' b' ra' w' be' ah' p h1 h2 h3 h4 h5 h6 h7 = cc

pub clear-made : (c : Colour) (x : Step) (s n a b ra w be ah : ℕ) → n ≡ s → a ≡ x.from → b ≡ x.to → ra ≡ ranks_apart x.from x.to → w ≡ on_the_way x.from x.to 1 → be ≡ behind c x.to → ah ≡ ahead c x.to → ((n == a) || (n == b) || ((ra == 2) && (n == w)) || (x.passing && ((n == be) || (n == ah)))) ≡ clears c x s
unfolding clears
clear-made c x s n a b ra w be ah h1 h2 h3 h4 h5 h6 h7 = eight n a b ra w be ah s x.from x.to (ranks_apart x.from x.to) (on_the_way x.from x.to 1) (behind c x.to) (ahead c x.to) x.passing h1 h2 h3 h4 h5 h6 h7

pub bystander-made : (kept : List Bool) (f : Figure) (set : List Bool) (place : ℕ) → set ≡ squares_that (λ s. is_in f.squares s && is_in kept s) → place ≡ 2 * f.place + 1 → record f { squares = set; place = place } ≡ bystander_with kept f
unfolding bystander_with
bystander-made kept f set place a b = ap (λ (l : List Bool). record f { squares = l; place = place }) a ∙ ap (λ (n : ℕ). record f { squares = squares_that (λ s. is_in f.squares s && is_in kept s); place = n }) b

pub pawn-made : (x : Step) (f : Figure) (kinds : List Kind) (set : List Bool) (place : ℕ) → kinds ≡ Pawn ∷ [] → set ≡ only_on x.from → place ≡ 2 * x.place → record f { kinds = kinds; squares = set; place = place } ≡ pawn_of x f
unfolding pawn_of
pawn-made x f kinds set place a b d = ap (λ (k : List Kind). record f { kinds = k; squares = set; place = place }) a ∙ ap (λ (l : List Bool). record f { kinds = Pawn ∷ []; squares = l; place = place }) b ∙ ap (λ (n : ℕ). record f { kinds = Pawn ∷ []; squares = only_on x.from; place = n }) d

figure : Colour → List Kind → List Bool → ℕ → Figure
figure c k l n = record { colour = c; kinds = k; squares = l; marked = false; place = n }

pub victim-made : (f : Figure) (k : Kind) (s : ℕ) (c : Colour) (kinds : List Kind) (set : List Bool) (place : ℕ) → c ≡ opponent f.colour → kinds ≡ k ∷ [] → set ≡ only_on s → place ≡ 2 * f.place + 1 → record { colour = c; kinds = kinds; squares = set; marked = false; place = place } ≡ victim_on f k s
unfolding figure
victim-made f k s c kinds set place a b d e = ap (λ (x : Colour). figure x kinds set place) a ∙ ap (λ (x : List Kind). figure (opponent f.colour) x set place) b ∙ ap (λ (x : List Bool). figure (opponent f.colour) (k ∷ []) x place) d ∙ ap (λ (x : ℕ). figure (opponent f.colour) (k ∷ []) (only_on s) x) e

-- figure by figure
pub changed-here : (kept : List Bool) (x : Step) (i : ℕ) (f : Figure) → (i == x.by) ≡ true → pawn_of x f ≡ changed_with kept x i f
unfolding changed_with
changed-here kept x i f h = sym (ap (λ (b : Bool). cond b (pawn_of x f) (bystander_with kept f)) h)

pub changed-other : (kept : List Bool) (x : Step) (i : ℕ) (f : Figure) → (i == x.by) ≡ false → bystander_with kept f ≡ changed_with kept x i f
unfolding changed_with
changed-other kept x i f h = sym (ap (λ (b : Bool). cond b (pawn_of x f) (bystander_with kept f)) h)

bystander-same : (c : Colour) (x : Step) (kept : List Bool) (f : Figure) → kept ≡ squares_that (λ s. not (clears c x s)) → bystander_with kept f ≡ bystander_of c x f
unfolding bystander_with bystander_of clears
bystander-same c x kept f e = ap (λ (l : List Bool). record f { squares = l; place = 2 * f.place + 1 }) (same-that (λ s. is_in f.squares s && is_in kept s) (λ s. is_in f.squares s && not (clears c x s)) (λ s low. ap (λ (b : Bool). is_in f.squares s && b) (ap (λ (l : List Bool). is_in l s) e ∙ is_in-that (λ t. not (clears c x t)) s low)))

pub changed-same : (c : Colour) (x : Step) (kept : List Bool) (i : ℕ) (f : Figure) → kept ≡ squares_that (λ s. not (clears c x s)) → changed_with kept x i f ≡ changed_of c x i f
unfolding changed_with changed_of pawn_of bystander_of
changed-same c x kept i f e = ap (λ (g : Figure). cond (i == x.by) (pawn_of x f) g) (bystander-same c x kept f e)

each-push : (h : ℕ → Figure → Figure) (k : ℕ) (S : Sketch) (f : Figure) → each_changed h k (S ++ f ∷ []) ≡ each_changed h k S ++ h (k + length S) f ∷ []
each-push h k [] f = ap (λ (n : ℕ). h n f ∷ []) (let e : k ≡ k + 0 = omega arith in e)
each-push h k (g ∷ S) f = ap (λ (l : Sketch). h k g ∷ l) (each-push h (suc k) S f ∙ ap (λ (n : ℕ). each_changed h (suc k) S ++ h n f ∷ []) (let e : suc k + length S ≡ k + suc (length S) = omega arith in e))

pub each-more : (c : Colour) (x : Step) (S : Sketch) (i : ℕ) (f g : Figure) (first made more : Sketch) → i < length S → f ≡ get_or S i f → g ≡ changed_of c x i f → made ≡ first ++ each_changed (changed_of c x) 0 (take i S) → more ≡ made ++ g ∷ [] → more ≡ first ++ each_changed (changed_of c x) 0 (take (i + 1) S)
each-more c x S i f g first made more low there new before e =
    let h : ℕ → Figure → Figure = changed_of c x in
    let size : length (take i S) ≡ i = length-take-le i S (omega arith) in
    let front : take (i + 1) S ≡ take i S ++ f ∷ [] = take_more S i f low ∙ ap (λ (y : Figure). take i S ++ y ∷ []) (sym there) in
    let at_i : 0 + length (take i S) ≡ i = omega (arith, size) in
    let pushed : each_changed h 0 (take (i + 1) S) ≡ each_changed h 0 (take i S) ++ g ∷ [] = ap (each_changed h 0) front ∙ each-push h 0 (take i S) f ∙ ap (λ (n : ℕ). each_changed h 0 (take i S) ++ h n f ∷ []) at_i ∙ ap (λ (y : Figure). each_changed h 0 (take i S) ++ y ∷ []) (sym new) in
    e ∙ ap (λ (l : Sketch). l ++ g ∷ []) before ∙ append_assoc first (each_changed h 0 (take i S)) (g ∷ []) ∙ ap (λ (l : Sketch). first ++ l) (sym pushed)

pub each-told : (c : Colour) (x : Step) (T : Sketch) (i : ℕ) → length T ≤ i → each_changed (changed_of c x) 0 (take i T) ≡ each_changed (changed_by c x) 0 T
unfolding changed_of
each-told c x T i past = ap (λ (l : Sketch). each_changed (changed_by c x) 0 l) (take_all i T past)

pub each-length : (h : ℕ → Figure → Figure) (k : ℕ) (S : Sketch) → length (each_changed h k S) ≡ length S
each-length h k [] = refl
each-length h k (f ∷ S) = ap suc (each-length h (suc k) S)

pub others-made : (T : Sketch) (x : Step) (f : Figure) (c : Colour) (made : Sketch) → c ≡ f.colour → made ≡ each_changed (changed_by c x) 0 T → made ++ victims f x ≡ others_first T f x
unfolding others_first
others-made T x f c made same e = ap (λ (l : Sketch). l ++ victims f x) (e ∙ ap (λ (d : Colour). each_changed (changed_by d x) 0 T) same)

pub victims-past : (f : Figure) (x : Step) (v : Figure) → x.passing ≡ true → v ≡ victim_on f Pawn (ahead f.colour x.to) → v ∷ [] ≡ victims f x
victims-past f x v h e = ap (λ (g : Figure). g ∷ []) e ∙ sym (past f x x.passing h)
  where
    past : (f : Figure) (x : Step) (b : Bool) → b ≡ true → victims f (record x { passing = b }) ≡ victim_on f Pawn (ahead f.colour x.to) ∷ []
    past f x true h = refl
    past f x false h = cc

victims-by : (f : Figure) (x : Step) (o : Option Kind) → victims f (record x { passing = false; taken = o }) ≡ elim o as (λ _. List Figure) [ None ↦ [] | Some k ↦ victim_on f k x.to ∷ [] ]
victims-by f x None = refl
victims-by f x (Some k) = refl

pub victims-taken : (f : Figure) (x : Step) (k : Kind) (v : Figure) → x.passing ≡ false → x.taken ≡ Some k → v ≡ victim_on f k x.to → v ∷ [] ≡ victims f x
victims-taken f x k v h i e = ap (λ (g : Figure). g ∷ []) e ∙ sym (victims-by f x (Some k)) ∙ sym (ap (λ (b : Bool). victims f (record x { passing = b; taken = Some k })) h ∙ refl) ∙ ap (λ (o : Option Kind). victims f (record x { taken = o })) (sym i)

pub victims-none : (f : Figure) (x : Step) → x.passing ≡ false → x.taken ≡ None → [] ≡ victims f x
victims-none f x h i = sym (victims-by f x None) ∙ sym (ap (λ (b : Bool). victims f (record x { passing = b; taken = None })) h) ∙ ap (λ (o : Option Kind). victims f (record x { taken = o })) (sym i)

-- there is at most one victim
victims-counted : (f : Figure) (x : Step) (b : Bool) (o : Option Kind) → length (victims f (record x { passing = b; taken = o })) ≤ 1
victims-counted f x true o = omega arith
victims-counted f x false None = omega arith
victims-counted f x false (Some k) = omega arith

pub victims-few : (f : Figure) (x : Step) → length (victims f x) ≤ 1
victims-few f x = victims-counted f x x.passing x.taken

-- what has values
module _ (T : Sketch) (f : Figure) (x : Step) (fits : fits_before T f x ≡ true) where
  pub fits-few : length T + length (victims f x) < 33
  unfolding fits_before
  fits-few = ltb-true _ 33 (and_parts _ _ (and_parts _ _ (and_parts _ _ fits).0).0).0

  pub fits-place : x.place < 128
  unfolding fits_before
  fits-place = ltb-true x.place 128 (and_parts _ _ (and_parts _ _ (and_parts _ _ fits).0).0).1

  pub fits-home : has_home f x ≡ true
  unfolding fits_before
  fits-home = (and_parts _ _ (and_parts _ _ fits).0).1

  pub fits-low : list_all has_low_place T ≡ true
  unfolding fits_before
  fits-low = (and_parts _ _ fits).1

pub home-low : (f : Figure) (x : Step) → has_home f x ≡ true → x.passing ≡ true → ahead f.colour x.to < 64
unfolding has_home
home-low f x h passing = ltb-true (ahead f.colour x.to) 64 (sym (ap (λ (b : Bool). not b || nat_lt (ahead f.colour x.to) 64) passing) ∙ h)

or-below : (p p' : Bool) (n n' : ℕ) → p ≡ p' → n ≡ n' → (not p || nat_lt n 64) ≡ (not p' || nat_lt n' 64)
or-below p p' n n' a b = cc

pub home-made : (f : Figure) (x : Step) (p : Bool) (n : ℕ) → p ≡ x.passing → n ≡ ahead f.colour x.to → (not p || nat_lt n 64) ≡ has_home f x
unfolding has_home
home-made f x p n a b = or-below p x.passing n (ahead f.colour x.to) a b

pub low-made : (f g : Figure) → f ≡ g → nat_lt f.place 127 ≡ has_low_place g
unfolding has_low_place
low-made f g same = ap (λ (h : Figure). nat_lt h.place 127) same

all-four : (n m p n' m' p' : ℕ) (a b a' b' : Bool) → n ≡ n' → m ≡ m' → p ≡ p' → a ≡ a' → b ≡ b' → (nat_lt (n + m) 33 && nat_lt p 128 && a && b) ≡ (nat_lt (n' + m') 33 && nat_lt p' 128 && a' && b')
all-four n m p n' m' p' a b a' b' h1 h2 h3 h4 h5 = cc

pub fits-made : (T : Sketch) (f : Figure) (x : Step) (n m p : ℕ) (home low : Bool) → n ≡ length T → m ≡ length (victims f x) → p ≡ x.place → home ≡ has_home f x → low ≡ list_all has_low_place T → (nat_lt (n + m) 33 && nat_lt p 128 && home && low) ≡ fits_before T f x
unfolding fits_before
fits-made T f x n m p home low h1 h2 h3 h4 h5 = all-four n m p (length T) (length (victims f x)) x.place home low (has_home f x) (list_all has_low_place T) h1 h2 h3 h4 h5

pub low-item : (S : Sketch) (i : ℕ) (g : Figure) → list_all has_low_place S ≡ true → i < length S → g ≡ get_or S i g → g.place < 127
unfolding has_low_place
low-item [] i g all low e = absurd (omega arith)
low-item (h ∷ S) zero g all low e = ltb-true g.place 127 (ap (λ (f : Figure). nat_lt f.place 127) e ∙ (and_parts _ _ all).0)
low-item (h ∷ S) (suc i) g all low e = low-item S i g (and_parts _ _ all).1 (omega arith) e

pub low-at : (S : Sketch) (i : ℕ) (g : Figure) → list_all has_low_place S ≡ true → figure_at S i ≡ Some g → g.place < 127
unfolding has_low_place
low-at S i g all found = ltb-true g.place 127 (all-figure S has_low_place i g all found)

-- back to the moment before
pub back-none : (T : Sketch) (x : Step) → figure_at T x.by ≡ None → can_go_back T x ≡ false
unfolding can_go_back
back-none T x none = ap (λ (o : Option Figure). fits_by T o x) none

pub back-by : (T : Sketch) (x : Step) (f : Figure) → figure_at T x.by ≡ Some f → can_go_back T x ≡ fits_before T f x
unfolding can_go_back
back-by T x f found = ap (λ (o : Option Figure). fits_by T o x) found

pub before-by : (T : Sketch) (x : Step) (f : Figure) → figure_at T x.by ≡ Some f → before_step T x ≡ recounted (others_first T f x)
unfolding before_step
before-by T x f found = ap (λ (o : Option Figure). before_by T o x) found

pub before-rearranged : (T : Sketch) (x : Step) (f : Figure) → figure_at T x.by ≡ Some f → IsRearranged (taken_back T x) (recounted (others_first T f x))
unfolding taken_back others_first
before-rearranged T x f found = subst (λ (o : Option Figure). IsRearranged (back_by T o x) (recounted (others_first T f x))) (sym found) (moved-recounted _ _ (moved-behind (victims f x) (each_changed (changed_by f.colour x) 0 T) (victims-few f x)))
