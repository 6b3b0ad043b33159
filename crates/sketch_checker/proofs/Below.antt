-- What is below a node, for each end.
use Rattle.std.proofs.Common.{◌≡◌, ℕ, inl, inr, Bool, true, false, List, [], ◌∷◌, map, refl, ap, sym, ◌∙◌, subst, arith}
use Rattle.std.proofs.lemmas.Bool.{cases_Bool, ltb-false, ltb-true}
use Rattle.std.specs.Prelude.{Some, None, nat_lt, slice_get}
use Rattle.std.specs.List.{Contains}
use Rattle.general_lemmas.proofs.Lists.{contains-first, contains-later}
use Rattle.capture_prices.specs.Prices.{PriceList}
use Rattle.figures.specs.Figures.{Sketch}
use Rattle.figures.specs.Homes.{may_be_array}
use Rattle.sketch_proof.specs.Basis.{IsClosedAt}
use Rattle.sketch_proof.specs.Listed.{Earlier, earlier}
use Rattle.sketch_proof.specs.Nodes.{IsFirstUnknown, IsLeastAbove, IsUnknownOn, IsVoid}
use Rattle.sketch_proof.proofs.Least.{least-one}
use Rattle.sketch_walk.specs.Values.{can_step_back}
use Rattle.sketch_text.specs.declared.labels.Officer.TheVariants.{Knight}
use Rattle.sketch_text.specs.declared.nodes.End.TheVariants.{Void, Closed, Steps, Split}
use Rattle.board_base.specs.declared.men.Kind.TheVariants as kind
use Rattle.sketch_text.specs.Trees.{Line}
use Rattle.sketch_proof.specs.Proofs.{AtLine, Setting}
use Rattle.sketch_checker.specs.Able.{IsAble}
use Rattle.sketch_checker.specs.Walks.{Completes, CompletesOpened, Frame}
use Rattle.sketch_checker.specs.Steering.{AreAble, IsBelow, IsLineAt, read}
use Rattle.sketch_checker.proofs.Completing.{frame}
use Rattle.sketch_checker.proofs.Ending.{closed-tells, closed-told, split-tells, split-told, steps-tells, steps-told, void-tells, void-told}
use Rattle.sketch_checker.proofs.Going.{begins-above, can-step, earlier-able, known-able}
use Rattle.sketch_checker.specs.DueNodes.{cases_from, due_of}

-- VOID AND CLOSED

pub void-below : (g : Setting) (l : ℕ) (S : Sketch) → IsVoid g.odds g.held S → IsBelow g (read l Void S) None
void-below g l S void = λ fs lines few. (λ it. void-tells g l 0 S fs lines few void it, λ it. (void-told g l 0 S fs lines it).1)

pub void-none : (g : Setting) (l : ℕ) (S : Sketch) → (IsVoid g.odds g.held S → ⊥) → (fs : List Frame) (lines : List Line) → CompletesOpened g (read l Void S) fs lines → ⊥
void-none g l S other fs lines it = other (void-told g l 0 S fs lines it).0

pub closed-below : (g : Setting) (l k : ℕ) (S : Sketch) → AtLine g k (λ p. IsClosedAt g.odds g.held S p) → IsBelow g (read l (Closed k) S) None
closed-below g l k S closes = λ fs lines few. (λ it. closed-tells g l 0 S fs lines k few closes it, λ it. (closed-told g l 0 S fs lines k it).1)

pub closed-none : (g : Setting) (l k : ℕ) (S : Sketch) → (AtLine g k (λ p. IsClosedAt g.odds g.held S p) → ⊥) → (fs : List Frame) (lines : List Line) → CompletesOpened g (read l (Closed k) S) fs lines → ⊥
closed-none g l k S other fs lines it = other (closed-told g l 0 S fs lines k it).0

-- a line of prices has one number
line-one : (g : Setting) (k : ℕ) (p q : PriceList) → IsLineAt g k p → IsLineAt g k q → p ≡ q
line-one g k p q first second =
    let same : first.index ≡ second.index = omega (arith, first.from_one, second.from_one) in
    same-some p q (sym first.there ∙ ap (λ (i : ℕ). slice_get g.prices i) same ∙ second.there)
  where
    same-some : (p q : PriceList) → Some p ≡ Some q → p ≡ q
    same-some p q e = cc

pub at-line : (g : Setting) (k : ℕ) (P : PriceList → Type 0) (p : PriceList) → IsLineAt g k p → P p → AtLine g k P
at-line g k P p line so = record { index = line.index; from_one = line.from_one; prices = p; there = line.there; so = so }

pub line-at : (g : Setting) (k : ℕ) (P : PriceList → Type 0) (p : PriceList) → IsLineAt g k p → AtLine g k P → P p
line-at g k P p line it = subst P (line-one g k it.prices p (record { index = it.index; from_one = it.from_one; there = it.there }) line) it.so

pub no-line : (g : Setting) (k : ℕ) (P : PriceList → Type 0) → ((p : PriceList) → IsLineAt g k p → ⊥) → AtLine g k P → ⊥
no-line g k P none it = none it.prices (record { index = it.index; from_one = it.from_one; there = it.there })

-- STEPS

steps-all : (o : List Bool) (es : List Earlier) → ((e : Earlier) → Contains es e → IsAble o e.sketch) → AreAble o (map due_of es)
steps-all o [] each = tt
steps-all o (e ∷ es) each = (each e (contains-first e es), steps-all o es (λ x there. each x (contains-later e es x there)))

pub steps-able : (g : Setting) (S T : Sketch) (es : List Earlier) → es ≡ earlier g.odds g.exact T → IsAble g.odds S → IsLeastAbove g.held g.exact S T → AreAble g.odds (map due_of es)
steps-able g S T es same able least =
    subst (λ (l : List Earlier). AreAble g.odds (map due_of l)) (sym same)
    (steps-all g.odds (earlier g.odds g.exact T) (λ e there. earlier-able g.odds g.exact T e (begins-above g.odds g.held g.exact S T least.closed able.room) there))

pub steps-below : (g : Setting) (l m : ℕ) (S T : Sketch) (es : List Earlier) → es ≡ earlier g.odds g.exact T → IsAble g.odds S → IsLeastAbove g.held g.exact S T → may_be_array g.odds T ≡ false → IsBelow g (read l (Steps m) S) (Some (frame l m (map due_of es)))
steps-below g l m S T es same able least no_array = (
  refl,
  λ fs lines. (
    λ it. steps-tells g l l S fs lines m T least no_array (subst (λ (x : List Earlier). Completes g (frame l m (map due_of x) ∷ fs) lines) same it),
    λ it.
        let x = steps-told g l l S fs lines m it in
        let one : x.0 ≡ T = least-one g.held g.exact S x.0 T able.somewhere x.1 least in
        subst (λ (y : List Earlier). Completes g (frame l m (map due_of y) ∷ fs) lines) (ap (λ (U : Sketch). earlier g.odds g.exact U) one ∙ sym same) x.3,
  ),
)

pub steps-none : (g : Setting) (l m : ℕ) (S T : Sketch) → IsAble g.odds S → IsLeastAbove g.held g.exact S T → may_be_array g.odds T ≡ true → (fs : List Frame) (lines : List Line) → CompletesOpened g (read l (Steps m) S) fs lines → ⊥
steps-none g l m S T able least array fs lines it =
    let x = steps-told g l l S fs lines m it in
    let one : x.0 ≡ T = least-one g.held g.exact S x.0 T able.somewhere x.1 least in
    both (may_be_array g.odds T) array (sym (ap (may_be_array g.odds) one) ∙ x.2)
  where
    both : (b : Bool) → b ≡ true → b ≡ false → ⊥
    both b yes_ no_ = cc

pub steps-can : (g : Setting) (S T : Sketch) → IsAble g.odds S → IsLeastAbove g.held g.exact S T → can_step_back g.odds T ≡ true
steps-can g S T able least = can-step g.odds T (begins-above g.odds g.held g.exact S T least.closed able.room)

-- CASES

pub first-one : (S : Sketch) (s i j : ℕ) → IsFirstUnknown S s i → IsFirstUnknown S s j → i ≡ j
first-one S s i j a b = elim (cases_Bool (nat_lt i j)) [
  | inl less ↦ absurd (b.first i (ltb-true i j less) a.there)
  | inr no_ ↦
      elim (cases_Bool (nat_lt j i)) [
        | inl more ↦ absurd (a.first j (ltb-true j i more) b.there)
        | inr nor ↦ omega (arith, ltb-false i j no_, ltb-false j i nor)
      ]
]

pub split-below : (g : Setting) (l s i : ℕ) (S C : Sketch) → C ≡ S → IsFirstUnknown S s i → IsBelow g (read l (Split s) S) (Some (frame l 3 (cases_from Knight i C)))
split-below g l s i S C same first = (
  refl,
  λ fs lines. (
    λ it. split-tells g l l S fs lines s i first (subst (λ (x : Sketch). Completes g (frame l 3 (cases_from Knight i x) ∷ fs) lines) same it),
    λ it.
        let x = split-told g l l S fs lines s it in
        let one : x.0 ≡ i = first-one S s x.0 i x.1 first in
        let mine : Completes g (frame l 3 (cases_from Knight i S) ∷ fs) lines = subst (λ (n : ℕ). Completes g (frame l 3 (cases_from Knight n S) ∷ fs) lines) one x.2 in
        subst (λ (y : Sketch). Completes g (frame l 3 (cases_from Knight i y) ∷ fs) lines) (sym same) mine,
  ),
)

pub split-none : (g : Setting) (l s : ℕ) (S : Sketch) → ((i : ℕ) → IsUnknownOn S s i → ⊥) → (fs : List Frame) (lines : List Line) → CompletesOpened g (read l (Split s) S) fs lines → ⊥
split-none g l s S none fs lines it = let x = split-told g l l S fs lines s it in none x.0 x.1.there

pub cases-able : (o : List Bool) (i : ℕ) (S C : Sketch) → C ≡ S → IsAble o S → AreAble o (cases_from Knight i C)
cases-able o i S C same able =
    subst (λ (x : Sketch). AreAble o (cases_from Knight i x)) (sym same)
    (known-able o i kind.Knight S able, (known-able o i kind.Rook S able, (known-able o i kind.Queen S able, tt)))
