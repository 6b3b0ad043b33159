-- The sketch before a step of a sketch, and before the listed step for it: figure by figure, but for the place of the one who made it.
use Rattle.std.proofs.Common.{◌≡◌, ℕ, zero, suc, ◌+◌, ◌*◌, ◌<◌, ◌==◌, inl, inr, Bool, true, cond, ◌&&◌, not, ◌∷◌, refl, ap, sym, ◌∙◌, subst, arith}
use Rattle.std.proofs.lemmas.Bool.{and_parts, cases_eq, eq-eqb, eqb-true, ne_eqb}
use Rattle.std.proofs.lemmas.Option.{same_Some}
use Rattle.std.specs.Prelude.{Some}
use Rattle.board_base.specs.Board.{file, is_in}
use Rattle.board_base.specs.declared.men.Colour.{Colour}
use Rattle.board_base.specs.declared.men.Kind.TheVariants.{Pawn}
use Rattle.past_account.proofs.Filling.{in-that}
use Rattle.past_account.specs.Figures.{Figure, IsWider, Sketch, each_changed, figure_at, may_be, only_on}
use Rattle.past_account.specs.Steps.{Step, bystander, changed_by, is_cleared, pawn_before}
use Rattle.past_account.proofs.Changed.{changed-at}
use Rattle.sketch_list.proofs.Narrowed.{changed-there}
use Rattle.sketch_list.proofs.Respelled.{IsRespelled}

-- what is as low as twice the old place is as low as twice the new one
pub record Sides (n old new : ℕ) : Type 0 where
  pub under : n < 2 * old → n < 2 * new
  pub under_back : n < 2 * new → n < 2 * old
  pub over : 2 * old < n → 2 * new < n
  pub over_back : 2 * new < n → 2 * old < n

-- Two figures alike, or the one who made the step, a pawn of file n, with his old place and his new one.
pub data Twin (n old new : ℕ) (f g : Figure) : Type 0 where
  alike : IsWider f g → f.place ≡ g.place → ((t : ℕ) → may_be f Pawn ≡ true → is_in f.squares t ≡ true → file t ≡ n → Sides f.place old new) → Twin n old new f g
  mover : IsWider f g → f.place ≡ 2 * old → g.place ≡ 2 * new → ((s : ℕ) → is_in f.squares s ≡ true → file s ≡ n) → Twin n old new f g

pub twin-wider : (n old new : ℕ) (f g : Figure) → Twin n old new f g → IsWider f g
twin-wider n old new f g (alike wide same sides) = wide
twin-wider n old new f g (mover wide was is on) = wide

twin-order : (n old new s t : ℕ) (f g f' g' : Figure) → Twin n old new f f' → Twin n old new g g' → may_be f Pawn ≡ true → may_be g Pawn ≡ true → is_in f.squares s ≡ true → is_in g.squares t ≡ true → file s ≡ file t → (f.place < g.place → f'.place < g'.place) × (f'.place < g'.place → f.place < g.place)
twin-order n old new s t f g f' g' (alike w e sides) (alike w' e' sides') mf mg on there level = (λ low. omega (arith, e, e', low), λ low. omega (arith, e, e', low))
twin-order n old new s t f g f' g' (alike w e sides) (mover w' was is at_file) mf mg on there level =
    let x = sides s mf on (level ∙ at_file t there) in
    (λ low. let a : f.place < 2 * new = x.under (omega (arith, low, was)) in omega (arith, a, e, is), λ low. let a : f.place < 2 * old = x.under_back (omega (arith, low, e, is)) in omega (arith, a, was))
twin-order n old new s t f g f' g' (mover w was is at_file) (alike w' e' sides') mf mg on there level =
    let x = sides' t mg there (sym level ∙ at_file s on) in
    (λ low. let a : 2 * new < g.place = x.over (omega (arith, low, was)) in omega (arith, a, e', is), λ low. let a : 2 * old < g.place = x.over_back (omega (arith, low, e', is)) in omega (arith, a, was))
twin-order n old new s t f g f' g' (mover w was is at_file) (mover w' was' is' at_file') mf mg on there level = (λ low. absurd (omega (arith, low, was, was')), λ low. absurd (omega (arith, low, is, is')))

pub record FirstTwin (n old new j : ℕ) (S : Sketch) (g : Figure) : Type 0 where
  pub figure : Figure
  pub found : figure_at S j ≡ Some figure
  pub twin : Twin n old new figure g

-- two sketches, figure by figure
pub record AreTwins (n old new : ℕ) (S U : Sketch) : Type 0 where
  pub first : (j : ℕ) (g : Figure) → figure_at U j ≡ Some g → FirstTwin n old new j S g
  pub second : (i : ℕ) (f : Figure) → figure_at S i ≡ Some f → (g : Figure) × (figure_at U i ≡ Some g)

pub twins-respelled : (n old new : ℕ) (S U : Sketch) → AreTwins n old new S U → IsRespelled S U
twins-respelled n old new S U twins = record {
  from = λ j. j;
  wider = λ j g e. let it = twins.first j g e in (it.figure, it.found, twin-wider n old new it.figure g it.twin);
  apart = λ i j f g a b same. same;
  back = λ i f e. let it = twins.second i f e in (i, it.0, it.1, refl);
  order = λ i j s t f g f' g' a b d e mf mg on there level.
      let x = twins.first i f' d in
      let y = twins.first j g' e in
      twin-order n old new s t f g f' g'
      (subst (λ (z : Figure). Twin n old new z f') (same_Some x.figure f (sym x.found ∙ a)) x.twin)
      (subst (λ (z : Figure). Twin n old new z g') (same_Some y.figure g (sym y.found ∙ b)) y.twin) mf mg on there level;
}

-- a figure more in front
pub more-twins : (n old new : ℕ) (v w : Figure) (S U : Sketch) → Twin n old new v w → AreTwins n old new S U → AreTwins n old new (v ∷ S) (w ∷ U)
more-twins n old new v w S U here twins = record { first = first; second = second }
  where
    first : (j : ℕ) (g : Figure) → figure_at (w ∷ U) j ≡ Some g → FirstTwin n old new j (v ∷ S) g
    first zero g e = record { figure = v; found = refl; twin = subst (Twin n old new v) (same_Some w g e) here }
    first (suc j) g e = let it = twins.first j g e in record { figure = it.figure; found = it.found; twin = it.twin }

    second : (i : ℕ) (f : Figure) → figure_at (v ∷ S) i ≡ Some f → (g : Figure) × (figure_at (w ∷ U) i ≡ Some g)
    second zero f e = (w, refl)
    second (suc i) f e = twins.second i f e

-- the others, and who made the step
module _ (T : Sketch) (c : Colour) (x y : Step) (by : y.by ≡ x.by) (from : y.from ≡ x.from) (to : y.to ≡ x.to) (passing : y.passing ≡ x.passing)
    (sides : (i : ℕ) (h : Figure) (t : ℕ) → figure_at T i ≡ Some h → may_be h Pawn ≡ true → is_in h.squares t ≡ true → t < 64 → file t ≡ file x.from → Sides (2 * h.place + 1) x.place y.place) where
  bystander-same : (h : Figure) → bystander c y h ≡ bystander c x h
  bystander-same h =
      ap (λ (s : ℕ). bystander c (record y { from = s }) h) from ∙ ap (λ (t : ℕ). bystander c (record y { from = x.from; to = t }) h) to ∙ ap (λ (p : Bool). bystander c (record y { from = x.from; to = x.to; passing = p }) h) passing

  wider-self : (f : Figure) → IsWider f f
  wider-self f = record { colour = refl; kinds = λ k may. may; squares = λ s member. member; marked = λ h. h }

  twin-by : (i : ℕ) (h : Figure) → figure_at T i ≡ Some h → Twin (file x.from) x.place y.place (changed_by c x i h) (changed_by c y i h)
  twin-by i h found = elim (cases_eq i x.by) [
    | inl same ↦
        let a : changed_by c x i h ≡ pawn_before x h = ap (λ (b : Bool). cond b (pawn_before x h) (bystander c x h)) (eq-eqb i x.by same) in
        let b : changed_by c y i h ≡ pawn_before y h = ap (λ (b : Bool). cond b (pawn_before y h) (bystander c y h)) (eq-eqb i y.by (same ∙ sym by)) in
        subst (λ (z : Figure). Twin (file x.from) x.place y.place z (changed_by c y i h)) (sym a) (subst (λ (z : Figure). Twin (file x.from) x.place y.place (pawn_before x h) z) (sym b) (mover
        (record { colour = refl; kinds = λ k may. may; squares = λ s member. subst (λ (q : ℕ). is_in (only_on q) s ≡ true) (sym from) member; marked = λ m. m }) refl refl
        (λ s member. ap file (only-there x.from s member))))
    | inr other ↦
        let a : changed_by c x i h ≡ bystander c x h = ap (λ (b : Bool). cond b (pawn_before x h) (bystander c x h)) (ne_eqb i x.by other) in
        let b : changed_by c y i h ≡ bystander c x h = ap (λ (b : Bool). cond b (pawn_before y h) (bystander c y h)) (ne_eqb i y.by (λ same. other (same ∙ by))) ∙ bystander-same h in
        subst (λ (z : Figure). Twin (file x.from) x.place y.place z (changed_by c y i h)) (sym a) (subst (λ (z : Figure). Twin (file x.from) x.place y.place (bystander c x h) z) (sym b) (alike (wider-self (bystander c x h)) refl
        (λ t may member level. let it = in-that (λ s. is_in h.squares s && not (is_cleared c x s)) t member in sides i h t found may (and_parts (is_in h.squares t) _ it.1).0 it.0 level)))
  ]
    where
      only-there : (s t : ℕ) → is_in (only_on s) t ≡ true → t ≡ s
      only-there s t member = eqb-true t s (in-that (λ u. u == s) t member).1

  pub changed-twins : AreTwins (file x.from) x.place y.place (each_changed (changed_by c x) 0 T) (each_changed (changed_by c y) 0 T)
  changed-twins = record {
    first = λ j g e.
        let was = changed-at (changed_by c y) 0 T j g e in
        let z : 0 + j ≡ j = omega arith in
        let is : changed_by c y j was.0 ≡ g = ap (λ (n : ℕ). changed_by c y n was.0) (sym z) ∙ was.2 in
        record { figure = changed_by c x j was.0; found = changed-there (changed_by c x) 0 T j was.0 was.1 ∙ ap (λ (n : ℕ). Some (changed_by c x n was.0)) z; twin = subst (Twin (file x.from) x.place y.place (changed_by c x j was.0)) is (twin-by j was.0 was.1) };
    second = λ i f e.
        let was = changed-at (changed_by c x) 0 T i f e in
        (changed_by c y (0 + i) was.0, changed-there (changed_by c y) 0 T i was.0 was.1);
  }
