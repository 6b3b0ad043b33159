-- The sketch that a step is taken back to is narrower than the one before the listed step for it.
use Rattle.std.proofs.Common.{◌≡◌, ℕ, ◌+◌, ◌*◌, ◌<◌, ◌≤◌, ◌==◌, ◌⊎◌, inl, inr, Bool, true, false, cond, ◌&&◌, List, [], ◌∷◌, ◌++◌, length, refl, ap, sym, ◌∙◌, subst, arith}
use Rattle.std.proofs.lemmas.Bool.{and_from, and_parts, both_ways, cases_lt, eq-eqb, eqb-true, not-true, or_cases}
use Rattle.std.specs.Prelude.{Option, Some, None, is_none}
use Rattle.std.specs.List.{list_any}
use Rattle.general_lemmas.proofs.Ranges.{any-found}
use Rattle.board_base.specs.Board.{file, is_in, rank, same_kind}
use Rattle.board_base.specs.Attacks.{distance, files_apart, one_ahead}
use Rattle.board_base.specs.Play.{ahead, en_passant_rank}
use Rattle.board_base.specs.declared.men.Colour.{Colour}
use Rattle.board_base.specs.declared.men.Colour.TheVariants.{White, Black}
use Rattle.board_base.specs.declared.men.Kind.{Kind}
use Rattle.board_base.specs.declared.men.Kind.TheVariants.{Pawn, Knight, Bishop, Rook, Queen, King}
use Rattle.board_base.proofs.KindsOfMen.{kind_is}
use Rattle.past_account.proofs.Filling.{in-that}
use Rattle.past_account.specs.Figures.{Figure, IsWider, Sketch, each_changed, figure_at, may_be, only_on}
use Rattle.past_account.specs.Steps.{Step, back_by, changed_by, onto, passes, taken_back, takes, victim_on, victims}
use Rattle.sketch_steps.specs.Places.{recounted}
use Rattle.sketch_steps.proofs.Rearranging.{moved-behind}
use Rattle.sketch_list.specs.Listed.{figures_before, is_on_file, place_before, step_for, victims_as}
use Rattle.sketch_list.specs.declared.steps.Victim.{Victim}
use Rattle.sketch_list.specs.declared.steps.Victim.TheVariants.{Nobody, TakenPawn, TakenBishop, TakenOther, PassedPawn}
use Rattle.sketch_list.proofs.Listing.{Gone, Made, below-same, gone-listed, listed, passed-same, victim_for}
use Rattle.sketch_list.proofs.Narrowed.{HaveKinds}
use Rattle.sketch_list.proofs.Respelled.{IsRespelled, moved-respelled, respelled-then}
use Rattle.sketch_list.proofs.Twins.{AreTwins, Sides, Twin, alike, changed-twins, more-twins, twins-respelled}

only-there : (q t : ℕ) → is_in (only_on q) t ≡ true → t ≡ q
only-there q t member = eqb-true t q (in-that (λ u. u == q) t member).1

-- one who stands on another file
aside : (n old new q : ℕ) (v w : Figure) → IsWider v w → v.place ≡ w.place → v.squares ≡ only_on q → (file q ≡ n → ⊥) → Twin n old new v w
aside n old new q v w wide same on other = alike wide same (λ t may member level. absurd (other (ap file (sym (only-there q t (subst (λ (l : List Bool). is_in l t ≡ true) on member))) ∙ level)))

as-himself : (f : Figure) (k : Kind) (q : ℕ) → IsWider (victim_on f k q) (victim_on f k q)
as-himself f k q = record { colour = refl; kinds = λ j may. may; squares = λ s member. member; marked = λ h. h }

as-one-of : (f : Figure) (k : Kind) (q : ℕ) → list_any (λ j. same_kind j k) (Knight ∷ Rook ∷ Queen ∷ []) ≡ true → IsWider (victim_on f k q) (record (victim_on f Knight q) { kinds = Knight ∷ Rook ∷ Queen ∷ [] })
as-one-of f k q has = record {
  colour = refl;
  kinds = λ j may. subst (λ (i : Kind). list_any (λ h. same_kind h i) (Knight ∷ Rook ∷ Queen ∷ []) ≡ true) (one-kind k j may) has;
  squares = λ s member. member;
  marked = λ h. h;
}
  where
    one-kind : (k j : Kind) → list_any (λ h. same_kind h j) (k ∷ []) ≡ true → k ≡ j
    one-kind k j h = elim (or_cases (same_kind k j) false h) [ inl same ↦ kind_is k j same | inr none ↦ absurd (both_ways false refl none) ]

other-file : (s t : ℕ) → (files_apart s t == 1) ≡ true → file t ≡ file s → ⊥
unfolding distance
other-file s t apart same = let e = eqb-true _ _ apart in omega (arith, e, same)

ahead-file : (c : Colour) (s t : ℕ) → one_ahead c s t ≡ true → (rank s == en_passant_rank c) ≡ true → file (ahead c t) ≡ file t
ahead-file White s t up fifth = omega arith
ahead-file Black s t up fourth = let a = eqb-true _ _ up in let b = eqb-true _ _ fourth in omega (arith, a, b)

-- the victim, if there was one, and the others
victim-twins : (f : Figure) (x : Step) (new : ℕ) (b : Bool) (o : Option Kind) (C D : Sketch) → one_ahead f.colour x.from x.to ≡ true → cond b (passes f.colour x.from x.to o) (takes f.colour x.from x.to o) ≡ true → AreTwins (file x.from) x.place new C D → AreTwins (file x.from) x.place new (onto (victims f (record x { passing = b; taken = o })) C) (onto (victims_as f x.to (victim_for b o)) D)
unfolding victim_for
victim-twins f x new true o C D up deed twins =
    let parts = and_parts _ (is_none o) deed in
    let two = and_parts (files_apart x.from x.to == 1) (rank x.from == en_passant_rank f.colour) parts.0 in
    more-twins (file x.from) x.place new _ _ C D (aside (file x.from) x.place new (ahead f.colour x.to) _ _ (as-himself f Pawn (ahead f.colour x.to)) refl refl (λ same. other-file x.from x.to two.0 (sym (ahead-file f.colour x.from x.to up two.1) ∙ same))) twins
victim-twins f x new false None C D up deed twins = twins
victim-twins f x new false (Some Pawn) C D up deed twins = more-twins (file x.from) x.place new _ _ C D (aside (file x.from) x.place new x.to _ _ (as-himself f Pawn x.to) refl refl (other-file x.from x.to (and_parts _ _ (and_parts _ _ deed).0).0)) twins
victim-twins f x new false (Some Bishop) C D up deed twins = more-twins (file x.from) x.place new _ _ C D (aside (file x.from) x.place new x.to _ _ (as-himself f Bishop x.to) refl refl (other-file x.from x.to (and_parts _ _ (and_parts _ _ deed).0).0)) twins
victim-twins f x new false (Some Knight) C D up deed twins = more-twins (file x.from) x.place new _ _ C D (aside (file x.from) x.place new x.to _ _ (as-one-of f Knight x.to refl) refl refl (other-file x.from x.to (and_parts _ _ (and_parts _ _ deed).0).0)) twins
victim-twins f x new false (Some Rook) C D up deed twins = more-twins (file x.from) x.place new _ _ C D (aside (file x.from) x.place new x.to _ _ (as-one-of f Rook x.to refl) refl refl (other-file x.from x.to (and_parts _ _ (and_parts _ _ deed).0).0)) twins
victim-twins f x new false (Some Queen) C D up deed twins = more-twins (file x.from) x.place new _ _ C D (aside (file x.from) x.place new x.to _ _ (as-one-of f Queen x.to refl) refl refl (other-file x.from x.to (and_parts _ _ (and_parts _ _ deed).0).0)) twins
victim-twins f x new false (Some King) C D up deed twins = absurd (both_ways _ (not-true _ (and_parts _ _ (and_parts _ _ deed).0).1) refl)

victims-few : (f : Figure) (t : ℕ) (v : Victim) → length (victims_as f t v) ≤ 1
victims-few f t Nobody = omega arith
victims-few f t TakenPawn = omega arith
victims-few f t TakenBishop = omega arith
victims-few f t TakenOther = omega arith
victims-few f t PassedPawn = omega arith

module _ (exact : List Bool) (T : Sketch) (f : Figure) (x : Step) (kinds : HaveKinds T) (found : figure_at T x.by ≡ Some f) where
  filed : (h : Figure) (t : ℕ) → may_be h Pawn ≡ true → is_in h.squares t ≡ true → t < 64 → file t ≡ file x.from → is_on_file (file x.from) h ≡ true
  unfolding is_on_file
  filed h t may member inside level = and_from _ _ may (any-found (λ s. is_in h.squares s && (file s == file x.from)) 0 64 t (omega arith) (omega (arith, inside)) (and_from _ _ member (eq-eqb _ _ level)))

  new-place : (step_for T f (listed T f x)).place ≡ place_before T f (listed T f x)
  unfolding step_for
  new-place = refl

  made-sides : Made T f x → (i : ℕ) (h : Figure) → figure_at T i ≡ Some h → is_on_file (file x.from) h ≡ true → Sides (2 * h.place + 1) x.place (step_for T f (listed T f x)).place
  made-sides m i h there on =
      let both = below-same T f x kinds m i h there on in
      let p : ℕ = place_before T f (listed T f x) in
      subst (λ (n : ℕ). Sides (2 * h.place + 1) x.place n) (sym new-place) (record {
        under = λ low. let a : h.place < p = both.0 (omega (arith, low)) in omega (arith, a);
        under_back = λ low. let a : h.place < x.place = both.1 (omega (arith, low)) in omega (arith, a);
        over = λ high. elim (cases_lt h.place p) [ inl low ↦ absurd (let a = both.1 low in omega (arith, a, high)) | inr there ↦ omega (arith, there) ];
        over_back = λ high. elim (cases_lt h.place x.place) [ inl low ↦ absurd (let a = both.0 low in omega (arith, a, high)) | inr there ↦ omega (arith, there) ];
      })

  sides : Made T f x ⊎ Gone exact T f x → (i : ℕ) (h : Figure) (t : ℕ) → figure_at T i ≡ Some h → may_be h Pawn ≡ true → is_in h.squares t ≡ true → t < 64 → file t ≡ file x.from → Sides (2 * h.place + 1) x.place (step_for T f (listed T f x)).place
  sides (inl m) i h t there may member inside level = made-sides m i h there (filed h t may member inside level)
  sides (inr g) i h t there may member inside level =
      subst (λ (n : ℕ). Sides (2 * h.place + 1) x.place n) (sym (ap (λ (y : Step). y.place) (gone-listed exact T f x g))) (record { under = λ low. low; under_back = λ low. low; over = λ high. high; over_back = λ high. high })

  step-parts : ((step_for T f (listed T f x)).by ≡ x.by) × ((step_for T f (listed T f x)).from ≡ x.from) × ((step_for T f (listed T f x)).to ≡ x.to) × ((step_for T f (listed T f x)).passing ≡ x.passing)
  unfolding step_for
  step-parts = (refl, refl, refl, passed-same x.passing x.taken)

  others-twins : Made T f x ⊎ Gone exact T f x → AreTwins (file x.from) x.place (step_for T f (listed T f x)).place (each_changed (changed_by f.colour x) 0 T) (each_changed (changed_by f.colour (step_for T f (listed T f x))) 0 T)
  others-twins by = changed-twins T f.colour x (step_for T f (listed T f x)) step-parts.0 step-parts.1 step-parts.2 step-parts.3 (sides by)

  all-twins : Made T f x ⊎ Gone exact T f x → AreTwins (file x.from) x.place (step_for T f (listed T f x)).place (onto (victims f x) (each_changed (changed_by f.colour x) 0 T)) (onto (victims_as f x.to (victim_for x.passing x.taken)) (each_changed (changed_by f.colour (step_for T f (listed T f x))) 0 T))
  unfolding victim_for
  all-twins (inl m) = victim-twins f x _ x.passing x.taken _ _ m.up m.deed (others-twins (inl m))
  all-twins (inr g) =
      subst (λ (z : Step). AreTwins (file x.from) x.place (step_for T f (listed T f x)).place (onto (victims f z) (each_changed (changed_by f.colour x) 0 T)) (onto (victims_as f x.to (victim_for z.passing z.taken)) (each_changed (changed_by f.colour (step_for T f (listed T f x))) 0 T)))
      (ap (λ (o : Option Kind). record x { passing = false; taken = o }) (sym g.nobody) ∙ ap (λ (b : Bool). record x { passing = b }) (sym g.plain)) (others-twins (inr g))

  pub before-respelled : Made T f x ⊎ Gone exact T f x → IsRespelled (taken_back T x) (recounted (figures_before T f (listed T f x)))
  unfolding taken_back figures_before
  before-respelled by =
      let V : List Figure = victims_as f x.to (victim_for x.passing x.taken) in
      let D : Sketch = each_changed (changed_by f.colour (step_for T f (listed T f x))) 0 T in
      subst (λ (o : Option Figure). IsRespelled (back_by T o x) (recounted (D ++ V))) (sym found)
      (respelled-then _ (onto V D) (recounted (D ++ V)) (twins-respelled _ _ _ _ _ (all-twins by)) (moved-respelled (onto V D) (D ++ V) (moved-behind V D (victims-few f x.to (victim_for x.passing x.taken)))))
