-- The list of a sketch's open steps, place by place.
use Rattle.std.proofs.Common.{◌≡◌, ℕ, ◌+◌, Bool, true, false, cond, List, [], ◌∷◌, ◌++◌, map, length, refl, ap, sym, ◌∙◌}
use Rattle.std.proofs.lemmas.List.{map-append}
use Rattle.std.proofs.lemmas.List.Elements.{filter-append}
use Rattle.std.specs.Prelude.{None, Option, Some}
use Rattle.std.specs.List.{filter, flat_map, range_with_len}
use Rattle.board_base.specs.declared.men.Colour.{Colour}
use Rattle.figures.specs.Figures.{Figure, Sketch, figure_at}
use Rattle.sketch_list.specs.Listed.{Earlier, Listed, all_victims, earlier, is_open, origins, sketch_before, steps_by, ways_to}
use Rattle.sketch_list.specs.declared.steps.Victim.{Victim}
use Rattle.sketch_walk.specs.Nests.{Finds, of_figure, of_square, of_victim, of_way}
use Rattle.sketch_walk.specs.Walks.{found_at, found_by, if_open, left_of, origin_at, victim_at, way_at}
use Rattle.sketch_walk.proofs.Nesting.{figure-next, rest-all}

flat-same : {A : Type 0} (g h : A → List Earlier) (xs : List A) → ((x : A) → g x ≡ h x) → flat_map g xs ≡ flat_map h xs
flat-same g h [] same = refl
flat-same g h (x ∷ xs) same = ap (λ (l : List Earlier). l ++ flat_map g xs) (same x) ∙ ap (λ (l : List Earlier). h x ++ l) (flat-same g h xs same)

flat-none : {A : Type 0} (g : A → List Earlier) (xs : List A) → ((x : A) → g x ≡ []) → flat_map g xs ≡ []
flat-none g [] none = refl
flat-none g (x ∷ xs) none = ap (λ (l : List Earlier). l ++ flat_map g xs) (none x) ∙ flat-none g xs none

-- what is kept and shown of lists in a list, and of values in one
module _ (p : Listed → Bool) (show : Listed → Earlier) where
  shown-lists : {A : Type 0} (g : A → List Listed) (xs : List A) → map show (filter p (flat_map g xs)) ≡ flat_map (λ x. map show (filter p (g x))) xs
  shown-lists g [] = refl
  shown-lists g (x ∷ xs) =
      ap (map show) (filter-append p (g x) (flat_map g xs)) ∙ map-append show (filter p (g x)) (filter p (flat_map g xs))
      ∙ ap (λ (l : List Earlier). map show (filter p (g x)) ++ l) (shown-lists g xs)

  shown-one : (b : Bool) (y : Listed) (ys : List Listed) → map show (cond b (y ∷ ys) ys) ≡ cond b (show y ∷ []) [] ++ map show ys
  shown-one true y ys = refl
  shown-one false y ys = refl

  shown-values : {A : Type 0} (h : A → Listed) (xs : List A) → map show (filter p (map h xs)) ≡ flat_map (λ x. cond (p (h x)) (show (h x) ∷ []) []) xs
  shown-values h [] = refl
  shown-values h (x ∷ xs) = shown-one (p (h x)) (h x) (filter p (map h xs)) ∙ ap (λ (l : List Earlier). cond (p (h x)) (show (h x) ∷ []) [] ++ l) (shown-values h xs)

origins-told : (g : ℕ → List Earlier) (c : Colour) (t : ℕ) → flat_map g (origins c t) ≡ flat_map (λ w. g (origin_at c t w)) (range_with_len 0 4)
origins-told g c t = refl

victims-told : (g : Victim → List Earlier) → flat_map g all_victims ≡ flat_map (λ v. g (victim_at v)) (range_with_len 0 5)
victims-told g = refl

-- all that is found, as lists in lists
module _ (finds : Finds) (k : ℕ) where
  in-victim : (i t w v : ℕ) → of_victim finds k i t w v ≡ flat_map (finds i t w v) (range_with_len 0 (k + 1))
  unfolding of_victim
  in-victim i t w v = rest-all (finds i t w v) (k + 1)

  in-way : (i t w : ℕ) → of_way finds k i t w ≡ flat_map (λ v. flat_map (finds i t w v) (range_with_len 0 (k + 1))) (range_with_len 0 5)
  unfolding of_way
  in-way i t w = rest-all (of_victim finds k i t w) 5 ∙ flat-same (of_victim finds k i t w) (λ v. flat_map (finds i t w v) (range_with_len 0 (k + 1))) (range_with_len 0 5) (in-victim i t w)

  in-square : (i t : ℕ) → of_square finds k i t ≡ flat_map (λ w. flat_map (λ v. flat_map (finds i t w v) (range_with_len 0 (k + 1))) (range_with_len 0 5)) (range_with_len 0 4)
  unfolding of_square
  in-square i t = rest-all (of_way finds k i t) 4 ∙ flat-same (of_way finds k i t) (λ w. flat_map (λ v. flat_map (finds i t w v) (range_with_len 0 (k + 1))) (range_with_len 0 5)) (range_with_len 0 4) (in-way i t)

  in-figure : (i : ℕ) → of_figure finds k i ≡ flat_map (λ t. flat_map (λ w. flat_map (λ v. flat_map (finds i t w v) (range_with_len 0 (k + 1))) (range_with_len 0 5)) (range_with_len 0 4)) (range_with_len 0 64)
  unfolding of_figure
  in-figure i = rest-all (of_square finds k i) 64 ∙ flat-same (of_square finds k i) (λ t. flat_map (λ w. flat_map (λ v. flat_map (finds i t w v) (range_with_len 0 (k + 1))) (range_with_len 0 5)) (range_with_len 0 4)) (range_with_len 0 64) (in-square i)

module _ (o exact : List Bool) (T : Sketch) where
  -- one figure's
  unfoldable all-by : Option Figure → ℕ → List Earlier
  all-by it i = flat_map (λ t. flat_map (λ w. flat_map (λ v. flat_map (λ n. found_by o exact T it i t w v n) (range_with_len 0 (length T + 1))) (range_with_len 0 5)) (range_with_len 0 4)) (range_with_len 0 64)

  listed-by : (it : Option Figure) (i : ℕ) → steps_by o exact T i it ≡ all-by it i
  unfolding steps_by all-by if_open
  listed-by None i = sym (flat-none _ (range_with_len 0 64) (λ t. flat-none _ (range_with_len 0 4) (λ w. flat-none _ (range_with_len 0 5) (λ v. flat-none _ (range_with_len 0 (length T + 1)) (λ n. refl)))))
  listed-by (Some f) i =
      let p : Listed → Bool = is_open o exact T f in
      let show : Listed → Earlier = λ y. record { step = y; sketch = sketch_before T f y } in
      let counts : List ℕ = range_with_len 0 (length T + 1) in
      shown-lists p show (ways_to T i f) (range_with_len 0 64)
      ∙ flat-same _ _ (range_with_len 0 64) (λ t.
      shown-lists p show (λ s. flat_map (λ v. map (λ n. record { by = i; from = s; to = t; victim = v; above = n }) counts) all_victims) (origins f.colour t)
      ∙ origins-told (λ s. map show (filter p (flat_map (λ v. map (λ n. record { by = i; from = s; to = t; victim = v; above = n }) counts) all_victims))) f.colour t
      ∙ flat-same _ _ (range_with_len 0 4) (λ w.
      shown-lists p show (λ v. map (λ n. record { by = i; from = origin_at f.colour t w; to = t; victim = v; above = n }) counts) all_victims
      ∙ victims-told (λ v. map show (filter p (map (λ n. record { by = i; from = origin_at f.colour t w; to = t; victim = v; above = n }) counts)))
      ∙ flat-same _ _ (range_with_len 0 5) (λ v. shown-values p show (λ n. way_at i f t w v n) counts)))

  all-found : (i : ℕ) → all-by (figure_at T i) i ≡ of_figure (found_at o exact T) (length T) i
  unfolding all-by found_at
  all-found i = sym (in-figure (found_at o exact T) (length T) i)

  pub walk-begun : left_of o exact T (record { by = 0; to = 0; way = 0; victim = 0; above = 0 }) ≡ earlier o exact T
  unfolding left_of earlier
  walk-begun =
      figure-next (found_at o exact T) (length T) 0 ∙ rest-all (of_figure (found_at o exact T) (length T)) (length T)
      ∙ sym (flat-same (λ i. steps_by o exact T i (figure_at T i)) (of_figure (found_at o exact T) (length T)) (range_with_len 0 (length T)) (λ i. listed-by (figure_at T i) i ∙ all-found i))
