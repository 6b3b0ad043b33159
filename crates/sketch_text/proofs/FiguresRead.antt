-- Numbers of figures that are read one after another.
use Rattle.std.proofs.Common.{◌≡◌, ℕ, zero, suc, ◌+◌, ◌-◌, ◌<◌, ◌≤◌, true, List, [], ◌∷◌, ◌++◌, length, Option, Some, None, Bor, refl, sym, ap, ◌∙◌, arith, append-nil, append_assoc, length-append}
use Rattle.std.specs.Prelude.{is_some}
use Rattle.std.specs.Option.{option_map, option_and_then}
use Rattle.sketch_text.specs.Marks.{figures_from, words}
use Rattle.sketch_text.specs.Nodes.{number_within}
use Rattle.sketch_text.proofs.MarkTexts.{left, some_words}

-- how far the figures were read
pub record FiguresSoFar (text : List ℕ) (n least : ℕ) (rest : Option (Bor (List ℕ))) (figures : List ℕ) : Type 0 where
  pub size : length figures ≡ n
  pub few : n ≤ 32
  pub low : least ≤ 33
  pub read : figures_from 32 1 (words text) ≡ option_map (λ (others : List ℕ). figures ++ others) (figures_from (32 - n) least (left rest))

pub no_more : (o : Option (List ℕ)) → o ≡ option_map (λ (others : List ℕ). [] ++ others) o
no_more None = refl
no_more (Some figures) = refl

pub figures_begun : (text : List ℕ) (b : Bor (List ℕ)) → b.now ≡ text → FiguresSoFar text 0 1 (Some b) []
figures_begun text b e = record {
  size = refl;
  few = omega arith;
  low = omega arith;
  read = no_more (figures_from 32 1 (words text)) ∙ ap (λ (t : List ℕ). option_map (λ (others : List ℕ). [] ++ others) (figures_from 32 1 (words t))) (sym e);
}

figures_rest : (text : List ℕ) (n least : ℕ) (rest : Option (Bor (List ℕ))) (figures : List ℕ) (k : ℕ) (ws : List (List ℕ)) → 32 - n ≡ k → left rest ≡ ws → FiguresSoFar text n least rest figures → figures_from 32 1 (words text) ≡ option_map (λ (others : List ℕ). figures ++ others) (figures_from k least ws)
figures_rest text n least rest figures k ws size here s =
    s.read ∙ ap (λ (m : ℕ). option_map (λ (others : List ℕ). figures ++ others) (figures_from m least (left rest))) size ∙ ap (λ (l : List (List ℕ)). option_map (λ (others : List ℕ). figures ++ others) (figures_from k least l)) here

no_words : (n least : ℕ) → figures_from n least [] ≡ Some []
no_words zero least = refl
no_words (suc n) least = refl

one_less : (i : ℕ) → i < 32 → 32 - i ≡ suc (32 - (i + 1))
one_less i low = omega arith

pub figures_done : (text : List ℕ) (n least : ℕ) (rest : Option (Bor (List ℕ))) (figures : List ℕ) → rest ≡ None → FiguresSoFar text n least rest figures → figures_from 32 1 (words text) ≡ Some figures
figures_done text n least rest figures e s =
    figures_rest text n least rest figures (32 - n) [] refl (ap left e) s ∙ ap (option_map (λ (others : List ℕ). figures ++ others)) (no_words (32 - n) least)
    ∙ ap (λ (l : List ℕ). Some l) (append-nil figures)

pub figures_bad : (text : List ℕ) (n least : ℕ) (rest : Option (Bor (List ℕ))) (figures : List ℕ) (w : List ℕ) (ws : List (List ℕ)) → n < 32 → left rest ≡ w ∷ ws → number_within least 32 w ≡ None → FiguresSoFar text n least rest figures → figures_from 32 1 (words text) ≡ None
figures_bad text n least rest figures w ws low here bad s =
    figures_rest text n least rest figures (suc (32 - (n + 1))) (w ∷ ws) (one_less n low) here s
    ∙ ap (λ (o : Option ℕ). option_map (λ (others : List ℕ). figures ++ others) (option_and_then (λ (i : ℕ). option_map (λ (l : List ℕ). i ∷ l) (figures_from (32 - (n + 1)) (i + 1) ws)) o)) bad

figures_more : (figures : List ℕ) (i : ℕ) (o : Option (List ℕ)) → option_map (λ (others : List ℕ). figures ++ others) (option_map (λ (l : List ℕ). i ∷ l) o) ≡ option_map (λ (others : List ℕ). (figures ++ i ∷ []) ++ others) o
figures_more figures i None = refl
figures_more figures i (Some l) = ap (λ (x : List ℕ). Some x) (sym (append_assoc figures (i ∷ []) l))

pub figures_next : (text : List ℕ) (n least : ℕ) (rest after : Option (Bor (List ℕ))) (figures : List ℕ) (w : List ℕ) (i : ℕ) → n < 32 → left rest ≡ w ∷ left after → number_within least 32 w ≡ Some i → i ≤ 32 → FiguresSoFar text n least rest figures → FiguresSoFar text (n + 1) (i + 1) after (figures ++ i ∷ [])
figures_next text n least rest after figures w i low here good under s =
    let size = s.size in
    record {
      size = length-append figures (i ∷ []) ∙ omega arith;
      few = omega arith;
      low = omega arith;
      read = figures_rest text n least rest figures (suc (32 - (n + 1))) (w ∷ left after) (one_less n low) here s
          ∙ ap (λ (o : Option ℕ). option_map (λ (others : List ℕ). figures ++ others) (option_and_then (λ (x : ℕ). option_map (λ (l : List ℕ). x ∷ l) (figures_from (32 - (n + 1)) (x + 1) (left after))) o)) good
          ∙ figures_more figures i (figures_from (32 - (n + 1)) (i + 1) (left after));
    }

figures_full : (least : ℕ) (ws : List (List ℕ)) → 1 ≤ length ws → figures_from zero least ws ≡ None
figures_full least [] some = absurd (omega arith)
figures_full least (w ∷ ws) some = refl

some_left : (o : Option (Bor (List ℕ))) → is_some o ≡ true → 1 ≤ length (left o)
some_left None e = absurd cc
some_left (Some b) e = some_words b.now

-- words are left behind as many figures as there may be
pub figures_over : (text : List ℕ) (n least : ℕ) (rest : Option (Bor (List ℕ))) (figures : List ℕ) → 32 ≤ n → is_some rest ≡ true → FiguresSoFar text n least rest figures → figures_from 32 1 (words text) ≡ None
figures_over text n least rest figures high some s =
    figures_rest text n least rest figures zero (left rest) (omega arith) refl s ∙ ap (option_map (λ (others : List ℕ). figures ++ others)) (figures_full least (left rest) (some_left rest some))
