-- The sketch of a query fits each game that leads to it.
use Rattle.std.proofs.Common.{◌≡◌, ℕ, zero, suc, ◌+◌, ◌<◌, ◌≤◌, inl, inr, Bool, true, false, List, [], ◌∷◌, ◌++◌, refl, ap, sym, ◌∙◌, subst, arith}
use Rattle.std.proofs.lemmas.Bool.{and_from, both_ways, cases_Bool, cases_eq}
use Rattle.std.proofs.lemmas.Option.{none-some, same_Some}
use Rattle.std.specs.Prelude.{Option, Some, None, unwrap_or}
use Rattle.std.specs.List.{flat_map, list_any, range_with_len}
use Rattle.general_lemmas.proofs.Ranges.{any-found, any-one}
use Rattle.board_base.specs.Board.{Places, array_of, at, is_a, is_empty, rank, same_kind}
use Rattle.board_base.specs.Game.{IsGame, board_after}
use Rattle.board_base.specs.declared.men.Kind.TheVariants.{King}
use Rattle.board_base.specs.declared.men.Man.{Man}
use Rattle.board_base.specs.declared.moves.Move.{Move}
use Rattle.board_base.proofs.KindsOfMen.{same_colour-self}
use Rattle.play_rules.proofs.Kings.{length-after}
use Rattle.cage_rules.specs.Asked.{Asked}
use Rattle.men_account.specs.Labels.{Labels, label_at, labels_after}
use Rattle.men_account.proofs.Captured.{man-there}
use Rattle.men_account.proofs.Labelled.{labels-apart, labels-each_man}
use Rattle.cage_rules.specs.Reach.{LeadsTo}
use Rattle.men_fates.specs.Deeds.{is_label}
use Rattle.men_fates.proofs.Lasting.{king-lasts}
use Rattle.men_fates.proofs.MoreDeeds.{label-is, label-told}
use Rattle.men_fates.proofs.Strikes.{label-some}
use Rattle.past_sketches.specs.Figures.{Figure, Sketch, figure_at, figure_of, only_on, sketch_of}
use Rattle.past_sketches.specs.Fits.{Fits, Stands}
use Rattle.past_sketches.proofs.Sketches.{only-kind, only-on}
use Rattle.past_sketches.proofs.Wider.{man-inside}

-- the figures of the men on n squares from k on
figures : Places → ℕ → ℕ → Sketch
figures board k n = flat_map (λ s. figure_of s (at board s)) (range_with_len k n)

fixed_figure : ℕ → Man → Figure
fixed_figure s m = record { colour = m.colour; kinds = m.kind ∷ []; squares = only_on s; marked = false; place = rank s }

-- the square of the figure with this number
square_at : Places → ℕ → ℕ → ℕ → ℕ
square_at board k zero i = k
square_at board k (suc n) i = elim (at board k) as (λ _. ℕ) [
  | None ↦ square_at board (k + 1) n i
  | Some m ↦ elim i as (λ _. ℕ) [ zero ↦ k | suc j ↦ square_at board (k + 1) n j ]
]

record OnSquare (board : Places) (k n s : ℕ) (f : Figure) : Type 0 where
  low : k ≤ s
  high : s < k + n
  man : Man
  there : at board s ≡ Some man
  is : fixed_figure s man ≡ f

on-later : (board : Places) (k n s : ℕ) (f : Figure) → OnSquare board (k + 1) n s f → OnSquare board k (suc n) s f
on-later board k n s f h = let low = h.low in let high = h.high in record { low = omega (arith, low); high = omega (arith, high); man = h.man; there = h.there; is = h.is }

-- of the first square's man, or of a later one
on-first : (board : Places) (n k i : ℕ) (m : Man) (f : Figure) → at board k ≡ Some m → ((j : ℕ) → figure_at (figures board (k + 1) n) j ≡ Some f → OnSquare board (k + 1) n (square_at board (k + 1) n j) f) → figure_at (fixed_figure k m ∷ figures board (k + 1) n) i ≡ Some f → OnSquare board k (suc n) (elim i as (λ _. ℕ) [ zero ↦ k | suc j ↦ square_at board (k + 1) n j ]) f
on-first board n k zero m f here rest h = record { low = omega arith; high = omega arith; man = m; there = here; is = same_Some _ _ h }
on-first board n k (suc j) m f here rest h = on-later board k n _ f (rest j h)

on-square : (board : Places) (n k i : ℕ) (f : Figure) → figure_at (figures board k n) i ≡ Some f → OnSquare board k n (square_at board k n i) f
unfolding figures square_at fixed_figure
on-square board zero k i f e = cc
on-square board (suc n) k i f e =
    elim (at board k) as (λ place. at board k ≡ place → figure_at (figure_of k place ++ figures board (k + 1) n) i ≡ Some f → OnSquare board k (suc n) (elim place as (λ _. ℕ) [ None ↦ square_at board (k + 1) n i | Some m ↦ elim i as (λ _. ℕ) [ zero ↦ k | suc j ↦ square_at board (k + 1) n j ] ]) f) [
      | None ↦ λ here h. on-later board k n _ f (on-square board n (k + 1) i f h)
      | Some m ↦ λ here h. on-first board n k i m f here (λ j. on-square board n (k + 1) j f) h
    ] refl e

-- figures on one square have one number
first-apart : (board : Places) (n k i j : ℕ) (m : Man) (f g : Figure) → ((i j : ℕ) → figure_at (figures board (k + 1) n) i ≡ Some f → figure_at (figures board (k + 1) n) j ≡ Some g → square_at board (k + 1) n i ≡ square_at board (k + 1) n j → i ≡ j) → figure_at (fixed_figure k m ∷ figures board (k + 1) n) i ≡ Some f → figure_at (fixed_figure k m ∷ figures board (k + 1) n) j ≡ Some g → elim i as (λ _. ℕ) [ zero ↦ k | suc j ↦ square_at board (k + 1) n j ] ≡ elim j as (λ _. ℕ) [ zero ↦ k | suc j ↦ square_at board (k + 1) n j ] → i ≡ j
first-apart board n k zero zero m f g rest e1 e2 same = refl
first-apart board n k zero (suc j) m f g rest e1 e2 same = let later = (on-square board n (k + 1) j g e2).low in absurd (omega (arith, later, same))
first-apart board n k (suc i) zero m f g rest e1 e2 same = let later = (on-square board n (k + 1) i f e1).low in absurd (omega (arith, later, same))
first-apart board n k (suc i) (suc j) m f g rest e1 e2 same = ap suc (rest i j e1 e2 same)

squares-apart : (board : Places) (n k i j : ℕ) (f g : Figure) → figure_at (figures board k n) i ≡ Some f → figure_at (figures board k n) j ≡ Some g → square_at board k n i ≡ square_at board k n j → i ≡ j
unfolding figures square_at fixed_figure
squares-apart board zero k i j f g e1 e2 same = cc
squares-apart board (suc n) k i j f g e1 e2 same =
    elim (at board k) as (λ place. figure_at (figure_of k place ++ figures board (k + 1) n) i ≡ Some f → figure_at (figure_of k place ++ figures board (k + 1) n) j ≡ Some g → elim place as (λ _. ℕ) [ None ↦ square_at board (k + 1) n i | Some m ↦ elim i as (λ _. ℕ) [ zero ↦ k | suc j ↦ square_at board (k + 1) n j ] ] ≡ elim place as (λ _. ℕ) [ None ↦ square_at board (k + 1) n j | Some m ↦ elim j as (λ _. ℕ) [ zero ↦ k | suc j ↦ square_at board (k + 1) n j ] ] → i ≡ j) [
      | None ↦ λ h1 h2 e. squares-apart board n (k + 1) i j f g h1 h2 e
      | Some m ↦ λ h1 h2 e. first-apart board n k i j m f g (λ i j. squares-apart board n (k + 1) i j f g) h1 h2 e
    ] e1 e2 same

-- each man has a figure
HasFigure : Places → ℕ → ℕ → ℕ → Type 0
HasFigure board k n s = (i : ℕ) × (f : Figure) × (figure_at (figures board k n) i ≡ Some f) × (square_at board k n i ≡ s)

has-figure : (board : Places) (n k s : ℕ) (man : Man) → k ≤ s → s < k + n → at board s ≡ Some man → HasFigure board k n s
unfolding figures square_at fixed_figure HasFigure
has-figure board zero k s man low high there = absurd (omega arith)
has-figure board (suc n) k s man low high there =
    elim (at board k) as (λ place. at board k ≡ place → (i : ℕ) × (f : Figure) × (figure_at (figure_of k place ++ figures board (k + 1) n) i ≡ Some f) × (elim place as (λ _. ℕ) [ None ↦ square_at board (k + 1) n i | Some m ↦ elim i as (λ _. ℕ) [ zero ↦ k | suc j ↦ square_at board (k + 1) n j ] ] ≡ s)) [
      | None ↦ λ here. elim (cases_eq s k) [
        | inl same ↦ absurd (none-some man (sym here ∙ ap (at board) (sym same) ∙ there))
        | inr other ↦ let more = has-figure board n (k + 1) s man (omega arith) (omega arith) there in (more.0, more.1, more.2, more.3)
      ]
      | Some m ↦ λ here. elim (cases_eq s k) [
        | inl same ↦ (zero, fixed_figure k m, refl, sym same)
        | inr other ↦ let more = has-figure board n (k + 1) s man (omega arith) (omega arith) there in (suc more.0, more.1, more.2, more.3)
      ]
    ] refl

-- the label of the man on a square, or 0
label_on : Labels → ℕ → ℕ
label_on labels s = unwrap_or (label_at labels s) 0

label-on : (labels : Labels) (s l : ℕ) → label_at labels s ≡ Some l → label_on labels s ≡ l
unfolding label_on
label-on labels s l e = ap (λ (o : Option ℕ). unwrap_or o 0) e

-- in every game each king of the array has a square
king-square : (o : List Bool) (g : List Move) (h : ℕ) (m : Man) → IsGame o g → at (array_of o) h ≡ Some m → same_kind King m.kind ≡ true → (s : ℕ) × (label_at (labels_after o g) s ≡ Some h)
king-square o g h m game there king = elim (cases_Bool (list_any (λ s. is_label (label_at (labels_after o g) s) h) (range_with_len 0 64))) [
  | inl some ↦ let one = any-one (λ s. is_label (label_at (labels_after o g) s) h) 0 64 some in (one.number, label-told (label_at (labels_after o g) one.number) h one.passes)
  | inr none ↦ absurd (king-lasts o g m.colour h game (rw there (and_from _ _ (same_colour-self m.colour) king)) (λ s label.
      both_ways _ none (any-found (λ t. is_label (label_at (labels_after o g) t) h) 0 64 s (omega arith) (omega (arith, labelled-inside o g s h game label)) (label-is (label_at (labels_after o g) s) h label))))
]
  where
    labelled-inside : (o : List Bool) (g : List Move) (s h : ℕ) → IsGame o g → label_at (labels_after o g) s ≡ Some h → s < 64
    labelled-inside o g s h game label =
        let man = man-there (board_after o g) (labels_after o g) s h (labels-each_man o g game) label in
        man-inside (board_after o g) s man.0 (length-after o g game) man.1

stands-there : (o : List Bool) (g : List Move) (s : ℕ) (m : Man) (f : Figure) → IsGame o g → at (board_after o g) s ≡ Some m → fixed_figure s m ≡ f → Stands o g f (label_on (labels_after o g) s)
unfolding fixed_figure
stands-there o g s m f game there is =
    let label = label-some (label_at (labels_after o g) s) (labels-each_man o g game s ∙ ap is_empty there) in
    let his : label_on (labels_after o g) s ≡ label.0 = label-on (labels_after o g) s label.0 label.1 in
    let inside : s < 64 = man-inside (board_after o g) s m (length-after o g game) there in
    subst (λ (x : Figure). Stands o g x (label_on (labels_after o g) s)) is
    (s, m, record { label = label.1 ∙ ap Some (sym his); there = there; colour = refl; kind = only-kind m.kind m.kind refl; square = only-on s s inside refl; mark = λ marked. absurd (both_ways false refl marked) })

in-places : (f h : Figure) (s t u v : ℕ) (a b : Man) → fixed_figure u a ≡ f → fixed_figure v b ≡ h → s ≡ u → t ≡ v → rank s < rank t → f.place < h.place
unfolding fixed_figure
in-places f h s t u v a b is_f is_h here there lower =
    let x : rank u ≡ f.place = ap (λ (y : Figure). y.place) is_f in
    let z : rank v ≡ h.place = ap (λ (y : Figure). y.place) is_h in
    let r1 = ap rank here in
    let r2 = ap rank there in
    omega (arith, x, z, r1, r2, lower)

figures-fit : (o : List Bool) (g : List Move) → IsGame o g → Fits o g (figures (board_after o g) 0 64)
unfolding HasFigure
figures-fit o g game = record {
  label = λ i. label_on (labels_after o g) (square_at (board_after o g) 0 64 i);
  stand = λ i f e. let on = on-square (board_after o g) 64 0 i f e in stands-there o g (square_at (board_after o g) 0 64 i) on.man f game on.there on.is;
  apart = λ i j f h e1 e2 same.
      let a = on-square (board_after o g) 64 0 i f e1 in
      let b = on-square (board_after o g) 64 0 j h e2 in
      squares-apart (board_after o g) 64 0 i j f h e1 e2 (one-square (square_at (board_after o g) 0 64 i) (square_at (board_after o g) 0 64 j) a.man b.man a.there b.there same);
  kings = λ h king.
      let home = full-king (at (array_of o) h) king in
      let s = king-square o g h home.0 game home.1 home.2 in
      let man = man-there (board_after o g) (labels_after o g) s.0 h (labels-each_man o g game) s.1 in
      let has = has-figure (board_after o g) 64 0 s.0 man.0 (omega arith) (let inside = man-inside (board_after o g) s.0 man.0 (length-after o g game) man.1 in omega (arith, inside)) man.1 in
      (has.0, has.1, has.2, ap (label_on (labels_after o g)) has.3 ∙ label-on (labels_after o g) s.0 h s.1);
  order = λ i j f h s t e1 e2 a b level lower.
      let on_i = on-square (board_after o g) 64 0 i f e1 in
      let on_j = on-square (board_after o g) 64 0 j h e2 in
      in-places f h s t (square_at (board_after o g) 0 64 i) (square_at (board_after o g) 0 64 j) on_i.man on_j.man on_i.is on_j.is (his-square (square_at (board_after o g) 0 64 i) s on_i.man on_i.there a.label) (his-square (square_at (board_after o g) 0 64 j) t on_j.man on_j.there b.label) lower;
}
  where
    his-square : (u s : ℕ) (m : Man) → at (board_after o g) u ≡ Some m → label_at (labels_after o g) s ≡ Some (label_on (labels_after o g) u) → s ≡ u
    his-square u s m here label =
        let k = label-some (label_at (labels_after o g) u) (labels-each_man o g game u ∙ ap is_empty here) in
        labels-apart o g game s u k.0 (label ∙ ap Some (label-on (labels_after o g) u k.0 k.1)) k.1

    one-square : (s t : ℕ) (a b : Man) → at (board_after o g) s ≡ Some a → at (board_after o g) t ≡ Some b → label_on (labels_after o g) s ≡ label_on (labels_after o g) t → s ≡ t
    one-square s t a b here there same =
        let k = label-some (label_at (labels_after o g) s) (labels-each_man o g game s ∙ ap is_empty here) in
        let l = label-some (label_at (labels_after o g) t) (labels-each_man o g game t ∙ ap is_empty there) in
        let e : k.0 ≡ l.0 = sym (label-on (labels_after o g) s k.0 k.1) ∙ same ∙ label-on (labels_after o g) t l.0 l.1 in
        labels-apart o g game s t k.0 k.1 (l.1 ∙ ap Some (sym e))

    full-king : (place : Option Man) → is_a King place ≡ true → (m : Man) × (place ≡ Some m) × (same_kind King m.kind ≡ true)
    full-king None h = absurd (both_ways false refl h)
    full-king (Some m) h = (m, refl, h)

pub query-fits : (o : List Bool) (g : List Move) (q : Asked) → LeadsTo o g q → Fits o g (sketch_of q.board)
unfolding sketch_of figures
query-fits o g q leads = subst (λ (b : Places). Fits o g (sketch_of b)) leads.board (figures-fit o g leads.game)
