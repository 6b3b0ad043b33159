-- A sketch that is sound when it is trimmed is sound before.
use Rattle.std.proofs.Common.{◌≡◌, ℕ, zero, suc, ◌<◌, ◌*◌, inl, inr, Bool, true, false, ◌&&◌, not, List, [], ◌∷◌, length, map, refl, ap, sym, ◌∙◌, arith}
use Rattle.std.proofs.lemmas.Bool.{and_from, and_parts, both_ways, false_from_ne_true, not-true, not_from_false, or_cases, or_left, or_right}
use Rattle.std.specs.List.{list_all, list_any, range_with_len}
use Rattle.general_lemmas.proofs.Ranges.{any-found}
use Rattle.board_base.specs.Board.{is_in, opponent, same_colour, same_kind}
use Rattle.board_base.specs.declared.men.Colour.{Colour}
use Rattle.board_base.specs.declared.men.Kind.{Kind}
use Rattle.board_base.specs.declared.men.Kind.TheVariants.{King}
use Rattle.figures.proofs.Filling.{in-that, is_in-that}
use Rattle.figures.proofs.Tested.{any-told, at_board}
use Rattle.figures.specs.Clashes.{do_two, is_clash, is_nowhere}
use Rattle.figures.specs.Figures.{Figure, IsWider, Sketch, each_changed, is_fixed_on}
use Rattle.figures.specs.Touching.{gives_check, is_king_on, kings_of, touched_squares, touches, touches_from}
use Rattle.figures.specs.Trimmed.{trimmed, trimmed_figure, trims}
use Rattle.sketch_sets.specs.TrimmedOut.{trimmed_out}
use Rattle.sketch_sets.proofs.Under.{AreSomewhere}
use Rattle.sketch_steps.specs.Places.{placed_in, recounted}
use Rattle.sketch_list.specs.Listed.{is_sound}
use Rattle.sketch_list.proofs.Narrowed.{fixed-narrow, sound-somewhere}

-- the figure has the other's colour and kinds, and no more squares
pub record IsThinner (f g : Figure) : Type 0 where
  pub colour : f.colour ≡ g.colour
  pub kinds : f.kinds ≡ g.kinds
  pub marked : f.marked ≡ g.marked
  pub squares : (s : ℕ) → is_in f.squares s ≡ true → is_in g.squares s ≡ true

abbrev pub AreThinner : Sketch → Sketch → Type 0
AreThinner [] [] = Unit {0}
AreThinner [] (g ∷ T) = ⊥
AreThinner (f ∷ S) [] = ⊥
AreThinner (f ∷ S) (g ∷ T) = IsThinner f g × AreThinner S T

thinner-then : (S T U : Sketch) → AreThinner S T → AreThinner T U → AreThinner S U
thinner-then [] [] [] a b = tt
thinner-then [] [] (h ∷ U) a b = absurd b
thinner-then [] (g ∷ T) U a b = absurd a
thinner-then (f ∷ S) [] U a b = absurd a
thinner-then (f ∷ S) (g ∷ T) [] a b = absurd b
thinner-then (f ∷ S) (g ∷ T) (h ∷ U) a b =
    let x = a.0 in
    let y = b.0 in
    (record { colour = x.colour ∙ y.colour; kinds = x.kinds ∙ y.kinds; marked = x.marked ∙ y.marked; squares = λ s member. y.squares s (x.squares s member) }, thinner-then S T U a.1 b.1)

thinner-self : (S : Sketch) → AreThinner S S
thinner-self [] = tt
thinner-self (f ∷ S) = (record { colour = refl; kinds = refl; marked = refl; squares = λ s member. member }, thinner-self S)

trimmed-from : (T S : Sketch) (k : ℕ) → AreThinner (each_changed (λ i f. trimmed_figure T f) k S) S
trimmed-from T [] k = tt
trimmed-from T (f ∷ S) k = (record { colour = refl; kinds = refl; marked = refl; squares = λ s member. (and_parts _ _ (and_parts _ _ (in-that _ s member).1).0).0 }, trimmed-from T S (suc k))

trimmed-thinner : (T : Sketch) → AreThinner (trimmed T) T
unfolding trimmed
trimmed-thinner T = trimmed-from T T 0

trims-thinner : (n : ℕ) (T : Sketch) → AreThinner (trims n T) T
trims-thinner zero T = thinner-self T
trims-thinner (suc n) T = thinner-then (trims n (trimmed T)) (trimmed T) T (trims-thinner n (trimmed T)) (trimmed-thinner T)

counted-from : (T S : Sketch) → AreThinner (map (placed_in T) S) S
unfolding placed_in
counted-from T [] = tt
counted-from T (f ∷ S) = (record { colour = refl; kinds = refl; marked = refl; squares = λ s member. member }, counted-from T S)

counted-thinner : (T : Sketch) → AreThinner (recounted T) T
unfolding recounted
counted-thinner T = counted-from T T

left-thinner : (T : Sketch) → AreThinner (trimmed_out (recounted T)) T
unfolding trimmed_out
left-thinner T = thinner-then (trims (64 * length (recounted T)) (recounted T)) (recounted T) T (trims-thinner (64 * length (recounted T)) (recounted T)) (counted-thinner T)

-- each figure has a square on the board
abbrev pub AreThere : Sketch → Type 0
AreThere [] = Unit {0}
AreThere (f ∷ S) = ((q : ℕ) × (q < 64) × (is_in f.squares q ≡ true)) × AreThere S

there-from : (S : Sketch) → AreSomewhere S → AreThere S
there-from [] on = tt
there-from (f ∷ S) on = (on 0 f refl, there-from S (λ i g e. on (suc i) g e))

wider : (f g : Figure) → IsThinner f g → IsWider f g
wider f g t = record { colour = t.colour; kinds = λ k may. ap (λ (l : List Kind). list_any (λ j. same_kind j k) l) (sym t.kinds) ∙ may; squares = t.squares; marked = λ m. t.marked ∙ m }

-- what the thinner figure keeps of the other, if he has a square
abbrev Keeps : (Figure → Bool) → Type 0
Keeps p = (f g : Figure) → IsThinner f g → (q : ℕ) → q < 64 → is_in f.squares q ≡ true → p g ≡ true → p f ≡ true

any-kept : (p : Figure → Bool) → Keeps p → (S T : Sketch) → AreThinner S T → AreThere S → list_any p T ≡ true → list_any p S ≡ true
any-kept p keeps [] [] thin on h = h
any-kept p keeps [] (g ∷ T) thin on h = absurd thin
any-kept p keeps (f ∷ S) [] thin on h = absurd thin
any-kept p keeps (f ∷ S) (g ∷ T) thin on h = elim (or_cases (p g) (list_any p T) h) [
  | inl here ↦ or_left (p f) _ (keeps f g thin.0 on.0.0 on.0.1 on.0.2 here)
  | inr later ↦ or_right (p f) _ (any-kept p keeps S T thin.1 on.1 later)
]

two-kept : (p : Figure → Bool) → Keeps p → (S T : Sketch) → AreThinner S T → AreThere S → do_two p T ≡ true → do_two p S ≡ true
two-kept p keeps [] [] thin on h = h
two-kept p keeps [] (g ∷ T) thin on h = absurd thin
two-kept p keeps (f ∷ S) [] thin on h = absurd thin
two-kept p keeps (f ∷ S) (g ∷ T) thin on h = elim (or_cases (p g && list_any p T) (do_two p T) h) [
  | inl here ↦
      let both = and_parts (p g) (list_any p T) here in
      or_left (p f && list_any p S) _ (and_from (p f) (list_any p S) (keeps f g thin.0 on.0.0 on.0.1 on.0.2 both.0) (any-kept p keeps S T thin.1 on.1 both.1))
  | inr later ↦ or_right (p f && list_any p S) _ (two-kept p keeps S T thin.1 on.1 later)
]

fixed-kept : (s : ℕ) → Keeps (is_fixed_on s)
fixed-kept s f g thin q low member fixed = fixed-narrow f g (wider f g thin) q s low member fixed

nowhere-kept : Keeps is_nowhere
nowhere-kept f g thin q low member none = absurd (both_ways (is_in g.squares q) (not-true (is_in g.squares q) (at_board (λ s. not (is_in g.squares s)) q none low)) (thin.squares q member))

module _ (S T : Sketch) (thin : AreThinner S T) (sound : is_clash S ≡ false) where
  on : AreThere S
  on = there-from S (sound-somewhere S sound)

  clash-before : is_clash T ≡ false
  unfolding is_clash
  clash-before = false_from_ne_true (is_clash T) (λ h. both_ways _ sound (elim (or_cases (list_any is_nowhere T) (list_any (λ s. do_two (is_fixed_on s) T) (range_with_len 0 64)) h) [
    | inl none ↦ or_left (list_any is_nowhere S) _ (any-kept is_nowhere nowhere-kept S T thin on none)
    | inr two ↦
        let it = any-told (λ s. do_two (is_fixed_on s) T) 0 64 two in
        or_right (list_any is_nowhere S) _ (any-found (λ s. do_two (is_fixed_on s) S) 0 64 it.0 (omega arith) it.1 (two-kept (is_fixed_on it.0) (fixed-kept it.0) S T thin on it.2))
  ]))

  king-kept : (c : Colour) (q : ℕ) → Keeps (is_king_on c q)
  king-kept c q f g thin' s low member king =
      let parts = and_parts (same_colour c g.colour && is_fixed_on q g) (list_all (same_kind King) g.kinds) king in
      let two = and_parts (same_colour c g.colour) (is_fixed_on q g) parts.0 in
      and_from _ _ (and_from _ _ (ap (same_colour c) thin'.colour ∙ two.0) (fixed-kept q f g thin' s low member two.1)) (ap (list_all (same_kind King)) thin'.kinds ∙ parts.1)

  kings-before : (c : Colour) (q : ℕ) → is_in (kings_of T c) q ≡ true → is_in (kings_of S c) q ≡ true
  unfolding kings_of
  kings-before c q member =
      let it = in-that (λ q. list_any (is_king_on c q) T) q member in
      is_in-that (λ q. list_any (is_king_on c q) S) q it.0 ∙ any-kept (is_king_on c q) (king-kept c q) S T thin on it.1

  -- a figure of this colour is fixed and touches s
  abbrev reaches : Colour → ℕ → Figure → Bool
  reaches c s f = same_colour c f.colour && list_any (touches_from f s) (range_with_len 0 64)

  touch-kept : (c : Colour) (s : ℕ) → Keeps (reaches c s)
  touch-kept c s f g thin' q low member h =
      let parts = and_parts (same_colour c g.colour) (list_any (touches_from g s) (range_with_len 0 64)) h in
      let from = any-told (touches_from g s) 0 64 parts.1 in
      let hits = and_parts (is_fixed_on from.0 g) (list_all (λ k. touches g.colour k from.0 s) g.kinds) from.2 in
      and_from _ _ (ap (same_colour c) thin'.colour ∙ parts.0)
      (any-found (touches_from f s) 0 64 from.0 (omega arith) from.1
      (and_from _ _ (fixed-kept from.0 f g thin' q low member hits.0)
      (ap (λ (d : Colour). list_all (λ k. touches d k from.0 s) f.kinds) thin'.colour ∙ ap (list_all (λ k. touches g.colour k from.0 s)) thin'.kinds ∙ hits.1)))

  touched-before : (c : Colour) (s : ℕ) → is_in (touched_squares T c) s ≡ true → is_in (touched_squares S c) s ≡ true
  unfolding touched_squares
  touched-before c s member =
      let it = in-that (λ t. list_any (reaches c t) T) s member in
      is_in-that (λ t. list_any (reaches c t) S) s it.0 ∙ any-kept (reaches c s) (touch-kept c s) S T thin on it.1

  check-before : (c : Colour) → gives_check T c ≡ true → gives_check S c ≡ true
  unfolding gives_check
  check-before c h =
      let it = any-told (λ q. is_in (kings_of T (opponent c)) q && is_in (touched_squares T c) q) 0 64 h in
      let parts = and_parts (is_in (kings_of T (opponent c)) it.0) (is_in (touched_squares T c) it.0) it.2 in
      any-found (λ q. is_in (kings_of S (opponent c)) q && is_in (touched_squares S c) q) 0 64 it.0 (omega arith) it.1 (and_from _ _ (kings-before (opponent c) it.0 parts.0) (touched-before c it.0 parts.1))

pub sound-before : (T : Sketch) (f : Figure) → is_sound T f ≡ false → is_sound (trimmed_out (recounted T)) f ≡ false
sound-before T f shut = false_from_ne_true (is_sound (trimmed_out (recounted T)) f) (λ h.
    let S : Sketch = trimmed_out (recounted T) in
    let parts = and_parts (not (is_clash S)) (not (gives_check S f.colour)) h in
    let sound : is_clash S ≡ false = not-true (is_clash S) parts.0 in
    let calm : gives_check S f.colour ≡ false = not-true (gives_check S f.colour) parts.1 in
    let none : is_clash T ≡ false = clash-before S T (left-thinner T) sound in
    let still : gives_check T f.colour ≡ false = false_from_ne_true (gives_check T f.colour) (λ check. both_ways (gives_check S f.colour) calm (check-before S T (left-thinner T) sound f.colour check)) in
    both_ways (is_sound T f) shut (and_from (not (is_clash T)) (not (gives_check T f.colour)) (not_from_false (is_clash T) none) (not_from_false (gives_check T f.colour) still)))
