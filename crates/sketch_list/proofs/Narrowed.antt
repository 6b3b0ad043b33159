-- A sketch that is narrower than another, in another spelling, trims to a narrower one, unless it clashes, and gives the checks that the
-- other gives.
use Rattle.std.proofs.Common.{◌≡◌, ◌≢◌, ℕ, zero, suc, ◌+◌, ◌<◌, ◌⊎◌, ◌==◌, inl, inr, Bool, true, false, ◌&&◌, ◌||◌, not, List, [], ◌∷◌, refl, ap, sym, ◌∙◌, subst, arith}
use Rattle.std.proofs.lemmas.Bool.{and_from, and_parts, both_ways, cases_Bool, cases_eq, eq-eqb, false_from_ne_true, lt-ltb, ltb-true, not_from_false, or_left, or_right}
use Rattle.std.proofs.lemmas.Option.{same_Some}
use Rattle.std.specs.Prelude.{Some, nat_lt}
use Rattle.std.specs.List.{list_all, list_any, range_with_len}
use Rattle.general_lemmas.proofs.Ranges.{any-found}
use Rattle.board_base.specs.Board.{file, is_in, opponent, rank, same_colour, same_kind}
use Rattle.board_base.specs.declared.men.Colour.{Colour}
use Rattle.board_base.specs.declared.men.Kind.{Kind}
use Rattle.board_base.specs.declared.men.Kind.TheVariants.{Pawn, King}
use Rattle.board_base.proofs.KindsOfMen.{kind_is, same_kind-self}
use Rattle.past_account.proofs.Filling.{in-that, is_in-that}
use Rattle.past_account.proofs.Tested.{all_board, any-told, at_board}
use Rattle.past_account.specs.Clashes.{do_two, is_clash, is_nowhere}
use Rattle.past_account.specs.Figures.{Figure, IsWider, Sketch, each_changed, figure_at, fixed_squares, is_fixed_on, may_be}
use Rattle.past_account.specs.FileOrder.{is_pawn_on, leaves_room, stands_above, stands_below}
use Rattle.past_account.specs.Touching.{gives_check, is_king_on, kings_of, touched_squares, touches, touches_from}
use Rattle.past_account.specs.Trimmed.{is_in_order, is_left_to, trimmed, trimmed_figure, trims}
use Rattle.past_account.proofs.Changed.{changed-at}
use Rattle.past_account.proofs.Order.{pawn-file}
use Rattle.past_account.proofs.Sketches.{any-figure, each-figure, each-kind, figure-any, fixed-by, fixed-there}
use Rattle.sketch_steps.proofs.Closing.{somewhere-from}
use Rattle.sketch_steps.proofs.Under.{AreSomewhere, all-figure}
use Rattle.sketch_list.proofs.Respelled.{IsRespelled}

-- each figure has a kind
abbrev pub HaveKinds : Sketch → Type 0
HaveKinds S = (i : ℕ) (f : Figure) → figure_at S i ≡ Some f → (k : Kind) × (may_be f k ≡ true)

pub changed-there : (h : ℕ → Figure → Figure) (k : ℕ) (T : Sketch) (i : ℕ) (f : Figure) → figure_at T i ≡ Some f → figure_at (each_changed h k T) i ≡ Some (h (k + i) f)
changed-there h k [] i f e = cc
changed-there h k (g ∷ T) zero f e = let z : k ≡ k + zero = omega arith in ap (λ (x : Figure). Some (h k x)) (same_Some g f e) ∙ ap (λ (n : ℕ). Some (h n f)) z
changed-there h k (g ∷ T) (suc i) f e = let z : suc k + i ≡ k + suc i = omega arith in changed-there h (suc k) T i f e ∙ ap (λ (n : ℕ). Some (h n f)) z

trimmed-there : (S : Sketch) (i : ℕ) (f : Figure) → figure_at S i ≡ Some f → figure_at (trimmed S) i ≡ Some (trimmed_figure S f)
unfolding trimmed
trimmed-there S i f e = changed-there (λ i f. trimmed_figure S f) 0 S i f e

trimmed-was : (S : Sketch) (i : ℕ) (f' : Figure) → figure_at (trimmed S) i ≡ Some f' → (f : Figure) × (figure_at S i ≡ Some f) × (trimmed_figure S f ≡ f')
unfolding trimmed
trimmed-was S i f' e = changed-at (λ i f. trimmed_figure S f) 0 S i f' e

all-of : (kinds : List Kind) (p : Kind → Bool) → ((k : Kind) → list_any (λ j. same_kind j k) kinds ≡ true → p k ≡ true) → list_all p kinds ≡ true
all-of [] p each = refl
all-of (j ∷ kinds) p each = and_from _ _ (each j (or_left _ _ (same_kind-self j))) (all-of kinds p (λ k h. each k (or_right (same_kind j k) _ h)))

implied : (x y : Bool) → (x ≡ true → y ≡ true) → (not x || y) ≡ true
implied true y h = h refl
implied false y h = refl

given : (x y : Bool) → (not x || y) ≡ true → x ≡ true → y ≡ true
given true y h e = h
given false y h e = absurd (both_ways false refl e)

-- two figures that pass a test
two-pass : (p : Figure → Bool) (S : Sketch) (i j : ℕ) (f g : Figure) → figure_at S i ≡ Some f → figure_at S j ≡ Some g → i ≢ j → p f ≡ true → p g ≡ true → do_two p S ≡ true
two-pass p [] i j f g a b other pf pg = cc
two-pass p (h ∷ S) zero zero f g a b other pf pg = absurd (other refl)
two-pass p (h ∷ S) zero (suc j) f g a b other pf pg = or_left _ _ (and_from _ _ (ap p (same_Some h f a) ∙ pf) (figure-any S p j g b pg))
two-pass p (h ∷ S) (suc i) zero f g a b other pf pg = or_left _ _ (and_from _ _ (ap p (same_Some h g b) ∙ pg) (figure-any S p i f a pf))
two-pass p (h ∷ S) (suc i) (suc j) f g a b other pf pg = or_right (p h && list_any p S) _ (two-pass p S i j f g a b (λ same. other (ap suc same)) pf pg)

clash-two : (S : Sketch) (s i j : ℕ) (f g : Figure) → s < 64 → figure_at S i ≡ Some f → figure_at S j ≡ Some g → i ≢ j → is_fixed_on s f ≡ true → is_fixed_on s g ≡ true → is_clash S ≡ true
unfolding is_clash
clash-two S s i j f g inside a b other pf pg = or_right (list_any is_nowhere S) _ (any-found (λ s. do_two (is_fixed_on s) S) 0 64 s (omega arith) (omega (arith, inside)) (two-pass (is_fixed_on s) S i j f g a b other pf pg))

pub sound-somewhere : (S : Sketch) → is_clash S ≡ false → AreSomewhere S
unfolding is_clash
sound-somewhere S sound = somewhere-from S (false_from_ne_true (list_any is_nowhere S) (λ h. both_ways _ sound (or_left _ _ h)))

module _ (f g : Figure) (wide : IsWider f g) where
  -- who is fixed in the wider one is fixed in the narrower, if he is anywhere
  pub fixed-narrow : (q s : ℕ) → q < 64 → is_in f.squares q ≡ true → is_fixed_on s g ≡ true → is_fixed_on s f ≡ true
  fixed-narrow q s low member fixed =
      let there : q ≡ s = fixed-there s q g fixed low (wide.squares q member) in
      and_from _ _ (ap (is_in f.squares) (sym there) ∙ member)
      (all_board (λ t. not (is_in f.squares t) || (t == s)) (λ t inside. implied (is_in f.squares t) (t == s) (λ h. eq-eqb t s (fixed-there s t g fixed inside (wide.squares t h)))))

  pawns-narrow : list_all (same_kind Pawn) g.kinds ≡ true → list_all (same_kind Pawn) f.kinds ≡ true
  pawns-narrow pawns = all-of f.kinds (same_kind Pawn) (λ k h. each-kind g.kinds (same_kind Pawn) k pawns (wide.kinds k h))

  pawn-narrow : (n : ℕ) → is_pawn_on n g ≡ true → is_pawn_on n f ≡ true
  pawn-narrow n h =
      let parts = and_parts (list_all (same_kind Pawn) g.kinds) (list_all (λ q. not (is_in g.squares q) || (file q == n)) (range_with_len 0 64)) h in
      and_from _ _ (pawns-narrow parts.0)
      (all_board (λ q. not (is_in f.squares q) || (file q == n)) (λ q inside. implied (is_in f.squares q) (file q == n) (λ member. given (is_in g.squares q) (file q == n) (at_board (λ q. not (is_in g.squares q) || (file q == n)) q parts.1 inside) (wide.squares q member))))

  any-wide : (p : ℕ → Bool) → list_any (λ q. is_in f.squares q && p q) (range_with_len 0 64) ≡ true → list_any (λ q. is_in g.squares q && p q) (range_with_len 0 64) ≡ true
  any-wide p h =
      let it = any-told (λ q. is_in f.squares q && p q) 0 64 h in
      let parts = and_parts _ _ it.2 in
      any-found (λ q. is_in g.squares q && p q) 0 64 it.0 (omega arith) it.1 (and_from _ _ (wide.squares it.0 parts.0) parts.1)

-- who is a pawn and has a kind may be a pawn
pub pawn-may : (f : Figure) (k : Kind) → may_be f k ≡ true → list_all (same_kind Pawn) f.kinds ≡ true → may_be f Pawn ≡ true
pawn-may f k may pawns = subst (λ (j : Kind). may_be f j ≡ true) (sym (kind_is Pawn k (each-kind f.kinds (same_kind Pawn) k pawns may))) may

-- a pawn of the file leaves another room in the wider one
beside-wide : (f g h h' : Figure) (s : ℕ) → IsWider h h' → (is_pawn_on (file s) h' ≡ true → (nat_lt h'.place g.place ≡ true → nat_lt h.place f.place ≡ true) × (nat_lt g.place h'.place ≡ true → nat_lt f.place h.place ≡ true)) → leaves_room f s h ≡ true → leaves_room g s h' ≡ true
beside-wide f g h h' s wide order room = elim (cases_Bool (is_pawn_on (file s) h')) [
  | inr off ↦ or_left (not (is_pawn_on (file s) h')) _ (not_from_false _ off)
  | inl on ↦
      let both = given (is_pawn_on (file s) h) ((not (nat_lt h.place f.place) || stands_below s h) && (not (nat_lt f.place h.place) || stands_above s h)) room (pawn-narrow h h' wide (file s) on) in
      let parts = and_parts (not (nat_lt h.place f.place) || stands_below s h) (not (nat_lt f.place h.place) || stands_above s h) both in
      let o = order on in
      or_right (not (is_pawn_on (file s) h')) _ (and_from _ _
      (implied (nat_lt h'.place g.place) (stands_below s h') (λ low. any-wide h h' wide (λ q. nat_lt (rank q) (rank s)) (given (nat_lt h.place f.place) (stands_below s h) parts.0 (o.0 low))))
      (implied (nat_lt g.place h'.place) (stands_above s h') (λ high. any-wide h h' wide (λ q. nat_lt (rank s) (rank q)) (given (nat_lt f.place h.place) (stands_above s h) parts.1 (o.1 high)))))
]

module _ (S T : Sketch) (r : IsRespelled S T) (some : HaveKinds S) (sound : is_clash S ≡ false) where
  on : AreSomewhere S
  on = sound-somewhere S sound

  fixed-here : (s : ℕ) → s < 64 → (h : Figure) (i : ℕ) → figure_at S i ≡ Some h → is_fixed_on s h ≡ true → is_in (fixed_squares S) s ≡ true
  unfolding fixed_squares
  fixed-here s inside h i found fixed = is_in-that (λ s. list_any (is_fixed_on s) S) s inside ∙ figure-any S (is_fixed_on s) i h found fixed

  -- nobody else is fixed on a square that is left to him
  left-wide : (j s : ℕ) (f g : Figure) → s < 64 → figure_at S (r.from j) ≡ Some f → figure_at T j ≡ Some g → is_left_to S f s ≡ true → is_left_to T g s ≡ true
  left-wide j s f g inside a b left = elim (cases_Bool (is_in (fixed_squares T) s)) [
    | inr free ↦ or_left _ _ (not_from_false _ free)
    | inl member ↦
        let by = fixed-by T s member in
        let w = r.wider by.number by.figure by.found in
        let q = on (r.from by.number) w.0 w.1 in
        let fixed : is_fixed_on s w.0 ≡ true = fixed-narrow w.0 by.figure w.2 q.0 s q.1 q.2 by.passes in
        elim (cases_eq by.number j) [
          | inl same ↦
              let his : by.figure ≡ g = same_Some _ _ (sym by.found ∙ ap (figure_at T) same ∙ b) in
              or_right (not (is_in (fixed_squares T) s)) _ (subst (λ (x : Figure). is_fixed_on s x ≡ true) his by.passes)
          | inr other ↦
              let there : is_in (fixed_squares S) s ≡ true = fixed-here s inside w.0 (r.from by.number) w.1 fixed in
              let mine : is_fixed_on s f ≡ true = given (is_in (fixed_squares S) s) (is_fixed_on s f) left there in
              absurd (both_ways _ sound (clash-two S s (r.from by.number) (r.from j) w.0 f inside w.1 a (λ same. other (r.apart by.number j by.figure g by.found b same)) fixed mine))
        ]
  ]

  order-wide : (j s : ℕ) (f g : Figure) → figure_at S (r.from j) ≡ Some f → figure_at T j ≡ Some g → IsWider f g → is_in f.squares s ≡ true → is_in_order S f s ≡ true → is_in_order T g s ≡ true
  order-wide j s f g a b wide member ordered = implied (list_all (same_kind Pawn) g.kinds) (list_all (leaves_room g s) T) (λ pawns.
      let mine = pawns-narrow f g wide pawns in
      let kind = some (r.from j) f a in
      let may : may_be f Pawn ≡ true = pawn-may f kind.0 kind.1 mine in
      let all = given (list_all (same_kind Pawn) f.kinds) (list_all (leaves_room f s) S) ordered mine in
      each-figure T (leaves_room g s) (λ n h' found.
      let w = r.wider n h' found in
      let h : Figure = w.0 in
      let room : leaves_room f s h ≡ true = all-figure S (leaves_room f s) (r.from n) h all w.1 in
      beside-wide f g h h' s w.2 (λ pawn.
      let q = on (r.from n) h w.1 in
      let filed = pawn-file h (file s) q.0 q.1 q.2 (pawn-narrow h h' w.2 (file s) pawn) in
      let other = some (r.from n) h w.1 in
      let can : may_be h Pawn ≡ true = pawn-may h other.0 other.1 filed.1 in (
        λ low. lt-ltb h.place f.place ((r.order n j q.0 s h f h' g w.1 a found b can may q.2 member filed.0).1 (ltb-true h'.place g.place low)),
        λ high. lt-ltb f.place h.place ((r.order j n s q.0 f h g h' a w.1 b found may can member q.2 (sym filed.0)).1 (ltb-true g.place h'.place high)),
      )) room))

  kept-wide : (j : ℕ) (f g : Figure) → figure_at S (r.from j) ≡ Some f → figure_at T j ≡ Some g → IsWider f g → (s : ℕ) → is_in (trimmed_figure S f).squares s ≡ true → is_in (trimmed_figure T g).squares s ≡ true
  kept-wide j f g a b wide s member =
      let it = in-that (λ s. is_in f.squares s && is_left_to S f s && is_in_order S f s) s member in
      let parts = and_parts (is_in f.squares s && is_left_to S f s) (is_in_order S f s) it.1 in
      let two = and_parts (is_in f.squares s) (is_left_to S f s) parts.0 in
      is_in-that (λ s. is_in g.squares s && is_left_to T g s && is_in_order T g s) s it.0 ∙ and_from _ _ (and_from _ _ (wide.squares s two.0) (left-wide j s f g it.0 a b two.1)) (order-wide j s f g a b wide two.0 parts.1)

  his-own : (f : Figure) (s : ℕ) → is_in (trimmed_figure S f).squares s ≡ true → is_in f.squares s ≡ true
  his-own f s member = (and_parts (is_in f.squares s) _ (and_parts (is_in f.squares s && is_left_to S f s) (is_in_order S f s) (in-that (λ s. is_in f.squares s && is_left_to S f s && is_in_order S f s) s member).1).0).0

  pub respelled-trimmed : IsRespelled (trimmed S) (trimmed T)
  respelled-trimmed = record {
    from = r.from;
    wider = λ j g' e.
        let v = trimmed-was T j g' e in
        let w = r.wider j v.0 v.1 in
        (trimmed_figure S w.0, trimmed-there S (r.from j) w.0 w.1, subst (IsWider (trimmed_figure S w.0)) v.2 (record { colour = w.2.colour; kinds = w.2.kinds; squares = kept-wide j w.0 v.0 w.1 v.1 w.2; marked = w.2.marked }));
    apart = λ i j f' g' a b same. let u = trimmed-was T i f' a in let v = trimmed-was T j g' b in r.apart i j u.0 v.0 u.1 v.1 same;
    back = λ i f' e.
        let u = trimmed-was S i f' e in
        let b = r.back i u.0 u.1 in
        (b.0, trimmed_figure T b.1, trimmed-there T b.0 b.1 b.2, b.3);
    order = λ i j s t f' g' x' y' a b d e mf mg at_s at_t level.
        let f = trimmed-was S (r.from i) f' a in
        let g = trimmed-was S (r.from j) g' b in
        let x = trimmed-was T i x' d in
        let y = trimmed-was T j y' e in
        let may : may_be f.0 Pawn ≡ true = ap (λ (z : Figure). may_be z Pawn) f.2 ∙ mf in
        let may' : may_be g.0 Pawn ≡ true = ap (λ (z : Figure). may_be z Pawn) g.2 ∙ mg in
        let in_f : is_in f.0.squares s ≡ true = his-own f.0 s (ap (λ (z : Figure). is_in z.squares s) f.2 ∙ at_s) in
        let in_g : is_in g.0.squares t ≡ true = his-own g.0 t (ap (λ (z : Figure). is_in z.squares t) g.2 ∙ at_t) in
        let both = r.order i j s t f.0 g.0 x.0 y.0 f.1 g.1 x.1 y.1 may may' in_f in_g level in
        let pf : f.0.place ≡ f'.place = ap (λ (z : Figure). z.place) f.2 in
        let pg : g.0.place ≡ g'.place = ap (λ (z : Figure). z.place) g.2 in
        let px : x.0.place ≡ x'.place = ap (λ (z : Figure). z.place) x.2 in
        let py : y.0.place ≡ y'.place = ap (λ (z : Figure). z.place) y.2 in
        (λ low. let more = both.0 (omega (arith, low, pf, pg)) in omega (arith, more, px, py), λ low. let more = both.1 (omega (arith, low, px, py)) in omega (arith, more, pf, pg));
  }

  -- a check of the wider one
  fixed-too : (p : Figure → Bool) (n q : ℕ) (h : Figure) → figure_at T n ≡ Some h → is_fixed_on q h ≡ true → (f : Figure) × (figure_at S (r.from n) ≡ Some f) × IsWider f h × (is_fixed_on q f ≡ true)
  fixed-too p n q h found fixed =
      let w = r.wider n h found in
      let at_one = on (r.from n) w.0 w.1 in
      (w.0, w.1, w.2, fixed-narrow w.0 h w.2 at_one.0 q at_one.1 at_one.2 fixed)

  king-too : (c : Colour) (q : ℕ) → is_in (kings_of T c) q ≡ true → is_in (kings_of S c) q ≡ true
  unfolding kings_of
  king-too c q member =
      let it = in-that (λ q. list_any (is_king_on c q) T) q member in
      let by = any-figure T (is_king_on c q) it.1 in
      let parts = and_parts (same_colour c by.figure.colour && is_fixed_on q by.figure) (list_all (same_kind King) by.figure.kinds) by.passes in
      let two = and_parts (same_colour c by.figure.colour) (is_fixed_on q by.figure) parts.0 in
      let w = fixed-too (is_king_on c q) by.number q by.figure by.found two.1 in
      let f : Figure = w.0 in
      is_in-that (λ q. list_any (is_king_on c q) S) q it.0 ∙ figure-any S (is_king_on c q) (r.from by.number) f w.1
      (and_from _ _ (and_from _ _ (ap (same_colour c) w.2.colour ∙ two.0) w.3) (all-of f.kinds (same_kind King) (λ k may. each-kind by.figure.kinds (same_kind King) k parts.1 (w.2.kinds k may))))

  touched-too : (c : Colour) (s : ℕ) → is_in (touched_squares T c) s ≡ true → is_in (touched_squares S c) s ≡ true
  unfolding touched_squares
  touched-too c s member =
      let it = in-that (λ s. list_any (λ f. same_colour c f.colour && list_any (touches_from f s) (range_with_len 0 64)) T) s member in
      let by = any-figure T (λ f. same_colour c f.colour && list_any (touches_from f s) (range_with_len 0 64)) it.1 in
      let parts = and_parts (same_colour c by.figure.colour) (list_any (touches_from by.figure s) (range_with_len 0 64)) by.passes in
      let from = any-told (touches_from by.figure s) 0 64 parts.1 in
      let hits = and_parts (is_fixed_on from.0 by.figure) (list_all (λ k. touches by.figure.colour k from.0 s) by.figure.kinds) from.2 in
      let w = fixed-too (λ f. true) by.number from.0 by.figure by.found hits.0 in
      let f : Figure = w.0 in
      let all : list_all (λ k. touches f.colour k from.0 s) f.kinds ≡ true = all-of f.kinds (λ k. touches f.colour k from.0 s) (λ k may.
      ap (λ (d : Colour). touches d k from.0 s) w.2.colour ∙ each-kind by.figure.kinds (λ k. touches by.figure.colour k from.0 s) k hits.1 (w.2.kinds k may)) in
      is_in-that (λ s. list_any (λ f. same_colour c f.colour && list_any (touches_from f s) (range_with_len 0 64)) S) s it.0 ∙ figure-any S (λ f. same_colour c f.colour && list_any (touches_from f s) (range_with_len 0 64)) (r.from by.number) f w.1
      (and_from _ _ (ap (same_colour c) w.2.colour ∙ parts.0) (any-found (touches_from f s) 0 64 from.0 (omega arith) from.1 (and_from _ _ w.3 all)))

  pub check-too : (c : Colour) → gives_check T c ≡ true → gives_check S c ≡ true
  unfolding gives_check
  check-too c h =
      let it = any-told (λ q. is_in (kings_of T (opponent c)) q && is_in (touched_squares T c) q) 0 64 h in
      let parts = and_parts (is_in (kings_of T (opponent c)) it.0) (is_in (touched_squares T c) it.0) it.2 in
      any-found (λ q. is_in (kings_of S (opponent c)) q && is_in (touched_squares S c) q) 0 64 it.0 (omega arith) it.1 (and_from _ _ (king-too (opponent c) it.0 parts.0) (touched-too c it.0 parts.1))

trimmed-kinds : (S : Sketch) → HaveKinds S → HaveKinds (trimmed S)
trimmed-kinds S some i f' e =
    let was = trimmed-was S i f' e in
    let kind = some i was.0 was.1 in
    (kind.0, ap (λ (z : Figure). may_be z kind.0) (sym was.2) ∙ kind.1)

-- trimmed as often, it clashes on the way, or is still narrower
pub trims-narrow : (n : ℕ) (S T : Sketch) → IsRespelled S T → HaveKinds S → ((m : ℕ) × (is_clash (trims m S) ≡ true)) ⊎ (IsRespelled (trims n S) (trims n T) × HaveKinds (trims n S))
trims-narrow zero S T r some = inr (r, some)
trims-narrow (suc n) S T r some = elim (cases_Bool (is_clash S)) [
  | inl clash ↦ inl (0, clash)
  | inr sound ↦ elim (trims-narrow n (trimmed S) (trimmed T) (respelled-trimmed S T r some sound) (trimmed-kinds S some)) [
    | inl it ↦ inl (suc it.0, it.1)
    | inr more ↦ inr more
  ]
]
