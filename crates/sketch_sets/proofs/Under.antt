-- A sketch under another with the same figures: in the one above there are fewer walls, and more room.
use Rattle.std.proofs.Common.{◌≡◌, ℕ, zero, suc, ◌<◌, ◌==◌, inl, inr, List, [], ◌∷◌, Bool, true, false, ◌&&◌, ◌||◌, not, refl, ap, sym, ◌∙◌, subst, arith}
use Rattle.std.proofs.lemmas.Bool.{and_from, and_parts, both_ways, eq-eqb, not-true, not_from_false, or_cases, or_left, or_right, false_from_ne_true}
use Rattle.std.proofs.lemmas.Option.{same_Some}
use Rattle.std.specs.Prelude.{Some, nat_lt}
use Rattle.std.specs.List.{list_all, list_any, range_with_len}
use Rattle.general_lemmas.proofs.Ranges.{any-found}
use Rattle.board_base.specs.Board.{file, is_empty, is_in, opponent, rank, same_colour, same_kind}
use Rattle.board_base.specs.Attacks.{kind_attacks, on_the_way, one_ahead}
use Rattle.board_base.specs.Rights.{Rights}
use Rattle.board_base.specs.declared.men.Colour.{Colour}
use Rattle.board_base.specs.declared.men.Kind.{Kind}
use Rattle.board_base.specs.declared.men.Kind.TheVariants.{Pawn, Knight, Bishop, Rook, Queen, King}
use Rattle.figures.specs.Frozen.{is_past_home}
use Rattle.figures.specs.Regions.{wall, walls}
use Rattle.figures.proofs.Filling.{in-that, is_in-that}
use Rattle.figures.proofs.Tested.{all_board, any-told, at_board}
use Rattle.figures.proofs.Walls.{at-walls, goes-between}
use Rattle.figures.specs.Closed.{goes_past, goes_straight, has_room, is_loose, is_quiet_way, is_unguarded, pawn_goes}
use Rattle.figures.specs.Figures.{Figure, Sketch, figure_at, fixed_squares, is_fixed_on}
use Rattle.figures.specs.FileOrder.{is_pawn_on, leaves_room, stands_above, stands_below, stands_beside}
use Rattle.figures.specs.Touching.{guarded_squares, is_king_on, kings_of, touched_squares, touches, touches_from}
use Rattle.figures.proofs.Sketches.{any-figure, each-figure, figure-any, fixed-there}
use Rattle.figures.proofs.Singles.{implied}

pub record IsUnder (f g : Figure) : Type 0 where
  pub colour : f.colour ≡ g.colour
  pub kinds : f.kinds ≡ g.kinds
  pub marked : f.marked ≡ g.marked
  pub place : f.place ≡ g.place
  pub squares : (s : ℕ) → is_in f.squares s ≡ true → is_in g.squares s ≡ true

abbrev pub AreUnder : Sketch → Sketch → Type 0
AreUnder [] [] = Unit {0}
AreUnder [] (g ∷ T) = ⊥
AreUnder (f ∷ S) [] = ⊥
AreUnder (f ∷ S) (g ∷ T) = IsUnder f g × AreUnder S T

-- each figure has a square on the board
abbrev pub AreSomewhere : Sketch → Type 0
AreSomewhere T = (i : ℕ) (f : Figure) → figure_at T i ≡ Some f → (q : ℕ) × (q < 64) × (is_in f.squares q ≡ true)

pub record Above (T : Sketch) (f : Figure) (i : ℕ) : Type 0 where
  pub figure : Figure
  pub found : figure_at T i ≡ Some figure
  pub under : IsUnder f figure

pub record Below (T : Sketch) (g : Figure) (i : ℕ) : Type 0 where
  pub figure : Figure
  pub found : figure_at T i ≡ Some figure
  pub under : IsUnder figure g

pub above-at : (S T : Sketch) (i : ℕ) (f : Figure) → AreUnder S T → figure_at S i ≡ Some f → Above T f i
above-at [] [] i f u e = cc
above-at [] (g ∷ T) i f u e = absurd u
above-at (h ∷ S) [] i f u e = absurd u
above-at (h ∷ S) (g ∷ T) zero f u e = record { figure = g; found = refl; under = subst (λ (x : Figure). IsUnder x g) (same_Some h f e) u.0 }
above-at (h ∷ S) (g ∷ T) (suc i) f u e = let more = above-at S T i f u.1 e in record { figure = more.figure; found = more.found; under = more.under }

pub below-at : (S T : Sketch) (i : ℕ) (g : Figure) → AreUnder S T → figure_at T i ≡ Some g → Below S g i
below-at [] [] i g u e = cc
below-at [] (h ∷ T) i g u e = absurd u
below-at (f ∷ S) [] i g u e = absurd u
below-at (f ∷ S) (h ∷ T) zero g u e = record { figure = f; found = refl; under = subst (λ (x : Figure). IsUnder f x) (same_Some h g e) u.0 }
below-at (f ∷ S) (h ∷ T) (suc i) g u e = let more = below-at S T i g u.1 e in record { figure = more.figure; found = more.found; under = more.under }

pub all-figure : (T : Sketch) (p : Figure → Bool) (i : ℕ) (f : Figure) → list_all p T ≡ true → figure_at T i ≡ Some f → p f ≡ true
all-figure [] p i f all e = cc
all-figure (g ∷ T) p zero f all e = ap p (sym (same_Some g f e)) ∙ (and_parts _ _ all).0
all-figure (g ∷ T) p (suc i) f all e = all-figure T p i f (and_parts _ _ all).1 e

not-more : (x y : Bool) → (y ≡ true → x ≡ true) → not x ≡ true → not y ≡ true
not-more x y more out = not_from_false y (false_from_ne_true y (λ h. both_ways x (not-true x out) (more h)))

given : (x y : Bool) → (not x || y) ≡ true → x ≡ true → y ≡ true
given true y h e = h
given false y h e = absurd (both_ways false refl e)

module _ (f g : Figure) (under : IsUnder f g) where
  -- what is fixed above is fixed below, if it is anywhere
  pub fixed-under : (q s : ℕ) → q < 64 → is_in f.squares q ≡ true → is_fixed_on s g ≡ true → is_fixed_on s f ≡ true
  fixed-under q s low member fixed =
      let there : q ≡ s = fixed-there s q g fixed low (under.squares q member) in
      and_from _ _ (ap (is_in f.squares) (sym there) ∙ member)
      (all_board (λ t. not (is_in f.squares t) || (t == s)) (λ t inside. implied (is_in f.squares t) (t == s) (λ h. eq-eqb t s (fixed-there s t g fixed inside (under.squares t h)))))

  pub pawn-under : (n : ℕ) → is_pawn_on n g ≡ true → is_pawn_on n f ≡ true
  pawn-under n h =
      let parts = and_parts (list_all (same_kind Pawn) g.kinds) (list_all (λ q. not (is_in g.squares q) || (file q == n)) (range_with_len 0 64)) h in
      and_from _ _ (ap (λ (l : List Kind). list_all (same_kind Pawn) l) under.kinds ∙ parts.0)
      (all_board (λ q. not (is_in f.squares q) || (file q == n)) (λ q inside. implied (is_in f.squares q) (file q == n) (λ member. given (is_in g.squares q) (file q == n) (at_board (λ q. not (is_in g.squares q) || (file q == n)) q parts.1 inside) (under.squares q member))))

  any-over : (p : ℕ → Bool) → list_any (λ q. is_in f.squares q && p q) (range_with_len 0 64) ≡ true → list_any (λ q. is_in g.squares q && p q) (range_with_len 0 64) ≡ true
  any-over p h =
      let it = any-told (λ q. is_in f.squares q && p q) 0 64 h in
      let parts = and_parts _ _ it.2 in
      any-found (λ q. is_in g.squares q && p q) 0 64 it.0 (omega arith) it.1 (and_from _ _ (under.squares it.0 parts.0) parts.1)

  beside-over : (e : ℕ) (below above : Bool) → stands_beside e below above f ≡ true → stands_beside e below above g ≡ true
  beside-over e below above h = elim (or_cases (not (is_pawn_on (file e) f)) ((not below || stands_below e f) && (not above || stands_above e f)) h) [
    | inl off ↦ or_left (not (is_pawn_on (file e) g)) ((not below || stands_below e g) && (not above || stands_above e g)) (not-more (is_pawn_on (file e) f) (is_pawn_on (file e) g) (pawn-under (file e)) off)
    | inr on ↦
        let parts = and_parts (not below || stands_below e f) (not above || stands_above e f) on in
        or_right (not (is_pawn_on (file e) g)) ((not below || stands_below e g) && (not above || stands_above e g)) (and_from (not below || stands_below e g) (not above || stands_above e g)
        (elim (or_cases (not below) (stands_below e f) parts.0) [ inl off ↦ or_left (not below) (stands_below e g) off | inr there ↦ or_right (not below) (stands_below e g) (any-over (λ q. nat_lt (rank q) (rank e)) there) ])
        (elim (or_cases (not above) (stands_above e f) parts.1) [ inl off ↦ or_left (not above) (stands_above e g) off | inr there ↦ or_right (not above) (stands_above e g) (any-over (λ q. nat_lt (rank e) (rank q)) there) ]))
  ]

fixed-low : (U : Sketch) (q : ℕ) → is_in (fixed_squares U) q ≡ true → q < 64
unfolding fixed_squares
fixed-low U q member = (in-that (λ t. list_any (is_fixed_on t) U) q member).0

module _ (T U : Sketch) (under : AreUnder T U) (somewhere : AreSomewhere T) where
  pub fixed-more : (s : ℕ) → is_in (fixed_squares U) s ≡ true → is_in (fixed_squares T) s ≡ true
  unfolding fixed_squares
  fixed-more s member =
      let it = in-that (λ t. list_any (is_fixed_on t) U) s member in
      let by = any-figure U (is_fixed_on s) it.1 in
      let low = below-at T U by.number by.figure under by.found in
      let on = somewhere by.number low.figure low.found in
      is_in-that (λ t. list_any (is_fixed_on t) T) s it.0 ∙ figure-any T (is_fixed_on s) by.number low.figure low.found (fixed-under low.figure by.figure low.under on.0 s on.1 on.2 by.passes)

  touched-more : (c : Colour) (s : ℕ) → is_in (touched_squares U c) s ≡ true → is_in (touched_squares T c) s ≡ true
  unfolding touched_squares
  touched-more c s member =
      let p : Sketch → ℕ → Bool = λ S t. list_any (λ f. same_colour c f.colour && list_any (touches_from f t) (range_with_len 0 64)) S in
      let it = in-that (p U) s member in
      let by = any-figure U (λ f. same_colour c f.colour && list_any (touches_from f s) (range_with_len 0 64)) it.1 in
      let low = below-at T U by.number by.figure under by.found in
      let on = somewhere by.number low.figure low.found in
      let parts = and_parts _ _ by.passes in
      let from = any-told (touches_from by.figure s) 0 64 parts.1 in
      let more = and_parts _ _ from.2 in
      is_in-that (p T) s it.0
      ∙ figure-any T (λ f. same_colour c f.colour && list_any (touches_from f s) (range_with_len 0 64)) by.number low.figure low.found
      (and_from _ _ (ap (same_colour c) low.under.colour ∙ parts.0)
      (any-found (touches_from low.figure s) 0 64 from.0 (omega arith) from.1
      (and_from _ _ (fixed-under low.figure by.figure low.under on.0 from.0 on.1 on.2 more.0)
      (ap (λ (x : Colour). list_all (λ k. touches x k from.0 s) low.figure.kinds) low.under.colour ∙ ap (λ (l : List Kind). list_all (λ k. touches by.figure.colour k from.0 s) l) low.under.kinds ∙ more.1))))

  kings-more : (c : Colour) (q : ℕ) → is_in (kings_of U c) q ≡ true → is_in (kings_of T c) q ≡ true
  unfolding kings_of
  kings-more c q member =
      let it = in-that (λ t. list_any (is_king_on c t) U) q member in
      let by = any-figure U (is_king_on c q) it.1 in
      let low = below-at T U by.number by.figure under by.found in
      let on = somewhere by.number low.figure low.found in
      let parts = and_parts (same_colour c by.figure.colour && is_fixed_on q by.figure) (list_all (same_kind King) by.figure.kinds) by.passes in
      let first = and_parts (same_colour c by.figure.colour) (is_fixed_on q by.figure) parts.0 in
      is_in-that (λ t. list_any (is_king_on c t) T) q it.0
      ∙ figure-any T (is_king_on c q) by.number low.figure low.found
      (and_from _ _ (and_from _ _ (ap (same_colour c) low.under.colour ∙ first.0) (fixed-under low.figure by.figure low.under on.0 q on.1 on.2 first.1)) (ap (λ (l : List Kind). list_all (same_kind King) l) low.under.kinds ∙ parts.1))

  guarded-more : (c : Colour) (k : Kind) (e : ℕ) → is_in (guarded_squares U c k) e ≡ true → is_in (guarded_squares T c k) e ≡ true
  unfolding guarded_squares
  guarded-more c k e member =
      let p : Sketch → ℕ → ℕ → Bool = λ S t q. is_in (kings_of S (opponent c)) q && touches c k t q in
      let it = in-that (λ t. list_any (p U t) (range_with_len 0 64)) e member in
      let some = any-told (p U e) 0 64 it.1 in
      let parts = and_parts (is_in (kings_of U (opponent c)) some.0) (touches c k e some.0) some.2 in
      is_in-that (λ t. list_any (p T t) (range_with_len 0 64)) e it.0
      ∙ any-found (p T e) 0 64 some.0 (omega arith) some.1 (and_from _ _ (kings-more (opponent c) some.0 parts.0) parts.1)

  loose-more : (held : Rights) (e s : ℕ) → is_loose held T e s ≡ true → is_loose held U e s ≡ true
  loose-more held e s h =
      let parts = and_parts _ _ h in
      let first = and_parts _ _ parts.0 in
      and_from _ _ (and_from _ _ first.0 (not-more (is_in (fixed_squares T) e) (is_in (fixed_squares U) e) (fixed-more e) first.1)) parts.1

  walls-more : (c : Colour) (k : Kind) (e s : ℕ) → kind_attacks (walls (fixed_squares T)) c k e s ≡ true → kind_attacks (walls (fixed_squares U)) c k e s ≡ true
  walls-more c k e s h = goes-between (walls (fixed_squares T)) (fixed_squares U) c k e s (λ q member. ap is_empty (at-walls (fixed_squares T) q (fixed-low U q member) ∙ ap wall (fixed-more q member))) h

  unguarded-more : (c : Colour) (k : Kind) (e : ℕ) → is_unguarded T c k e ≡ true → is_unguarded U c k e ≡ true
  unguarded-more c k e h = not-more (is_in (guarded_squares T c k) e) (is_in (guarded_squares U c k) e) (guarded-more c k e) h

  goes-more : (c : Colour) (e s : ℕ) → pawn_goes T c e s ≡ true → pawn_goes U c e s ≡ true
  goes-more c e s h =
      let over : Sketch → Bool = λ S. not (is_in (fixed_squares S) (on_the_way e s 1)) in
      let parts = and_parts (goes_straight c e s) (one_ahead c e s || over T) h in
      and_from (goes_straight c e s) (one_ahead c e s || over U) parts.0 (elim (or_cases (one_ahead c e s) (over T) parts.1) [
        | inl one ↦ or_left (one_ahead c e s) (over U) one
        | inr free ↦ or_right (one_ahead c e s) (over U) (not-more (is_in (fixed_squares T) (on_the_way e s 1)) (is_in (fixed_squares U) (on_the_way e s 1)) (fixed-more (on_the_way e s 1)) free)
      ])

  past-more : (c : Colour) (k : Kind) (e s : ℕ) → goes_past T c k e s ≡ true → goes_past U c k e s ≡ true
  past-more c Pawn e s h = let parts = and_parts (is_past_home c s) (pawn_goes T c e s) h in and_from (is_past_home c s) (pawn_goes U c e s) parts.0 (goes-more c e s parts.1)
  past-more c King e s h =
      let parts = and_parts (kind_attacks (walls (fixed_squares T)) c King e s) (not (is_in (touched_squares T (opponent c)) s)) h in
      and_from _ _ (walls-more c King e s parts.0) (not-more (is_in (touched_squares T (opponent c)) s) (is_in (touched_squares U (opponent c)) s) (touched-more (opponent c) s) parts.1)
  past-more c Knight e s h = walls-more c Knight e s h
  past-more c Bishop e s h = walls-more c Bishop e s h
  past-more c Rook e s h = walls-more c Rook e s h
  past-more c Queen e s h = walls-more c Queen e s h

  pub quiet-more : (held : Rights) (c : Colour) (k : Kind) (e s : ℕ) → is_quiet_way held T c k e s ≡ true → is_quiet_way held U c k e s ≡ true
  quiet-more held c k e s h =
      let parts = and_parts (is_loose held T e s && goes_past T c k e s) (is_unguarded T c k e) h in
      let first = and_parts (is_loose held T e s) (goes_past T c k e s) parts.0 in
      and_from (is_loose held U e s && goes_past U c k e s) (is_unguarded U c k e) (and_from (is_loose held U e s) (goes_past U c k e s) (loose-more held e s first.0) (past-more c k e s first.1)) (unguarded-more c k e parts.1)

  pub room-more : (exact : List Bool) (f g : Figure) (k : Kind) (e : ℕ) → f.place ≡ g.place → has_room exact T f k e ≡ true → has_room exact U g k e ≡ true
  room-more exact f g k e same h = elim (or_cases _ _ h) [
    | inl other ↦ or_left _ _ other
    | inr room ↦
        let parts = and_parts _ _ room in
        or_right _ _ (and_from _ _ parts.0 (each-figure U (leaves_room g e) (λ i h found.
        let low = below-at T U i h under found in
        let here : leaves_room f e low.figure ≡ true = all-figure T (leaves_room f e) i low.figure parts.1 low.found in
        let moved : stands_beside e (nat_lt h.place g.place) (nat_lt g.place h.place) low.figure ≡ true =
        ap (λ (n : ℕ). stands_beside e (nat_lt n g.place) (nat_lt g.place n) low.figure) (sym low.under.place)
        ∙ ap (λ (n : ℕ). stands_beside e (nat_lt low.figure.place n) (nat_lt n low.figure.place) low.figure) (sym same) ∙ here in
        beside-over low.figure h low.under e (nat_lt h.place g.place) (nat_lt g.place h.place) moved)))
  ]
