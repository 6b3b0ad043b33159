-- A fixed figure attacks the squares that it touches, on each board on which its man stands.
use Rattle.std.proofs.Common.{◌≡◌, ℕ, ◌<◌, Bool, true, false, ◌&&◌, ◌||◌, inl, inr, refl, ap, sym, ◌∙◌, subst, arith}
use Rattle.std.proofs.lemmas.Bool.{and_parts, and_from, both_ways, eqb-true, or_cases}
use Rattle.std.specs.Prelude.{Option, Some, None}
use Rattle.std.specs.List.{list_all, list_any, range_with_len}
use Rattle.general_lemmas.proofs.Ranges.{any-found, any-one}
use Rattle.board_base.specs.Board.{Places, at, is_in, is_of, is_the, no_men, opponent, same_colour, same_kind}
use Rattle.board_base.specs.Attacks.{attacks, attacks_from, is_open, kind_attacks}
use Rattle.board_base.specs.Legal.{in_check}
use Rattle.board_base.specs.declared.men.Colour.{Colour}
use Rattle.board_base.specs.declared.men.Kind.{Kind}
use Rattle.board_base.specs.declared.men.Kind.TheVariants.{Pawn, Knight, Bishop, Rook, Queen, King}
use Rattle.board_base.specs.declared.men.Man.{Man}
use Rattle.board_base.proofs.KindsOfMen.{colour_is, same_colour-self}
use Rattle.board_base.proofs.Ways.{near-open}
use Rattle.cage_rules.specs.Frozen.{is_next}
use Rattle.cage_rules.proofs.Filling.{in-that}
use Rattle.past_sketches.specs.Figures.{Figure, Sketch, figure_at, is_fixed_on, may_be}
use Rattle.past_sketches.specs.Touching.{guarded_squares, is_king_on, kings_of, touched_squares, touches, touches_from}
use Rattle.past_sketches.proofs.Sketches.{AnyFigure, any-figure, each-kind}

-- no square lies between, whoever stands on the board
pub near-attack : (board : Places) (c : Colour) (k : Kind) (q s : ℕ) → touches c k q s ≡ true → kind_attacks board c k q s ≡ true
unfolding touches kind_attacks
near-attack board c Pawn q s h = (and_parts _ _ h).0
near-attack board c Knight q s h = (and_parts _ _ h).0
near-attack board c King q s h = (and_parts _ _ h).0
near-attack board c Bishop q s h = let parts = and_parts _ (is_next q s) h in and_from _ _ (and_parts _ (is_open no_men q s) parts.0).0 (near-open board q s (eqb-true _ 1 parts.1))
near-attack board c Rook q s h = let parts = and_parts _ (is_next q s) h in and_from _ _ (and_parts _ (is_open no_men q s) parts.0).0 (near-open board q s (eqb-true _ 1 parts.1))
near-attack board c Queen q s h = let parts = and_parts _ (is_next q s) h in and_from _ _ (and_parts _ (is_open no_men q s) parts.0).0 (near-open board q s (eqb-true _ 1 parts.1))

who-hits : (board : Places) (c : Colour) (place : Option Man) (man : Man) (q s : ℕ) → place ≡ Some man → (same_colour c man.colour && kind_attacks board man.colour man.kind q s) ≡ true → (is_of c place && elim place as (λ _. Bool) [ None ↦ false | Some m ↦ kind_attacks board m.colour m.kind q s ]) ≡ true
who-hits board c place man q s e h = subst (λ (p : Option Man). (is_of c p && elim p as (λ _. Bool) [ None ↦ false | Some m ↦ kind_attacks board m.colour m.kind q s ]) ≡ true) (sym e) h

-- who stands on the board and attacks
pub who-attacks : (board : Places) (c : Colour) (man : Man) (q s : ℕ) → q < 64 → at board q ≡ Some man → c ≡ man.colour → kind_attacks board man.colour man.kind q s ≡ true → attacks board s c ≡ true
unfolding attacks attacks_from
who-attacks board c man q s inside there own h =
    let his : same_colour c man.colour ≡ true = ap (λ (d : Colour). same_colour d man.colour) own ∙ same_colour-self man.colour in
    any-found (λ from. is_of c (at board from) && attacks_from board from s) 0 64 q (omega arith) (omega arith)
    (who-hits board c (at board q) man q s there (and_from _ _ his h))

pub king-in-check : (board : Places) (c : Colour) (s : ℕ) → s < 64 → is_the c King (at board s) ≡ true → attacks board s (opponent c) ≡ true → in_check board c ≡ true
unfolding in_check
king-in-check board c s inside king hit = any-found (λ t. is_the c King (at board t) && attacks board t (opponent c)) 0 64 s (omega arith) (omega arith) (and_from _ _ king hit)

-- the fixed figures of a colour have their men on the board
pub record ManThere (board : Places) (f : Figure) (q : ℕ) : Type 0 where
  pub man : Man
  pub there : at board q ≡ Some man
  pub colour : man.colour ≡ f.colour
  pub kind : may_be f man.kind ≡ true

abbrev pub AreThere : Places → Sketch → Colour → Type 0
AreThere board T c = (i : ℕ) (f : Figure) (q : ℕ) → figure_at T i ≡ Some f → is_fixed_on q f ≡ true → c ≡ f.colour → ManThere board f q

-- the man of a fixed figure who touches a square
pub record TouchedBy (board : Places) (c : Colour) (s : ℕ) : Type 0 where
  pub square : ℕ
  pub within : square < 64
  pub man : Man
  pub there : at board square ≡ Some man
  pub own : c ≡ man.colour
  pub near : touches c man.kind square s ≡ true

touched-by : (board : Places) (T : Sketch) (c : Colour) (s : ℕ) → AreThere board T c → AnyFigure T (λ f. same_colour c f.colour && list_any (touches_from f s) (range_with_len 0 64)) → TouchedBy board c s
touched-by board T c s there by =
    let f : Figure = by.figure in
    let parts = and_parts (same_colour c f.colour) (list_any (touches_from f s) (range_with_len 0 64)) by.passes in
    let on = any-one (touches_from f s) 0 64 parts.1 in
    let hits = and_parts (is_fixed_on on.number f) (list_all (λ k. touches f.colour k on.number s) f.kinds) on.passes in
    let own : c ≡ f.colour = colour_is c f.colour parts.0 in
    let who = there by.number f on.number by.found hits.0 own in
    let near : touches f.colour who.man.kind on.number s ≡ true = each-kind f.kinds (λ k. touches f.colour k on.number s) who.man.kind hits.1 who.kind in
    record { square = on.number; within = on.below; man = who.man; there = who.there; own = own ∙ sym who.colour; near = subst (λ (d : Colour). touches d who.man.kind on.number s ≡ true) (sym own) near }

pub touched-who : (board : Places) (T : Sketch) (c : Colour) (s : ℕ) → AreThere board T c → is_in (touched_squares T c) s ≡ true → TouchedBy board c s
unfolding touched_squares
touched-who board T c s there member =
    touched-by board T c s there (any-figure T _ (in-that (λ u. list_any (λ f. same_colour c f.colour && list_any (touches_from f u) (range_with_len 0 64)) T) s member).1)

-- so he attacks it
pub near-hit : (board : Places) (c : Colour) (man : Man) (e s : ℕ) → e < 64 → at board e ≡ Some man → c ≡ man.colour → touches c man.kind e s ≡ true → attacks board s c ≡ true
near-hit board c man e s inside there own near = who-attacks board c man e s inside there own (near-attack board man.colour man.kind e s (subst (λ (d : Colour). touches d man.kind e s ≡ true) own near))

pub touched-attacked : (board : Places) (T : Sketch) (c : Colour) (s : ℕ) → AreThere board T c → is_in (touched_squares T c) s ≡ true → attacks board s c ≡ true
touched-attacked board T c s there member = let by = touched-who board T c s there member in near-hit board c by.man by.square s by.within by.there by.own by.near

-- what a man touches who is no knight is next to him
pub touched-next : (c : Colour) (k : Kind) (e q : ℕ) → same_kind Knight k ≡ false → touches c k e q ≡ true → is_next e q ≡ true
unfolding touches
touched-next c k e q other h = elim (or_cases _ _ (and_parts (kind_attacks no_men c k e q) (same_kind Knight k || is_next e q) h).1) [
  | inl knight ↦ absurd (both_ways _ other knight)
  | inr next ↦ next
]

-- the fixed enemy king, touched from a square
pub record KingBy (board : Places) (c : Colour) (k : Kind) (e : ℕ) : Type 0 where
  pub square : ℕ
  pub within : square < 64
  pub king : is_the (opponent c) King (at board square) ≡ true
  pub near : touches c k e square ≡ true

king-there : (board : Places) (c : Colour) (q : ℕ) (f : Figure) → ManThere board f q → c ≡ f.colour → list_all (same_kind King) f.kinds ≡ true → is_the c King (at board q) ≡ true
king-there board c q f who own kings =
    let king : same_kind King who.man.kind ≡ true = each-kind f.kinds (same_kind King) who.man.kind kings who.kind in
    let his : same_colour c who.man.colour ≡ true = ap (λ (d : Colour). same_colour d who.man.colour) (own ∙ sym who.colour) ∙ same_colour-self who.man.colour in
    ap (is_the c King) who.there ∙ and_from _ _ his king

-- a fixed king stands where he is fixed
pub king-on : (board : Places) (T : Sketch) (c : Colour) (q : ℕ) → AreThere board T c → is_in (kings_of T c) q ≡ true → is_the c King (at board q) ≡ true
unfolding kings_of
king-on board T c q there member =
    let by = any-figure T (is_king_on c q) (in-that (λ s. list_any (is_king_on c s) T) q member).1 in
    let f : Figure = by.figure in
    let parts = and_parts (same_colour c f.colour && is_fixed_on q f) (list_all (same_kind King) f.kinds) by.passes in
    let two = and_parts (same_colour c f.colour) (is_fixed_on q f) parts.0 in
    let own : c ≡ f.colour = colour_is c f.colour two.0 in
    king-there board c q f (there by.number f q by.found two.1 own) own parts.1

pub king-by : (board : Places) (T : Sketch) (c : Colour) (k : Kind) (e : ℕ) → AreThere board T (opponent c) → is_in (guarded_squares T c k) e ≡ true → KingBy board c k e
unfolding guarded_squares
king-by board T c k e there member =
    let on = any-one (λ q. is_in (kings_of T (opponent c)) q && touches c k e q) 0 64 (in-that (λ u. list_any (λ q. is_in (kings_of T (opponent c)) q && touches c k u q) (range_with_len 0 64)) e member).1 in
    let parts = and_parts (is_in (kings_of T (opponent c)) on.number) (touches c k e on.number) on.passes in
    record { square = on.number; within = on.below; king = king-on board T (opponent c) on.number there parts.0; near = parts.1 }

king-kind : (board : Places) (c : Colour) (k : Kind) (q s : ℕ) → same_kind King k ≡ true → is_next q s ≡ true → kind_attacks board c k q s ≡ true
unfolding kind_attacks
king-kind board c King q s king next = next
king-kind board c k q s king next = cc

king-hits : (board : Places) (c : Colour) (place : Option Man) (q s : ℕ) → is_the c King place ≡ true → is_next q s ≡ true → (is_of c place && elim place as (λ _. Bool) [ None ↦ false | Some m ↦ kind_attacks board m.colour m.kind q s ]) ≡ true
king-hits board c None q s king next = absurd (both_ways false refl king)
king-hits board c (Some m) q s king next =
    let parts = and_parts (same_colour c m.colour) (same_kind King m.kind) king in
    and_from _ _ parts.0 (king-kind board m.colour m.kind q s parts.1 next)

-- a king attacks the squares next to it
pub king-attacks : (board : Places) (c : Colour) (q s : ℕ) → q < 64 → is_the c King (at board q) ≡ true → is_next q s ≡ true → attacks board s c ≡ true
unfolding attacks attacks_from
king-attacks board c q s inside king next =
    any-found (λ from. is_of c (at board from) && attacks_from board from s) 0 64 q (omega arith) (omega arith) (king-hits board c (at board q) q s king next)
