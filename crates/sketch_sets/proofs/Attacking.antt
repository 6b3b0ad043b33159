-- From which squares men attack, and pawns move, to those of a set.
use Rattle.std.proofs.Common.{◌≡◌, ℕ, ◌+◌, ◌-◌, ◌*◌, ◌<◌, ◌≤◌, ◌==◌, inl, inr, max, Bool, true, false, ◌&&◌, ◌||◌, not, List, length, refl, ap, sym, ◌∙◌, arith}
use Rattle.std.proofs.lemmas.Bool.{agree_below, agree_below_at, and_from, and_parts, cases_Bool, cases_lt, eq-eqb, eqb-false, eqb-true, le-leb, leb-true, ne_eqb, not-true, not_from_false, not_from_true, or_left, or_right}
use Rattle.std.specs.Prelude.{nat_le}
use Rattle.std.specs.List.{list_all, range_with_len}
use Rattle.general_lemmas.proofs.Truth.{same_truth}
use Rattle.board_base.specs.Board.{at, file, is_empty, is_in, no_men, rank}
use Rattle.board_base.specs.Attacks.{distance, files_apart, is_open, kind_attacks, king_distance, on_one_diagonal, on_one_line, on_the_way, one_ahead, ranks_apart, toward}
use Rattle.board_base.specs.Legal.{pawn_rank}
use Rattle.board_base.specs.Ways.{along}
use Rattle.board_base.specs.declared.lines.Change.TheVariants.{Falls, Stays, Rises}
use Rattle.board_base.specs.declared.lines.Direction.{Direction}
use Rattle.board_base.specs.declared.men.Colour.{Colour}
use Rattle.board_base.specs.declared.men.Colour.TheVariants.{White, Black}
use Rattle.board_base.specs.declared.men.Kind.{Kind}
use Rattle.board_base.specs.declared.men.Kind.TheVariants.{Pawn, Knight, Bishop, Rook, Queen, King}
use Rattle.board_base.proofs.Ways.{distance-high, distance-low, heading, near-open}
use Rattle.figures.specs.Frozen.{is_next, is_past_home}
use Rattle.figures.specs.Regions.{wall, walls}
use Rattle.figures.proofs.Tested.{member-inside}
use Rattle.figures.proofs.Walls.{at-walls, no-wall}
use Rattle.figures.specs.Touching.{touches}
use Rattle.sketch_sets.specs.Files.{straight}
use Rattle.sketch_sets.specs.Quiet.{pawn_past}
use Rattle.sketch_sets.specs.Shifts.{attacks_past, comes, forward, goes_diagonally, goes_straight_on, hops, is_short, lands, stays_on, strikes, turns}
use Rattle.sketch_sets.specs.Tests.{some_that}
use Rattle.sketch_sets.proofs.Rays.{far-apart, next-square}
use Rattle.sketch_sets.proofs.Sets.{all-same}
use Rattle.sketch_sets.proofs.Shifting.{comes-lands, some-and, some-four, some-of, some-or, some-same, under}
use Rattle.figures.proofs.Singles.{either-true}

-- two steps, the second in one of two directions
abbrev pub lands_turned : Direction → Direction → Direction → ℕ → ℕ → Bool
lands_turned d l r e s = stays_on d e && (lands l (along d e 1) s || lands r (along d e 1) s)

pub turns-lands : (d l r : Direction) (to : List Bool) (e : ℕ) → e < 64 → turns d l r to e ≡ some_that to (lands_turned d l r e)
unfolding turns
turns-lands d l r to e low =
    let t : ℕ = along d e 1 in
    under (stays_on d e) (comes l to t || comes r to t) (some_that to (λ s. lands l t s || lands r t s)) (λ on.
    let next : t < 64 = (next-square d e low on).low in
    ap (λ (x : Bool). x || comes r to t) (comes-lands l to t next) ∙ ap (λ (x : Bool). some_that to (lands l t) || x) (comes-lands r to t next) ∙ some-or to (lands l t) (lands r t))
    ∙ some-and to (stays_on d e) (λ s. lands l t s || lands r t s)

pub turns-by : (d l r : Direction) (to mid : List Bool) (e : ℕ) → e < 64 → ((t : ℕ) → t < 64 → is_in mid t ≡ (comes l to t || comes r to t)) → comes d mid e ≡ turns d l r to e
unfolding turns comes
turns-by d l r to mid e low each = under (stays_on d e) (is_in mid (along d e 1)) (comes l to (along d e 1) || comes r to (along d e 1)) (λ on. each (along d e 1) (next-square d e low on).low)

-- a knight's move
abbrev hop_lands : ℕ → ℕ → Bool
hop_lands e s = (lands_turned (heading Falls Stays) (heading Falls Falls) (heading Falls Rises) e s || lands_turned (heading Stays Falls) (heading Falls Falls) (heading Rises Falls) e s) || (lands_turned (heading Stays Rises) (heading Falls Rises) (heading Rises Rises) e s || lands_turned (heading Rises Stays) (heading Rises Falls) (heading Rises Rises) e s)

hop-lands : (e s : ℕ) → e < 64 → s < 64 → hop_lands e s ≡ hops e s
unfolding hops distance
hop-lands e s low inside =
    agree_below_at (hop_lands e) (λ t. files_apart e t * ranks_apart e t == 2) 64 s
    (agree_below_at (λ i. agree_below (hop_lands i) (λ t. files_apart i t * ranks_apart i t == 2) 64) (λ i. true) 64 e refl low) inside

pub turns-same : (d l r d' l' r' : Direction) (to : List Bool) (e : ℕ) → d ≡ d' → l ≡ l' → r ≡ r' → turns d l r to e ≡ turns d' l' r' to e
turns-same d l r d' l' r' to e p q t = cc

pub hops-made : (to : List Bool) (e : ℕ) → e < 64 → ((turns (heading Falls Stays) (heading Falls Falls) (heading Falls Rises) to e || turns (heading Stays Falls) (heading Falls Falls) (heading Rises Falls) to e) || (turns (heading Stays Rises) (heading Falls Rises) (heading Rises Rises) to e || turns (heading Rises Stays) (heading Rises Falls) (heading Rises Rises) to e)) ≡ some_that to (hops e)
hops-made to e low =
    let a : ℕ → Bool = lands_turned (heading Falls Stays) (heading Falls Falls) (heading Falls Rises) e in
    let b : ℕ → Bool = lands_turned (heading Stays Falls) (heading Falls Falls) (heading Rises Falls) e in
    let c : ℕ → Bool = lands_turned (heading Stays Rises) (heading Falls Rises) (heading Rises Rises) e in
    let d : ℕ → Bool = lands_turned (heading Rises Stays) (heading Rises Falls) (heading Rises Rises) e in
    some-four to a b c d (turns-lands _ _ _ to e low) (turns-lands _ _ _ to e low) (turns-lands _ _ _ to e low) (turns-lands _ _ _ to e low)
    ∙ some-same to (λ s. (a s || b s) || (c s || d s)) (hops e) (λ s inside. hop-lands e s low inside)

-- a pawn's capture
strike-lands : (c : Colour) (e s : ℕ) → e < 64 → s < 64 → (lands (heading (forward c) Falls) e s || lands (heading (forward c) Rises) e s) ≡ strikes c e s
unfolding strikes distance
strike-lands White e s low inside =
    agree_below_at (λ t. lands (heading Rises Falls) e t || lands (heading Rises Rises) e t) (λ t. one_ahead White e t && (files_apart e t == 1)) 64 s
    (agree_below_at (λ i. agree_below (λ t. lands (heading Rises Falls) i t || lands (heading Rises Rises) i t) (λ t. one_ahead White i t && (files_apart i t == 1)) 64) (λ i. true) 64 e refl low) inside
strike-lands Black e s low inside =
    agree_below_at (λ t. lands (heading Falls Falls) e t || lands (heading Falls Rises) e t) (λ t. one_ahead Black e t && (files_apart e t == 1)) 64 s
    (agree_below_at (λ i. agree_below (λ t. lands (heading Falls Falls) i t || lands (heading Falls Rises) i t) (λ t. one_ahead Black i t && (files_apart i t == 1)) 64) (λ i. true) 64 e refl low) inside

pub strikes-made : (c : Colour) (to : List Bool) (e : ℕ) → e < 64 → (comes (heading (forward c) Falls) to e || comes (heading (forward c) Rises) to e) ≡ some_that to (strikes c e)
strikes-made c to e low =
    ap (λ (x : Bool). x || comes (heading (forward c) Rises) to e) (comes-lands (heading (forward c) Falls) to e low)
    ∙ ap (λ (x : Bool). some_that to (lands (heading (forward c) Falls) e) || x) (comes-lands (heading (forward c) Rises) to e low)
    ∙ some-or to (lands (heading (forward c) Falls) e) (lands (heading (forward c) Rises) e)
    ∙ some-same to (λ s. lands (heading (forward c) Falls) e s || lands (heading (forward c) Rises) e s) (strikes c e) (λ s inside. strike-lands c e s low inside)

-- past the fixed
empty-wall : (fixed : List Bool) (q : ℕ) → length fixed ≡ 64 → not (is_in fixed q) ≡ is_empty (at (walls fixed) q)
empty-wall fixed q size = elim (cases_Bool (is_in fixed q)) [
  | inl there ↦ not_from_true (is_in fixed q) there ∙ sym (ap is_empty (at-walls fixed q (member-inside fixed q size there) ∙ ap wall there))
  | inr out ↦ not_from_false (is_in fixed q) out ∙ sym (no-wall fixed q out)
]

and-true : (a b : Bool) → ((a && true) && b) ≡ (a && b)
and-true true b = refl
and-true false b = refl

short-open : (fixed : List Bool) (e s : ℕ) → length fixed ≡ 64 → e < 64 → s < 64 → is_short fixed 7 e s ≡ (not (e == s) && is_open (walls fixed) e s)
short-open fixed e s size low inside =
    let few : king_distance e s < 8 = distance-high e s low inside in
    let p : ℕ → Bool = λ j. not (is_in fixed (on_the_way e s j)) in
    ap (λ (x : Bool). (not (e == s) && x) && list_all p (range_with_len 1 (king_distance e s - 1))) (le-leb (king_distance e s) 7 (omega arith))
    ∙ and-true (not (e == s)) (list_all p (range_with_len 1 (king_distance e s - 1)))
    ∙ ap (λ (x : Bool). not (e == s) && x) (all-same p (λ j. is_empty (at (walls fixed) (on_the_way e s j))) 1 (king_distance e s - 1) (λ j less. empty-wall fixed (on_the_way e s j) size))

swapped : (a b c : Bool) → (a && (b && c)) ≡ ((b && a) && c)
swapped true true c = refl
swapped true false c = refl
swapped false true c = refl
swapped false false c = refl

either-way : (a b c d : Bool) → ((a && (c && d)) || (b && (c && d))) ≡ ((c && (a || b)) && d)
either-way true b true true = refl
either-way true true true false = refl
either-way true false true false = refl
either-way true true false d = refl
either-way true false false d = refl
either-way false true c d = swapped true c d
either-way false false true d = refl
either-way false false false d = refl

-- next to each other
near-short : (fixed : List Bool) (e s : ℕ) → is_short fixed 1 e s ≡ is_next e s
near-short fixed e s = same_truth _ _
    (λ h.
    let p : ℕ → Bool = λ j. not (is_in fixed (on_the_way e s j)) in
    let parts = and_parts (not (e == s) && nat_le (king_distance e s) 1) (list_all p (range_with_len 1 (king_distance e s - 1))) h in
    let first = and_parts (not (e == s)) (nat_le (king_distance e s) 1) parts.0 in
    let some : 1 ≤ king_distance e s = distance-low e s (eqb-false e s (not-true (e == s) first.0)) in
    let few : king_distance e s ≤ 1 = leb-true (king_distance e s) 1 first.1 in
    eq-eqb (king_distance e s) 1 (omega arith))
    (λ h.
    let one : king_distance e s ≡ 1 = eqb-true (king_distance e s) 1 h in
    let p : ℕ → Bool = λ j. not (is_in fixed (on_the_way e s j)) in
    and_from (not (e == s) && nat_le (king_distance e s) 1) (list_all p (range_with_len 1 (king_distance e s - 1)))
    (and_from (not (e == s)) (nat_le (king_distance e s) 1) (not_from_false (e == s) (ne_eqb e s (far-apart e s 1 one (omega arith)))) (le-leb (king_distance e s) 1 (omega arith)))
    (ap (λ (n : ℕ). list_all p (range_with_len 1 (n - 1))) one))

none-apart : (a b : ℕ) → distance a b ≡ 0 → a ≡ b
unfolding distance
none-apart a b none = omega arith

near-on : (e s : ℕ) → is_next e s ≡ true → (on_one_line e s || on_one_diagonal e s) ≡ true
unfolding king_distance
near-on e s h =
    let one : max (files_apart e s) (ranks_apart e s) ≡ 1 = eqb-true (king_distance e s) 1 h in
    elim (cases_lt 0 (files_apart e s)) [
      | inr level ↦ or_left (on_one_line e s) (on_one_diagonal e s) (or_left (file e == file s) (rank e == rank s) (eq-eqb (file e) (file s) (none-apart (file e) (file s) (omega arith))))
      | inl beside ↦ elim (cases_lt 0 (ranks_apart e s)) [
        | inr flat ↦ or_left (on_one_line e s) (on_one_diagonal e s) (or_right (file e == file s) (rank e == rank s) (eq-eqb (rank e) (rank s) (none-apart (rank e) (rank s) (omega arith))))
        | inl aslant ↦ or_right (on_one_line e s) (on_one_diagonal e s) (eq-eqb (files_apart e s) (ranks_apart e s) (omega arith))
      ]
    ]

both-near : (a b n : Bool) → (n ≡ true → (a || b) ≡ true) → ((a && n) || (b && n)) ≡ n
both-near a b true h = or-true a b ∙ h refl
  where
    or-true : (a b : Bool) → ((a && true) || (b && true)) ≡ (a || b)
    or-true true b = refl
    or-true false true = refl
    or-true false false = refl
both-near true b false h = or-false b
  where
    or-false : (b : Bool) → (false || (b && false)) ≡ false
    or-false true = refl
    or-false false = refl
both-near false true false h = refl
both-near false false false h = refl

king-near : (fixed : List Bool) (e s : ℕ) → (goes_straight_on fixed 1 e s || goes_diagonally fixed 1 e s) ≡ is_next e s
unfolding goes_straight_on goes_diagonally
king-near fixed e s =
    ap (λ (x : Bool). (on_one_line e s && x) || (on_one_diagonal e s && x)) (near-short fixed e s)
    ∙ both-near (on_one_line e s) (on_one_diagonal e s) (is_next e s) (near-on e s)

pub attacks-made : (fixed : List Bool) (c : Colour) (k : Kind) (e s : ℕ) → length fixed ≡ 64 → e < 64 → s < 64 → attacks_past k c fixed 7 e s ≡ kind_attacks (walls fixed) c k e s
unfolding attacks_past kind_attacks goes_diagonally goes_straight_on strikes hops
attacks-made fixed c Pawn e s size low inside = refl
attacks-made fixed c Knight e s size low inside = refl
attacks-made fixed c Bishop e s size low inside = ap (λ (x : Bool). on_one_diagonal e s && x) (short-open fixed e s size low inside) ∙ swapped (on_one_diagonal e s) (not (e == s)) (is_open (walls fixed) e s)
attacks-made fixed c Rook e s size low inside = ap (λ (x : Bool). on_one_line e s && x) (short-open fixed e s size low inside) ∙ swapped (on_one_line e s) (not (e == s)) (is_open (walls fixed) e s)
attacks-made fixed c Queen e s size low inside = ap (λ (x : Bool). (on_one_line e s && x) || (on_one_diagonal e s && x)) (short-open fixed e s size low inside) ∙ either-way (on_one_line e s) (on_one_diagonal e s) (not (e == s)) (is_open (walls fixed) e s)
attacks-made fixed c King e s size low inside = king-near fixed e s

-- what a man touches
pub line-touched : (e s : ℕ) (line : Bool) → (line && is_next e s) ≡ (((not (e == s) && line) && is_open no_men e s) && (false || is_next e s))
line-touched e s line = same_truth _ _
    (λ h.
    let parts = and_parts line (is_next e s) h in
    let one : king_distance e s ≡ 1 = eqb-true (king_distance e s) 1 parts.1 in
    and_from ((not (e == s) && line) && is_open no_men e s) (is_next e s)
    (and_from (not (e == s) && line) (is_open no_men e s) (and_from (not (e == s)) line (not_from_false (e == s) (ne_eqb e s (far-apart e s 1 one (omega arith)))) parts.0) (near-open no_men e s one)) parts.1)
    (λ h.
    let parts = and_parts ((not (e == s) && line) && is_open no_men e s) (is_next e s) h in
    let first = and_parts (not (e == s) && line) (is_open no_men e s) parts.0 in
    and_from line (is_next e s) (and_parts (not (e == s)) line first.0).1 parts.1)

strike-near : (c : Colour) (e s : ℕ) → (one_ahead c e s && (files_apart e s == 1)) ≡ true → is_next e s ≡ true
unfolding king_distance distance
strike-near White e s h =
    let parts = and_parts (one_ahead White e s) (files_apart e s == 1) h in
    let r : rank s ≡ rank e + 1 = eqb-true (rank s) (rank e + 1) parts.0 in
    let f : files_apart e s ≡ 1 = eqb-true (files_apart e s) 1 parts.1 in
    eq-eqb (king_distance e s) 1 (omega arith)
strike-near Black e s h =
    let parts = and_parts (one_ahead Black e s) (files_apart e s == 1) h in
    let r : rank e ≡ rank s + 1 = eqb-true (rank e) (rank s + 1) parts.0 in
    let f : files_apart e s ≡ 1 = eqb-true (files_apart e s) 1 parts.1 in
    eq-eqb (king_distance e s) 1 (omega arith)

implied : (a b : Bool) → (a ≡ true → b ≡ true) → a ≡ (a && (false || b))
implied true b h = sym (h refl)
implied false b h = refl

spread : (a b n : Bool) → ((a && n) || (b && n)) ≡ ((a || b) && n)
spread true true true = refl
spread true true false = refl
spread true false true = refl
spread true false false = refl
spread false b n = refl

twice : (n : Bool) → n ≡ (n && (false || n))
twice true = refl
twice false = refl

and-all : (a : Bool) → a ≡ (a && true)
and-all true = refl
and-all false = refl

pub touches-made : (fixed : List Bool) (c : Colour) (k : Kind) (e s : ℕ) → attacks_past k c fixed 1 e s ≡ touches c k e s
unfolding attacks_past touches kind_attacks goes_diagonally goes_straight_on strikes hops
touches-made fixed c Pawn e s = implied (one_ahead c e s && (files_apart e s == 1)) (is_next e s) (strike-near c e s)
touches-made fixed c Knight e s = and-all (files_apart e s * ranks_apart e s == 2)
touches-made fixed c Bishop e s = ap (λ (x : Bool). on_one_diagonal e s && x) (near-short fixed e s) ∙ line-touched e s (on_one_diagonal e s)
touches-made fixed c Rook e s = ap (λ (x : Bool). on_one_line e s && x) (near-short fixed e s) ∙ line-touched e s (on_one_line e s)
touches-made fixed c Queen e s = ap (λ (x : Bool). (on_one_line e s && x) || (on_one_diagonal e s && x)) (near-short fixed e s) ∙ spread (on_one_line e s) (on_one_diagonal e s) (is_next e s) ∙ line-touched e s (on_one_line e s || on_one_diagonal e s)
touches-made fixed c King e s = king-near fixed e s ∙ twice (is_next e s)

-- pawns that move straight on
abbrev pub ahead : Colour → Direction
ahead c = heading (forward c) Stays

-- one step, and two
abbrev goes_one : Colour → ℕ → ℕ → Bool
goes_one c e s = straight c e s && one_ahead c e s

abbrev goes_two : Colour → ℕ → ℕ → Bool
goes_two c e s = is_past_home c s && (straight c e s && not (one_ahead c e s))

abbrev lands_two : Colour → ℕ → ℕ → Bool
lands_two c e s = is_past_home c s && ((rank e == pawn_rank c) && (stays_on (ahead c) e && lands (ahead c) (along (ahead c) e 1) s))

one-lands : (c : Colour) (e s : ℕ) → e < 64 → s < 64 → goes_one c e s ≡ lands (ahead c) e s
unfolding straight distance
one-lands White e s low inside = agree_below_at (goes_one White e) (lands (ahead White) e) 64 s (agree_below_at (λ i. agree_below (goes_one White i) (lands (ahead White) i) 64) (λ i. true) 64 e refl low) inside
one-lands Black e s low inside = agree_below_at (goes_one Black e) (lands (ahead Black) e) 64 s (agree_below_at (λ i. agree_below (goes_one Black i) (lands (ahead Black) i) 64) (λ i. true) 64 e refl low) inside

two-lands : (c : Colour) (e s : ℕ) → e < 64 → s < 64 → goes_two c e s ≡ lands_two c e s
unfolding straight distance
two-lands White e s low inside = agree_below_at (goes_two White e) (lands_two White e) 64 s (agree_below_at (λ i. agree_below (goes_two White i) (lands_two White i) 64) (λ i. true) 64 e refl low) inside
two-lands Black e s low inside = agree_below_at (goes_two Black e) (lands_two Black e) 64 s (agree_below_at (λ i. agree_below (goes_two Black i) (lands_two Black i) 64) (λ i. true) 64 e refl low) inside

abbrev goes_over : Colour → ℕ → ℕ → Bool
goes_over c e s = not (goes_two c e s) || (on_the_way e s 1 == along (ahead c) e 1)

two-over : (c : Colour) (e s : ℕ) → e < 64 → s < 64 → goes_over c e s ≡ true
unfolding straight distance on_the_way toward
two-over White e s low inside = agree_below_at (goes_over White e) (λ t. true) 64 s (agree_below_at (λ i. agree_below (goes_over White i) (λ t. true) 64) (λ i. true) 64 e refl low) inside
two-over Black e s low inside = agree_below_at (goes_over Black e) (λ t. true) 64 s (agree_below_at (λ i. agree_below (goes_over Black i) (λ t. true) 64) (λ i. true) 64 e refl low) inside

none-last : (r q f : Bool) → false ≡ (r && (q && (f && false)))
none-last true true true = refl
none-last true true false = refl
none-last true false f = refl
none-last false q f = refl

drawn : (r q f m : Bool) → (f && (r && (q && m))) ≡ (r && (q && (f && m)))
drawn true true f m = refl
drawn true false true m = refl
drawn true false false m = refl
drawn false q true m = refl
drawn false q false m = refl

-- past home, straight on, one ahead; and what the steps say
pawn-cases : (p s o l r q m f f' : Bool) → (s && o) ≡ l → (p && (s && not o)) ≡ (p && (r && (q && m))) → ((p && (s && not o)) ≡ true → f' ≡ f) → (p && (s && (o || f'))) ≡ ((p && l) || (r && (q && (f && (p && m)))))
pawn-cases false s o l r q m f f' one two over = none-last r q f
pawn-cases true false o l r q m f f' one two over = sym (ap (λ (x : Bool). x || (r && (q && (f && m)))) (sym one) ∙ sym (drawn r q f m) ∙ ap (λ (x : Bool). f && x) (sym two) ∙ none f)
  where
    none : (b : Bool) → (b && false) ≡ false
    none true = refl
    none false = refl
pawn-cases true true true l r q m f f' one two over = ap (λ (x : Bool). x || (r && (q && (f && m)))) one
pawn-cases true true false l r q m f f' one two over = over refl ∙ and-all f ∙ ap (λ (x : Bool). f && x) two ∙ drawn r q f m ∙ ap (λ (x : Bool). x || (r && (q && (f && m)))) one

abbrev moves : List Bool → Colour → ℕ → ℕ → Bool
moves fixed c e s = (is_past_home c s && lands (ahead c) e s) || ((rank e == pawn_rank c) && (stays_on (ahead c) e && (not (is_in fixed (along (ahead c) e 1)) && (is_past_home c s && lands (ahead c) (along (ahead c) e 1) s))))

pawn-moves : (fixed : List Bool) (c : Colour) (e s : ℕ) → e < 64 → s < 64 → (is_past_home c s && pawn_past fixed c e s) ≡ moves fixed c e s
unfolding pawn_past
pawn-moves fixed c e s low inside =
    let t : ℕ = along (ahead c) e 1 in
    pawn-cases (is_past_home c s) (straight c e s) (one_ahead c e s) (lands (ahead c) e s) (rank e == pawn_rank c) (stays_on (ahead c) e) (lands (ahead c) t s) (not (is_in fixed t)) (not (is_in fixed (on_the_way e s 1)))
    (one-lands c e s low inside) (two-lands c e s low inside)
    (λ two. ap (λ (n : ℕ). not (is_in fixed n)) (eqb-true (on_the_way e s 1) t (either-true (goes_two c e s) (on_the_way e s 1 == t) (two-over c e s low inside) two)))

turned-last : (q x f r : Bool) → ((q && (x && f)) && r) ≡ (r && (q && (f && x)))
turned-last true true true true = refl
turned-last true true true false = refl
turned-last true true false true = refl
turned-last true true false false = refl
turned-last true false true true = refl
turned-last true false true false = refl
turned-last true false false true = refl
turned-last true false false false = refl
turned-last false x f true = refl
turned-last false x f false = refl

over-comes : (a : Direction) (over : List Bool) (x : Bool) (e : ℕ) → (stays_on a e ≡ true → is_in over (along a e 1) ≡ x) → comes a over e ≡ (stays_on a e && x)
unfolding comes
over-comes a over x e h = under (stays_on a e) (is_in over (along a e 1)) x h

-- what the sets of the function say: the squares to which pawns move, and those from which one step comes there
pub pawns-made : (fixed to past over : List Bool) (c : Colour) (e : ℕ) → e < 64 → ((s : ℕ) → s < 64 → is_in past s ≡ (is_in to s && is_past_home c s)) → ((t : ℕ) → t < 64 → is_in over t ≡ (comes (ahead c) past t && not (is_in fixed t))) → (comes (ahead c) past e || (comes (ahead c) over e && (rank e == pawn_rank c))) ≡ some_that to (λ s. is_past_home c s && pawn_past fixed c e s)
pawns-made fixed to past over c e low each between =
    let a : Direction = ahead c in
    let t : ℕ = along a e 1 in
    let r : Bool = rank e == pawn_rank c in
    let from : (u : ℕ) → u < 64 → comes a past u ≡ some_that to (λ s. is_past_home c s && lands a u s) = λ u inside. comes-lands a past u inside ∙ some-of past to (is_past_home c) (lands a u) each in
    let second : (comes a over e && r) ≡ some_that to (λ s. r && (stays_on a e && (not (is_in fixed t) && (is_past_home c s && lands a t s)))) =
    ap (λ (x : Bool). x && r) (over-comes a over (comes a past t && not (is_in fixed t)) e (λ on. between t (next-square a e low on).low))
    ∙ turned-last (stays_on a e) (comes a past t) (not (is_in fixed t)) r
    ∙ ap (λ (x : Bool). r && x) (under (stays_on a e) (not (is_in fixed t) && comes a past t) (some_that to (λ s. not (is_in fixed t) && (is_past_home c s && lands a t s))) (λ on.
    ap (λ (x : Bool). not (is_in fixed t) && x) (from t (next-square a e low on).low) ∙ some-and to (not (is_in fixed t)) (λ s. is_past_home c s && lands a t s))
    ∙ some-and to (stays_on a e) (λ s. not (is_in fixed t) && (is_past_home c s && lands a t s)))
    ∙ some-and to r (λ s. stays_on a e && (not (is_in fixed t) && (is_past_home c s && lands a t s))) in
    ap (λ (x : Bool). x || (comes a over e && r)) (from e low)
    ∙ ap (λ (x : Bool). some_that to (λ s. is_past_home c s && lands a e s) || x) second
    ∙ some-or to (λ s. is_past_home c s && lands a e s) (λ s. r && (stays_on a e && (not (is_in fixed t) && (is_past_home c s && lands a t s))))
    ∙ some-same to (moves fixed c e) (λ s. is_past_home c s && pawn_past fixed c e s) (λ s inside. sym (pawn-moves fixed c e s low inside))

-- by kinds
pub attack-pawn : (to fixed : List Bool) (c : Colour) (n e : ℕ) → some_that to (strikes c e) ≡ some_that to (attacks_past Pawn c fixed n e)
unfolding attacks_past
attack-pawn to fixed c n e = refl

pub attack-knight : (to fixed : List Bool) (c : Colour) (n e : ℕ) → some_that to (hops e) ≡ some_that to (attacks_past Knight c fixed n e)
unfolding attacks_past
attack-knight to fixed c n e = refl

pub attack-bishop : (to fixed : List Bool) (c : Colour) (n e : ℕ) → some_that to (goes_diagonally fixed n e) ≡ some_that to (attacks_past Bishop c fixed n e)
unfolding attacks_past
attack-bishop to fixed c n e = refl

pub attack-rook : (to fixed : List Bool) (c : Colour) (n e : ℕ) → some_that to (goes_straight_on fixed n e) ≡ some_that to (attacks_past Rook c fixed n e)
unfolding attacks_past
attack-rook to fixed c n e = refl

pub attack-queen : (to fixed : List Bool) (c : Colour) (n e : ℕ) → (some_that to (goes_straight_on fixed n e) || some_that to (goes_diagonally fixed n e)) ≡ some_that to (attacks_past Queen c fixed n e)
unfolding attacks_past
attack-queen to fixed c n e = some-or to (goes_straight_on fixed n e) (goes_diagonally fixed n e)

pub attack-king : (to fixed : List Bool) (c : Colour) (n e : ℕ) → (some_that to (goes_straight_on fixed 1 e) || some_that to (goes_diagonally fixed 1 e)) ≡ some_that to (attacks_past King c fixed n e)
unfolding attacks_past
attack-king to fixed c n e = some-or to (goes_straight_on fixed 1 e) (goes_diagonally fixed 1 e)
