-- The men of a side are counted square by square.
use Rattle.std.proofs.Common.{◌≡◌, ℕ, suc, ◌+◌, ◌<◌, ◌≤◌, Bool, true, false, cond, ◌&&◌, not, refl, ap, sym, ◌∙◌, arith}
use Rattle.std.specs.Prelude.{Option, Some, None}
use Rattle.std.specs.List.{count_by, range_with_len}
use Rattle.std.proofs.lemmas.List.Sums.{count_by-le-length}
use Rattle.std.proofs.lemmas.List.FromFn.{length-range_with_len}
use Rattle.board_base.specs.Board.{Places, at, is_the, same_colour, same_kind}
use Rattle.board_base.specs.declared.men.Colour.{Colour}
use Rattle.board_base.specs.declared.men.Kind.{Kind}
use Rattle.board_base.specs.declared.men.Kind.TheVariants.{Pawn, Knight, Bishop, Rook, Queen, King}
use Rattle.board_base.specs.declared.men.Man.{Man}
use Rattle.men_account.specs.Account.{men, is_any, is_light, is_dark, counts_of}
use Rattle.men_account.specs.Tallies.{with_man, with_place, AreBelow}
use Rattle.men_account.specs.declared.tallies.Counts.{Counts}
use Rattle.general_lemmas.proofs.Counts.{one_if, count-end}

-- how many of the first n squares have a man of this colour and kind, and pass this test
abbrev among_first : Colour → Kind → (ℕ → Bool) → Places → ℕ → ℕ
among_first c k among board n = count_by (λ s. is_the c k (at board s) && among s) (range_with_len 0 n)

-- the men of a side on the first n squares
abbrev pub counts_among : Colour → Places → ℕ → Counts
counts_among c board n = record {
  pawns = among_first c Pawn is_any board n;
  knights = among_first c Knight is_any board n;
  light_bishops = among_first c Bishop is_light board n;
  dark_bishops = among_first c Bishop is_dark board n;
  rooks = among_first c Rook is_any board n;
  queens = among_first c Queen is_any board n;
  kings = among_first c King is_any board n;
}

abbrev counts_as : ℕ → ℕ → ℕ → ℕ → ℕ → ℕ → ℕ → Counts
counts_as p n l d r q k = record { pawns = p; knights = n; light_bishops = l; dark_bishops = d; rooks = r; queens = q; kings = k }

same_counts : (p p' n n' l l' d d' r r' q q' k k' : ℕ) → p ≡ p' → n ≡ n' → l ≡ l' → d ≡ d' → r ≡ r' → q ≡ q' → k ≡ k' → counts_as p n l d r q k ≡ counts_as p' n' l' d' r' q' k'
same_counts p p' n n' l l' d d' r r' q q' k k' e1 e2 e3 e4 e5 e6 e7 = cc

-- the counts with what is added to each
abbrev added : Counts → Colour → Option Man → ℕ → Counts
added n c place s = counts_as (n.pawns + one_if (is_the c Pawn place && is_any s)) (n.knights + one_if (is_the c Knight place && is_any s)) (n.light_bishops + one_if (is_the c Bishop place && is_light s)) (n.dark_bishops + one_if (is_the c Bishop place && is_dark s)) (n.rooks + one_if (is_the c Rook place && is_any s)) (n.queens + one_if (is_the c Queen place && is_any s)) (n.kings + one_if (is_the c King place && is_any s))

-- a man of the side adds one where he is counted
man_more : (n : Counts) (k : Kind) (light : Bool) (s : ℕ) → is_light s ≡ light → with_man n k s ≡ counts_as (n.pawns + one_if (same_kind Pawn k && true)) (n.knights + one_if (same_kind Knight k && true)) (n.light_bishops + one_if (same_kind Bishop k && light)) (n.dark_bishops + one_if (same_kind Bishop k && not light)) (n.rooks + one_if (same_kind Rook k && true)) (n.queens + one_if (same_kind Queen k && true)) (n.kings + one_if (same_kind King k && true))
man_more n Pawn light s e = same_counts (n.pawns + 1) _ n.knights _ n.light_bishops _ n.dark_bishops _ n.rooks _ n.queens _ n.kings _ refl (omega arith) (omega arith) (omega arith) (omega arith) (omega arith) (omega arith)
man_more n Knight light s e = same_counts n.pawns _ (n.knights + 1) _ n.light_bishops _ n.dark_bishops _ n.rooks _ n.queens _ n.kings _ (omega arith) refl (omega arith) (omega arith) (omega arith) (omega arith) (omega arith)
man_more n Bishop true s e = rw e (same_counts n.pawns _ n.knights _ (n.light_bishops + 1) _ n.dark_bishops _ n.rooks _ n.queens _ n.kings _ (omega arith) (omega arith) refl (omega arith) (omega arith) (omega arith) (omega arith))
man_more n Bishop false s e = rw e (same_counts n.pawns _ n.knights _ n.light_bishops _ (n.dark_bishops + 1) _ n.rooks _ n.queens _ n.kings _ (omega arith) (omega arith) (omega arith) refl (omega arith) (omega arith) (omega arith))
man_more n Rook light s e = same_counts n.pawns _ n.knights _ n.light_bishops _ n.dark_bishops _ (n.rooks + 1) _ n.queens _ n.kings _ (omega arith) (omega arith) (omega arith) (omega arith) refl (omega arith) (omega arith)
man_more n Queen light s e = same_counts n.pawns _ n.knights _ n.light_bishops _ n.dark_bishops _ n.rooks _ (n.queens + 1) _ n.kings _ (omega arith) (omega arith) (omega arith) (omega arith) (omega arith) refl (omega arith)
man_more n King light s e = same_counts n.pawns _ n.knights _ n.light_bishops _ n.dark_bishops _ n.rooks _ n.queens _ (n.kings + 1) _ (omega arith) (omega arith) (omega arith) (omega arith) (omega arith) (omega arith) refl

none_more : (n : Counts) → n ≡ counts_as (n.pawns + 0) (n.knights + 0) (n.light_bishops + 0) (n.dark_bishops + 0) (n.rooks + 0) (n.queens + 0) (n.kings + 0)
none_more n = same_counts n.pawns _ n.knights _ n.light_bishops _ n.dark_bishops _ n.rooks _ n.queens _ n.kings _ (omega arith) (omega arith) (omega arith) (omega arith) (omega arith) (omega arith) (omega arith)

side_more : (n : Counts) (k : Kind) (s : ℕ) (own : Bool) → cond own (with_man n k s) n ≡ counts_as (n.pawns + one_if ((own && same_kind Pawn k) && true)) (n.knights + one_if ((own && same_kind Knight k) && true)) (n.light_bishops + one_if ((own && same_kind Bishop k) && is_light s)) (n.dark_bishops + one_if ((own && same_kind Bishop k) && not (is_light s))) (n.rooks + one_if ((own && same_kind Rook k) && true)) (n.queens + one_if ((own && same_kind Queen k) && true)) (n.kings + one_if ((own && same_kind King k) && true))
side_more n k s true = man_more n k (is_light s) s refl
side_more n k s false = none_more n

place_more : (n : Counts) (c : Colour) (place : Option Man) (s : ℕ) → with_place n c place s ≡ added n c place s
place_more n c None s = none_more n
place_more n c (Some m) s = side_more n m.kind s (same_colour c m.colour)

-- the next square
pub square_more : (c : Colour) (board : Places) (n : ℕ) → with_place (counts_among c board n) c (at board n) n ≡ counts_among c board (suc n)
square_more c board n =
    let here : 0 + n ≡ n = omega arith in
    let more : (k : Kind) (among : ℕ → Bool) → among_first c k among board n + one_if (is_the c k (at board n) && among n) ≡ among_first c k among board (suc n) =
    λ k among. sym (count-end (λ s. is_the c k (at board s) && among s) n 0 ∙ ap (λ (s : ℕ). among_first c k among board n + one_if (is_the c k (at board s) && among s)) here) in
    place_more (counts_among c board n) c (at board n) n
    ∙ same_counts _ _ _ _ _ _ _ _ _ _ _ _ _ _ (more Pawn is_any) (more Knight is_any) (more Bishop is_light) (more Bishop is_dark) (more Rook is_any) (more Queen is_any) (more King is_any)

few : (p : ℕ → Bool) (n : ℕ) → count_by p (range_with_len 0 n) ≤ n
few p n = omega (arith, count_by-le-length p (range_with_len 0 n), length-range_with_len 0 n)

pub few_among : (c : Colour) (board : Places) (n limit : ℕ) → n < limit → AreBelow limit (counts_among c board n)
few_among c board n limit below =
    let small : (k : Kind) (among : ℕ → Bool) → among_first c k among board n < limit = λ k among. omega (arith, few (λ s. is_the c k (at board s) && among s) n) in
    record {
      pawns = small Pawn is_any;
      knights = small Knight is_any;
      light_bishops = small Bishop is_light;
      dark_bishops = small Bishop is_dark;
      rooks = small Rook is_any;
      queens = small Queen is_any;
      kings = small King is_any;
    }

pub whole_board : (c : Colour) (board : Places) → counts_among c board 64 ≡ counts_of c board
unfolding men
whole_board c board = refl
