-- A man who went over empty squares went past all squares that are in no set, but his target.
use Rattle.std.proofs.Common.{◌≡◌, ◌≢◌, ℕ, ◌+◌, ◌-◌, ◌*◌, ◌<◌, ◌≤◌, ◌==◌, inl, inr, Bool, true, false, ◌&&◌, ◌||◌, not, List, sym, arith}
use Rattle.std.proofs.lemmas.Bool.{and_parts, and_from, or_cases, or_left, or_right, cases_lt, eqb-true}
use Rattle.general_lemmas.proofs.Ranges.{all-each, all_in_range}
use Rattle.board_base.specs.Board.{Places, at, file, is_empty, is_in, rank}
use Rattle.board_base.specs.Attacks.{distance, files_apart, is_open, kind_attacks, king_distance, on_one_diagonal, on_one_line, on_the_way, ranks_apart, toward}
use Rattle.board_base.specs.declared.men.Colour.{Colour}
use Rattle.board_base.specs.declared.men.Kind.{Kind}
use Rattle.board_base.specs.declared.men.Kind.TheVariants.{Pawn, Knight, Bishop, Rook, Queen, King}
use Rattle.board_base.proofs.Ways.{toward-down, toward-same, toward-up}
use Rattle.cage_rules.specs.Regions.{walls}
use Rattle.cage_rules.proofs.Walls.{no-wall}

-- on a line or a diagonal, files that differ are as far apart as the squares
far-files : (s t : ℕ) → (on_one_line s t || on_one_diagonal s t) ≡ true → (file s ≡ file t → ⊥) → files_apart s t ≡ king_distance s t
unfolding king_distance distance
far-files s t on other = elim (or_cases _ _ on) [
  | inr diagonal ↦ let same : files_apart s t ≡ ranks_apart s t = eqb-true _ _ diagonal in omega arith
  | inl line ↦ elim (or_cases _ _ line) [
    | inl same ↦ absurd (other (eqb-true _ _ same))
    | inr level ↦ let e : rank s ≡ rank t = eqb-true _ _ level in omega arith
  ]
]

-- the number of a square gives its file and its rank
split-file : (r f t : ℕ) → f < 8 → 8 * r + f ≡ t → f ≡ file t
split-file r f t small e = omega arith

split-rank : (r f t : ℕ) → f < 8 → 8 * r + f ≡ t → r ≡ rank t
split-rank r f t small e = omega arith

same-file-distance : (s t : ℕ) → file s ≡ file t → king_distance s t ≡ ranks_apart s t
unfolding king_distance distance
same-file-distance s t e = omega arith

apart-up : (a b k n : ℕ) → a < b → distance a b ≡ n → k < n → toward a b k < b
unfolding distance
apart-up a b k n up e small = let w = toward-up a b k up in omega (arith, w)

apart-down : (a b k n : ℕ) → b < a → distance a b ≡ n → k < n → b < toward a b k
unfolding distance
apart-down a b k n down e small = let w = toward-down a b k down in omega (arith, w)

toward-below : (a b k n : ℕ) → b < a → a < 8 → toward a b k < 8
toward-below a b k n down small = let w = toward-down a b k down in omega (arith, w)

none-far : (a b n k : ℕ) → b ≤ a → a ≤ b → distance a b ≡ n → k < n → ⊥
unfolding distance
none-far a b n k x y e small = omega arith

-- before its end a way hasn't come to its target
pub not-yet : (s t k : ℕ) → (on_one_line s t || on_one_diagonal s t) ≡ true → k < king_distance s t → on_the_way s t k ≢ t
unfolding on_the_way
not-yet s t k on before same = elim (cases_lt (file s) (file t)) [
  | inl up ↦
      let far : files_apart s t ≡ king_distance s t = far-files s t on (λ e. omega arith) in
      let short : toward (file s) (file t) k < file t = apart-up (file s) (file t) k _ up far before in
      let here : toward (file s) (file t) k ≡ file t = split-file (toward (rank s) (rank t) k) (toward (file s) (file t) k) t (omega arith) same in
      omega arith
  | inr not_up ↦ elim (cases_lt (file t) (file s)) [
    | inl down ↦
        let far : files_apart s t ≡ king_distance s t = far-files s t on (λ e. omega arith) in
        let short : file t < toward (file s) (file t) k = apart-down (file s) (file t) k _ down far before in
        let small : toward (file s) (file t) k < 8 = toward-below (file s) (file t) k 0 down (omega arith) in
        let here : toward (file s) (file t) k ≡ file t = split-file (toward (rank s) (rank t) k) (toward (file s) (file t) k) t small same in
        omega arith
    | inr not_down ↦
        let level : file s ≡ file t = omega arith in
        let stays : toward (file s) (file t) k ≡ file s = toward-same (file s) (file t) k level in
        let far : ranks_apart s t ≡ king_distance s t = sym (same-file-distance s t level) in
        let here : toward (rank s) (rank t) k ≡ rank t = split-rank (toward (rank s) (rank t) k) (toward (file s) (file t) k) t (omega arith) same in
        elim (cases_lt (rank s) (rank t)) [
          | inl up ↦ let short : toward (rank s) (rank t) k < rank t = apart-up (rank s) (rank t) k _ up far before in omega arith
          | inr not_up2 ↦ elim (cases_lt (rank t) (rank s)) [
            | inl down ↦ let short : rank t < toward (rank s) (rank t) k = apart-down (rank s) (rank t) k _ down far before in omega arith
            | inr not_down2 ↦ none-far (rank s) (rank t) (king_distance s t) k not_up2 not_down2 far before
          ]
        ]
  ]
]

-- where he went over squares that the set lacks
open-past : (board : Places) (set : List Bool) (s t : ℕ) → (on_one_line s t || on_one_diagonal s t) ≡ true → ((w : ℕ) → w ≢ t → is_empty (at board w) ≡ true → is_in set w ≡ false) → is_open board s t ≡ true → is_open (walls set) s t ≡ true
open-past board set s t on free clear =
    all-each (λ k. is_empty (at (walls set) (on_the_way s t k))) 1 (king_distance s t - 1) (λ k low high.
    let vacant : is_empty (at board (on_the_way s t k)) ≡ true = all_in_range (λ i. is_empty (at board (on_the_way s t i))) 1 (king_distance s t - 1) k clear low high in
    no-wall set (on_the_way s t k) (free (on_the_way s t k) (not-yet s t k on (omega arith)) vacant))

pub past-walls : (board : Places) (set : List Bool) (c : Colour) (k : Kind) (s t : ℕ) → ((w : ℕ) → w ≢ t → is_empty (at board w) ≡ true → is_in set w ≡ false) → kind_attacks board c k s t ≡ true → kind_attacks (walls set) c k s t ≡ true
unfolding kind_attacks
past-walls board set c Pawn s t free h = h
past-walls board set c Knight s t free h = h
past-walls board set c King s t free h = h
past-walls board set c Bishop s t free h =
    let parts = and_parts (not (s == t) && on_one_diagonal s t) _ h in
    and_from _ _ parts.0 (open-past board set s t (or_right _ _ (and_parts (not (s == t)) _ parts.0).1) free parts.1)
past-walls board set c Rook s t free h =
    let parts = and_parts (not (s == t) && on_one_line s t) _ h in
    and_from _ _ parts.0 (open-past board set s t (or_left _ _ (and_parts (not (s == t)) _ parts.0).1) free parts.1)
past-walls board set c Queen s t free h =
    let parts = and_parts (not (s == t) && (on_one_line s t || on_one_diagonal s t)) _ h in
    and_from _ _ parts.0 (open-past board set s t (and_parts (not (s == t)) _ parts.0).1 free parts.1)
