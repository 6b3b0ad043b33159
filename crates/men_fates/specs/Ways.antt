-- Ways of pawns: the squares over which a pawn goes, one rank after another. A double step is two of them.
use Rattle.std.specs.Prelude.{ℕ, ◌==◌, Bool, true, cond, ◌&&◌, not, nat_lt, List, [], ◌∷◌}
use Rattle.std.specs.List.{sum_by}
use Rattle.board_base.specs.Board.{file, is_in}
use Rattle.board_base.specs.Attacks.{files_apart, one_ahead}
use Rattle.board_base.specs.declared.men.Colour.{Colour}

-- Article 3.7: from s a pawn of this colour comes to t, a square of the board outside the set, by one rank and at most one file
abbrev pub is_pawn_step : Colour → List Bool → ℕ → ℕ → Bool
is_pawn_step c set s t = one_ahead c s t && nat_lt (files_apart s t) 2 && nat_lt t 64 && not (is_in set t)

-- these squares are a way from s: each is a step from the one before, and the first is one from s
abbrev pub is_way : Colour → List Bool → ℕ → List ℕ → Bool
is_way c set s [] = true
is_way c set s (t ∷ way) = is_pawn_step c set s t && is_way c set t way

-- where a way from s ends: on its last square, or on s where it has none
abbrev pub way_end : ℕ → List ℕ → ℕ
way_end s [] = s
way_end s (t ∷ way) = way_end t way

-- Article 3.7: the squares of a way from s on which the pawn captures, in order: those on another file than the square before
abbrev pub captures_on : ℕ → List ℕ → List ℕ
captures_on s [] = []
captures_on s (t ∷ way) = cond (file s == file t) (captures_on t way) (t ∷ captures_on t way)

-- the pawn captures nowhere on a way from s: all of its squares are on the file of s
abbrev pub is_straight : ℕ → List ℕ → Bool
is_straight s [] = true
is_straight s (t ∷ way) = (file s == file t) && is_straight t way

-- the fee of a way from s: the prices of the squares on which the pawn captures
abbrev pub fee : (ℕ → ℕ) → ℕ → List ℕ → ℕ
fee price s way = sum_by price (captures_on s way)

-- the toll of a way from s: its fee; but where the pawn captures nowhere, the gates of the squares that he treads, s among them
abbrev pub toll : (ℕ → ℕ) → (ℕ → ℕ) → ℕ → List ℕ → ℕ
toll price gate s way = cond (is_straight s way) (sum_by gate (s ∷ way)) (fee price s way)
