-- How many moves a man needs, by himself, to have come to a square from the square on which he began.
use Rattle.std.specs.Prelude.{ℕ, zero, suc, ◌+◌, ◌-◌, ◌*◌, min, Bool, cond, ◌&&◌, ◌||◌, not, ◌==◌, nat_le, List, [], ◌∷◌, map, Option, Some, None}
use Rattle.std.specs.List.{list_any, count_by, range_with_len}
use Rattle.board_base.specs.Board.{no_men, array_of, at, same_colour, same_kind, rank}
use Rattle.board_base.specs.Attacks.{kind_attacks, files_apart}
use Rattle.board_base.specs.Legal.{last_rank}
use Rattle.board_base.specs.declared.men.Colour.{Colour}
use Rattle.board_base.specs.declared.men.Colour.TheVariants.{White, Black}
use Rattle.board_base.specs.declared.men.Kind.{Kind}
use Rattle.board_base.specs.declared.men.Kind.TheVariants.{Pawn, Knight, Bishop, Rook, Queen, King}
use Rattle.board_base.specs.declared.men.Man.{Man}

-- Articles 3.2 to 3.6 and 3.8: on a board without other men a man of this kind comes from h to s in at most n steps, castling aside
unfoldable pub comes_within : Kind → ℕ → ℕ → ℕ → Bool
comes_within k zero h s = h == s
comes_within k (suc n) h s = comes_within k n h s || list_any (λ u. comes_within k n h u && kind_attacks no_men White k u s) (range_with_len 0 64)

-- the least number of steps in which he comes from h to s: how many numbers are too few; 64 where he can't
unfoldable pub steps : Kind → ℕ → ℕ → ℕ
steps k h s = count_by (λ n. not (comes_within k n h s)) (range_with_len 0 64)

-- Article 3.7: the moves of a pawn that goes from one rank to another, higher as it sees them, and leaves so many files. It makes one
-- for each rank, one less where a double step fits, and 64 stands for a way that leaves more files than it goes ranks.
abbrev pub pawn_moves : ℕ → ℕ → ℕ → ℕ
pawn_moves files low high = cond (nat_le (low + files) high) (cond (nat_le (low + files + 2) high) (high - low - 1) (high - low)) 64

-- the moves of a pawn of this colour from its home h to s
unfoldable pub pawn_way : Colour → ℕ → ℕ → ℕ
pawn_way White h s = pawn_moves (files_apart h s) (rank h) (rank s)
pawn_way Black h s = pawn_moves (files_apart h s) (rank s) (rank h)

-- the least of these numbers, at most 64
abbrev pub least : List ℕ → ℕ
least [] = 64
least (x ∷ xs) = min x (least xs)

-- Article 3.7: the square on this file on which a pawn of this colour is promoted
abbrev pub promotion_square : Colour → ℕ → ℕ
promotion_square c f = 8 * last_rank c + f

-- the moves of a pawn of this colour from its home h to a square of its promotion rank, and of the man of this kind whom it becomes
-- there from that square to s: the least over the eight files, at most 64
unfoldable pub promoted_way : Colour → Kind → ℕ → ℕ → ℕ
promoted_way c k h s = least (map (λ f. pawn_way c h (promotion_square c f) + steps k (promotion_square c f) s) (range_with_len 0 8))

-- the moves to s of a man of this kind and colour who began as a pawn on h
abbrev pub from_pawn : Kind → Colour → ℕ → ℕ → ℕ
from_pawn Pawn c h s = pawn_way c h s
from_pawn Knight c h s = promoted_way c Knight h s
from_pawn Bishop c h s = promoted_way c Bishop h s
from_pawn Rook c h s = promoted_way c Rook h s
from_pawn Queen c h s = promoted_way c Queen h s
from_pawn King c h s = 64

-- the moves from h to s of a man who began as one of the first kind, which is no pawn, and is of the second kind
abbrev pub from_officer : Kind → Kind → ℕ → ℕ → ℕ
from_officer j k h s = cond (same_kind j k) (steps k h s) 64

-- the moves of a man on s who began on h, where this stood in the beginning
abbrev pub cost_from : Option Man → Man → ℕ → ℕ → ℕ
cost_from None man s h = 64
cost_from (Some first) man s h =
    cond (same_colour man.colour first.colour) (cond (same_kind Pawn first.kind) (from_pawn man.kind man.colour h s) (from_officer first.kind man.kind h s)) 64

-- The least number of moves, castling aside, in which a man alone comes to s from h, where he began: a promoted man as a pawn, and from
-- there as he is. 64, more than any man needs, where he can't, or where no man of his side began on h.
unfoldable pub move_cost : List Bool → Man → ℕ → ℕ → ℕ
move_cost o man s h = cost_from (at (array_of o) h) man s h
