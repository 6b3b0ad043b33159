-- What it costs at least to say of a man that he began on a home: what he paid for his captures as a pawn, less what he earned where he
-- was taken. To each cost 96 is added, so that none is below 0.
use Rattle.std.specs.Prelude.{ℕ, zero, suc, ◌+◌, ◌-◌, min, max, Bool, cond, ◌&&◌, ◌||◌, ◌==◌, List, [], ◌∷◌, map, Option, Some, None}
use Rattle.std.specs.List.{filter, flat_map, list_any, range_with_len}
use Rattle.board_base.specs.Board.{is_in, opponent, rank, same_colour, same_kind}
use Rattle.board_base.specs.Legal.{last_rank}
use Rattle.board_base.specs.declared.men.Colour.{Colour}
use Rattle.board_base.specs.declared.men.Kind.{Kind}
use Rattle.board_base.specs.declared.men.Kind.TheVariants.{Pawn, Knight, Bishop, Rook, Queen, King}
use Rattle.board_base.specs.declared.men.Man.{Man}
use Rattle.cage_rules.specs.Regions.{region}
use Rattle.men_fates.specs.Ways.{fee, is_pawn_step, toll, way_end}
use Rattle.men_fates.specs.Fates.{brings, may_fall}
use Rattle.capture_prices.specs.Prices.{PriceList, gate, take}

-- more than anything costs: it stands where something can't be
abbrev pub never : ℕ
never = 5000

-- the least of these costs, and `never` where there is none
abbrev pub least : List ℕ → ℕ
least [] = never
least (x ∷ xs) = min x (least xs)

-- the greatest of these numbers, and 0 if there is none
abbrev pub greatest : List ℕ → ℕ
greatest [] = 0
greatest (x ∷ xs) = max x (greatest xs)

-- all ways of n squares from s
unfoldable pub ways_with_len : Colour → List Bool → ℕ → ℕ → List (List ℕ)
ways_with_len c set zero s = [] ∷ []
ways_with_len c set (suc n) s = flat_map (λ t. map (λ way. t ∷ way) (ways_with_len c set n t)) (filter (is_pawn_step c set s) (range_with_len 0 64))

-- all ways from s: each square is a rank ahead, so none has more than seven
unfoldable pub ways_from : Colour → List Bool → ℕ → List (List ℕ)
ways_from c set s = flat_map (λ n. ways_with_len c set n s) (range_with_len 0 8)

-- what a man of this colour who is taken on s earns: what an enemy pawn pays there, if one may take him, else nothing
abbrev pub earned : PriceList → List Bool → Colour → ℕ → ℕ
earned p set c s = cond (may_fall set c s) (take p (opponent c) s) 0

-- the greatest of what f tells of the squares that pass the test
unfoldable pub greatest_on : (ℕ → Bool) → (ℕ → ℕ) → ℕ
greatest_on among f = greatest (map f (filter among (range_with_len 0 64)))

-- what he earns at most on the squares that pass the test
abbrev pub most_earned : PriceList → List Bool → Colour → (ℕ → Bool) → ℕ
most_earned p set c among = greatest_on among (earned p set c)

-- a way from h brings a pawn to s as one of the officers that he may become
abbrev pub brings_officer : List Bool → Colour → ℕ → List ℕ → ℕ → Bool
brings_officer set c h way s = list_any (λ k. brings set c h way k s) (Knight ∷ Bishop ∷ Rook ∷ Queen ∷ [])

-- what it costs that a pawn went this way from h
abbrev pub way_cost : PriceList → Colour → ℕ → List ℕ → ℕ
way_cost p c h way = 96 + toll (take p c) (gate p) h way

-- What it costs that a pawn went this way from h and was taken then: as a pawn where it ends, and then no gate counts, or after the
-- last rank as an officer, wherever that brings him.
abbrev pub loss_cost : PriceList → List Bool → Colour → ℕ → List ℕ → ℕ
loss_cost p set c h way =
    cond (rank (way_end h way) == last_rank c) (way_cost p c h way - most_earned p set c (brings_officer set c h way)) (96 + fee (take p c) h way - earned p set c (way_end h way))

-- what it costs at least that the pawn of h stands on s as a man of this kind
unfoldable pub pawn_stands : PriceList → List Bool → Colour → ℕ → Kind → ℕ → ℕ
pawn_stands p set c h k s = least (map (way_cost p c h) (filter (λ way. brings set c h way k s) (ways_from c set h)))

-- what it costs at least that the pawn of h is gone
unfoldable pub pawn_gone : PriceList → List Bool → Colour → ℕ → ℕ
pawn_gone p set c h = least (map (loss_cost p set c h) (ways_from c set h))

-- That the man of h, who is no pawn, stands on s as a man of this kind costs nothing if he may: he is what he was, and stands in his
-- region, where he isn't the king.
abbrev pub piece_stands : List Bool → Kind → ℕ → Kind → ℕ → ℕ
piece_stands set first h k s = cond (same_kind first k && (same_kind first King || is_in (region set h) s)) 96 never

-- what it costs at least that the man of h, who is no pawn, is gone: what he earns at most in his region; the king is never gone
abbrev pub piece_gone : PriceList → List Bool → Colour → Kind → ℕ → ℕ
piece_gone p set c first h = cond (same_kind first King) never (96 - most_earned p set c (is_in (region set h)))

-- that the man of h stands on s as a man of this kind, where he is of this kind in the array; a man of the set stands where he began
abbrev pub stands_as : PriceList → List Bool → Colour → Kind → ℕ → Kind → ℕ → ℕ
stands_as p set c first h k s =
    cond (is_in set h || is_in set s) (cond (h == s) 96 never) (cond (same_kind first Pawn) (pawn_stands p set c h k s) (piece_stands set first h k s))

-- that he is gone; a man of the set never is
abbrev pub gone_as : PriceList → List Bool → Colour → Kind → ℕ → ℕ
gone_as p set c first h = cond (is_in set h) never (cond (same_kind first Pawn) (pawn_gone p set c h) (piece_gone p set c first h))

-- What it costs at least that the man on this place of s began on h, where this stood in the array; `never` where none of this colour did.
abbrev pub stands : PriceList → List Bool → Colour → Option Man → ℕ → Option Man → ℕ → ℕ
stands p set c None h place s = never
stands p set c (Some first) h None s = never
stands p set c (Some first) h (Some man) s = cond (same_colour c first.colour) (stands_as p set c first.kind h man.kind s) never

-- what it costs at least that the man who began on h, where this stood in the array, is gone; `never` where none of this colour did
abbrev pub gone : PriceList → List Bool → Colour → Option Man → ℕ → ℕ
gone p set c None h = never
gone p set c (Some first) h = cond (same_colour c first.colour) (gone_as p set c first.kind h) never
