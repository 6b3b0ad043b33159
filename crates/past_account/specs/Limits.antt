-- What is known of how a man came to his square, and what it costs at least that he did so, or that he is gone. Rooms tell where officers can
-- have come from where they began or were promoted.
use Rattle.std.specs.Prelude.{ℕ, ◌+◌, ◌-◌, ◌==◌, Bool, true, cond, ◌&&◌, ◌||◌, not, List, [], ◌∷◌, map, Option, Some, None}
use Rattle.std.specs.List.{filter, list_any}
use Rattle.board_base.specs.Board.{is_in, man, rank, same_colour, same_kind}
use Rattle.board_base.specs.Legal.{is_officer, last_rank}
use Rattle.board_base.specs.declared.men.Colour.{Colour}
use Rattle.board_base.specs.declared.men.Kind.{Kind}
use Rattle.board_base.specs.declared.men.Kind.TheVariants.{Pawn, Knight, Bishop, Rook, Queen, King}
use Rattle.board_base.specs.declared.men.Man.{Man}
use Rattle.men_fates.specs.Ways.{fee, is_straight, way_end}
use Rattle.capture_prices.specs.Prices.{PriceList, take}
use Rattle.balance_rule.specs.Costs.{earned, least, most_earned, never, way_cost, ways_from}
use Rattle.past_account.specs.Zones.{Room}

-- Nothing is known; or that he was never promoted if he is an officer, and never captured if he is a pawn, as a mark says; or that he was
-- promoted, or captured.
pub data Limit : Type 0 where
  any : Limit
  plain : Limit
  other : Limit

-- the limit allows that what a mark says is so true
abbrev pub allows : Limit → Bool → Bool
allows any b = true
allows plain b = b
allows other b = not b

-- the pawn of h comes by such a way as a man of this kind
abbrev pub may_come_by : Limit → ℕ → Kind → List ℕ → Bool
may_come_by limit h k way = allows limit (same_kind Pawn k && is_straight h way)

-- A way from h brings a man of this colour, who began there as a pawn, to s as a man of this kind: as a pawn where it ends, short of the
-- last rank; as an officer where it ends on the last rank, to the squares of his room from there (article 3.7.3.3).
abbrev pub brings_in : Room → Colour → ℕ → List ℕ → Kind → ℕ → Bool
brings_in R c h way k s =
    cond (same_kind Pawn k) ((way_end h way == s) && not (rank s == last_rank c)) ((rank (way_end h way) == last_rank c) && is_officer k && R (man c k) (way_end h way) s)

-- what it costs at least that the pawn of h has come so to s as a man of this kind
unfoldable pub pawn_comes : PriceList → List Bool → Room → Colour → Limit → ℕ → Kind → ℕ → ℕ
pawn_comes p set R c limit h k s = least (map (way_cost p c h) (filter (λ way. may_come_by limit h k way && brings_in R c h way k s) (ways_from c set h)))

-- that the man of h, who is no pawn, has come so to s costs nothing if he may: he is what he was, and has room, where he isn't the king
abbrev pub piece_comes : Room → Colour → Limit → Kind → ℕ → Kind → ℕ → ℕ
piece_comes R c limit first h k s = cond (allows limit true && same_kind first k && (same_kind first King || R (man c first) h s)) 96 never

-- that the man of h has, where he is of this kind in the array; a man of the set stands where he began
abbrev pub comes_as : PriceList → List Bool → Room → Colour → Limit → Kind → ℕ → Kind → ℕ → ℕ
comes_as p set R c limit first h k s =
    cond (is_in set h || is_in set s) (cond (h == s) 96 never) (cond (same_kind first Pawn) (pawn_comes p set R c limit h k s) (piece_comes R c limit first h k s))

-- that the man has who began on h, where this stood in the array; `never` where none of this colour did
abbrev pub comes : PriceList → List Bool → Room → Colour → Limit → Option Man → ℕ → Kind → ℕ → ℕ
comes p set R c limit None h k s = never
comes p set R c limit (Some first) h k s = cond (same_colour c first.colour) (comes_as p set R c limit first.kind h k s) never

-- a way from h brings a pawn to s as one of the officers that he may become
abbrev pub brings_some : Room → Colour → ℕ → List ℕ → ℕ → Bool
brings_some R c h way s = list_any (λ k. brings_in R c h way k s) (Knight ∷ Bishop ∷ Rook ∷ Queen ∷ [])

-- What it costs that a pawn went this way from h and was taken then: as a pawn where it ends, and then no gate counts, or after the last
-- rank as an officer, wherever he had room.
abbrev pub loss_in : PriceList → List Bool → Room → Colour → ℕ → List ℕ → ℕ
loss_in p set R c h way =
    cond (rank (way_end h way) == last_rank c) (way_cost p c h way - most_earned p set c (brings_some R c h way)) (96 + fee (take p c) h way - earned p set c (way_end h way))

-- what it costs at least that the pawn of h is gone, or the man of h, who is no pawn: what he earns at most; the king is never gone
unfoldable pub pawn_lost : PriceList → List Bool → Room → Colour → ℕ → ℕ
pawn_lost p set R c h = least (map (loss_in p set R c h) (ways_from c set h))

abbrev pub piece_lost : PriceList → List Bool → Room → Colour → Kind → ℕ → ℕ
piece_lost p set R c first h = cond (same_kind first King) never (96 - most_earned p set c (R (man c first) h))

-- a man of the set never is
abbrev pub lost_as : PriceList → List Bool → Room → Colour → Kind → ℕ → ℕ
lost_as p set R c first h = cond (is_in set h) never (cond (same_kind first Pawn) (pawn_lost p set R c h) (piece_lost p set R c first h))

-- what it costs at least that the man who began on h, where this stood in the array, is gone; `never` where none of this colour did
abbrev pub lost : PriceList → List Bool → Room → Colour → Option Man → ℕ → ℕ
lost p set R c None h = never
lost p set R c (Some first) h = cond (same_colour c first.colour) (lost_as p set R c first.kind h) never
