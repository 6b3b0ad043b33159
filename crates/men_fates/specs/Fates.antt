-- Where the men of a side can have come, or can have been taken, while the men of a frozen set stood.
use Rattle.std.specs.Prelude.{ℕ, ◌≡◌, ◌⊎◌, ◌==◌, Bool, cond, ◌&&◌, not, IsTrue, List, [], ◌++◌}
use Rattle.board_base.specs.Board.{is_in, man, rank, same_kind}
use Rattle.board_base.specs.Legal.{is_officer, last_rank}
use Rattle.board_base.specs.declared.men.Colour.{Colour}
use Rattle.board_base.specs.declared.men.Kind.{Kind}
use Rattle.board_base.specs.declared.men.Kind.TheVariants.{Pawn}
use Rattle.cage_rules.specs.Regions.{is_exposed, region_from}
use Rattle.men_fates.specs.Ways.{captures_on, is_way, way_end}

-- Article 3.7: on s, outside the set, an enemy pawn may capture a man of this colour, whatever he is
abbrev pub may_fall : List Bool → Colour → ℕ → Bool
may_fall set c s = not (is_in set s) && is_exposed set (man c Pawn) s

-- A way from h brings a man of this colour, who began there as a pawn, to s as a man of this kind: as a pawn where it ends, short of
-- the last rank; as an officer where it ends on the last rank, to the squares of his region from there (article 3.7.3.3).
abbrev pub brings : List Bool → Colour → ℕ → List ℕ → Kind → ℕ → Bool
brings set c h way k s =
    cond (same_kind Pawn k) ((way_end h way == s) && not (rank s == last_rank c)) ((rank (way_end h way) == last_rank c) && is_officer k && is_in (region_from set (man c k) (way_end h way)) s)

-- A man of this colour, who began on h as a pawn and went this whole way, was taken on s by a pawn: a way that begins the whole way, with
-- the same captures, brings him there. It is the whole way, unless he was taken en passant as he crossed s, and so as a pawn.
pub record FellOn (set : List Bool) (c : Colour) (h : ℕ) (whole : List ℕ) (s : ℕ) : Type 0 where
  pub way : List ℕ
  pub rest : List ℕ
  pub kind : Kind
  pub begins : whole ≡ way ++ rest
  pub crossing : (rest ≡ []) ⊎ (kind ≡ Pawn)
  pub captures : captures_on h way ≡ captures_on h whole
  pub goes : IsTrue (is_way c set h way)
  pub brought : IsTrue (brings set c h way kind s)
