-- Inner: no public clause cites this file.
-- What is known of a side before its figures are looked at.
use Rattle.std.specs.Prelude.{ℕ, ◌≡◌, ◌<◌, ◌+◌, Bool, true, ◌||◌, List, [], Some, slice_index, slice_index_or}
use Rattle.board_base.specs.Board.{array_of, at, is_in, man}
use Rattle.board_base.specs.Legal.{is_officer}
use Rattle.board_base.specs.declared.men.Colour.{Colour}
use Rattle.board_base.specs.declared.men.Kind.{Kind}
use Rattle.board_base.specs.declared.men.Kind.TheVariants.{Knight, Bishop, Rook, Queen}
use Rattle.board_base.specs.declared.men.Man.{Man}
use Rattle.capture_prices.specs.Prices.{PriceList}
use Rattle.balance_rule.specs.Costs.{most_earned}
use Rattle.balance_rule.specs.LeastWays.{seen_by}
use Rattle.balance_rule.specs.Grounds.{IsGround as IsOpenGround}
use Rattle.sketch_grounds.specs.Zones.{Room, room_past}
use Rattle.sketch_account.specs.declared.grounds.Ground.{Ground}

-- these are the rooms of an officer of this kind from the squares of the last rank
abbrev pub AreRooms : Room → Colour → Kind → List (List Bool) → Type 0
AreRooms R c k rooms = (f s : ℕ) (none : List Bool) → f < 8 → s < 64 → is_in (slice_index_or rooms f none) s ≡ R (man c k) (seen_by c (56 + f)) s

-- a pawn who is promoted on t may come to s
abbrev pub comes_promoted : Room → Colour → ℕ → ℕ → Bool
comes_promoted R c t s = R (man c Knight) t s || R (man c Bishop) t s || R (man c Rook) t s || R (man c Queen) t s

-- what is told of a side's homes and of its last rank, file by file as the side sees them
pub record IsGround (o : List Bool) (p : PriceList) (R : Room) (g : Ground) : Type 0 where
  pub base : IsOpenGround o p g.base
  pub rooms : (f s : ℕ) (none : List Bool) (m : Man) → f < 8 → s < 64 → at (array_of o) (seen_by g.base.side f) ≡ Some m → is_officer m.kind ≡ true → is_in (slice_index_or g.rooms f none) s ≡ R (Some m) (seen_by g.base.side f) s
  pub knights : AreRooms R g.base.side Knight g.knights
  pub bishops : AreRooms R g.base.side Bishop g.bishops
  pub rooks : AreRooms R g.base.side Rook g.rooks
  pub queens : AreRooms R g.base.side Queen g.queens
  pub promoted : (f s : ℕ) → f < 8 → s < 64 → is_in (slice_index_or g.promoted f []) s ≡ comes_promoted R g.base.side (seen_by g.base.side (56 + f)) s
  pub most_at_home : (f : ℕ) (m : Man) → f < 8 → at (array_of o) (seen_by g.base.side f) ≡ Some m → is_officer m.kind ≡ true → slice_index g.most_at_home f ≡ most_earned p g.base.frozen g.base.side (R (Some m) (seen_by g.base.side f))
  pub most_promoted : (f : ℕ) → f < 8 → slice_index g.most_promoted f ≡ most_earned p g.base.frozen g.base.side (comes_promoted R g.base.side (seen_by g.base.side (56 + f)))

-- this is what is known of the side beside the wall and zones
pub record IsGroundOf (o : List Bool) (p : PriceList) (wall : List Bool) (zones : List (List Bool)) (c : Colour) (g : Ground) : Type 0 where
  pub side : g.base.side ≡ c
  pub wall_is : g.base.frozen ≡ wall
  pub ground : IsGround o p (room_past wall zones) g
