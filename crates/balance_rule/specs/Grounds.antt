-- What is known of a side before its men are looked at.
use Rattle.std.specs.Prelude.{ℕ, ◌≡◌, ◌<◌, ◌+◌, Bool, false, ◌||◌, IsTrue, List, [], slice_index, slice_index_or}
use Rattle.board_base.specs.Board.{array_of, is_in, man}
use Rattle.board_base.specs.declared.men.Colour.{Colour}
use Rattle.board_base.specs.declared.men.Kind.{Kind}
use Rattle.board_base.specs.declared.men.Kind.TheVariants.{Knight, Bishop, Rook, Queen}
use Rattle.cage_rules.specs.Regions.{is_officer_home, region, region_from}
use Rattle.cage_rules.specs.Sets.{squares_that}
use Rattle.men_fates.specs.Fates.{may_fall}
use Rattle.capture_prices.specs.Prices.{PriceList, are_prices}
use Rattle.balance_rule.specs.Costs.{most_earned}
use Rattle.balance_rule.specs.LeastWays.{IsReach, seen_by}
use Rattle.balance_rule.specs.Tariffs.{IsTariff}
use Rattle.balance_rule.specs.declared.grounds.Ground.{Ground}
use Rattle.balance_rule.specs.declared.reaches.Reach.{Reach}

-- these are the regions of an officer of this kind from the squares of the last rank
abbrev pub ArePromoted : List Bool → Colour → Kind → List (List Bool) → Type 0
ArePromoted set c k regions = (f : ℕ) → f < 8 → slice_index_or regions f [] ≡ region_from set (man c k) (seen_by c (56 + f))

-- a pawn who is promoted on t may come to s
abbrev pub comes_promoted : List Bool → Colour → ℕ → ℕ → Bool
comes_promoted set c t s = is_in (region_from set (man c Knight) t) s || is_in (region_from set (man c Bishop) t) s || is_in (region_from set (man c Rook) t) s || is_in (region_from set (man c Queen) t) s

-- what is told of a side's homes and of its last rank, file by file as the side sees them
pub record IsGround (o : List Bool) (p : PriceList) (g : Ground) : Type 0 where
  pub known : IsTrue (are_prices p)
  pub first : g.first ≡ array_of o
  pub tariff : IsTariff p g.frozen g.side g.tariff
  pub reaches : (f : ℕ) (none : Reach) → f < 8 → is_in g.frozen (seen_by g.side (8 + f)) ≡ false → IsReach p g.frozen g.side (seen_by g.side (8 + f)) (slice_index_or g.reaches f none)
  pub regions : (f : ℕ) → f < 8 → IsTrue (is_officer_home (seen_by g.side f)) → slice_index_or g.regions f [] ≡ region g.frozen (seen_by g.side f)
  pub knights : ArePromoted g.frozen g.side Knight g.knights
  pub bishops : ArePromoted g.frozen g.side Bishop g.bishops
  pub rooks : ArePromoted g.frozen g.side Rook g.rooks
  pub queens : ArePromoted g.frozen g.side Queen g.queens
  pub exposed : g.exposed ≡ squares_that (may_fall g.frozen g.side)
  pub promoted : (f s : ℕ) → f < 8 → s < 64 → is_in (slice_index_or g.promoted f []) s ≡ comes_promoted g.frozen g.side (seen_by g.side (56 + f)) s
  pub most_at_home : (f : ℕ) → f < 8 → IsTrue (is_officer_home (seen_by g.side f)) → slice_index g.most_at_home f ≡ most_earned p g.frozen g.side (is_in (region g.frozen (seen_by g.side f)))
  pub most_promoted : (f : ℕ) → f < 8 → slice_index g.most_promoted f ≡ most_earned p g.frozen g.side (comes_promoted g.frozen g.side (seen_by g.side (56 + f)))
