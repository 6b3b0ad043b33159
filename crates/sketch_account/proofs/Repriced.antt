-- What is known of a side at other prices.
use Rattle.std.proofs.Common.{◌≡◌, ℕ, ◌+◌, ◌<◌, Bool, true, List, [], slice_index, slice_index_or, sym, subst, ◌∙◌}
use Rattle.std.specs.Prelude.{Some}
use Rattle.board_base.specs.Board.{array_of, at, is_in}
use Rattle.board_base.specs.Legal.{is_officer}
use Rattle.board_base.specs.declared.men.Colour.{Colour}
use Rattle.board_base.specs.declared.men.Kind.TheVariants.{Knight, Bishop, Rook, Queen}
use Rattle.board_base.specs.declared.men.Man.{Man}
use Rattle.capture_prices.specs.Prices.{PriceList}
use Rattle.balance_rule.specs.Costs.{most_earned}
use Rattle.balance_rule.specs.Grounds.{IsGround as IsOpenGround}
use Rattle.balance_rule.specs.LeastWays.{seen_by}
use Rattle.balance_rule.proofs.Earned.{greatest-same}
use Rattle.sketch_grounds.specs.Zones.{Room}
use Rattle.sketch_account.specs.Grounds.{AreRooms, IsGround, comes_promoted}
use Rattle.sketch_account.specs.declared.grounds.Ground.{Ground}

module _ (o : List Bool) (p q : PriceList) (R : Room) (old new : Ground) (side : new.base.side ≡ old.base.side) (wall : new.base.frozen ≡ old.base.frozen) (rooms : new.rooms ≡ old.rooms) (knights : new.knights ≡ old.knights) (bishops : new.bishops ≡ old.bishops) (rooks : new.rooks ≡ old.rooks) (queens : new.queens ≡ old.queens) (promoted : new.promoted ≡ old.promoted) where
  -- the rooms from home of a side
  abbrev Homes : Colour → List (List Bool) → Type 0
  Homes c sets = (f s : ℕ) (none : List Bool) (m : Man) → f < 8 → s < 64 → at (array_of o) (seen_by c f) ≡ Some m → is_officer m.kind ≡ true → is_in (slice_index_or sets f none) s ≡ R (Some m) (seen_by c f) s

  abbrev Promoted : Colour → List (List Bool) → Type 0
  Promoted c sets = (f s : ℕ) → f < 8 → s < 64 → is_in (slice_index_or sets f []) s ≡ comes_promoted R c (seen_by c (56 + f)) s

  pub repriced : IsOpenGround o q new.base → ((f : ℕ) → f < 8 → slice_index new.most_at_home f ≡ most_earned q new.base.frozen new.base.side (is_in (slice_index_or new.rooms f []))) → ((f : ℕ) → f < 8 → slice_index new.most_promoted f ≡ most_earned q new.base.frozen new.base.side (is_in (slice_index_or new.promoted f []))) → IsGround o p R old → IsGround o q R new
  repriced base home last was =
      let homes : Homes new.base.side new.rooms = subst (λ (d : Colour). Homes d new.rooms) (sym side) (subst (Homes old.base.side) (sym rooms) was.rooms) in
      let ends : Promoted new.base.side new.promoted = subst (λ (d : Colour). Promoted d new.promoted) (sym side) (subst (Promoted old.base.side) (sym promoted) was.promoted) in
      record {
        base = base;
        rooms = homes;
        knights = subst (λ (d : Colour). AreRooms R d Knight new.knights) (sym side) (subst (AreRooms R old.base.side Knight) (sym knights) was.knights);
        bishops = subst (λ (d : Colour). AreRooms R d Bishop new.bishops) (sym side) (subst (AreRooms R old.base.side Bishop) (sym bishops) was.bishops);
        rooks = subst (λ (d : Colour). AreRooms R d Rook new.rooks) (sym side) (subst (AreRooms R old.base.side Rook) (sym rooks) was.rooks);
        queens = subst (λ (d : Colour). AreRooms R d Queen new.queens) (sym side) (subst (AreRooms R old.base.side Queen) (sym queens) was.queens);
        promoted = ends;
        most_at_home = λ f m low there officer. home f low ∙ greatest-same (is_in (slice_index_or new.rooms f [])) (R (Some m) (seen_by new.base.side f)) _ (λ s inside. homes f s [] m low inside there officer);
        most_promoted = λ f low. last f low ∙ greatest-same (is_in (slice_index_or new.promoted f [])) (comes_promoted R new.base.side (seen_by new.base.side (56 + f))) _ (λ s inside. ends f s low inside);
      }
