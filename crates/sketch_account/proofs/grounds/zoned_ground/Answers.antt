use Rattle.std.proofs.Common.{◌≡◌, ℕ, ◌+◌, ◌||◌, Bool, List, [], slice_index_or, ap, ◌∙◌, arith}
use Rattle.board_base.specs.Board.{Places, at, is_in, opponent}
use Rattle.capture_prices.specs.Prices.{PriceList, takes}
use Rattle.balance_rule.specs.Costs.{most_earned}
use Rattle.balance_rule.specs.LeastWays.{seen_by}
use Rattle.balance_rule.proofs.Earned.{greatest-same}
use Rattle.balance_rule.proofs.Filled.{any-default}
use Rattle.sketch_grounds.specs.Zones.{Room, room_past}
use Rattle.sketch_account.specs.Grounds.{comes_promoted}
use Rattle.sketch_account.proofs.grounds.zoned_ground.Goals as goal

four : (a b x d a' b' x' d' : List Bool) (s : ℕ) → a ≡ a' → b ≡ b' → x ≡ x' → d ≡ d' → (is_in a s || is_in b s || is_in x s || is_in d s) ≡ (is_in a' s || is_in b' s || is_in x' s || is_in d' s)
four a b x d a' b' x' d' s ea eb ex ed =
    ap (λ (l : List Bool). is_in l s || is_in b s || is_in x s || is_in d s) ea ∙ ap (λ (l : List Bool). is_in a' s || is_in l s || is_in x s || is_in d s) eb
    ∙ ap (λ (l : List Bool). is_in a' s || is_in b' s || is_in l s || is_in d s) ex ∙ ap (λ (l : List Bool). is_in a' s || is_in b' s || is_in x' s || is_in l s) ed

pub returns-clause-ground : goal.returns-clause-ground
returns-clause-ground c = λ o base.
    let b = c.args.base in
    let p : PriceList = c.args.prices.now in
    let R : Room = room_past b.frozen c.args.zones.now in
    let enemy : c.takes-enemy.result.now ≡ takes p (opponent b.side) = c.takes-enemy.ensures.value ∙ ap (takes p) c.other.ensures in
    let first = λ (f : ℕ). ap (λ (places : Places). at places (seen_by b.side f)) base.first in
    record {
      base = base;
      rooms = λ f s none m low inside there officer. ap (λ (l : List Bool). is_in l s) (any-default c.rooms_of-rooms.result f none [] (omega (arith, c.rooms_of-rooms.ensures.size)) ∙ c.rooms_of-rooms.ensures.rooms f m low (first f ∙ there) officer);
      knights = λ f s none low inside. ap (λ (l : List Bool). is_in l s) (any-default c.promoted_of-knights.result f none [] (omega (arith, c.promoted_of-knights.ensures.size)) ∙ c.promoted_of-knights.ensures.rooms f low);
      bishops = λ f s none low inside. ap (λ (l : List Bool). is_in l s) (any-default c.promoted_of-bishops.result f none [] (omega (arith, c.promoted_of-bishops.ensures.size)) ∙ c.promoted_of-bishops.ensures.rooms f low);
      rooks = λ f s none low inside. ap (λ (l : List Bool). is_in l s) (any-default c.promoted_of-rooks.result f none [] (omega (arith, c.promoted_of-rooks.ensures.size)) ∙ c.promoted_of-rooks.ensures.rooms f low);
      queens = λ f s none low inside. ap (λ (l : List Bool). is_in l s) (any-default c.promoted_of-queens.result f none [] (omega (arith, c.promoted_of-queens.ensures.size)) ∙ c.promoted_of-queens.ensures.rooms f low);
      promoted = λ f s low inside. c.some_of-promoted.ensures f s low inside ∙ four _ _ _ _ _ _ _ _ s (c.promoted_of-knights.ensures.rooms f low) (c.promoted_of-bishops.ensures.rooms f low) (c.promoted_of-rooks.ensures.rooms f low) (c.promoted_of-queens.ensures.rooms f low);
      most_at_home = λ f m low there officer.
          c.earned_in_each-most_at_home.ensures p b.frozen b.side base.exposed enemy f low
          ∙ ap (λ (l : List Bool). most_earned p b.frozen b.side (is_in l)) (c.rooms_of-rooms.ensures.rooms f m low (first f ∙ there) officer);
      most_promoted = λ f low.
          c.earned_in_each-most_promoted.ensures p b.frozen b.side base.exposed enemy f low
          ∙ greatest-same (is_in (slice_index_or c.some_of-promoted.result f [])) (comes_promoted R b.side (seen_by b.side (56 + f))) _
          (λ s inside. c.some_of-promoted.ensures f s low inside ∙ four _ _ _ _ _ _ _ _ s (c.promoted_of-knights.ensures.rooms f low) (c.promoted_of-bishops.ensures.rooms f low) (c.promoted_of-rooks.ensures.rooms f low) (c.promoted_of-queens.ensures.rooms f low));
    }
