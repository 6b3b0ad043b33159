-- A ledger that has learnt from an account says no less, and what it says is ruled out.
use Rattle.std.proofs.Common.{◌≡◌, ℕ, ◌<◌, Bool, List, [], subst, sym, arith}
use Rattle.std.specs.Prelude.{slice_index, slice_index_or}
use Rattle.board_base.specs.declared.men.Colour.{Colour}
use Rattle.capture_prices.specs.Prices.{PriceList}
use Rattle.query_base.specs.Asked.{Asked}
use Rattle.price_search.specs.FlatPrices.{flat_prices}
use Rattle.price_search.specs.declared.payers.Payers.{Payers}
use Rattle.price_search.specs.declared.payers.Payers.TheVariants.{Both, WhiteAlone, BlackAlone}
use Rattle.ledger_facts.specs.Refuted.{IsRefuted}
use Rattle.ledger_facts.specs.declared.suppositions.Squares.{Squares}
use Rattle.ledger_facts.specs.declared.suppositions.Supposition.{Supposition}
use Rattle.ledger_search.specs.Learning.{CountsOn, Finds, FindsFates, Grows, Learns, Lowers, Narrows, Raises}
use Rattle.ledger_search.specs.Ledgers.{AreCounts, AreFates, HasAll, HasCounts, HasFates, HasRange, IsAbove, IsBelow, IsLedger, IsRange}
use Rattle.ledger_search.specs.Questions.{HasRefuted}
use Rattle.ledger_search.specs.declared.counts.Counts.{Counts}
use Rattle.ledger_search.specs.declared.counts.Range.{Range}
use Rattle.ledger_search.specs.declared.ledgers.Fates.{Fates}
use Rattle.ledger_search.specs.declared.ledgers.Ledger.{Ledger}
use Rattle.ledger_search.specs.declared.questions.Question.{Question}

module _ (q : Asked) (set : List Bool) (p : PriceList) where
  sound-range : (side : Colour) (squares : Squares) (old new : Range) → Narrows side squares q set p old new → IsRange side squares q old → IsRange side squares q new
  sound-range side squares old new it before = record { least = it.least.sound before.least; most = it.most.sound before.most }

  sound-counts : (side : Colour) (old new : Counts) → CountsOn side q set p old new → AreCounts side q old → AreCounts side q new
  sound-counts side old new it before = record {
    all = sound-range side _ old.all new.all it.all before.all;
    dark = sound-range side _ old.dark new.dark it.dark before.dark;
    light = sound-range side _ old.light new.light it.light before.light;
    least_on = λ k low. (it.least_on k low).sound (before.least_on k low);
  }

  sound-fates : (old new : Fates) → FindsFates q set p old new → AreFates q old → AreFates q new
  sound-fates old new it before = record {
    stands = it.stands.sound before.stands;
    stands_promoted = it.stands_promoted.sound before.stands_promoted;
    taken = it.taken.sound before.taken;
    struck = it.struck.sound before.struck;
    taken_promoted = it.taken_promoted.sound before.taken_promoted;
    struck_promoted = it.struck_promoted.sound before.struck_promoted;
  }

  sound-ledger : (old new : Ledger) → Learns q set p old new → IsLedger q old → IsLedger q new
  sound-ledger old new it before = record {
    homes = λ s low. (it.homes s low).sound (before.homes s low);
    captured = it.captured.sound before.captured;
    straight = it.straight.sound before.straight;
    fates = sound-fates old.fates new.fates it.fates before.fates;
    white = sound-counts _ old.white new.white it.white before.white;
    black = sound-counts _ old.black new.black it.black before.black;
  }

  has-range : (side : Colour) (squares : Squares) (old new : Range) → Narrows side squares q set p old new → HasRange side squares q set p new
  has-range side squares old new it = record { least = it.least.has; most = it.most.has }

  has-counts : (side : Colour) (old new : Counts) → CountsOn side q set p old new → HasCounts side q set p new
  has-counts side old new it = record {
    all = has-range side _ old.all new.all it.all;
    dark = has-range side _ old.dark new.dark it.dark;
    light = has-range side _ old.light new.light it.light;
    least_on = λ k low. (it.least_on k low).has;
  }

  has-fates : (old new : Fates) → FindsFates q set p old new → HasFates q set p new
  has-fates old new it = record {
    stands = it.stands.has;
    stands_promoted = it.stands_promoted.has;
    taken = it.taken.has;
    struck = it.struck.has;
    taken_promoted = it.taken_promoted.has;
    struck_promoted = it.struck_promoted.has;
  }

  pub has-ledger : (old new : Ledger) → Learns q set p old new → HasAll q set p new
  has-ledger old new it = record {
    homes = λ s low. (it.homes s low).has;
    captured = it.captured.has;
    straight = it.straight.has;
    fates = has-fates old.fates new.fates it.fates;
    white = has-counts _ old.white new.white it.white;
    black = has-counts _ old.black new.black it.black;
  }

  -- what other prices refute stays
  module _ (other : List Bool) (r : PriceList) where
    stay : (question : Question) (old new : List Bool) → Finds question q set p old new → HasRefuted question q other r old → HasRefuted question q other r new
    stay question old new it before = λ s low asked refuted. it.stays s low (before s low asked refuted)

    stay-above : (side : Colour) (squares : Squares) (old new : ℕ) → Raises side squares q set p old new → IsAbove side squares q other r old → IsAbove side squares q other r new
    stay-above side squares old new it before = λ m low refuted. let less : m < old = before m low refuted in omega (arith, it.stays)

    stay-below : (side : Colour) (squares : Squares) (old new : ℕ) → Lowers side squares q set p old new → IsBelow side squares q other r old → IsBelow side squares q other r new
    stay-below side squares old new it before = λ m some high refuted. let less : old < m = before m some high refuted in omega (arith, it.stays)

    stay-range : (side : Colour) (squares : Squares) (old new : Range) → Narrows side squares q set p old new → HasRange side squares q other r old → HasRange side squares q other r new
    stay-range side squares old new it before = record { least = stay-above side squares old.least new.least it.least before.least; most = stay-below side squares old.most new.most it.most before.most }

    stay-counts : (side : Colour) (old new : Counts) → CountsOn side q set p old new → HasCounts side q other r old → HasCounts side q other r new
    stay-counts side old new it before = record {
      all = stay-range side _ old.all new.all it.all before.all;
      dark = stay-range side _ old.dark new.dark it.dark before.dark;
      light = stay-range side _ old.light new.light it.light before.light;
      least_on = λ k low. stay-above side _ (slice_index old.least_on k) (slice_index new.least_on k) (it.least_on k low) (before.least_on k low);
    }

    stay-fates : (old new : Fates) → FindsFates q set p old new → HasFates q other r old → HasFates q other r new
    stay-fates old new it before = record {
      stands = stay _ old.stands new.stands it.stands before.stands;
      stands_promoted = stay _ old.stands_promoted new.stands_promoted it.stands_promoted before.stands_promoted;
      taken = stay _ old.taken new.taken it.taken before.taken;
      struck = stay _ old.struck new.struck it.struck before.struck;
      taken_promoted = stay _ old.taken_promoted new.taken_promoted it.taken_promoted before.taken_promoted;
      struck_promoted = stay _ old.struck_promoted new.struck_promoted it.struck_promoted before.struck_promoted;
    }

    stay-ledger : (old new : Ledger) → Learns q set p old new → HasAll q other r old → HasAll q other r new
    stay-ledger old new it before = record {
      homes = λ s low. stay _ (slice_index_or old.homes s []) (slice_index_or new.homes s []) (it.homes s low) (before.homes s low);
      captured = stay _ old.captured new.captured it.captured before.captured;
      straight = stay _ old.straight new.straight it.straight before.straight;
      fates = stay-fates old.fates new.fates it.fates before.fates;
      white = stay-counts _ old.white new.white it.white before.white;
      black = stay-counts _ old.black new.black it.black before.black;
    }

  pub grows : (old new : Ledger) → Learns q set p old new → Grows q old new
  grows old new it = record {
    sound = sound-ledger old new it;
    stays = λ other r. stay-ledger other r old new it;
  }

pub grown-none : (q : Asked) (old new : Ledger) → new ≡ old → Grows q old new
grown-none q old new same = record {
  sound = λ before. subst (IsLedger q) (sym same) before;
  stays = λ set p before. subst (HasAll q set p) (sym same) before;
}

pub grown-on : (q : Asked) (old middle new : Ledger) → Grows q old middle → Grows q middle new → Grows q old new
grown-on q old middle new first then_ = record {
  sound = λ before. then_.sound (first.sound before);
  stays = λ set p before. then_.stays set p (first.stays set p before);
}

-- prices that refute nothing have all that they refute in any ledger
module _ (q : Asked) (set : List Bool) (p : PriceList) (none : (x : Supposition) → IsRefuted x q set p → ⊥) where
  none-range : (side : Colour) (squares : Squares) (range : Range) → HasRange side squares q set p range
  none-range side squares range = record { least = λ m low it. absurd (none _ it); most = λ m some high it. absurd (none _ it) }

  none-counts : (side : Colour) (counts : Counts) → HasCounts side q set p counts
  none-counts side counts = record {
    all = none-range side _ counts.all;
    dark = none-range side _ counts.dark;
    light = none-range side _ counts.light;
    least_on = λ k inside m low it. absurd (none _ it);
  }

  pub has-none : (l : Ledger) → HasAll q set p l
  has-none l = record {
    homes = λ s inside h low asked it. absurd (none _ it);
    captured = λ s low asked it. absurd (none _ it);
    straight = λ s low asked it. absurd (none _ it);
    fates = record {
      stands = λ s low asked it. absurd (none _ it);
      stands_promoted = λ s low asked it. absurd (none _ it);
      taken = λ s low asked it. absurd (none _ it);
      struck = λ s low asked it. absurd (none _ it);
      taken_promoted = λ s low asked it. absurd (none _ it);
      struck_promoted = λ s low asked it. absurd (none _ it);
    };
    white = none-counts _ l.white;
    black = none-counts _ l.black;
  }

pub all-flat : (q : Asked) (set : List Bool) (l : Ledger) → HasAll q set (flat_prices Both) l → HasAll q set (flat_prices WhiteAlone) l → HasAll q set (flat_prices BlackAlone) l → (payers : Payers) → HasAll q set (flat_prices payers) l
all-flat q set l both white black Both = both
all-flat q set l both white black WhiteAlone = white
all-flat q set l both white black BlackAlone = black
