-- What an account's prices refute is ruled out.
use Rattle.std.proofs.Common.{◌≡◌, ℕ, ◌<◌, ◌≤◌, ◌⊎◌, inl, inr, Bool, List, max, min, arith}
use Rattle.std.specs.Prelude.{◌↔◌, IsTrue}
use Rattle.std.proofs.lemmas.Bool.{cases_lt}
use Rattle.board_base.specs.Board.{array_of, is_in}
use Rattle.board_base.specs.declared.men.Colour.{Colour}
use Rattle.capture_prices.specs.Prices.{PriceList}
use Rattle.query_base.specs.Asked.{Asked}
use Rattle.ledger_facts.specs.Refuted.{IsRefuted}
use Rattle.ledger_facts.specs.declared.suppositions.Squares.{Squares}
use Rattle.ledger_facts.specs.declared.suppositions.Supposition.TheVariants.{AtMost, AtLeast}
use Rattle.ledger_search.specs.Learning.{Finds, Lowers, Raises}
use Rattle.ledger_search.specs.Questions.{about, is_asked}
use Rattle.ledger_search.specs.declared.questions.Question.{Question}

module _ (q : Asked) (set : List Bool) (p : PriceList) where
  -- the square was found already, or the question is asked of it and the prices refute the answer
  abbrev pub IsFoundAt : Question → List Bool → ℕ → Type 0
  IsFoundAt question old s = IsTrue (is_in old s) ⊎ (IsTrue (is_asked question q.board (array_of q.odds) s) × IsRefuted (about question s) q set p)

  pub finds : (question : Question) (old new : List Bool) → ((s : ℕ) → s < 64 → IsTrue (is_in new s) ↔ IsFoundAt question old s) → Finds question q set p old new
  finds question old new each = record {
    sound = λ denied s low there. elim ((each s low).0 there) [
      | inl before ↦ denied s low before
      | inr now ↦ (now.0, (set, p, now.1))
    ];
    stays = λ s low there. (each s low).1 (inl there);
    has = λ s low asked it. (each s low).1 (inr (asked, it));
  }

  module _ (side : Colour) (squares : Squares) (old n new : ℕ) (few : n ≤ 16) where
    pub raises : ((m : ℕ) → m < 16 → (m < n) ↔ IsRefuted (AtMost side squares m) q set p) → new ≡ max old n → Raises side squares q set p old new
    raises told is = record {
      sound = λ before. let low = before.few in record {
        few = omega arith;
        refuted = λ m less. elim (cases_lt m old) [
          | inl there ↦ before.refuted m there
          | inr past ↦ (set, p, (told m (omega arith)).0 (omega arith))
        ];
      };
      stays = omega arith;
      has = λ m low it. let less : m < n = (told m low).1 it in omega arith;
    }

    pub lowers : ((m : ℕ) → 0 < m → m ≤ 16 → (n < m) ↔ IsRefuted (AtLeast side squares m) q set p) → new ≡ min old n → Lowers side squares q set p old new
    lowers told is = record {
      sound = λ before. let low = before.few in record {
        few = omega arith;
        refuted = λ m more high. elim (cases_lt old m) [
          | inl there ↦ before.refuted m there high
          | inr past ↦ (set, p, (told m (omega arith) high).0 (omega arith))
        ];
      };
      stays = omega arith;
      has = λ m some high it. let less : n < m = (told m some high).1 it in omega arith;
    }
