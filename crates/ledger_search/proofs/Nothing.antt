-- Where nothing is said, all that is said is ruled out.
use Rattle.std.proofs.Common.{◌≡◌, Bool, List, ap, subst, sym, ◌∙◌, arith}
use Rattle.std.proofs.lemmas.Bool.{both_ways}
use Rattle.std.proofs.lemmas.List.{get_or-replicate}
use Rattle.std.proofs.Math.ListN.{replicate}
use Rattle.board_base.specs.Board.{is_in}
use Rattle.board_base.specs.Squares.{squares_of}
use Rattle.board_base.specs.declared.men.Colour.{Colour}
use Rattle.cage_rules.proofs.Filling.{none-in-zero}
use Rattle.query_base.specs.Asked.{Asked}
use Rattle.ledger_facts.specs.declared.suppositions.Squares.{Squares}
use Rattle.ledger_search.specs.Ledgers.{AreCounts, IsLeast, IsRange}
use Rattle.ledger_search.specs.Questions.{AreDenied}
use Rattle.ledger_search.specs.declared.questions.Question.{Question}

pub none-denied : (question : Question) (q : Asked) (found : List Bool) → found ≡ squares_of 0 → AreDenied question q found
none-denied question q found empty = λ s low there. absurd (both_ways _ (ap (λ (l : List Bool). is_in l s) empty ∙ none-in-zero s) there)

no-least : (side : Colour) (squares : Squares) (q : Asked) → IsLeast side squares q 0
no-least side squares q = record { few = omega arith; refuted = λ m low. absurd (omega (arith, low)) }

no-range : (side : Colour) (squares : Squares) (q : Asked) → IsRange side squares q (record { least = 0; most = 16 })
no-range side squares q = record { least = no-least side squares q; most = record { few = omega arith; refuted = λ m more high. absurd (omega (arith, more, high)) } }

pub no-counts : (side : Colour) (q : Asked) → AreCounts side q (record { all = record { least = 0; most = 16 }; dark = record { least = 0; most = 16 }; light = record { least = 0; most = 16 }; least_on = replicate 16 0 })
no-counts side q = record {
  all = no-range side _ q;
  dark = no-range side _ q;
  light = no-range side _ q;
  least_on = λ k low. subst (IsLeast side _ q) (sym (get_or-replicate 16 k 0 0 low)) (no-least side _ q);
}
