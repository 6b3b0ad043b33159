use Rattle.std.proofs.Common.{[], true, false, subst, sym}
use Rattle.std.proofs.lemmas.List.{get_or-replicate}
use Rattle.board_base.specs.declared.men.Colour.TheVariants.{White, Black}
use Rattle.ledger_search.specs.Questions.{AreDenied}
use Rattle.ledger_search.specs.declared.questions.Question.TheVariants.{Home, Way, Stay, Loss}
use Rattle.ledger_search.proofs.Nothing.{no-counts, none-denied}
use Rattle.ledger_search.proofs.ledgers.no_ledger.Goals as goal

pub returns : goal.returns
returns c = λ q.
    let none = c.from_bits-none.result in
    let empty = c.from_bits-none.ensures.squares in
    record {
      homes = λ s low. subst (AreDenied (Home s) q) (sym (get_or-replicate 64 s none [] low)) (none-denied (Home s) q none empty);
      captured = none-denied (Way true) q none empty;
      straight = none-denied (Way false) q none empty;
      fates = record {
        stands = none-denied (Stay false) q none empty;
        stands_promoted = none-denied (Stay true) q none empty;
        taken = none-denied (Loss false false) q none empty;
        struck = none-denied (Loss false true) q none empty;
        taken_promoted = none-denied (Loss true false) q none empty;
        struck_promoted = none-denied (Loss true true) q none empty;
      };
      white = no-counts White q;
      black = no-counts Black q;
    }
