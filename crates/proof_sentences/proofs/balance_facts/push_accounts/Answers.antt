use Rattle.std.proofs.Common.{◌≡◌, ◌++◌, subst}
use Rattle.std.specs.Prelude.{IfOk}
use Rattle.capture_prices.specs.Prices.{all_gates}
use Rattle.query_base.specs.Asked.{Asked}
use Rattle.proof_sentences.specs.Sentences.{account_words}
use Rattle.proof_sentences.proofs.balance_facts.push_accounts.Goals as goal

pub returns : goal.returns
returns c =
    subst (λ (q : Asked). IfOk c.push_account.result (λ _. c.push_account.new.out.items ≡ c.args.out.now.items ++ account_words c.args.numbers q.odds (all_gates c.args.prices.now) c.args.white c.args.black)) c.query.view_is
    (rw c.all_gates-gates.ensures at c.push_account.ensures)
