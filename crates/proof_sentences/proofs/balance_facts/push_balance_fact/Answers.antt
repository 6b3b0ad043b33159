use Rattle.proof_sentences.specs.Sentences.{balance_fact_words}
use Rattle.proof_sentences.proofs.balance_facts.push_balance_fact.Goals as goal

pub returns-in-Priced : goal.returns-in-Priced
unfolding balance_fact_words
returns-in-Priced c = rw c.in-Priced.is c.push_priced.ensures

pub returns-in-Balanced : goal.returns-in-Balanced
unfolding balance_fact_words
returns-in-Balanced c = rw c.in-Balanced.is c.push_accounts.ensures

pub returns-in-Counted : goal.returns-in-Counted
unfolding balance_fact_words
returns-in-Counted c = rw c.in-Counted.is c.push_counts.ensures
