use Rattle.std.proofs.Common.{ℕ, Bool, List, ◌<◌, length, [], subst, arith, ◌∙◌}
use Rattle.std.specs.Prelude.{slice_index_or}
use Rattle.std.proofs.lemmas.List.{length-set}
use Rattle.ledger_search.specs.Learning.{Finds}
use Rattle.ledger_search.specs.declared.questions.Question.TheVariants.{Home}
use Rattle.ledger_search.proofs.Found.{filled-more}
use Rattle.ledger_search.proofs.learning.more_homes.Goals as goal

pub loop-i-preserved : goal.loop-i-preserved
loop-i-preserved c =
    let q = c.args.query.now in
    let set = c.args.account.now.set in
    let p = c.args.account.now.prices in
    let old = c.args.homes.now in
    let inside : c.loop-i.i < length c.loop-i.all = omega (arith, c.loop-i-test.true, c.loop-i.invariant.size) in
    record {
      size = length-set c.loop-i.all c.loop-i.i c.more.result ∙ c.loop-i.invariant.size;
      done = filled-more (λ (s : ℕ) (found : List Bool). Finds (Home s) q set p (slice_index_or old s []) found) c.loop-i.all c.loop-i.i c.more.result [] inside c.loop-i.invariant.done (subst (λ (found : List Bool). Finds (Home c.loop-i.i) q set p found c.more.result) c.homes_on-found.ensures (subst (λ (s : ℕ). Finds (Home s) q set p c.homes_on-found.result c.more.result) c.known.ensures c.more.ensures));
    }

pub returns : goal.returns
returns c = λ s low. let past = c.loop-i.auto.i-end in c.loop-i.invariant.done s (omega (arith, low))
