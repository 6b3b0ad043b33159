use Rattle.std.proofs.Common.{◌≡◌, ap, rules, to_z, of_z, w32}
use Rattle.std.proofs.lemmas.Int.{to_z-of_z}
use Rattle.query_base.specs.Asked.{Asked}
use Rattle.static_rules.proofs.Tested.{above-from}
use Rattle.static_rules.proofs.set_rules.is_above_with.Goals as goal

pub returns-in-Some : goal.returns-in-Some
returns-in-Some c =
    let sum : to_z w32 (of_z w32 c.in-Some.sum) ≡ c.in-Some.sum = to_z-of_z w32 c.in-Some.sum (search rules) in
    above-from c.args.query.now c.args.side c.args.set c.args.p.now.u c.args.p.now.v c.args.costs.now c.in-Some.sum c.is_over.result c.query.inside.odds c.array_of.result c.query.inside.board c.other.result (to_z w32 (of_z w32 c.in-Some.sum)) (ap (λ (q : Asked). q.odds) c.query.view_is) c.array_of.ensures (ap (λ (q : Asked). q.board) c.query.view_is) c.other.ensures sum c.requires.few c.requires.costs c.in-Some.ensures.bound c.is_over.ensures
