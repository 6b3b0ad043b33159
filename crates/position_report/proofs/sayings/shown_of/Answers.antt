use Rattle.std.proofs.Common.{List, ◌++◌, ap, ◌∙◌, true, false}
use Rattle.std.specs.List.{flat_map}
use Rattle.query_base.specs.declared.claims.Claim.TheVariants.{Illegal}
use Rattle.verdict_prose.specs.declared.verdicts.Verdict.{Verdict}
use Rattle.position_report.specs.Sayings.{has_last, pair_verdicts, right_verdicts, settled_of, shown_of}
use Rattle.position_report.proofs.sayings.shown_of.Goals as goal

pub returns : goal.returns
unfolding shown_of
returns c =
    let f = c.args.found.now in
    let given = has_last c.args.query.now in
    let own = (rw c.has_last-given.ensures at c.in_ok-add_settled.ensures) ∙ ap (λ (l : List Verdict). l ++ settled_of given f.illegal.finding Illegal) c.new-verdicts.ensures.items in
    let castlings = (rw (c.as_slice.ensures.value, c.has_last-given.ensures) at c.in_ok-add_rights.ensures) ∙ ap (λ (l : List Verdict). l ++ flat_map (right_verdicts true given) f.rights.items) own in
    let pairs = (rw c.as_slice-2.ensures.value at c.in_ok-add_pairs.ensures) ∙ ap (λ (l : List Verdict). l ++ flat_map pair_verdicts f.pairs.items) castlings in
    (rw (c.as_slice-3.ensures.value, c.has_last-given.ensures) at c.in_ok-add_rights-2.ensures) ∙ ap (λ (l : List Verdict). l ++ flat_map (right_verdicts false given) f.rights.items) pairs
