use Rattle.std.proofs.Common.{rules, ◌<◌, sym, ◌∙◌, arith}
use Rattle.length_bound.proofs.Stepping.{steps-most}
use Rattle.length_bound.proofs.Direct.{steps-direct}
use Rattle.length_bound.proofs.walks.steps.Goals as goal

pub returns-clause-value : goal.returns-clause-value
returns-clause-value c =
    let from : c.args.from < 64 = search rules in
    let to : c.args.to < 64 = search rules in
    c.direct_steps.ensures ∙ sym (steps-direct c.args.kind c.args.from c.args.to c.requires from to)

pub returns-clause-small : goal.returns-clause-small
returns-clause-small c =
    let from : c.args.from < 64 = search rules in
    let to : c.args.to < 64 = search rules in
    let value = c.direct_steps.ensures ∙ sym (steps-direct c.args.kind c.args.from c.args.to c.requires from to) in
    omega (arith, value, steps-most c.args.kind c.args.from c.args.to)
