use Rattle.std.proofs.Common.{refl}
use Rattle.diagram_study.proofs.Forcing.{forced_listed, several_found}
use Rattle.diagram_study.proofs.forced.find_steps.Goals as goal

pub seek_line-requires : goal.seek_line-requires
seek_line-requires c = record {
  parts = forced_listed 16 c.args.subject.now.query c.args.subject.now.limits.depth c.args.subject.now.limits.nodes c.args.steps c.requires.forced;
}

pub returns-clause-found : goal.returns-clause-found
returns-clause-found c =
    several_found c.args.subject.now.query c.args.subject.now.limits.depth c.args.subject.now.limits.nodes c.args.steps _ c.requires.forced c.requires.several (record { claim_is = refl; found = c.in_ok-finding.ensures })
