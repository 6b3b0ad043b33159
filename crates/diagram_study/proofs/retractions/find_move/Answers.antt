use Rattle.diagram_study.proofs.retractions.find_move.Goals as goal

pub returns-clause-found : goal.returns-clause-found
returns-clause-found c = record {
  found = c.joined_up-finding.ensures.found;
  sure = λ some elsewhere. c.joined_up-finding.ensures.sure some elsewhere c.requires.all;
}
