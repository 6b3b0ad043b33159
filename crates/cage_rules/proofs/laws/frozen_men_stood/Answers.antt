use Rattle.cage_rules.proofs.FrozenLabels.{keep-labels}
use Rattle.cage_rules.proofs.Histories.{as-array, reaches-leads, stood-so}
use Rattle.cage_rules.proofs.laws.frozen_men_stood.Goals as goal

pub returns-clause-stood : goal.returns-clause-stood
returns-clause-stood c = stood-so

pub returns-clause-as_array : goal.returns-clause-as_array
returns-clause-as_array c = as-array

pub returns-clause-labels : goal.returns-clause-labels
returns-clause-labels c = keep-labels

pub returns-clause-reached : goal.returns-clause-reached
returns-clause-reached c = reaches-leads
