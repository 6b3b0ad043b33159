use Rattle.length_bound.proofs.OneLength.{no_bar, one_said, one_text}
use Rattle.length_bound.proofs.text_laws.one_length_text_each.Goals as goal

pub returns-clause-equal : goal.returns-clause-equal
returns-clause-equal c = one_text

pub returns-clause-said : goal.returns-clause-said
returns-clause-said c = one_said

pub returns-clause-plain : goal.returns-clause-plain
returns-clause-plain c = no_bar
