use Rattle.std.proofs.Common.{◌∙◌}
use Rattle.retro_search.proofs.searchers.Searcher.refute.Goals as goal

pub returns-clause-low : goal.returns-clause-low
returns-clause-low c by = c.outcome_of.ensures.low (c.self.view_is ∙ by)

pub returns-clause-priced : goal.returns-clause-priced
returns-clause-priced c by some e = c.outcome_of.ensures.priced (c.self.view_is ∙ by) some e

pub returns-clause-exactly : goal.returns-clause-exactly
returns-clause-exactly c by = c.outcome_of.ensures.exactly (c.self.view_is ∙ by)
