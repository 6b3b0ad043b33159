use Rattle.cage_rules.proofs.Beginners.{officer-inside}
use Rattle.cage_rules.specs.Regions.{beginner}
use Rattle.cage_rules.proofs.Regions.{least-closed, only-region}
use Rattle.cage_rules.proofs.laws.regions_are_least.Goals as goal

pub returns-clause-least : goal.returns-clause-least
returns-clause-least c = λ set h home. least-closed set (beginner h) h (officer-inside h home)

pub returns-clause-only : goal.returns-clause-only
returns-clause-only c = λ set h found home least. only-region set (beginner h) h found (officer-inside h home) least

pub returns-clause-least_from : goal.returns-clause-least_from
returns-clause-least_from c = least-closed

pub returns-clause-only_from : goal.returns-clause-only_from
returns-clause-only_from c = only-region
