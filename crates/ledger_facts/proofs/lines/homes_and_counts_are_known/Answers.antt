use Rattle.ledger_facts.proofs.Known.{began-on, has-captured, kept-file, less-than, more-than}
use Rattle.ledger_facts.proofs.lines.homes_and_counts_are_known.Goals as goal

pub returns-clause-homes : goal.returns-clause-homes
returns-clause-homes c = began-on

pub returns-clause-captured : goal.returns-clause-captured
returns-clause-captured c = has-captured

pub returns-clause-straight : goal.returns-clause-straight
returns-clause-straight c = kept-file

pub returns-clause-least : goal.returns-clause-least
returns-clause-least c = more-than

pub returns-clause-most : goal.returns-clause-most
returns-clause-most c = less-than
