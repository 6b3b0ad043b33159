use Rattle.command_answers.proofs.studies.answer_query.Goals as goal

pub study-requires-clause-budget : goal.study-requires-clause-budget
study-requires-clause-budget c = record { shallow = c.args.limits.shallow; some_nodes = c.args.limits.some; few_nodes = c.args.limits.few }
