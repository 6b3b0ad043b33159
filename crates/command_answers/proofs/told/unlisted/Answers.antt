use Rattle.std.proofs.Common.{ap, ◌∙◌}
use Rattle.command_answers.specs.Checks.{refusal_line}
use Rattle.command_answers.proofs.told.unlisted.Goals as goal

pub returns : goal.returns
returns c = c.refusal.ensures ∙ ap (refusal_line c.args.number) (c.as_slice.ensures.value ∙ c.unlisted_words.ensures.words)
