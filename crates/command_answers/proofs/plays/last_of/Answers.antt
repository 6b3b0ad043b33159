use Rattle.std.proofs.Common.{sym, ◌∙◌}
use Rattle.general_lemmas.proofs.Lasts.{last-get}
use Rattle.command_answers.proofs.plays.last_of.Goals as goal

pub returns : goal.returns
returns c = c.copied.ensures ∙ c.last.ensures.value ∙ sym (last-get c.args.moves.now)
