use Rattle.std.proofs.Common.{ℕ, List, ap, ◌∙◌}
use Rattle.command_answers.specs.Lines.{line_in, part_line}
use Rattle.command_answers.proofs.told.unlisted_in.Goals as goal

pub returns : goal.returns
returns c =
    c.part_line_refusal.ensures ∙ ap (λ (what : List ℕ). part_line c.args.part (line_in c.args.number what)) (c.as_slice.ensures.value ∙ c.unlisted_words.ensures.words)
