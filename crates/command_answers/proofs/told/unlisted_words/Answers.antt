use Rattle.std.proofs.Common.{ℕ, List, ◌++◌, ap, ◌∙◌}
use Rattle.std.specs.Prelude.{codes}
use Rattle.command_answers.proofs.told.unlisted_words.Goals as goal

pub returns-clause-words : goal.returns-clause-words
returns-clause-words c =
    let head = c.put.ensures.items ∙ ap (λ (l : List ℕ). l ++ codes "unlisted ") c.new-what.ensures in
    let name = c.as_slice.ensures.value ∙ c.write_unmove.ensures.text in
    c.put-2.ensures.items ∙ ap (λ (l : List ℕ). l ++ c.as_slice.result.now) head ∙ ap (λ (l : List ℕ). codes "unlisted " ++ l) name
