use Rattle.std.proofs.Common.{◌+◌, ◌/◌, List, ◌++◌, ap, ◌∙◌}
use Rattle.std.specs.Prelude.{ℕ, codes}
use Rattle.prose_words.specs.Words.{side_word}
use Rattle.prose_words.proofs.Squares.{thence}
use Rattle.verdict_prose.specs.Sentences.{end_words, mover_at, ordinal}
use Rattle.prose_words.proofs.Behind.{behind}
use Rattle.verdict_prose.proofs.lengths.push_end.Goals as goal

pub returns : goal.returns
unfolding end_words
returns c =
    let o = c.args.out.now.items in
    let side = side_word (mover_at c.args.n) in
    let number = ordinal ((c.args.n + 1) / 2) in
    let h0 = c.in_ok-say.ensures ∙ ap (λ (l : List ℕ). o ++ l) (c.side_word.ensures ∙ ap side_word c.mover_at.ensures) in
    let h1 = thence o _ _ side (codes "'s ") h0 c.in_ok-say-2.ensures in
    let h2 = thence o _ _ (side ++ codes "'s ") number h1 (rw c.move_number.ensures at c.in_ok-push_ordinal.ensures) in
    behind c.say-3.result o _ _ (side ++ codes "'s " ++ number) (codes " move at the earliest") h2 c.say-3.ensures
