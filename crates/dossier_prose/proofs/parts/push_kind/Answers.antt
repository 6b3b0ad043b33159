use Rattle.std.proofs.Common.{◌++◌}
use Rattle.std.specs.Prelude.{codes}
use Rattle.prose_words.proofs.Behind.{behind}
use Rattle.prose_words.specs.Words.{kind_word}
use Rattle.dossier_prose.proofs.parts.push_kind.Goals as goal

pub returns : goal.returns
returns c =
    let h0 = c.in_ok-say.ensures in
    behind c.say-2.result c.args.out.now.items _ _ (codes "a ") (kind_word c.args.kind) h0 (rw c.kind_word.ensures at c.say-2.ensures)
