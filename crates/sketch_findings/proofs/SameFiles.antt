-- Whether two lists of files are the same.
use Rattle.std.proofs.Common.{◌≡◌, Bool, List, ◌∙◌, sym}
use Rattle.std.specs.Prelude.{◌↔◌, IsTrue}
use Rattle.std.specs.Bool.{beq}
use Rattle.std.specs.Cmp.Lexicographic.{pointwise}
use Rattle.board_base.specs.SameSets.{sets_decide}

pub same-files : (found files exact : List Bool) (answer : Bool) → found ≡ files → answer ≡ pointwise beq found exact → IsTrue answer ↔ (files ≡ exact)
same-files found files exact answer same told =
    let decides = sets_decide found exact in (λ yes. sym same ∙ decides.0 (sym told ∙ yes), λ e. told ∙ decides.1 (same ∙ e))
