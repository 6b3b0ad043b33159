-- Inner: no public clause cites this file.
-- Which paragraphs are noted as telling one of the nodes.
use Rattle.std.specs.Prelude.{ℕ, Bool, IsTrue, List}
use Rattle.board_base.specs.Board.{is_in}
use Rattle.proof_story.specs.Reading.{IsNeeded}
use Rattle.proof_story.specs.declared.stories.Paragraph.{Paragraph}
use Rattle.proof_story.specs.declared.stories.Point.{Point}

-- each one that is noted tells one
abbrev pub AreNeeded : List Paragraph → List Point → List Bool → Type 0
AreNeeded story points needed = (i : ℕ) → IsTrue (is_in needed i) → IsNeeded story points i
