use Rattle.proof_story.proofs.References.{same-moves, same-words}
use Rattle.proof_story.proofs.laws.references_repeat.Goals as goal

pub returns-clause-words : goal.returns-clause-words
returns-clause-words c = same-words

pub returns-clause-moves : goal.returns-clause-moves
returns-clause-moves c = same-moves
