use Rattle.proof_story.proofs.checking.is_numbered.Goals as goal

pub returns : goal.returns
returns c = rw (c.number_at.ensures, c.below.ensures) at c.are_parts.ensures
