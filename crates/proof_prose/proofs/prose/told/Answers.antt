use Rattle.proof_prose.proofs.prose.told.Goals as goal

pub returns : goal.returns
returns c =
    (c.in_ok-spoken.spoken.items, rw c.in_ok-nodes.ensures.nodes at c.in_ok-spoken.ensures, rw c.as_slice.ensures.value at c.in_ok-text.ensures)
