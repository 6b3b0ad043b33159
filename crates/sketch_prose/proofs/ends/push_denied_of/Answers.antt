use Rattle.std.proofs.lemmas.Result.{IfOk-weaker}
use Rattle.sketch_prose.proofs.ends.push_denied_of.Goals as goal

pub returns : goal.returns
returns c =
    IfOk-weaker c.push_denials.result _ _
    (λ _ text prices ns rest many lines due. (
      c.in_ok-children.children.items,
      c.in_ok-children.ensures prices ns rest many lines due,
      rw c.as_slice.ensures.value at text,
    ))
    c.push_denials.ensures
