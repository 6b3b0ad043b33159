use Rattle.std.proofs.Common.{◌≡◌, ◌∷◌, List, ap, map, subst, sym}
use Rattle.sketch_checker.specs.DueNodes.{due_of}
use Rattle.sketch_list.specs.Listed.{Earlier}
use Rattle.sketch_prose.proofs.dues.next_step.Goals as goal

pub returns-in-Some : goal.returns-in-Some
returns-in-Some c = (
  _,
  subst (λ (e : Earlier). map due_of c.args.steps ≡ due_of e ∷ map due_of c.next.new.self) (sym c.earlier.view_is) (ap (λ (es : List Earlier). map due_of es) c.in-Some.ensures),
)
