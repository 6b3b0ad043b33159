use Rattle.std.proofs.Common.{List, ℕ, subst, sym}
use Rattle.length_bound.specs.LengthFronts.{ReadsFront}
use Rattle.length_bound.proofs.Answering.{all_answered}
use Rattle.length_bound.proofs.checking.check_length.Goals as goal

pub returns-in-Ok-clause-answer : goal.returns-in-Ok-clause-answer
returns-in-Ok-clause-answer g c =
    all_answered c.answer_to.result _ _ _ (subst (λ (l : List ℕ). ReadsFront (g.S.Source.left c.args.src.now) (g.S.Source.left c.read_front.new.src) l) (sym c.as_slice.ensures.value) c.in-Ok.ensures.ok) c.answer_to.ensures.answer
