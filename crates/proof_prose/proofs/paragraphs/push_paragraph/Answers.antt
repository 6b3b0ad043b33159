use Rattle.std.proofs.Common.{◌≡◌, List, [], ◌∷◌, ◌++◌, ◌∙◌, ap, subst, take}
use Rattle.proof_prose.specs.Paragraphs.{paragraph_text}
use Rattle.proof_prose.specs.Runs.{run_of}
use Rattle.proof_prose.specs.declared.bodies.Spoken.{Spoken}
use Rattle.proof_prose.specs.declared.paragraphs.Said.{Said}
use Rattle.proof_prose.proofs.paragraphs.push_paragraph.Goals as goal

pub returns : goal.returns
returns c =
    let others : List Spoken = take c.run_length-n.result c.args.rest.now in
    record {
      few = c.run_length-n.ensures.few;
      run = c.run_length-n.ensures.run;
      text = subst (λ (l : List Said). c.push_rows.new.out.items ≡ c.args.out.now.items ++ paragraph_text l (run_of c.args.first.now others)) c.as_slice.ensures.value c.in_ok-push_rows.ensures;
      said = c.in_ok-push.ensures.items ∙ ap (λ (s : Said). c.args.said.now.items ++ s ∷ []) c.in_ok-own.ensures;
    }
