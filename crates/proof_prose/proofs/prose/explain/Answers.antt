use Rattle.std.proofs.Common.{◌++◌, ℕ, List, ap, ◌∙◌}
use Rattle.proof_prose.specs.Heads.{drawn_text}
use Rattle.proof_prose.proofs.prose.explain.Goals as goal

pub returns : goal.returns
returns c =
    let drawn = c.in_ok-draw.ensures ∙ ap (λ (l : List ℕ). l ++ drawn_text c.args.cert.now.query) c.new-out.ensures.items in
    let whole = c.in_ok-say.ensures ∙ ap (λ (l : List ℕ). l ++ c.as_slice.result.now) drawn ∙ ap (λ (l : List ℕ). drawn_text c.args.cert.now.query ++ l) c.as_slice.ensures.value in
    (c.in_ok-proof.proof.items, c.in_ok-proof.ensures, whole)
