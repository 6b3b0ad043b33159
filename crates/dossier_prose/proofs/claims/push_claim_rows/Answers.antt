use Rattle.std.proofs.Common.{◌≡◌, ◌++◌, ℕ, List, ap, ◌∙◌}
use Rattle.std.proofs.lemmas.Result.{IfOk-equal}
use Rattle.proof_story.specs.Rows.{rows_of}
use Rattle.dossier_prose.specs.Claims.{line_words}
use Rattle.dossier_prose.proofs.claims.push_claim_rows.Goals as goal

pub returns : goal.returns
returns c =
    let words : List ℕ = line_words c.args.claim.now c.args.query.now in
    let line : c.as_slice.result.now ≡ (c.args.before.now ++ words) ++ c.args.after.now =
    c.as_slice.ensures.value
    ∙ c.in_ok-say-2.ensures
    ∙ ap (λ (l : List ℕ). l ++ c.args.after.now) (c.in_ok-push_claim.ensures ∙ ap (λ (l : List ℕ). l ++ words) (c.in_ok-say.ensures ∙ ap (λ (l : List ℕ). l ++ c.args.before.now) c.new-line.ensures.items)) in
    IfOk-equal c.push_wrapped.result c.push_wrapped.new.out.items _ _ c.push_wrapped.ensures (ap (λ (l : List ℕ). c.args.out.now.items ++ rows_of l) line)
