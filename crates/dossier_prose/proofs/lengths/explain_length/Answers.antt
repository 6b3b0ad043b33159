use Rattle.std.proofs.Common.{◌++◌, ℕ, List, ap, ◌∙◌}
use Rattle.proof_prose.specs.Heads.{drawn_text}
use Rattle.dossier_prose.specs.Lengths.{claim_text, end_text}
use Rattle.dossier_prose.proofs.lengths.explain_length.Goals as goal

pub returns-clause-told : goal.returns-clause-told
returns-clause-told c =
    let white = c.in_ok-push_side.ensures in
    let black = c.in_ok-push_side-2.ensures in
    record {
      white = white.0;
      black = black.0;
      white_told = white.1;
      black_told = black.1;
      whole =
          c.in_ok-push_end.ensures
          ∙ ap (λ (l : List ℕ). l ++ end_text c.args.text.now.at_least)
          (black.2
          ∙ ap (λ (l : List ℕ). l ++ black.0)
          (white.2
          ∙ ap (λ (l : List ℕ). l ++ white.0)
          (c.in_ok-push_claim.ensures
          ∙ ap (λ (l : List ℕ). l ++ claim_text c.args.text.now.at_least) (c.in_ok-draw.ensures ∙ ap (λ (l : List ℕ). l ++ drawn_text c.args.text.now.query) c.new-out.ensures.items))));
    }
