use Rattle.std.proofs.Common.{ℕ, [], ◌∷◌, ◌++◌, ap, ◌∙◌}
use Rattle.std.specs.Prelude.{codes}
use Rattle.fen_text.specs.Fen.{castle_letter}
use Rattle.ledger_told.proofs.Joining.{ok_then}
use Rattle.ledger_told.specs.Told.{whole_text}
use Rattle.diagram_study.proofs.Telling.{joins}
use Rattle.diagram_study.proofs.held.push_if.Goals as goal

pub returns : goal.returns
returns c =
    let o = c.args.text.now.items in
    let letter = castle_letter c.args.castle in
    let head = joins o (codes "if ") (letter ∷ []) _ _ c.in_ok-extend_from_slice.ensures.items (c.in_ok-push.ensures.items ∙ ap (λ (b : ℕ). c.extend_from_slice.new.self.items ++ b ∷ []) c.castle_letter.ensures) in
    let spaced = joins o (codes "if " ++ (letter ∷ [])) (codes " ") _ _ head c.in_ok-extend_from_slice-2.ensures.items in
    ok_then c.push_line.result _ _ (joins o (codes "if " ++ (letter ∷ []) ++ codes " ") (whole_text c.args.line.now) _ _ spaced) c.push_line.ensures
