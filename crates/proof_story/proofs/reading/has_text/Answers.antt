use Rattle.std.proofs.Common.{sym, ◌∙◌}
use Rattle.std.proofs.lemmas.Slice.Eq.{bytes_eq-Decides}
use Rattle.proof_story.proofs.reading.has_text.Goals as goal

pub returns : goal.returns
returns c = λ same. sym c.text.ensures ∙ (bytes_eq-Decides c.text.result.now c.args.body.now).0 (sym c.are_same.ensures ∙ same)
