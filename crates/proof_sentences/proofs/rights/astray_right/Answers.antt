use Rattle.std.proofs.Common.{sym, ◌∙◌}
use Rattle.proof_sentences.proofs.Astray.{none-astray}
use Rattle.proof_sentences.proofs.rights.astray_right.Goals as goal

pub returns-clause-some : goal.returns-clause-some
returns-clause-some c =
    absurd (c.requires (none-astray c.args.query.now (sym c.is_astray.ensures ∙ c.if-is_astray.false) (sym c.is_astray-2.ensures ∙ c.if-is_astray-2.false) (sym c.is_astray-3.ensures ∙ c.if-is_astray-3.false) (sym c.is_astray-4.ensures ∙ c.if-is_astray-4.false)))
