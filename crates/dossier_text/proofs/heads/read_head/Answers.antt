use Rattle.std.proofs.Common.{sym, ◌∙◌}
use Rattle.dossier_text.proofs.HeadReads.{answered, no_lines, other_format}
use Rattle.dossier_text.proofs.heads.read_head.Goals as goal

pub returns-in_default : goal.returns-in_default
returns-in_default c = no_lines _ c.in_default.ensures

pub returns-then-not-is_format : goal.returns-then-not-is_format
returns-then-not-is_format c = other_format _ _ _ c.in-Some.ensures (sym c.is_format.ensures ∙ c.if-not-is_format.true)

pub returns : goal.returns
returns c = answered c.args.bytes.now _ _ c.read_below.result c.in-Some.ensures (sym c.is_format.ensures ∙ c.if-not-is_format.false) c.read_below.ensures
