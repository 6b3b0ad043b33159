use Rattle.san_text.proofs.Forms.{form_reads, reads_form}
use Rattle.san_text.proofs.grammar.texts_have_forms.Goals as goal

pub returns-clause-read : goal.returns-clause-read
returns-clause-read c text said = reads_form text said

pub returns-clause-back : goal.returns-clause-back
returns-clause-back c text said = form_reads text said
