use Rattle.std.proofs.lemmas.Bool.{and_parts}
use Rattle.cert_text.specs.ClaimLines.{promotes_well}
use Rattle.cert_text.specs.Writable.{stays_on_board}
use Rattle.cert_text.proofs.ClaimTexts.{text_read}
use Rattle.cert_text.proofs.laws.one_text_of_a_claim.Goals as goal

pub returns-clause-text : goal.returns-clause-text
returns-clause-text c text claim e = (text_read text claim e).text_is

pub returns-clause-promotion : goal.returns-clause-promotion
returns-clause-promotion c text claim e = (and_parts (stays_on_board claim) (promotes_well claim) (text_read text claim e).written).1
