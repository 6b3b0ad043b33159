use Rattle.dossier_text.proofs.HeadTexts.{head_lined, head_plain}
use Rattle.dossier_checker.proofs.AcceptedDossiers.{accepted_head}
use Rattle.dossier_checker.proofs.laws.accepted_lines_are_written.Goals as goal

pub returns-clause-line : goal.returns-clause-line
returns-clause-line c bytes claim q answers = let head = accepted_head bytes claim q answers in head_lined head.0 claim q head.1

pub returns-clause-barred : goal.returns-clause-barred
returns-clause-barred c bytes claim q answers = let head = accepted_head bytes claim q answers in head_plain head.0 claim q head.1
