use Rattle.men_account.proofs.FilesLeft.{left-after, pawns-from}
use Rattle.men_account.proofs.PawnLaws.{files-apart}
use Rattle.men_account.proofs.pawn_laws.pawns_leave_files.Goals as goal

pub returns-clause-in_all : goal.returns-clause-in_all
returns-clause-in_all c o g colour = left-after o colour g

pub returns-clause-each : goal.returns-clause-each
returns-clause-each c = pawns-from

pub returns-clause-apart : goal.returns-clause-apart
returns-clause-apart c = files-apart
