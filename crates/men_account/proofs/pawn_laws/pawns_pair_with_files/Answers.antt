use Rattle.men_account.proofs.Paired.{least-most, pairing, pairing-missing}
use Rattle.men_account.proofs.pawn_laws.pawns_pair_with_files.Goals as goal

pub returns-clause-captures : goal.returns-clause-captures
returns-clause-captures c = pairing

pub returns-clause-missing : goal.returns-clause-missing
returns-clause-missing c = pairing-missing

pub returns-clause-least : goal.returns-clause-least
returns-clause-least c = least-most
