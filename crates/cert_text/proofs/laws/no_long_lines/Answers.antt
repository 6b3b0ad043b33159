use Rattle.cert_text.proofs.Short.{long_mute, unended_mute}
use Rattle.cert_text.proofs.laws.no_long_lines.Goals as goal

pub returns-clause-long : goal.returns-clause-long
returns-clause-long c = long_mute

pub returns-clause-unended : goal.returns-clause-unended
returns-clause-unended c = unended_mute
