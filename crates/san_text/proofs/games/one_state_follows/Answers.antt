use Rattle.san_text.proofs.Written.{next_is}
use Rattle.san_text.proofs.games.one_state_follows.Goals as goal

pub returns-clause-alone : goal.returns-clause-alone
returns-clause-alone c p q m follows = next_is p m q follows
