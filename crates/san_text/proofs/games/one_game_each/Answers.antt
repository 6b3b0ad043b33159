use Rattle.san_text.proofs.Only.{no_telling, one_telling}
use Rattle.san_text.proofs.games.one_game_each.Goals as goal

pub returns-clause-one : goal.returns-clause-one
returns-clause-one c o text g h = one_telling o text g h

pub returns-clause-sound : goal.returns-clause-sound
returns-clause-sound c o text g fault = no_telling o text g fault
