use Rattle.past_account.proofs.Pins.{figures-begun, figures-stay}
use Rattle.past_account.proofs.laws.frozen_figures_stay.Goals as goal

pub returns-clause-stay : goal.returns-clause-stay
returns-clause-stay c o g S held set it frozen = figures-stay o g S held set it.game it.fits it.rights frozen

pub returns-clause-begun : goal.returns-clause-begun
returns-clause-begun c = figures-begun
