-- No game has a moment that a closed sketch fits, and marks that are forced are true.
use Rattle.std.proofs.Common.{ℕ, Bool, List}
use Rattle.board_base.specs.Rights.{Rights}
use Rattle.board_base.specs.declared.moves.Move.{Move}
use Rattle.past_sketches.specs.Figures.{Sketch}
use Rattle.past_sketches.specs.Fits.{MayBeMarked}
use Rattle.past_sketches.specs.Moments.{FitsGame}
use Rattle.past_account.specs.Closes.{Closes, Forces, costs, foreign}
use Rattle.past_account.proofs.Marking.{account-closes, account-forces}
use Rattle.past_account.proofs.Pins.{figures-begun, figures-stay}

pub closed-unfit : (o : List Bool) (held : Rights) (S : Sketch) → Closes o held S → (g : List Move) → FitsGame o g held S → ⊥
closed-unfit o held S (costs set zones p frozen closed) g it = account-closes o g S set zones p it.fits (figures-stay o g S held set it.game it.fits it.rights frozen) closed
closed-unfit o held S (foreign set frozen other) g it = other (figures-begun o g S set it.fits (figures-stay o g S held set it.game it.fits it.rights frozen))

pub mark-forced : (o : List Bool) (held : Rights) (i : ℕ) (S : Sketch) → Forces o held i S → (g : List Move) (it : FitsGame o g held S) → MayBeMarked o g S it.fits i
mark-forced o held i S forces g it = account-forces o g S forces.set forces.zones forces.prices i it.fits (figures-stay o g S held forces.set it.game it.fits it.rights forces.frozen) forces.forced
