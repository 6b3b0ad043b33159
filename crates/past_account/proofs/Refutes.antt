-- No game comes to a refuted sketch.
use Rattle.std.proofs.Common.{List, Bool}
use Rattle.board_base.specs.Rights.{Rights}
use Rattle.board_base.specs.declared.moves.Move.{Move}
use Rattle.past_sketches.specs.Figures.{Sketch}
use Rattle.past_sketches.specs.Fits.{Fits}
use Rattle.past_sketches.specs.Known.{known_at, marked_at}
use Rattle.past_sketches.specs.Moments.{FitsGame}
use Rattle.past_sketches.specs.Steps.{taken_back}
use Rattle.past_sketches.specs.Trimmed.{trimmed}
use Rattle.past_sketches.proofs.Clashing.{clash-none}
use Rattle.past_sketches.proofs.Climbing.{climb}
use Rattle.past_sketches.proofs.Knowing.{kind-fits, mark-fits}
use Rattle.past_sketches.proofs.Rearranged.{crowd-none, rearranged-fits}
use Rattle.past_sketches.proofs.Trimmed.{trim-fits}
use Rattle.past_sketches.proofs.Wider.{fits-wider}
use Rattle.past_account.specs.Refuted.{Refuted, account, clash, crowd, kinds, mark, rearranged, steps, trim, wider}
use Rattle.past_account.proofs.Closed.{closed-unfit, mark-forced}

with-fits : (o : List Bool) (p : List Move) (held : Rights) (S T : Sketch) → FitsGame o p held S → Fits o p T → FitsGame o p held T
with-fits o p held S T it fits = record { game = it.game; rights = it.rights; fits = fits }

-- no game comes to a refuted sketch
pub no-game : (o : List Bool) (held : Rights) (S : Sketch) → Refuted o held S → (p : List Move) → FitsGame o p held S → ⊥
no-game o held S (clash R h) p it = clash-none o p S it.game it.fits h
no-game o held S (crowd R c more) p it = crowd-none o p S c it.game it.fits more
no-game o held S (account R closed) p it = closed-unfit o held S closed p it
no-game o held S (mark R i forced more) p it =
    no-game o held (marked_at i S) more p (with-fits o p held S (marked_at i S) it (mark-fits o p S i it.fits (mark-forced o held i S forced p it)))
no-game o held S (kinds R i f found each) p it =
    let his = it.fits.stand i f found in
    no-game o held (known_at i his.1.kind S) (each his.1.kind his.2.kind) p (with-fits o p held S (known_at i his.1.kind S) it (kind-fits o p S i f it.fits found his.0 his.1 his.2))
no-game o held S (wider R T above more) p it = no-game o held T more p (with-fits o p held S T it (fits-wider o p S T it.fits above))
no-game o held S (rearranged R T same more) p it = no-game o held T more p (with-fits o p held S T it (rearranged-fits o p S T it.game it.fits same))
no-game o held S (trim R more) p it = no-game o held (trimmed S) more p (with-fits o p held S (trimmed S) it (trim-fits o p S it.game it.fits))
no-game o held S (steps R exact rounds closed away children) p it =
    climb o held exact S rounds closed away (λ x made calm. no-game o held (taken_back S x) (children x made calm)) p it.game it.rights it.fits
