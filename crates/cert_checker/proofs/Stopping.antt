-- A walk that has stopped stays so.
use Rattle.std.proofs.Common.{◌≡◌, ℕ, ◌+◌, [], ◌∷◌, subst}
use Rattle.cert_text.specs.Certificate.{Lines}
use Rattle.cert_checker.specs.Walk.{Fault}
use Rattle.cert_checker.specs.Frames.{Walking, WalksOn, stopped}

pub stopped_on : (lines : Lines) (m n : ℕ) (f : Fault) (last : Walking) → WalksOn (stopped m f) n lines last → last ≡ stopped m f
stopped_on [] m n f last e = e
stopped_on (line ∷ lines) m n f last (after, on, walks) =
    stopped_on lines m (n + 1) f last (subst (λ (w : Walking). WalksOn w (n + 1) lines last) on walks)

pub stops : (lines : Lines) (m n : ℕ) (f : Fault) (after last : Walking) → after ≡ stopped m f → WalksOn after n lines last → last ≡ stopped m f
stops lines m n f after last e walks = stopped_on lines m n f last (subst (λ (w : Walking). WalksOn w n lines last) e walks)
