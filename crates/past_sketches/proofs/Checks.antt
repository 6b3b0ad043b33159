-- A sketch that fits a moment has no figure give check whose side gives none then, however often it is trimmed.
use Rattle.std.proofs.Common.{◌≡◌, ℕ, zero, suc, Bool, false, ◌&&◌, List, ap, sym, ◌∙◌}
use Rattle.std.proofs.lemmas.Bool.{and_parts, false_from_ne_true}
use Rattle.general_lemmas.proofs.Ranges.{any-one}
use Rattle.board_base.specs.Board.{Places, at, is_in, opponent}
use Rattle.board_base.specs.Game.{IsGame, board_after}
use Rattle.board_base.specs.declared.men.Colour.{Colour}
use Rattle.board_base.specs.declared.moves.Move.{Move}
use Rattle.play_rules.proofs.Kings.{length-after}
use Rattle.past_sketches.specs.Figures.{Sketch, figure_at}
use Rattle.past_sketches.specs.Steps.{taken_back}
use Rattle.past_sketches.specs.Touching.{gives_check, kings_of, side_checks, touched_squares}
use Rattle.past_sketches.specs.Trimmed.{trimmed, trims}
use Rattle.past_sketches.specs.Fits.{Fits}
use Rattle.past_sketches.specs.Moments.{FitsStep, IsCalm}
use Rattle.past_sketches.proofs.Sketches.{fixed-there}
use Rattle.past_sketches.proofs.Touching.{AreThere, king-on, touched-who}
use Rattle.past_sketches.proofs.Trimmed.{trim-fits}
use Rattle.past_sketches.proofs.Wider.{man-inside}

there-fits : (o : List Bool) (p : List Move) (T : Sketch) → IsGame o p → Fits o p T → (c : Colour) → AreThere (board_after o p) T c
there-fits o p T game fits c i f q e fixed own =
    let his = fits.stand i f e in
    let here = fixed-there q his.0 f fixed (man-inside (board_after o p) his.0 his.1 (length-after o p game) his.2.there) his.2.square in
    record { man = his.1; there = ap (at (board_after o p)) (sym here) ∙ his.2.there; colour = his.2.colour; kind = his.2.kind }

no-check : (o : List Bool) (p : List Move) (T : Sketch) (c : Colour) → IsGame o p → Fits o p T → IsCalm (board_after o p) c → gives_check T c ≡ false
unfolding gives_check
no-check o p T c game fits calm = false_from_ne_true _ (λ h.
    let board : Places = board_after o p in
    let on = any-one (λ q. is_in (kings_of T (opponent c)) q && is_in (touched_squares T c) q) 0 64 h in
    let parts = and_parts (is_in (kings_of T (opponent c)) on.number) (is_in (touched_squares T c) on.number) on.passes in
    let touch = touched-who board T c on.number (there-fits o p T game fits c) parts.1 in
    calm touch.square on.number touch.man touch.there touch.own (king-on board T (opponent c) on.number (there-fits o p T game fits (opponent c)) parts.0) touch.near)

trims-fit : (o : List Bool) (p : List Move) (n : ℕ) (T : Sketch) → IsGame o p → Fits o p T → Fits o p (trims n T)
trims-fit o p zero T game fits = fits
trims-fit o p (suc n) T game fits = trims-fit o p n (trimmed T) game (trim-fits o p T game fits)

-- so a step that was made is none before which the side that made it gives check
pub step-calm : (o : List Bool) (p : List Move) (exact : List Bool) (T : Sketch) (n : ℕ) (by : FitsStep o p exact T) → IsGame o by.first → side_checks (trims n (taken_back T by.step)) (figure_at T by.step.by) ≡ false
step-calm o p exact T n by game =
    ap (side_checks (trims n (taken_back T by.step))) by.moved
    ∙ no-check o by.first (trims n (taken_back T by.step)) by.mover.colour game (trims-fit o by.first n (taken_back T by.step) game by.fits) by.calm
