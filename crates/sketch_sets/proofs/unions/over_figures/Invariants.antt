use Rattle.std.proofs.Common.{◌≡◌, ◌<◌, ℕ, Bool, take}
use Rattle.std.specs.List.{list_any}
use Rattle.board_base.specs.Board.{is_in}
use Rattle.figures.specs.Figures.{Figure}
use Rattle.sketch_sets.proofs.unions.over_figures.Given as goal

abbrev pub invariant-loop-figure : goal.invariant-loop-figure
invariant-loop-figure g l = (e : ℕ) (p : Figure → Bool) → e < 64 → ((f : Figure) (set : _) → goal.F-post g l.fn.sets f set → is_in set e ≡ p f) → is_in l.squares e ≡ list_any p (take l.figure-index l.figure-items)
