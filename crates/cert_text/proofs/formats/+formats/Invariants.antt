use Rattle.std.proofs.Common.{◌≡◌, ◌+◌, ◌-◌, ◌*◌, suc}
use Rattle.cert_text.specs.Sizes.{rest_of}
use Rattle.cert_text.specs.Writable.{all_fit}
use Rattle.cert_text.proofs.formats.+formats.Given as goal

abbrev pub decreases-fits_node : goal.decreases-fits_node
decreases-fits_node l = 2 * (255 - l.depth) + 1

abbrev pub decreases-all_fit : goal.decreases-all_fit
decreases-all_fit l = 2 * (255 - l.depth)

abbrev pub invariant-all_fit-loop-i : goal.invariant-all_fit-loop-i
invariant-all_fit-loop-i l = all_fit (suc l.depth) (rest_of l.kids l.i) ≡ all_fit (suc l.depth) l.kids
