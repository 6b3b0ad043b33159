-- Lines that come one after another, and what is due after them.
use Rattle.std.specs.Prelude.{ℕ, ◌+◌, Bool, true, false, cond, List, [], ◌∷◌, length, Option, Some, None}
use Rattle.std.proofs.Common.{zero, suc}
use Rattle.std.specs.Option.{option_and_then, option_map}
use Rattle.sketch_body.specs.Due.{Reading, is_over, start}
use Rattle.sketch_body.specs.Due as sketches
use Rattle.cert_text.specs.Lines.{said}
use Rattle.cert_text.specs.NodeLines.{kid_body}
use Rattle.cert_text.specs.Certificate.{Lines}
use Rattle.cert_text.specs.declared.node_lines.BodyLine.{BodyLine}
use Rattle.cert_text.specs.declared.node_lines.BodyLine.TheVariants.{Rule, Back, Expand, Sketch}

-- What is due, with the numbers of nodes that are still due: first at the greatest depth, last at depth 1. The next line is that of a node,
-- behind sketches with so many units; or a sketch is read, and nodes follow it.
pub data Due : Type 0 where
  nodes_due : ℕ → List ℕ → Due
  sketch_due : Reading → List ℕ → Due

-- what is due after a node's own line, in front of what else is due; None where it begins a sketch with which the units become too many
abbrev pub put_due : ℕ → BodyLine → List ℕ → Option Due
put_due units (Rule r) due = Some (nodes_due units due)
put_due units (Back k) due = Some (nodes_due units due)
put_due units (Expand n) due = Some (nodes_due units (n ∷ due))
put_due units (Sketch h) due = option_map (λ r. sketch_due r due) (start units h)

abbrev pub none_left : List ℕ → Bool
none_left [] = true
none_left (zero ∷ due) = none_left due
none_left (suc n ∷ due) = false

abbrev pub is_done : Due → Bool
is_done (nodes_due units due) = none_left due
is_done (sketch_due r due) = false

-- what is due after the line of a node
abbrev pub kid_step : ℕ → List ℕ → List ℕ → Option Due
kid_step units [] line = None
kid_step units (zero ∷ due) line = kid_step units due line
kid_step units (suc n ∷ due) line = option_and_then (λ kid. put_due units kid.1 (n ∷ due)) (said (kid_body (suc (length due))) line)

-- a sketch that is read, or, at its end, the nodes that follow it
abbrev pub closed : Reading → List ℕ → Due
closed r due = cond (is_over r.due) (nodes_due r.units due) (sketch_due r due)

-- what is due after one more line, or None where the line doesn't go on
abbrev pub step : Due → List ℕ → Option Due
step (nodes_due units due) line = kid_step units due line
step (sketch_due r due) line = option_map (λ p. closed p.1 due) (said (sketches.step r) line)

abbrev pub on_step : ℕ → Option Due → (Due → Option ℕ) → Option ℕ
on_step n None go = Some n
on_step n (Some due) go = go due

-- the number of the first line that doesn't go on, or that is wanted and isn't there; None where the lines are all that is due
abbrev pub refused : Due → ℕ → Lines → Option ℕ
refused due n [] = cond (is_done due) None (Some n)
refused due n (line ∷ lines) = on_step n (step due line) (λ more. refused more (n + 1) lines)
