-- Inner: no public clause cites this file.
-- The lines of a sketch that is walked, against what is due of it.
use Rattle.std.specs.Prelude.{ℕ, ◌≡◌, ◌<◌, true, List, [], ◌∷◌, map, Option, Some, None, Result, Ok, Err}
use Rattle.sketch_text.specs.Trees.{Line}
use Rattle.sketch_body.specs.Bodies.{of_line}
use Rattle.sketch_body.specs.Due.{Due, settled}
use Rattle.sketch_body.specs.Whole.{runs_out}
use Rattle.sketch_checker.specs.LineWalk.{Walking, going, stopped}
use Rattle.sketch_checker.specs.Placed.{announced_by}
use Rattle.sketch_checker.specs.Steering.{IsOpen}
use Rattle.sketch_checker.specs.TreeWalk.{Wrong}
use Rattle.sketch_checker.specs.Walks.{Frame, Opened}
use Rattle.cert_checker.specs.Sketches.{why_of}
use Rattle.cert_checker.specs.declared.sketch_lines.LineFault.{LineFault}

-- the walk goes on so, or stops at this fault
abbrev pub IsAfter : Result Unit LineFault → Option Opened → List Frame → (Walking → Type 0) → Type 0
IsAfter (Ok u) o fs P = P (going o fs)
IsAfter (Err f) o fs P = (w : Wrong) × (f.why ≡ why_of w) × P (stopped f.line w)

-- the walk is at its end, or stops at this fault
abbrev pub IsEnd : Result ℕ LineFault → (Walking → Type 0) → Type 0
IsEnd (Ok n) P = P (going None [])
IsEnd (Err f) P = (w : Wrong) × (f.why ≡ why_of w) × P (stopped f.line w)

abbrev pub marks_of : Option Opened → ℕ
marks_of None = 0
marks_of (Some o) = o.marks

-- how many nodes are still to come below each node, below the one whose lines of marks are read first
abbrev pub announced_of : Option Opened → List Frame → List ℕ
announced_of None fs = map (λ f. f.announced) fs
announced_of (Some o) fs = announced_by o.end ∷ map (λ f. f.announced) fs

-- an opened node has marks to come; else a node is to come below the lowest frame, if there is one
abbrev pub IsGoing : Option Opened → List Frame → Type 0
IsGoing None fs = IsOpen fs
IsGoing (Some o) fs = 0 < o.marks

-- behind the lines of prices, the walk stands where this is due
pub record StandsAt (d : Due) (o : Option Opened) (fs : List Frame) : Type 0 where
  pub going : IsGoing o fs
  pub wanted : d.wanted ≡ 0
  pub marks : d.marks ≡ marks_of o
  pub nodes : d.nodes ≡ settled (announced_of o fs)

-- these lines are all that are due where the walk stands
abbrev pub AreDue : Option Opened → List Frame → List Line → Type 0
AreDue o fs lines = (d : Due) × StandsAt d o fs × (runs_out d (map (λ l. of_line l) lines) ≡ true)
