-- The walk over lines that come one after another, with a frame for each node below which some may be due.
use Rattle.std.specs.Prelude.{ℕ, zero, suc, ◌≡◌, ◌+◌, ◌-◌, ◌⊎◌, Bool, true, List, [], ◌∷◌, map, Option, Some, None, Result, Ok, Err}
use Rattle.figures.specs.Figures.{Sketch}
use Rattle.sketch_proof.specs.Basis.{IsClosedAt}
use Rattle.sketch_proof.specs.Listed.{earlier}
use Rattle.sketch_proof.specs.Nodes.{IsFirstUnknown, IsUnknownOn, IsVoid, marked_with}
use Rattle.sketch_text.specs.Trees.{Line, of_marks, of_node}
use Rattle.sketch_text.specs.declared.labels.Officer.TheVariants.{Knight}
use Rattle.sketch_text.specs.declared.nodes.End.{End}
use Rattle.sketch_text.specs.declared.nodes.End.TheVariants.{Void, Closed, Steps, Split}
use Rattle.sketch_text.specs.declared.nodes.SketchNode.{SketchNode}
use Rattle.sketch_proof.specs.Proofs.{AreForced, AtLine, Setting}
use Rattle.sketch_checker.specs.DueNodes.{Due, cases_from, due_of, first_due}
use Rattle.sketch_checker.specs.TreeWalk.{IsBefore, Walked, Wrong, fault_at, next_line, stray, unsupported}
use Rattle.sketch_checker.specs.Walks.{Frame, Opened}
use Rattle.sketch_checker.specs.declared.faults.SketchFault.{SketchFault}
use Rattle.sketch_checker.specs.declared.faults.SketchFault.TheVariants as fault

-- the walk goes on, with a node whose lines of marks are being read, if there is one, and with these frames; or it has met its first fault,
-- at a line
pub data Walking : Type 0 where
  going : Option Opened → List Frame → Walking
  stopped : ℕ → Wrong → Walking

-- below a node to which no more nodes come none may be left
abbrev pub end_due : List Due → ℕ → Walking → Walking
end_due [] top later = later
end_due (d ∷ ds) top later = stopped top unsupported

abbrev pub end_at : ℕ → Frame → List Frame → Walking → Walking
end_at zero f fs later = end_due f.due f.line later
end_at (suc m) f fs later = going None (f ∷ fs)

-- the frames from the first on that has a node to come
abbrev pub ended : List Frame → Walking
ended [] = going None []
ended (f ∷ fs) = end_at f.announced f fs (ended fs)

-- P isn't so, and the walk stops at line n; or it is, and this is next
abbrev pub StopsUnless : Type 0 → ℕ → Wrong → Walking → Type 0 → Type 0
StopsUnless P n w after Next = ((P → ⊥) × (after ≡ stopped n w)) ⊎ (P × Next)

-- the end of the node on line top, whose marks are all read
abbrev pub OnEnd : End → Setting → Sketch → ℕ → List Frame → Walking → Type 0
OnEnd Void g S top fs after = StopsUnless (IsVoid g.odds g.held S) top unsupported after (after ≡ ended fs)
OnEnd (Closed k) g S top fs after = StopsUnless (AtLine g k (λ p. IsClosedAt g.odds g.held S p)) top unsupported after (after ≡ ended fs)
OnEnd (Steps m) g S top fs after =
    (((T : Sketch) → IsBefore g S T → ⊥) × (after ≡ stopped top unsupported)) ⊎
    ((T : Sketch) × IsBefore g S T × (after ≡ ended (record { line = top; announced = m; due = map due_of (earlier g.odds g.exact T) } ∷ fs)))
OnEnd (Split s) g S top fs after =
    (((i : ℕ) → IsUnknownOn S s i → ⊥) × (after ≡ stopped top unsupported)) ⊎
    ((i : ℕ) × IsFirstUnknown S s i × (after ≡ ended (record { line = top; announced = 3; due = cases_from Knight i S } ∷ fs)))

-- behind the line of a node, or one of its marks: so many lines of marks are still to come, or none, and its end is looked at
abbrev pub OnOpened : ℕ → Setting → Opened → List Frame → Walking → Type 0
OnOpened zero g o fs after = OnEnd o.end g o.sketch o.line fs after
OnOpened (suc c) g o fs after = after ≡ going (Some o) fs

-- the line of a node, where these are due
abbrev pub OnNode : List Due → Setting → Frame → List Frame → ℕ → SketchNode → Walking → Type 0
OnNode [] g f fs n x after = after ≡ stopped n stray
OnNode (d ∷ ds) g f fs n x after =
    StopsUnless (x.label ≡ d.label) n stray after (OnOpened x.marks g (record { line = n; marks = x.marks; end = x.end; sketch = d.sketch }) (record { line = f.line; announced = f.announced - 1; due = ds } ∷ fs) after)

-- a line, number n; one that can't come there never comes to be walked
abbrev pub OnLine : Setting → Option Opened → List Frame → ℕ → Line → Walking → Type 0
OnLine g (Some o) fs n (of_marks m) after =
    StopsUnless (AreForced g o.sketch m) n unsupported after (OnOpened (o.marks - 1) g (record { line = o.line; marks = o.marks - 1; end = o.end; sketch = marked_with m.figures o.sketch }) fs after)
OnLine g (Some o) fs n (of_node x) after = after ≡ going (Some o) fs
OnLine g None [] n l after = after ≡ going None []
OnLine g None (f ∷ fs) n (of_node x) after = OnNode f.due g f fs n x after
OnLine g None (f ∷ fs) n (of_marks m) after = after ≡ going None (f ∷ fs)

abbrev pub OnStep : Setting → Walking → ℕ → Line → Walking → Type 0
OnStep g (going o fs) n l after = OnLine g o fs n l after
OnStep g (stopped m w) n l after = after ≡ stopped m w

-- the walk over lines, the first of which has number n, up to the last
abbrev pub WalksOn : Setting → Walking → ℕ → List Line → Walking → Type 0
WalksOn g w n [] last = last ≡ w
WalksOn g w n (l ∷ ls) last = (after : Walking) × OnStep g w n l after × WalksOn g after (n + 1) ls last

-- before the line of the first node of all
abbrev pub begun : Sketch → Walking
begun S = going None (record { line = 0; announced = 1; due = first_due S ∷ [] } ∷ [])

-- the walk is at its end, or has met this fault
abbrev pub ComesTo : Walked → Walking → Type 0
ComesTo (fault_at n w) last = last ≡ stopped n w
ComesTo (next_line n) last = last ≡ going None []

-- the walk stops so, unless the line can't come there
abbrev pub IsStop : SketchFault → (Walking → Type 0) → Type 0
IsStop (fault.Stray n) P = P (stopped n stray)
IsStop (fault.Unsupported n) P = P (stopped n unsupported)
IsStop fault.Misplaced P = Unit {0}

-- the walk goes on so, or stops so, unless the line can't come there
abbrev pub IsAfter : Result Unit SketchFault → Option Opened → List Frame → (Walking → Type 0) → Type 0
IsAfter (Ok u) o fs P = P (going o fs)
IsAfter (Err f) o fs P = IsStop f P

-- what the walk over a tree comes to is what a walk over its lines answers, unless one of them can't come there
abbrev pub IsWalked : Result Bool SketchFault → (Walked → Type 0) → Type 0
IsWalked (Ok done) P = (done ≡ true) × (n : ℕ) × P (next_line n)
IsWalked (Err (fault.Stray n)) P = P (fault_at n stray)
IsWalked (Err (fault.Unsupported n)) P = P (fault_at n unsupported)
IsWalked (Err fault.Misplaced) P = Unit {0}
