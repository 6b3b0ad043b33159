-- Inner: no public clause cites this file.
-- How a walk goes on.
use Rattle.std.specs.Prelude.{ℕ, ◌≡◌, ◌==◌, ◌+◌, ◌<◌, ◌≤◌, ◌↔◌, Bool, false, true, List, [], ◌∷◌, length, slice_get, Option, Some, None, Result, Ok, Err}
use Rattle.capture_prices.specs.Prices.{PriceList}
use Rattle.figures.specs.Figures.{Sketch}
use Rattle.sketch_text.specs.declared.nodes.End.{End}
use Rattle.sketch_text.specs.Trees.{Line}
use Rattle.sketch_proof.specs.Proofs.{Setting}
use Rattle.sketch_checker.specs.Able.{IsAble}
use Rattle.sketch_checker.specs.DueNodes.{Due}
use Rattle.sketch_checker.specs.LineWalk.{IsStop, OnEnd, OnOpened, Walking, WalksOn, ended, going, stopped}
use Rattle.sketch_checker.specs.TreeWalk.{unsupported}
use Rattle.sketch_checker.specs.Walks.{Completes, CompletesOpened, Frame, Opened}
use Rattle.sketch_checker.specs.Placed.{announced_by}
use Rattle.sketch_checker.specs.declared.faults.SketchFault.{SketchFault}
use Rattle.sketch_checker.specs.declared.faults.SketchFault.TheVariants.{Misplaced, Stray, Unsupported}

-- the line of prices with this number, counted from 1
pub record IsLineAt (g : Setting) (k : ℕ) (p : PriceList) : Type 0 where
  pub index : ℕ
  pub from_one : k ≡ index + 1
  pub there : slice_get g.prices index ≡ Some p

-- the innermost frame, if there is one, has a node to come
abbrev pub IsOpen : List Frame → Type 0
IsOpen [] = Unit {0}
IsOpen (f ∷ fs) = 0 < f.announced

-- the sketch of each node that is due is able
abbrev pub AreAble : List Bool → List Due → Type 0
AreAble o [] = Unit {0}
AreAble o (d ∷ ds) = IsAble o d.sketch × AreAble o ds

-- what is below a node, if something is
abbrev pub AreAbleBelow : List Bool → Option Frame → Type 0
AreAbleBelow o None = Unit {0}
AreAbleBelow o (Some f) = AreAble o f.due

abbrev pub AllAble : List Bool → List Frame → Type 0
AllAble o [] = Unit {0}
AllAble o (f ∷ fs) = AreAble o f.due × AllAble o fs

-- An opened node has marks to come, and room for the nodes below it; else a node is due, or the walk is done. All sketches are able.
abbrev pub IsReady : List Bool → Option Opened → List Frame → Type 0
IsReady o None fs = IsOpen fs × AllAble o fs
IsReady o (Some x) fs = (0 < x.marks) × (0 < announced_by x.end → length fs < 65) × IsAble o x.sketch × AllAble o fs

-- the node on this line, when all its marks are read
abbrev pub read : ℕ → End → Sketch → Opened
read line end S = record { line = line; marks = 0; end = end; sketch = S }

-- no node is open, and none is due
abbrev pub is_over : Option Opened → List Frame → Bool
is_over None fs = length fs == 0
is_over (Some o) fs = false

-- it is about the end of a node
abbrev pub IsOfEnd : SketchFault → Type 0
IsOfEnd (Stray n) = ⊥
IsOfEnd Misplaced = ⊥
IsOfEnd (Unsupported n) = Unit {0}

-- the end of the opened node is so, and this is below it
abbrev pub IsBelow : Setting → Opened → Option Frame → Type 0
IsBelow g o None = (fs : List Frame) (lines : List Line) → length fs ≤ 65 → Completes g fs lines ↔ CompletesOpened g o fs lines
IsBelow g o (Some f) = (f.announced ≡ announced_by o.end) × ((fs : List Frame) (lines : List Line) → Completes g (f ∷ fs) lines ↔ CompletesOpened g o fs lines)

-- the frames with that of what is below a node, if something is
abbrev pub with_below : Option Frame → List Frame → List Frame
with_below None fs = fs
with_below (Some f) fs = f ∷ fs

-- this is the end of the node on this line, with what is below it
abbrev pub EndsWith : Setting → End → Sketch → ℕ → Option Frame → Type 0
EndsWith g e S top below = (fs : List Frame) → OnEnd e g S top fs (ended (with_below below fs))

-- its end isn't so
abbrev pub EndsNot : Setting → End → Sketch → ℕ → SketchFault → Type 0
EndsNot g e S top f = (f ≡ Unsupported top) × ((fs : List Frame) → OnEnd e g S top fs (stopped top unsupported))

-- where the node is opened so, the walk goes on as it does behind the line
abbrev pub OpensAs : Setting → Opened → List Frame → (Walking → Type 0) → Type 0
OpensAs g o fs P = (after : Walking) → OnOpened o.marks g o fs after → P after

-- the answer to these lines, the first of which has number n, where the walk stands so before them
abbrev pub IsAnswer : Result Bool SketchFault → Setting → Walking → ℕ → List Line → Type 0
IsAnswer (Ok done) g w n lines = (o : Option Opened) × (fs : List Frame) × ((done ≡ true) ↔ (going o fs ≡ going None [])) × WalksOn g w n lines (going o fs)
IsAnswer (Err f) g w n lines = IsStop f (WalksOn g w n lines)
