-- Inner: no public clause cites this file.
-- A sketch whose lines are read, as the functions have it.
use Rattle.std.specs.Prelude.{ℕ, ◌≡◌, ◌+◌, ◌≤◌, Bool, true, false, cond, IsTrue, List, [], ◌∷◌, length, Option, Some, None}
use Rattle.std.specs.List.{Contains}
use Rattle.capture_prices.specs.Prices.{PriceList, are_prices}
use Rattle.past_sketches.specs.Figures.{sketch_of}
use Rattle.sketch_text.specs.Trees.{Line}
use Rattle.sketch_body.specs.Bodies.{Item}
use Rattle.sketch_body.specs.Due.{Due, Reading, is_over, step}
use Rattle.sketch_checker.specs.Proofs.{Setting}
use Rattle.sketch_checker.specs.DueNodes.{first_due}
use Rattle.sketch_checker.specs.LineWalk.{OnLine}
use Rattle.sketch_checker.specs.LineWalk as sketches
use Rattle.sketch_checker.specs.Roots.{IsRoot}
use Rattle.sketch_checker.specs.Supports.{setting_of}
use Rattle.sketch_checker.specs.Walks.{Frame as SketchFrame, Opened}
use Rattle.cert_text.specs.Lines.{said}
use Rattle.cert_checker.specs.Frames.{OnItem, OnNodes, Sketched, Walking, going, sketching}
use Rattle.cert_checker.specs.Framing.{stopped_by}
use Rattle.cert_checker.specs.SketchLines.{StandsAt}
use Rattle.cert_checker.specs.Kept.{Frame}
use Rattle.cert_checker.specs.declared.frames.FirstFault.{FirstFault}

-- the units of the sketches before, what is due of the one that is read, how far the walk over it has come, and what that walk rests on
pub record SketchState : Type 0 where
  pub units : ℕ
  pub reading : Reading
  pub sketched : Sketched
  pub setting : Setting

-- where the walk over a sketch's nodes stands, once the first has come
abbrev pub nodes_at : Bool → Option Opened → List SketchFrame → Option (Option Opened × List SketchFrame)
nodes_at true o fs = Some (o, fs)
nodes_at false o fs = None

-- what is due is what comes next on the walk over the nodes
abbrev pub AreNext : Due → Option (Option Opened × List SketchFrame) → Type 0
AreNext d None = (d.marks ≡ 0) × (d.nodes ≡ 1 ∷ [])
AreNext d (Some (o, fs)) = StandsAt d o fs

-- what is due by the text is what comes next on the walk, which isn't at its end
pub record IsInStep (s : Sketched) (r : Reading) : Type 0 where
  pub prices : r.due.prices ≡ length s.prices + s.wanted
  pub wanted : r.due.wanted ≡ s.wanted
  pub nodes : AreNext r.due s.nodes
  pub still : is_over r.due ≡ false

-- a sketch is read, and the walk over it goes on
pub record IsReading (k : SketchState) : Type 0 where
  pub in_step : IsInStep k.sketched k.reading
  pub few : k.reading.due.prices ≤ 64
  pub known : (p : PriceList) → Contains k.sketched.prices p → IsTrue (are_prices p)
  pub setting : k.setting ≡ setting_of k.sketched.query k.sketched.exact k.sketched.prices

-- the walk over the nodes, also before the first of them
abbrev pub opened_in : Option (Option Opened × List SketchFrame) → Option Opened
opened_in None = None
opened_in (Some (o, fs)) = o

abbrev pub frames_in : Sketched → Option (Option Opened × List SketchFrame) → List SketchFrame
frames_in s None = record { line = 0; announced = 1; due = first_due (sketch_of s.query.board) ∷ [] } ∷ []
frames_in s (Some (o, fs)) = fs

-- the first node has come, and before it sketches might be asked about the board
pub record HasBegun (old new : SketchState) : Type 0 where
  pub units : new.units ≡ old.units
  pub reading : new.reading ≡ old.reading
  pub sketched : new.sketched ≡ record old.sketched { nodes = Some (opened_in old.sketched.nodes, frames_in old.sketched old.sketched.nodes) }
  pub setting : new.setting ≡ old.setting
  pub root : old.sketched.nodes ≡ None → IsRoot old.sketched.query.odds old.sketched.query.board

-- the walk over the nodes goes on behind a line
pub record GoesOn (old new : SketchState) (n : ℕ) (l : Line) : Type 0 where
  pub opened : Option Opened
  pub frames : List SketchFrame
  pub sketched : new.sketched ≡ record old.sketched { nodes = Some (opened, frames) }
  pub line : OnLine old.setting (opened_in old.sketched.nodes) (frames_in old.sketched old.sketched.nodes) n l (sketches.going opened frames)
  pub root : old.sketched.nodes ≡ None → IsRoot old.sketched.query.odds old.sketched.query.board

-- the walk behind a line of a node or of marks: it goes on so, or stops at the fault that was found
abbrev pub TakesNode : Option FirstFault → SketchState → SketchState → ℕ → Line → Type 0
TakesNode None old new n l = GoesOn old new n l
TakesNode (Some f) old new n l = (frames : List Frame) → OnNodes old.sketched.nodes old.sketched frames n l (stopped_by f)

-- the walk behind a line of a sketch: at the fault that was found, or in the sketch, or behind its end
abbrev pub behind_line : Option FirstFault → SketchState → List Frame → Walking
behind_line (Some f) k frames = stopped_by f
behind_line None k frames = cond (is_over k.reading.due) (going frames) (sketching k.sketched frames)

-- what a function makes of a line of a sketch: it isn't due, or the walk goes on so
abbrev pub Takes : Option (Option FirstFault) → SketchState → SketchState → ℕ → List ℕ → Type 0
Takes None old new n line = said (step old.reading) line ≡ None
Takes (Some f) old new n line =
    (i : Item) × (said (step old.reading) line ≡ Some (i, new.reading)) × ((frames : List Frame) → OnItem (Some i) old.sketched frames n (behind_line f new frames))
