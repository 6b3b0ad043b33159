-- Inner: no public clause cites this file.
-- The stages as the functions have them.
use Rattle.std.specs.Prelude.{ℕ, ◌≡◌, ◌≢◌, ◌≤◌, Bool, true, false, List, [], ◌∷◌, ◌++◌, map, Option, Some, None}
use Rattle.query_base.specs.Asked.{Asked}
use Rattle.query_base.specs.declared.claims.Claim.{Claim}
use Rattle.cert_text.specs.Due.{Due, nodes_due, sketch_due}
use Rattle.cert_text.specs.declared.heads.Head.{Head}
use Rattle.cert_text.specs.declared.heads.Head.TheVariants.{RootDue}
use Rattle.cert_checker.specs.Stages.{Stage, in_head, nodes, bad}
use Rattle.cert_checker.specs.Frames.{Walking, going, sketching}
use Rattle.cert_checker.specs.Framing.{IsOpen, IsStack, due_of, stopped_by, walking}
use Rattle.cert_checker.specs.Sketching.{IsReading, SketchState}
use Rattle.cert_checker.specs.Counting.{AreCounts, IsDue}
use Rattle.cert_checker.specs.Kept.{Frame}
use Rattle.cert_checker.specs.declared.frames.NodeStep.{NodeStep}
use Rattle.cert_checker.specs.declared.frames.NodeStep.TheVariants as line
use Rattle.cert_checker.specs.declared.stages.Step.{Step}
use Rattle.cert_checker.specs.declared.stages.Step.TheVariants as at

-- the root's line comes next
abbrev pub rooting : Claim → Asked → Stage
rooting claim q = in_head (RootDue claim q)

-- the walk at a node's line, as a function answers, with the sketch that it may begin
abbrev pub walk_after : NodeStep → SketchState → List Frame → Walking
walk_after line.Bad k frames = going frames
walk_after (line.Nodes f) k frames = walking f frames
walk_after (line.Sketch None) k frames = sketching k.sketched frames
walk_after (line.Sketch (Some f)) k frames = stopped_by f

-- what is due then
abbrev pub due_after : NodeStep → SketchState → List ℕ → Option Due
due_after line.Bad k due = None
due_after (line.Nodes f) k due = Some (nodes_due k.units due)
due_after (line.Sketch f) k due = Some (sketch_due k.reading due)

-- this is so, unless the line is bad text
abbrev pub IfGood : NodeStep → Type 0 → Type 0
IfGood line.Bad P = Unit {0}
IfGood (line.Nodes f) P = P
IfGood (line.Sketch f) P = P

-- if the line begins a sketch, that is read
abbrev pub IfReading : NodeStep → SketchState → Type 0
IfReading line.Bad k = Unit {0}
IfReading (line.Nodes f) k = Unit {0}
IfReading (line.Sketch f) k = IsReading k

-- the stage after a node's line
abbrev pub taken : NodeStep → SketchState → Claim → Asked → List Frame → ℕ → Stage
taken line.Bad k claim q frames n = bad n
taken (line.Nodes f) k claim q frames n = nodes claim q (walking f frames) (nodes_due k.units (map due_of frames))
taken (line.Sketch None) k claim q frames n = nodes claim q (sketching k.sketched frames) (sketch_due k.reading (map due_of frames))
taken (line.Sketch (Some f)) k claim q frames n = nodes claim q (stopped_by f) (sketch_due k.reading (map due_of frames))

-- the stage of a step, with the sketch, the frames, or the numbers of children due where the walk has met a fault
abbrev pub stage_of : Step → SketchState → List Frame → List ℕ → Stage
stage_of (at.Heading head) k frames due = in_head head
stage_of (at.Walking claim q) k frames due = nodes claim q (going frames) (nodes_due k.units (map due_of frames))
stage_of (at.Sketching claim q) k frames due = nodes claim q (sketching k.sketched frames) (sketch_due k.reading (map due_of frames))
stage_of (at.Counting claim q found) k frames due = nodes claim q (stopped_by found) (nodes_due k.units due)
stage_of (at.Skipping claim q found) k frames due = nodes claim q (stopped_by found) (sketch_due k.reading due)
stage_of (at.Bad n) k frames due = bad n

-- the query of a head that is read bars no move
abbrev pub BarsNothing : Head → Type 0
BarsNothing (RootDue claim q) = q.barred ≡ None
BarsNothing _ = Unit {0}

-- the frames of a step, its numbers, its sketch or its query are as the next line needs them
abbrev pub IsReady : Step → SketchState → List Frame → List ℕ → Type 0
IsReady (at.Heading head) k frames due = BarsNothing head × (k.units ≡ 0)
IsReady (at.Walking claim q) k frames due = IsStack frames × IsOpen frames
IsReady (at.Sketching claim q) k frames due = IsStack frames × IsReading k
IsReady (at.Counting claim q found) k frames due = AreCounts due × IsDue due
IsReady (at.Skipping claim q found) k frames due = AreCounts due × (k.reading.due.prices ≤ 64)
IsReady (at.Bad n) k frames due = Unit {0}

-- a sketch that is read has at most 64 lines of prices
abbrev pub IsLow : Stage → Type 0
IsLow (in_head head) = Unit {0}
IsLow (nodes claim q walk (nodes_due units due)) = Unit {0}
IsLow (nodes claim q walk (sketch_due r due)) = r.due.prices ≤ 64
IsLow (bad n) = Unit {0}

-- no frame without a child due is left, so that it is seen where nothing is due
abbrev pub CanEnd : Step → List Frame → List ℕ → Type 0
CanEnd (at.Walking claim q) frames due = IsOpen frames
CanEnd (at.Counting claim q found) frames due = IsDue due
CanEnd _ frames due = Unit {0}

-- not only the children due are counted
abbrev pub ReadsMore : Step → Type 0
ReadsMore (at.Counting claim q found) = ⊥
ReadsMore _ = Unit {0}

-- the step where the next line says nothing
abbrev pub stop_at : Step → ℕ → Step
stop_at (at.Bad k) n = at.Bad k
stop_at _ n = at.Bad n

-- the stage where the next line says nothing
abbrev pub halted_at : Stage → ℕ → Stage
halted_at (bad k) n = bad k
halted_at _ n = bad n

-- no byte ends a line
abbrev pub NoEnd : List ℕ → Type 0
NoEnd [] = Unit {0}
NoEnd (b ∷ bytes) = (b ≢ 10) × NoEnd bytes

-- the bytes are of one line: they end it, or no byte does
abbrev pub IsPart : Bool → List ℕ → Type 0
IsPart true bytes = (front : List ℕ) × NoEnd front × (bytes ≡ front ++ 10 ∷ [])
IsPart false bytes = NoEnd bytes
