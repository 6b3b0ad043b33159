-- Inner: no public clause cites this file.
-- What the functions of the walk over lines answer, and how they keep its frames.
use Rattle.std.specs.Prelude.{ℕ, ◌<◌, List, [], ◌∷◌, length, Option, Some, None}
use Rattle.std.proofs.Common.{zero, suc}
use Rattle.std.specs.List.{Contains}
use Rattle.board_base.specs.declared.unmoves.Unmove.{Unmove}
use Rattle.query_base.specs.Asked.{Asked}
use Rattle.unmove_gen.specs.Listed.{unmoves}
use Rattle.cert_text.specs.declared.node_lines.BodyLine.{BodyLine}
use Rattle.cert_text.specs.declared.node_lines.BodyLine.TheVariants.{Rule, Back, Expand, Sketch}
use Rattle.cert_checker.specs.Walk.{unlisted, unsupported}
use Rattle.cert_checker.specs.Frames.{Walking, end_unmoves, first_sketched, going, sketching, stopped}
use Rattle.cert_checker.specs.Kept.{Frame}
use Rattle.cert_checker.specs.declared.frames.FirstFault.{FirstFault}
use Rattle.cert_checker.specs.declared.frames.FirstFault.TheVariants as found

abbrev pub due_of : Frame → ℕ
due_of f = f.due

-- the frames below one with no child due, none of whose unmoves may be left
abbrev pub end_unmoves_of : Frame → List Frame → Walking
end_unmoves_of f frames = end_unmoves f.left f.line (going frames)

-- what is due, from the first level on where something is
abbrev pub popped : List ℕ → List ℕ
popped [] = []
popped (zero ∷ due) = popped due
popped (suc n ∷ due) = suc n ∷ due

-- the walk at these frames, or at the fault that was found
abbrev pub stopped_by : FirstFault → Walking
stopped_by (found.Unlisted n u) = stopped n (unlisted u)
stopped_by (found.Unsupported n w) = stopped n (unsupported w)

abbrev pub walking : Option FirstFault → List Frame → Walking
walking None frames = going frames
walking (Some f) frames = stopped_by f

-- the frames with that of a node with this body and query on line n
abbrev pub with_body : BodyLine → Asked → List Frame → ℕ → List Frame
with_body (Rule r) q frames n = frames
with_body (Back k) q frames n = frames
with_body (Expand c) q frames n = record { query = q; left = unmoves q; due = c; line = n } ∷ frames
with_body (Sketch h) q frames n = frames

-- the walk behind a node's line, number n, with this body and query: at the fault that was found, in the node's sketch, or at these frames
-- with that of the node
abbrev pub behind : Option FirstFault → BodyLine → Asked → List Frame → ℕ → Walking
behind (Some f) body q frames n = stopped_by f
behind None (Rule r) q frames n = going frames
behind None (Back k) q frames n = going frames
behind None (Expand c) q frames n = going (with_body (Expand c) q frames n)
behind None (Sketch h) q frames n = sketching (first_sketched q h) frames

-- the unmoves that are left are unmoves of the frame's query
abbrev pub IsListed : Frame → Type 0
IsListed f = (u : Unmove) → Contains f.left u → Contains (unmoves f.query) u

-- where children are due, their depth is at most 255
abbrev pub IsStack : List Frame → Type 0
IsStack [] = Unit {0}
IsStack (f ∷ frames) = (0 < f.due → length frames < 255) × IsListed f × IsStack frames

-- the innermost frame has a child due
abbrev pub IsOpen : List Frame → Type 0
IsOpen [] = Unit {0}
IsOpen (f ∷ frames) = 0 < f.due
