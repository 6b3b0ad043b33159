-- The walk over lines that come one after another, with a frame for each node some of whose children may be due.
use Rattle.std.specs.Prelude.{ℕ, ◌+◌, ◌-◌, ◌≡◌, ◌⊎◌, Bool, List, [], ◌∷◌, ◌++◌, length, map, drop, slice_get, Option, Some, None, IsSomeAnd}
use Rattle.std.proofs.Common.{zero, suc}
use Rattle.std.specs.declared.cmp.Ordering.{Ordering}
use Rattle.std.specs.declared.cmp.Ordering.TheVariants.{Less, Equal, Greater}
use Rattle.board_base.specs.Texts.{unmove_order}
use Rattle.board_base.specs.declared.unmoves.Unmove.{Unmove}
use Rattle.query_base.specs.Asked.{Asked}
use Rattle.query_base.specs.Reach.{Reaches}
use Rattle.query_base.specs.Targets.{Covers}
use Rattle.cert_checker.specs.Reasons.{ReasonSupports}
use Rattle.unmove_gen.specs.Listed.{unmoves}
use Rattle.unmove_gen.specs.Predecessor.{predecessor}
use Rattle.cert_text.specs.Lines.{said}
use Rattle.cert_text.specs.NodeLines.{kid_body}
use Rattle.cert_text.specs.Certificate.{Lines}
use Rattle.cert_text.specs.declared.node_lines.BodyLine.{BodyLine}
use Rattle.cert_text.specs.declared.node_lines.BodyLine.TheVariants.{Rule, Back, Expand, Sketch}
use Rattle.query_base.specs.Ancestors.{ancestor}
use Rattle.capture_prices.specs.Prices.{PriceList}
use Rattle.past_sketches.specs.Figures.{sketch_of}
use Rattle.sketch_body.specs.Bodies.{Item, of_line, of_prices}
use Rattle.sketch_body.specs.Due.{read_as}
use Rattle.sketch_text.specs.Heads.{Head}
use Rattle.sketch_text.specs.Trees.{Line}
use Rattle.sketch_checker.specs.LineWalk.{Walking as SketchWalking, OnStep, begun}
use Rattle.sketch_checker.specs.LineWalk as sketches
use Rattle.sketch_checker.specs.Supports.{MayAsk, setting_of}
use Rattle.sketch_checker.specs.Walks.{Frame as SketchFrame, Opened}
use Rattle.cert_checker.specs.Sketches.{files_of, why_of}
use Rattle.cert_checker.specs.Walk.{Fault, unlisted, unsupported}
use Rattle.cert_checker.specs.declared.refusals.Why.{Why}
use Rattle.cert_checker.specs.declared.refusals.Why.TheVariants as why
use Rattle.cert_checker.specs.Kept.{Frame}

abbrev pub query_of_frame : Frame → Asked
query_of_frame f = f.query

-- A sketch whose lines are read: the query that it is about, which files are exact, the lines of prices that have come, and how many come
-- next; and, once its first node has come, the node whose lines of marks are being read, if there is one, and the frames of the others.
pub record Sketched : Type 0 where
  pub query : Asked
  pub exact : List Bool
  pub prices : List PriceList
  pub wanted : ℕ
  pub nodes : Option (Option Opened × List SketchFrame)

-- the walk goes on at these frames, the innermost first; or a sketch is read below them; or it has met its first fault, at a line
pub data Walking : Type 0 where
  going : List Frame → Walking
  sketching : Sketched → List Frame → Walking
  stopped : ℕ → Fault → Walking

-- before the first line behind that which begins a sketch, at this query
abbrev pub first_sketched : Asked → Head → Sketched
first_sketched q h = record { query = q; exact = files_of h.files; prices = []; wanted = h.prices; nodes = None }

abbrev pub go_on : Walking → (List Frame → Walking) → Walking
go_on (going frames) go = go frames
go_on (sketching s frames) go = sketching s frames
go_on (stopped n f) go = stopped n f

abbrev pub end_unmoves : List Unmove → ℕ → Walking → Walking
end_unmoves [] top later = later
end_unmoves (u ∷ us) top later = stopped top (unlisted u)

abbrev pub end_at : ℕ → Frame → List Frame → Walking → Walking
end_at zero f frames later = end_unmoves f.left f.line later
end_at (suc m) f frames later = going (f ∷ frames)

-- the frames from the first on that has a child due
abbrev pub ended : List Frame → Walking
ended [] = going []
ended (f ∷ frames) = end_at f.due f frames (ended frames)

-- a node of one line: the frames stay where P holds, else there is a fault
abbrev pub Stays : Type 0 → Why → List Frame → ℕ → Walking → Type 0
Stays P w frames n (going after) = P × (after ≡ frames)
Stays P w frames n (sketching s after) = ⊥
Stays P w frames n (stopped m f) = (P → ⊥) × (m ≡ n) × (f ≡ unsupported w)

-- a node with children: one more frame, but a fault at the array
abbrev pub Opens : Type 0 → List Frame → ℕ → Walking → Type 0
Opens IsArray frames n (going after) = (IsArray → ⊥) × (after ≡ frames)
Opens IsArray frames n (sketching s after) = ⊥
Opens IsArray frames n (stopped m f) = IsArray × (m ≡ n) × (f ≡ unsupported why.Array)

-- a node with this body and query on line n, below these frames
abbrev pub OnBody : BodyLine → Asked → List Frame → ℕ → Walking → Type 0
OnBody (Rule r) q frames n after = Stays (ReasonSupports q r) why.Rule frames n after
OnBody (Back k) q frames n after = Stays (IsSomeAnd (ancestor (map query_of_frame frames) k) (λ a. Covers a q)) why.Back frames n after
OnBody (Expand c) q frames n after = Opens (Reaches [] q) (record { query = q; left = unmoves q; due = c; line = n } ∷ frames) n after
OnBody (Sketch h) q frames n after = after ≡ sketching (first_sketched q h) frames

-- A child on line n whose label comes before the unmove u, the first that no child had: it is stray. After u: u is left out.
abbrev pub OnLabel : Ordering → Unmove → ℕ → Type 0 → Walking → Type 0
OnLabel Less u n Kid after = after ≡ stopped n (unsupported why.Stray)
OnLabel Greater u n Kid after = after ≡ stopped n (unlisted u)
OnLabel Equal u n Kid after = Kid

-- a child with this label and body and the query q of its parent, where the first unmove that no child had is given
abbrev pub OnFirst : Option Unmove → Asked → List Frame → ℕ → Unmove → BodyLine → Walking → Type 0
OnFirst None q frames n label body after = after ≡ stopped n (unsupported why.Stray)
OnFirst (Some u) q frames n label body after = OnLabel (unmove_order label u) u n (OnBody body (predecessor q u) frames n after) after

-- the frame with one child and one unmove less
abbrev pub fewer : Frame → Frame
fewer f = record { query = f.query; left = drop 1 f.left; due = f.due - 1; line = f.line }

-- a child on line n of the node of this frame
abbrev pub OnKid : Frame → List Frame → ℕ → Unmove → BodyLine → Walking → Type 0
OnKid f frames n label body after = OnFirst (slice_get f.left 0) f.query (fewer f ∷ frames) n label body after

-- a line that says nothing of a child never comes to be walked
abbrev pub OnSaid : Option (Unmove × BodyLine) → Frame → List Frame → ℕ → Walking → Type 0
OnSaid None f frames n after = after ≡ going (f ∷ frames)
OnSaid (Some kid) f frames n after = OnKid f frames n kid.0 kid.1 after

abbrev pub OnOpen : ℕ → List ℕ → List Frame → Walking → Type 0
OnOpen n line [] after = after ≡ going []
OnOpen n line (f ∷ frames) after = OnSaid (said (kid_body (suc (length frames))) line) f frames n after

-- how many lines of marks come next
abbrev pub marks_due : Option (Option Opened × List SketchFrame) → ℕ
marks_due None = 0
marks_due (Some (None, fs)) = 0
marks_due (Some (Some o, fs)) = o.marks

-- the walk over a sketch's nodes goes on, or it is at its end, and the certificate goes on at the frames; or it has stopped
abbrev pub as_sketched : SketchWalking → Sketched → List Frame → Walking
as_sketched (sketches.stopped n w) s frames = stopped n (unsupported (why_of w))
as_sketched (sketches.going None []) s frames = going frames
as_sketched (sketches.going None (f ∷ fs)) s frames = sketching (record s { nodes = Some (None, f ∷ fs) }) frames
as_sketched (sketches.going (Some o) fs) s frames = sketching (record s { nodes = Some (Some o, fs) }) frames

abbrev pub Steps : SketchWalking → Sketched → List Frame → ℕ → Line → Walking → Type 0
Steps w s frames n l after = (next : SketchWalking) × OnStep (setting_of s.query s.exact s.prices) w n l next × (after ≡ as_sketched next s frames)

-- a line of a node or of marks; at the first node it is looked at whether sketches may be asked about the board
abbrev pub OnNodes : Option (Option Opened × List SketchFrame) → Sketched → List Frame → ℕ → Line → Walking → Type 0
OnNodes None s frames n l after = ((MayAsk s.query s.prices → ⊥) × (after ≡ stopped n (unsupported why.Rule))) ⊎ (MayAsk s.query s.prices × Steps (begun (sketch_of s.query.board)) s frames n l after)
OnNodes (Some nodes) s frames n l after = Steps (sketches.going nodes.0 nodes.1) s frames n l after

-- a line of a sketch; one that says nothing never comes to be walked
abbrev pub OnItem : Option Item → Sketched → List Frame → ℕ → Walking → Type 0
OnItem None s frames n after = after ≡ sketching s frames
OnItem (Some (of_prices p)) s frames n after = after ≡ sketching (record s { prices = s.prices ++ p ∷ []; wanted = s.wanted - 1 }) frames
OnItem (Some (of_line l)) s frames n after = OnNodes s.nodes s frames n l after

-- one more line, of number n, where the frames have a child due
abbrev pub OnNext : Walking → ℕ → List ℕ → Walking → Type 0
OnNext (going frames) n line after = OnOpen n line frames after
OnNext (sketching s frames) n line after = OnItem (said (read_as (length s.prices + s.wanted) s.wanted (marks_due s.nodes)) line) s frames n after
OnNext (stopped m f) n line after = after ≡ stopped m f

-- one more line, of number n
abbrev pub OnLine : Walking → ℕ → List ℕ → Walking → Type 0
OnLine w n line after = OnNext (go_on w ended) n line after

-- the walk over lines, the first of which has number n, up to the last
abbrev pub WalksOn : Walking → ℕ → Lines → Walking → Type 0
WalksOn w n [] last = last ≡ go_on w ended
WalksOn w n (line ∷ lines) last = (after : Walking) × OnLine w n line after × WalksOn after (n + 1) lines last
