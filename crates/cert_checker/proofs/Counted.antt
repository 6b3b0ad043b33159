-- The numbers of children due where the walk has met a fault.
use Rattle.std.proofs.Common.{◌≡◌, ℕ, zero, suc, ◌+◌, ◌<◌, true, false, List, [], ◌∷◌, ◌++◌, length, map, reverse, refl, sym, ap, ◌∙◌, subst, arith}
use Rattle.std.proofs.lemmas.Bool.{cond-false, cond-true}
use Rattle.std.proofs.lemmas.List.{length-map, map-append, reverse-append}
use Rattle.std.specs.Prelude.{Option, Some, None}
use Rattle.std.specs.Option.{option_and_then}
use Rattle.board_base.specs.declared.unmoves.Unmove.{Unmove}
use Rattle.sketch_text.specs.Heads.{Head}
use Rattle.query_base.specs.Asked.{Asked}
use Rattle.query_base.specs.declared.claims.Claim.{Claim}
use Rattle.sketch_body.specs.Due.{Reading, is_over}
use Rattle.cert_text.specs.Certificate.{Lines}
use Rattle.cert_text.specs.Reading.{HasRoom}
use Rattle.cert_text.specs.Lines.{said}
use Rattle.cert_text.specs.NodeLines.{kid_body}
use Rattle.cert_text.specs.Due.{Due, closed, nodes_due, put_due, sketch_due, step}
use Rattle.cert_text.specs.declared.node_lines.BodyLine.{BodyLine}
use Rattle.cert_text.specs.declared.node_lines.BodyLine.TheVariants.{Rule, Back, Expand, Sketch}
use Rattle.cert_checker.specs.Answers.{Answer}
use Rattle.cert_checker.specs.Counting.{AreCounts, CountsTo, IfCounted, IsDue, counts_with}
use Rattle.cert_checker.specs.Frames.{OnLine, Walking}
use Rattle.cert_checker.specs.Framing.{due_of, popped, stopped_by, IsOpen, IsStack}
use Rattle.cert_checker.specs.Sketching.{SketchState}
use Rattle.cert_checker.specs.Stages.{bad, nodes, Stepped, Rest}
use Rattle.cert_checker.specs.declared.counting.Counted.{Counted}
use Rattle.cert_checker.specs.declared.counting.Counted.TheVariants as counted
use Rattle.cert_checker.specs.Kept.{Frame}
use Rattle.cert_checker.specs.declared.frames.FirstFault.{FirstFault}
use Rattle.cert_checker.specs.declared.frames.FirstFault.TheVariants.{Unlisted, Unsupported}
use Rattle.cert_checker.proofs.Opening.{rest_settled}

-- the numbers of frames

pub counts_reversed : (frames : List Frame) → reverse (map due_of frames) ≡ map due_of (reverse frames)
counts_reversed [] = refl
counts_reversed (f ∷ frames) =
    reverse-append (f.due ∷ []) (map due_of frames) ∙ ap (λ (due : List ℕ). due ++ f.due ∷ []) (counts_reversed frames)
    ∙ sym (ap (map due_of) (reverse-append (f ∷ []) frames) ∙ map-append due_of (reverse frames) (f ∷ []))

pub counts_stack : (frames : List Frame) → IsStack frames → AreCounts (map due_of frames)
counts_stack [] stack = tt
counts_stack (f ∷ frames) stack =
    (λ some. let room = stack.0 some in omega (arith, length-map frames due_of, room), counts_stack frames stack.2)

pub due_open : (frames : List Frame) → IsOpen frames → IsDue (map due_of frames)
due_open [] some = tt
due_open (f ∷ frames) some = some

pub counts_popped : (due : List ℕ) → AreCounts due → AreCounts (popped due)
counts_popped [] counts = tt
counts_popped (zero ∷ due) counts = counts_popped due counts.1
counts_popped (suc n ∷ due) counts = counts

counts_put : (body : BodyLine) (due : List ℕ) → HasRoom (length due) body → AreCounts due → AreCounts (counts_with body due)
counts_put (Rule r) due room counts = counts
counts_put (Back k) due room counts = counts
counts_put (Expand n) due room counts = (room, counts)
counts_put (Sketch h) due room counts = counts

-- the numbers after a child's line
pub counts_kept : (body : BodyLine) (olds news : List ℕ) → 0 < length olds → IsDue olds → HasRoom (length olds) body → AreCounts olds → ((due : ℕ) (above : List ℕ) → olds ≡ suc due ∷ above → news ≡ counts_with body (due ∷ above)) → AreCounts news
counts_kept body [] news some due room counts put = absurd (omega arith)
counts_kept body (zero ∷ above) news some due room counts put = absurd (omega arith)
counts_kept body (suc d ∷ above) news some due room counts put =
    subst AreCounts (sym (put d above refl)) (counts_put body (d ∷ above) room (λ more. counts.0 (omega arith), counts.1))

-- after a fault each line leaves it as it is
on_stopped : (x : FirstFault) (n : ℕ) (line : List ℕ) → OnLine (stopped_by x) n line (stopped_by x)
on_stopped (Unlisted m u) n line = refl
on_stopped (Unsupported m w) n line = refl

settled_stopped : (x : FirstFault) (claim : Claim) (q : Asked) (units : ℕ) (due : List ℕ) (n : ℕ) (lines : Lines) (a : Answer) → Rest (nodes claim q (stopped_by x) (nodes_due units (popped due))) n lines a → Rest (nodes claim q (stopped_by x) (nodes_due units due)) n lines a
settled_stopped (Unlisted m u) claim q units due n lines a rest = rest_settled lines claim q (stopped_by (Unlisted m u)) units due n a rest
settled_stopped (Unsupported m w) claim q units due n lines a rest = rest_settled lines claim q (stopped_by (Unsupported m w)) units due n a rest

-- a line that is due, whatever is due after it
pub skipped_rest : (x : FirstFault) (claim : Claim) (q : Asked) (old new : Due) (n : ℕ) (line : List ℕ) (lines : Lines) (a : Answer) → step old line ≡ Some new → Rest (nodes claim q (stopped_by x) new) (n + 1) lines a → Rest (nodes claim q (stopped_by x) old) n (line ∷ lines) a
skipped_rest x claim q old new n line lines a goes rest = (
  nodes claim q (stopped_by x) new,
  subst (λ (o : Option Due). Stepped o claim q (stopped_by x) n line (nodes claim q (stopped_by x) new)) (sym goes) (stopped_by x, on_stopped x n line, refl),
  rest,
)

-- a line that isn't due
pub refused_rest : (w : Walking) (claim : Claim) (q : Asked) (old : Due) (n : ℕ) (line : List ℕ) (lines : Lines) (a : Answer) → step old line ≡ None → Rest (bad n) (n + 1) lines a → Rest (nodes claim q w old) n (line ∷ lines) a
refused_rest w claim q old n line lines a refused rest = (bad n, subst (λ (o : Option Due). Stepped o claim q w n line (bad n)) (sym refused) refl, rest)

-- the line of a child
pub counted_rest : (x : FirstFault) (claim : Claim) (q : Asked) (old : Due) (units : ℕ) (due news : List ℕ) (n : ℕ) (line : List ℕ) (lines : Lines) (a : Answer) → step old line ≡ Some (nodes_due units due) → news ≡ popped due → Rest (nodes claim q (stopped_by x) (nodes_due units news)) (n + 1) lines a → Rest (nodes claim q (stopped_by x) old) n (line ∷ lines) a
counted_rest x claim q old units due news n line lines a goes settled rest =
    let here = subst (λ (d : List ℕ). Rest (nodes claim q (stopped_by x) (nodes_due units d)) (n + 1) lines a) settled rest in
    skipped_rest x claim q old (nodes_due units due) n line lines a goes (settled_stopped x claim q units due (n + 1) lines a here)

-- a sketch that is at its end
pub closed_rest : (x : FirstFault) (claim : Claim) (q : Asked) (r : Reading) (due news : List ℕ) (units n : ℕ) (lines : Lines) (a : Answer) → is_over r.due ≡ true → units ≡ r.units → news ≡ popped due → Rest (nodes claim q (stopped_by x) (nodes_due units news)) n lines a → Rest (nodes claim q (stopped_by x) (closed r due)) n lines a
closed_rest x claim q r due news units n lines a over same settled rest =
    let here = subst (λ (u : ℕ). Rest (nodes claim q (stopped_by x) (nodes_due u news)) n lines a) same rest in
    let there = subst (λ (d : List ℕ). Rest (nodes claim q (stopped_by x) (nodes_due r.units d)) n lines a) settled here in
    subst (λ (d : Due). Rest (nodes claim q (stopped_by x) d) n lines a) (sym (cond-true (is_over r.due) (nodes_due r.units due) (sketch_due r due) over)) (settled_stopped x claim q r.units due n lines a there)

-- and one that goes on
pub open_rest : (w : Walking) (claim : Claim) (q : Asked) (r : Reading) (due : List ℕ) (n : ℕ) (lines : Lines) (a : Answer) → is_over r.due ≡ false → Rest (nodes claim q w (sketch_due r due)) n lines a → Rest (nodes claim q w (closed r due)) n lines a
open_rest w claim q r due n lines a still rest =
    subst (λ (d : Due). Rest (nodes claim q w d) n lines a) (sym (cond-false (is_over r.due) (nodes_due r.units due) (sketch_due r due) still)) rest

-- the line of a child, by the numbers before and after it
pub counted_kid : (units : ℕ) (olds news : List ℕ) (depth : ℕ) (line : List ℕ) (label : Unmove) (body : BodyLine) → 0 < length olds → IsDue olds → depth ≡ length olds → said (kid_body depth) line ≡ Some (label, body) → ((due : ℕ) (above : List ℕ) → olds ≡ suc due ∷ above → news ≡ counts_with body (due ∷ above))
    → (rest : List ℕ) × (step (nodes_due units olds) line ≡ put_due units body rest) × (news ≡ counts_with body rest)
counted_kid units [] news depth line label body some due deep says put = absurd (omega arith)
counted_kid units (zero ∷ above) news depth line label body some due deep says put = absurd (omega arith)
counted_kid units (suc d ∷ above) news depth line label body some due deep says put =
    let here : said (kid_body (suc (length above))) line ≡ Some (label, body) = ap (λ (k : ℕ). said (kid_body k) line) (sym deep) ∙ says in
    (d ∷ above, ap (option_and_then (λ (kid : Unmove × BodyLine). put_due units kid.1 (d ∷ above))) here, put d above refl)

-- no sketch begins there
abbrev pub IsPlain : BodyLine → Type 0
IsPlain (Rule r) = Unit {0}
IsPlain (Back k) = Unit {0}
IsPlain (Expand n) = Unit {0}
IsPlain (Sketch h) = ⊥

plain_put : (units : ℕ) (body : BodyLine) (due : List ℕ) → IsPlain body → put_due units body due ≡ Some (nodes_due units (counts_with body due))
plain_put units (Rule r) due plain = refl
plain_put units (Back k) due plain = refl
plain_put units (Expand n) due plain = refl
plain_put units (Sketch h) due plain = absurd plain

pub nodes_counted : (units : ℕ) (k : SketchState) (body : BodyLine) (o : Option Due) (rest news after : List ℕ) → IsPlain body → k.units ≡ units → o ≡ put_due units body rest → news ≡ counts_with body rest → after ≡ popped news → CountsTo counted.Nodes o k after
nodes_counted units k body o rest news after plain same goes put settled =
    (counts_with body rest, goes ∙ plain_put units body rest plain ∙ ap (λ (u : ℕ). Some (nodes_due u (counts_with body rest))) (sym same), settled ∙ ap popped put)

pub sketch_counted : (result : Counted) (units : ℕ) (k : SketchState) (h : Head) (body : BodyLine) (o : Option Due) (rest news : List ℕ) → body ≡ Sketch h → o ≡ put_due units body rest → news ≡ counts_with body rest → ((due : List ℕ) → CountsTo result (put_due units (Sketch h) due) k due) → CountsTo result o k news
sketch_counted result units k h body o rest news is goes put counts =
    let here : news ≡ rest = put ∙ ap (λ (b : BodyLine). counts_with b rest) is in
    let there : o ≡ put_due units (Sketch h) rest = goes ∙ ap (λ (b : BodyLine). put_due units b rest) is in
    subst (λ (p : Option Due). CountsTo result p k news) (ap (put_due units (Sketch h)) here ∙ sym there) (counts news)

pub if_counted : (result : Counted) (P : Type 0) → P → IfCounted result P
if_counted counted.Bad P p = tt
if_counted counted.Nodes P p = p
if_counted counted.Sketch P p = p
