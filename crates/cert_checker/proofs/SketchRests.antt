-- What is answered from a line of a sketch on.
use Rattle.std.proofs.Common.{◌≡◌, ℕ, ◌+◌, true, false, cond, List, ◌∷◌, refl, sym, ap, subst}
use Rattle.std.proofs.lemmas.Bool.{cond-false, cond-true}
use Rattle.std.specs.Prelude.{Option, Some, None}
use Rattle.std.specs.Option.{option_map}
use Rattle.query_base.specs.Asked.{Asked}
use Rattle.query_base.specs.declared.claims.Claim.{Claim}
use Rattle.sketch_body.specs.Bodies.{Item}
use Rattle.sketch_body.specs.Due.{Reading, is_over}
use Rattle.cert_text.specs.Certificate.{Lines}
use Rattle.cert_text.specs.Due.{Due, closed, nodes_due, sketch_due, step}
use Rattle.cert_checker.specs.Answers.{Answer}
use Rattle.cert_checker.specs.Frames.{OnItem, OnLine, Walking, going, sketching}
use Rattle.cert_checker.specs.Framing.{stopped_by}
use Rattle.cert_checker.specs.Sketching.{IsReading, SketchState, Takes, behind_line}
use Rattle.cert_checker.specs.Stages.{Rest, Stepped, bad, nodes}
use Rattle.cert_checker.specs.Kept.{Frame}
use Rattle.cert_checker.specs.declared.frames.FirstFault.{FirstFault}
use Rattle.cert_checker.proofs.Counted.{refused_rest}
use Rattle.cert_checker.proofs.SketchSteps.{says_item}

-- a line that isn't due
pub bad_rest : (old new : SketchState) (claim : Claim) (q : Asked) (w : Walking) (due : List ℕ) (n : ℕ) (line : List ℕ) (lines : Lines) (a : Answer) → Takes None old new n line → Rest (bad n) (n + 1) lines a → Rest (nodes claim q w (sketch_due old.reading due)) n (line ∷ lines) a
bad_rest old new claim q w due n line lines a none rest =
    refused_rest w claim q (sketch_due old.reading due) n line lines a (ap (option_map (λ (p : Item × Reading). closed p.1 due)) none) rest

-- a line that is
line_rest : (old new : SketchState) (f : Option FirstFault) (claim : Claim) (q : Asked) (frames : List Frame) (due : List ℕ) (n : ℕ) (line : List ℕ) (lines : Lines) (a : Answer) → IsReading old → Takes (Some f) old new n line → Rest (nodes claim q (behind_line f new frames) (closed new.reading due)) (n + 1) lines a → Rest (nodes claim q (sketching old.sketched frames) (sketch_due old.reading due)) n (line ∷ lines) a
line_rest old new f claim q frames due n line lines a is (i, says, on) rest =
    let goes : step (sketch_due old.reading due) line ≡ Some (closed new.reading due) = ap (option_map (λ (p : Item × Reading). closed p.1 due)) says in
    let walks : OnLine (sketching old.sketched frames) n line (behind_line f new frames) = subst (λ (o : Option Item). OnItem o old.sketched frames n (behind_line f new frames)) (sym (says_item old.sketched old.reading new.reading line i is.in_step says)) (on frames) in (
      nodes claim q (behind_line f new frames) (closed new.reading due),
      subst (λ (o : Option Due). Stepped o claim q (sketching old.sketched frames) n line (nodes claim q (behind_line f new frames) (closed new.reading due))) (sym goes) (behind_line f new frames, walks, refl),
      rest,
    )

-- with it the walk has met a fault
pub fault_rest : (old new : SketchState) (f : FirstFault) (claim : Claim) (q : Asked) (frames : List Frame) (counts due : List ℕ) (n : ℕ) (line : List ℕ) (lines : Lines) (a : Answer) → IsReading old → Takes (Some (Some f)) old new n line → counts ≡ due → Rest (nodes claim q (stopped_by f) (closed new.reading counts)) (n + 1) lines a → Rest (nodes claim q (sketching old.sketched frames) (sketch_due old.reading due)) n (line ∷ lines) a
fault_rest old new f claim q frames counts due n line lines a is takes same rest =
    line_rest old new (Some f) claim q frames due n line lines a is takes (subst (λ (d : List ℕ). Rest (nodes claim q (stopped_by f) (closed new.reading d)) (n + 1) lines a) same rest)

-- the sketch goes on
pub on_rest : (old new : SketchState) (claim : Claim) (q : Asked) (frames : List Frame) (due : List ℕ) (n : ℕ) (line : List ℕ) (lines : Lines) (a : Answer) → IsReading old → Takes (Some None) old new n line → is_over new.reading.due ≡ false → Rest (nodes claim q (sketching new.sketched frames) (sketch_due new.reading due)) (n + 1) lines a → Rest (nodes claim q (sketching old.sketched frames) (sketch_due old.reading due)) n (line ∷ lines) a
on_rest old new claim q frames due n line lines a is takes still rest =
    let walk : cond (is_over new.reading.due) (going frames) (sketching new.sketched frames) ≡ sketching new.sketched frames = cond-false (is_over new.reading.due) (going frames) (sketching new.sketched frames) still in
    let dues : closed new.reading due ≡ sketch_due new.reading due = cond-false (is_over new.reading.due) (nodes_due new.reading.units due) (sketch_due new.reading due) still in
    line_rest old new None claim q frames due n line lines a is takes
    (subst (λ (w : Walking). Rest (nodes claim q w (closed new.reading due)) (n + 1) lines a) (sym walk) (subst (λ (d : Due). Rest (nodes claim q (sketching new.sketched frames) d) (n + 1) lines a) (sym dues) rest))

-- it is at its end
pub over_rest : (old new : SketchState) (claim : Claim) (q : Asked) (frames : List Frame) (due : List ℕ) (units n : ℕ) (line : List ℕ) (lines : Lines) (a : Answer) → IsReading old → Takes (Some None) old new n line → is_over new.reading.due ≡ true → units ≡ new.reading.units → Rest (nodes claim q (going frames) (nodes_due units due)) (n + 1) lines a → Rest (nodes claim q (sketching old.sketched frames) (sketch_due old.reading due)) n (line ∷ lines) a
over_rest old new claim q frames due units n line lines a is takes over same rest =
    let walk : cond (is_over new.reading.due) (going frames) (sketching new.sketched frames) ≡ going frames = cond-true (is_over new.reading.due) (going frames) (sketching new.sketched frames) over in
    let dues : closed new.reading due ≡ nodes_due new.reading.units due = cond-true (is_over new.reading.due) (nodes_due new.reading.units due) (sketch_due new.reading due) over in
    let here = subst (λ (u : ℕ). Rest (nodes claim q (going frames) (nodes_due u due)) (n + 1) lines a) same rest in
    line_rest old new None claim q frames due n line lines a is takes
    (subst (λ (w : Walking). Rest (nodes claim q w (closed new.reading due)) (n + 1) lines a) (sym walk) (subst (λ (d : Due). Rest (nodes claim q (going frames) d) (n + 1) lines a) (sym dues) here))
