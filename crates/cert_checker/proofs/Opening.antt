-- Frames that are put on and taken off.
use Rattle.std.proofs.Common.{◌≡◌, ℕ, zero, suc, ◌-◌, ◌<◌, ◌≤◌, Bool, cond, List, [], ◌∷◌, length, map, drop, reverse, get_or, IfSome, slice_get, refl, ap, ◌∙◌, subst, arith}
use Rattle.std.proofs.lemmas.List.{length-reverse, get_or-reverse}
use Rattle.std.proofs.lemmas.Option.{slice_get-map, slice_get-get_or}
use Rattle.std.specs.Prelude.{Option, Some, None}
use Rattle.std.specs.Option.{option_map}
use Rattle.std.specs.List.{Contains}
use Rattle.board_base.specs.declared.unmoves.Unmove.{Unmove}
use Rattle.general_lemmas.proofs.Lists.{contains-first, contains-later}
use Rattle.query_base.specs.Asked.{Asked}
use Rattle.query_base.specs.declared.claims.Claim.{Claim}
use Rattle.unmove_gen.specs.Listed.{unmoves}
use Rattle.cert_text.specs.Reading.{HasRoom}
use Rattle.cert_text.specs.Due.{Due, kid_step, nodes_due, none_left}
use Rattle.cert_text.specs.declared.node_lines.BodyLine.{BodyLine}
use Rattle.cert_text.specs.declared.node_lines.BodyLine.TheVariants.{Rule, Back, Expand, Sketch}
use Rattle.query_base.specs.Ancestors.{ancestor}
use Rattle.cert_checker.specs.Answers.{Answer, bad_text}
use Rattle.cert_checker.specs.Counting.{counts_with}
use Rattle.cert_checker.specs.Frames.{Walking, going, sketching, stopped, go_on, ended, end_at, end_unmoves, query_of_frame, OnNext}
use Rattle.cert_checker.specs.Framing.{popped, due_of, stopped_by, walking, with_body, IsOpen, IsStack}
use Rattle.cert_checker.specs.Stages.{Stage, nodes, Stepped, answer_by, Rest}
use Rattle.cert_checker.specs.Kept.{Frame}
use Rattle.cert_checker.specs.declared.frames.FirstFault.{FirstFault}
use Rattle.cert_checker.specs.declared.frames.FirstFault.TheVariants.{Unlisted, Unsupported}

-- the query so many steps from the end
pub ancestor_at : (frames : List Frame) (k : ℕ) (f : Frame) → (k ≡ 0 → ⊥) → k ≤ length frames → ancestor (map query_of_frame (reverse frames)) k ≡ Some (get_or frames (length frames - k) f).query
ancestor_at frames zero f some inside = absurd (some refl)
ancestor_at frames (suc k) f some inside =
    let place : length frames - 1 - k ≡ length frames - suc k = omega arith in
    slice_get-map query_of_frame (reverse frames) k
    ∙ ap (option_map query_of_frame) (slice_get-get_or (reverse frames) k f (omega (arith, length-reverse frames))
    ∙ ap (λ (x : Frame). Some x) (get_or-reverse frames k f (omega arith) ∙ ap (λ (i : ℕ). get_or frames i f) place))

pub stays : (f : FirstFault) (go : List Frame → Walking) → go_on (stopped_by f) go ≡ stopped_by f
stays (Unlisted n u) go = refl
stays (Unsupported n w) go = refl

open_end : (d : ℕ) (f : Frame) (frames : List Frame) (later : Walking) → 0 < d → end_at d f frames later ≡ going (f ∷ frames)
open_end zero f frames later some = absurd (omega arith)
open_end (suc m) f frames later some = refl

-- where the innermost frame has a child due, no frame is taken off

pub open_stands : (found : Option FirstFault) (frames : List Frame) → IsOpen frames → go_on (walking found frames) ended ≡ walking found frames
open_stands None [] some = refl
open_stands None (f ∷ frames) some = open_end f.due f frames (ended frames) some
open_stands (Some x) frames some = stays x ended

end_idle : (left : List Unmove) (top : ℕ) (later : Walking) → go_on later ended ≡ later → go_on (end_unmoves left top later) ended ≡ end_unmoves left top later
end_idle [] top later e = e
end_idle (u ∷ us) top later e = refl

end_at_idle : (d : ℕ) (f : Frame) (frames : List Frame) (later : Walking) → d ≡ f.due → go_on later ended ≡ later → go_on (end_at d f frames later) ended ≡ end_at d f frames later
end_at_idle zero f frames later e idle = end_idle f.left f.line later idle
end_at_idle (suc m) f frames later e idle = open_end f.due f frames (ended frames) (omega (arith, e))

ended_idle : (frames : List Frame) → go_on (ended frames) ended ≡ ended frames
ended_idle [] = refl
ended_idle (f ∷ frames) = end_at_idle f.due f frames (ended frames) refl (ended_idle frames)

-- frames are ended once
pub settled_once : (w : Walking) → go_on (go_on w ended) ended ≡ go_on w ended
settled_once (going frames) = ended_idle frames
settled_once (sketching s frames) = refl
settled_once (stopped n f) = refl

done_popped : (due : List ℕ) → none_left (popped due) ≡ none_left due
done_popped [] = refl
done_popped (zero ∷ due) = done_popped due
done_popped (suc m ∷ due) = refl

pub step_popped : (units : ℕ) (due : List ℕ) (line : List ℕ) → kid_step units (popped due) line ≡ kid_step units due line
step_popped units [] line = refl
step_popped units (zero ∷ due) line = step_popped units due line
step_popped units (suc m ∷ due) line = refl

stepped_ended : (o : Option Due) (claim : Claim) (q : Asked) (w : Walking) (n : ℕ) (line : List ℕ) (next : Stage) → Stepped o claim q (go_on w ended) n line next → Stepped o claim q w n line next
stepped_ended None claim q w n line next e = e
stepped_ended (Some due) claim q w n line next (after, on, e) =
    (after, subst (λ (v : Walking). OnNext v n line after) (settled_once w) on, e)

-- what is answered where the frames with no child due were taken off
pub rest_settled : (lines : List (List ℕ)) (claim : Claim) (q : Asked) (w : Walking) (units : ℕ) (due : List ℕ) (n : ℕ) (a : Answer) → Rest (nodes claim q (go_on w ended) (nodes_due units (popped due))) n lines a → Rest (nodes claim q w (nodes_due units due)) n lines a
rest_settled [] claim q w units due n a e =
    e ∙ ap (λ (b : Bool). cond b (answer_by claim q n (go_on (go_on w ended) ended)) (bad_text n)) (done_popped due)
    ∙ ap (λ (v : Walking). cond (none_left due) (answer_by claim q n v) (bad_text n)) (settled_once w)
rest_settled (line ∷ lines) claim q w units due n a (next, stepped, rest) =
    (next, stepped_ended (kid_step units due line) claim q w n line next (subst (λ (o : Option Due). Stepped o claim q (go_on w ended) n line next) (step_popped units due line) stepped), rest)

pub due_with : (body : BodyLine) (q : Asked) (frames : List Frame) (n : ℕ) → map due_of (with_body body q frames n) ≡ counts_with body (map due_of frames)
due_with (Rule r) q frames n = refl
due_with (Back k) q frames n = refl
due_with (Expand c) q frames n = refl
due_with (Sketch h) q frames n = refl

-- a new frame, where its children have room
pub stack_with : (body : BodyLine) (q : Asked) (frames : List Frame) (n : ℕ) → HasRoom (length frames) body → IsStack frames → IsStack (with_body body q frames n)
stack_with (Rule r) q frames n room stack = stack
stack_with (Back k) q frames n room stack = stack
stack_with (Expand c) q frames n room stack = (room, λ u there. there, stack)
stack_with (Sketch h) q frames n room stack = stack

-- the first of unmoves that are the query's, if there is one
pub first_listed : (us : List Unmove) (q : Asked) → ((u : Unmove) → Contains us u → Contains (unmoves q) u) → IfSome (slice_get us 0) (λ u. Contains (unmoves q) u)
first_listed [] q all = tt
first_listed (v ∷ us) q all = all v (contains-first v us)

pub listed_rest : (us : List Unmove) (q : Asked) → ((u : Unmove) → Contains us u → Contains (unmoves q) u) → (u : Unmove) → Contains (drop 1 us) u → Contains (unmoves q) u
listed_rest [] q all u there = all u there
listed_rest (v ∷ us) q all u there = all u (contains-later v us u there)
