-- Rights and their truth values, one of each in order, and the lines of rights.
use Rattle.std.proofs.Common.{◌≡◌, ℕ, ◌+◌, ◌<◌, ◌≤◌, suc, Bool, List, [], ◌∷◌, ◌++◌, length, get_or, take, drop, refl, sym, ap, ◌∙◌, subst, append_assoc, arith, drop-cons, length-take-le}
use Rattle.std.proofs.lemmas.List.{append-nil, drop_all, take_more}
use Rattle.codex_verdict.specs.Verdicts.{verdict_text}
use Rattle.codex_verdict.specs.declared.kinds.Right.{Right}
use Rattle.command_answers.specs.Verdicts.{Each, right_lines, verdicts_text}

pub each-length : (P : Right → Bool → Type 0) (rights : List Right) (settled : List Bool) → Each P rights settled → length settled ≡ length rights
each-length P [] [] each = refl
each-length P [] (s ∷ others) each = absurd each
each-length P (right ∷ rights) [] each = absurd each
each-length P (right ∷ rights) (s ∷ others) each = ap suc (each-length P rights others each.1)

-- there are fewer truth values than rights, as long as some right is left
pub each-fewer : (P : Right → Bool → Type 0) (rights : List Right) (i : ℕ) (settled : List Bool) → i < length rights → Each P (take i rights) settled → length settled < length rights
each-fewer P rights i settled inside each = omega (arith, inside, each-length P (take i rights) settled each, length-take-le i rights (omega (arith, inside)))

each-push : (P : Right → Bool → Type 0) (rights : List Right) (settled : List Bool) (right : Right) (s : Bool) → Each P rights settled → P right s → Each P (rights ++ right ∷ []) (settled ++ s ∷ [])
each-push P [] [] right s each here = (here, tt)
each-push P [] (t ∷ others) right s each here = absurd each
each-push P (first ∷ rights) [] right s each here = absurd each
each-push P (first ∷ rights) (t ∷ others) right s each here = (each.0, each-push P rights others right s each.1 here)

-- one right more
pub each-more : (P : Right → Bool → Type 0) (rights : List Right) (i : ℕ) (right : Right) (old new : List Bool) (s : Bool) → i < length rights → right ≡ get_or rights i right → Each P (take i rights) old → P right s → new ≡ old ++ s ∷ [] → Each P (take (i + 1) rights) new
each-more P rights i right old new s inside here each holds more =
    let longer : take (i + 1) rights ≡ take i rights ++ right ∷ [] = take_more rights i right inside ∙ ap (λ (x : Right). take i rights ++ x ∷ []) (sym here) in
    subst (λ (l : List Right). Each P l new) (sym longer) (subst (Each P (take i rights ++ right ∷ [])) (sym more) (each-push P (take i rights) old right s each holds))

-- the text so far, and the lines that are still to be written, are all lines
pub record LinesSoFar (depth : ℕ) (rights : List Right) (settled : List Bool) (i : ℕ) (text : List ℕ) : Type 0 where
  pub lines : right_lines depth rights settled ≡ text ++ right_lines depth (drop i rights) (drop i settled)

pub lines_none : (depth : ℕ) (rights : List Right) (settled : List Bool) → LinesSoFar depth rights settled 0 []
lines_none depth rights settled = record { lines = refl }

pub lines_more : (depth : ℕ) (rights : List Right) (settled : List Bool) (i : ℕ) (right : Right) (d : Bool) (old new : List ℕ) → LinesSoFar depth rights settled i old → i < length rights → i < length settled → right ≡ get_or rights i right → new ≡ old ++ verdict_text right (get_or settled i d) depth → LinesSoFar depth rights settled (i + 1) new
unfolding right_lines
lines_more depth rights settled i right d old new so_far inside within here more =
    let s = get_or settled i d in
    let next : suc i ≡ i + 1 = omega arith in
    let left : drop i rights ≡ right ∷ drop (i + 1) rights = drop-cons rights i right inside ∙ ap (λ (x : Right). x ∷ drop (suc i) rights) (sym here) ∙ ap (λ (n : ℕ). right ∷ drop n rights) next in
    let others : drop i settled ≡ s ∷ drop (i + 1) settled = drop-cons settled i d within ∙ ap (λ (n : ℕ). s ∷ drop n settled) next in
    record {
      lines =
          so_far.lines
          ∙ ap (λ (l : List Right). old ++ right_lines depth l (drop i settled)) left
          ∙ ap (λ (l : List Bool). old ++ right_lines depth (right ∷ drop (i + 1) rights) l) others
          ∙ sym (append_assoc old (verdict_text right s depth) (right_lines depth (drop (i + 1) rights) (drop (i + 1) settled)))
          ∙ ap (λ (t : List ℕ). t ++ right_lines depth (drop (i + 1) rights) (drop (i + 1) settled)) (sym more);
    }

-- after the last right
lines-end : (depth : ℕ) (rights : List Right) (settled : List Bool) (i : ℕ) (text : List ℕ) → LinesSoFar depth rights settled i text → length rights ≤ i → text ≡ right_lines depth rights settled
unfolding right_lines
lines-end depth rights settled i text so_far past =
    sym (so_far.lines ∙ ap (λ (l : List Right). text ++ right_lines depth l (drop i settled)) (drop_all i rights past) ∙ append-nil text)

pub lines-all : (depth : ℕ) (rights : List Right) (settled : List Bool) (i : ℕ) (text : List ℕ) → LinesSoFar depth rights settled i text → length rights ≤ i → (length rights ≡ 0 → ⊥) → text ≡ verdicts_text depth rights settled
lines-all depth [] settled i text so_far past some = absurd (some refl)
lines-all depth (right ∷ rights) settled i text so_far past some = lines-end depth (right ∷ rights) settled i text so_far past
