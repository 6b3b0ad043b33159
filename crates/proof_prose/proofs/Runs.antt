-- Runs of nodes that are told together, and paragraphs that are told one after another.
use Rattle.std.proofs.Common.{◌≡◌, ℕ, zero, suc, ◌+◌, ◌-◌, ◌<◌, ◌≤◌, Bool, true, false, inl, inr, List, [], ◌∷◌, ◌++◌, length, take, drop, get_or, refl, sym, ap, ◌∙◌, arith}
use Rattle.std.specs.Prelude.{Some, None}
use Rattle.std.specs.List.{find}
use Rattle.std.proofs.Math.Seq.{drop-cons}
use Rattle.std.proofs.lemmas.Bool.{cases_Bool, cond-true, cond-false}
use Rattle.std.proofs.lemmas.List.{append_assoc, drop-drop, drop_all, take-append-drop}
use Rattle.proof_prose.specs.Paragraphs.{Paragraph, alone, joined, joins, paragraph_text, paragraphs_of, put_before, said_of, told_after}
use Rattle.proof_prose.specs.Runs.{IsRun, run_of}
use Rattle.proof_prose.specs.declared.bodies.Spoken.{Spoken}
use Rattle.proof_prose.specs.declared.paragraphs.Said.{Said}

-- the node after one that stops is the first of a paragraph
apart : (s t : Spoken) (ps : List Paragraph) → joins s t ≡ false → put_before s (put_before t ps) ≡ alone s ∷ put_before t ps
apart s t [] stops = cond-false (joins s t) (joined s (alone t) ∷ []) (alone s ∷ alone t ∷ []) stops
apart s t (p ∷ ps) stops = elim (cases_Bool (joins t p.first)) [
  | inl meets ↦
      let e : put_before t (p ∷ ps) ≡ joined t p ∷ ps = cond-true (joins t p.first) (joined t p ∷ ps) (alone t ∷ p ∷ ps) meets in
      ap (put_before s) e ∙ cond-false (joins s t) (joined s (joined t p) ∷ ps) (alone s ∷ joined t p ∷ ps) stops ∙ ap (λ (l : List Paragraph). alone s ∷ l) (sym e)
  | inr other ↦
      let e : put_before t (p ∷ ps) ≡ alone t ∷ p ∷ ps = cond-false (joins t p.first) (joined t p ∷ ps) (alone t ∷ p ∷ ps) other in
      ap (put_before s) e ∙ cond-false (joins s t) (joined s (alone t) ∷ p ∷ ps) (alone s ∷ alone t ∷ p ∷ ps) stops ∙ ap (λ (l : List Paragraph). alone s ∷ l) (sym e)
]

-- a run is a paragraph
pub run-first : (s : Spoken) (others rest : List Spoken) → IsRun s others rest → paragraphs_of (s ∷ (others ++ rest)) ≡ run_of s others ∷ paragraphs_of rest
run-first s [] [] h = refl
run-first s [] (t ∷ rest) h = apart s t (paragraphs_of rest) h
run-first s (t ∷ others) rest h =
    ap (put_before s) (run-first t others rest h.1)
    ∙ cond-true (joins s t) (run_of s (t ∷ others) ∷ paragraphs_of rest) (alone s ∷ run_of t others ∷ paragraphs_of rest) h.0

-- so many nodes each of which is told with the one before, up to one that isn't
pub run-told : (s : Spoken) (rest : List Spoken) (n : ℕ) (d : Spoken) → n ≤ length rest → ((k : ℕ) → k < n → joins (get_or (s ∷ rest) k d) (get_or rest k d) ≡ true) → (n < length rest → joins (get_or (s ∷ rest) n d) (get_or rest n d) ≡ false) → IsRun s (take n rest) (drop n rest)
run-told s [] zero d few all stop = tt
run-told s [] (suc n) d few all stop = absurd (omega arith)
run-told s (t ∷ rest) zero d few all stop = stop (omega arith)
run-told s (t ∷ rest) (suc n) d few all stop =
    (all 0 (omega arith), run-told t rest n d (omega arith) (λ k lt. all (suc k) (omega arith)) (λ lt. stop (omega arith)))

-- a paragraph more
pub told-next : (nodes : List Spoken) (i n : ℕ) (first : Spoken) (said now : List Said) (o new : List ℕ) → i < length nodes → first ≡ get_or nodes i first → IsRun first (take n (drop (i + 1) nodes)) (drop n (drop (i + 1) nodes)) → new ≡ o ++ paragraph_text said (run_of first (take n (drop (i + 1) nodes))) → now ≡ said ++ said_of (run_of first (take n (drop (i + 1) nodes))) ∷ [] → new ++ told_after now (paragraphs_of (drop (i + (1 + n)) nodes)) ≡ o ++ told_after said (paragraphs_of (drop i nodes))
told-next nodes i n first said now o new lt at run e f =
    let rest : List Spoken = drop (i + 1) nodes in
    let p : Paragraph = run_of first (take n rest) in
    let one : suc i ≡ i + 1 = omega arith in
    let sum : (i + 1) + n ≡ i + (1 + n) = omega arith in
    let later : drop n rest ≡ drop (i + (1 + n)) nodes = drop-drop n (i + 1) nodes ∙ ap (λ (k : ℕ). drop k nodes) sum in
    let whole : drop i nodes ≡ first ∷ (take n rest ++ drop n rest) =
    drop-cons nodes i first lt ∙ ap (λ (s : Spoken). s ∷ drop (suc i) nodes) (sym at) ∙ ap (λ (k : ℕ). first ∷ drop k nodes) one ∙ ap (λ (l : List Spoken). first ∷ l) (sym (take-append-drop n rest)) in
    let parts : paragraphs_of (drop i nodes) ≡ p ∷ paragraphs_of (drop (i + (1 + n)) nodes) =
    ap paragraphs_of whole ∙ run-first first (take n rest) (drop n rest) run ∙ ap (λ (l : List Spoken). p ∷ paragraphs_of l) later in
    let others : List Paragraph = paragraphs_of (drop (i + (1 + n)) nodes) in
    ap (λ (l : List ℕ). l ++ told_after now others) e
    ∙ append_assoc o (paragraph_text said p) (told_after now others)
    ∙ ap (λ (l : List Said). o ++ (paragraph_text said p ++ told_after l others)) f
    ∙ ap (λ (l : List Paragraph). o ++ told_after said l) (sym parts)

-- what is found from a place on
pub found-here : {X : Type 0} (p : X → Bool) (xs : List X) (k : ℕ) (d : X) → k < length xs → p (get_or xs k d) ≡ true → find p (drop k xs) ≡ Some (get_or xs k d)
found-here {X} p xs k d lt hit =
    ap (find p) (drop-cons xs k d lt) ∙ cond-true (p (get_or xs k d)) (Some (get_or xs k d)) (find p (drop (suc k) xs)) hit

pub found-later : {X : Type 0} (p : X → Bool) (xs : List X) (k : ℕ) (d : X) → k < length xs → p (get_or xs k d) ≡ false → find p (drop k xs) ≡ find p (drop (k + 1) xs)
found-later {X} p xs k d lt miss =
    let one : suc k ≡ k + 1 = omega arith in
    ap (find p) (drop-cons xs k d lt) ∙ cond-false (p (get_or xs k d)) (Some (get_or xs k d)) (find p (drop (suc k) xs)) miss ∙ ap (λ (j : ℕ). find p (drop j xs)) one

pub found-nowhere : {X : Type 0} (p : X → Bool) (xs : List X) (k : ℕ) → length xs ≤ k → find p (drop k xs) ≡ None
found-nowhere {X} p xs k past = ap (find p) (drop_all k xs past)

-- the element before a place, behind a first one
pub get-before : {X : Type 0} (x : X) (xs : List X) (i : ℕ) (d : X) → (i ≡ 0 → ⊥) → get_or (x ∷ xs) i d ≡ get_or xs (i - 1) d
get-before {X} x xs zero d some = absurd (some refl)
get-before {X} x xs (suc k) d some = let same : k ≡ suc k - 1 = omega arith in ap (λ (n : ℕ). get_or xs n d) same

-- a list of no length
pub none-left : {X : Type 0} (xs : List X) → length xs ≡ 0 → xs ≡ []
none-left {X} [] e = refl
none-left {X} (x ∷ xs) e = absurd (omega (arith, e))
