-- Claims that stay open, told one behind the other.
use Rattle.std.proofs.Common.{◌≡◌, ℕ, ◌+◌, ◌<◌, Bool, true, false, List, [], ◌∷◌, ◌++◌, length, get_or, take, sym, ap, subst, ◌∙◌, append_assoc, append-nil}
use Rattle.std.specs.Prelude.{Option}
use Rattle.std.specs.List.{flat_map}
use Rattle.std.proofs.lemmas.Bool.{cond-false, cond-true}
use Rattle.std.proofs.lemmas.List.{flat_map_more}
use Rattle.general_lemmas.proofs.Splits.{up_to}
use Rattle.board_base.specs.declared.unmoves.Unmove.{Unmove}
use Rattle.query_base.specs.Asked.{Asked}
use Rattle.prose_words.proofs.Squares.{thence}
use Rattle.diagram_study.specs.Finding.{Finding}
use Rattle.diagram_study.specs.Held.{is_open}
use Rattle.verdict_prose.specs.Sentences.{verdict_text}
use Rattle.verdict_prose.specs.declared.verdicts.Verdict.{Verdict}
use Rattle.position_report.specs.Open.{OpenClaim, claim_text, if_open, is_lost, open_as, open_text, run_before, run_behind, run_text, stuck_text}
use Rattle.position_report.specs.Told.{AreTold}
use Rattle.position_report.specs.declared.runs.Run.{Run}
use Rattle.position_report.specs.declared.runs.Run.TheVariants.{Empty}

-- one claim
pub one-told : (q : Asked) (said : Verdict) (aim : Asked) (stuck : Option (List Unmove)) (lost : Bool) (before behind : Run) (o p r s : List ℕ) → lost ≡ is_lost stuck → p ≡ o ++ run_before lost before → r ≡ p ++ verdict_text q said → s ≡ r ++ stuck_text aim stuck → behind ≡ run_behind lost before → AreTold q (open_as said aim stuck ∷ []) before behind o s
one-told q said aim stuck lost before behind o p r s is first second third next = λ rest.
    let c : OpenClaim = open_as said aim stuck in
    let told : p ≡ o ++ run_before (is_lost stuck) before = first ∙ ap (λ (b : Bool). o ++ run_before b before) is in
    let whole : s ≡ o ++ claim_text q before c =
    thence o r s (run_before (is_lost stuck) before ++ verdict_text q said) (stuck_text aim stuck) (thence o p r (run_before (is_lost stuck) before) (verdict_text q said) told second) third in
    ap (λ (l : List ℕ). l ++ open_text q behind rest) whole
    ∙ append_assoc o (claim_text q before c) (open_text q behind rest)
    ∙ ap (λ (b : Run). o ++ (claim_text q before c ++ open_text q b rest)) (next ∙ ap (λ (b : Bool). run_behind b before) is)

-- the same, if it isn't settled
pub open-told : (q : Asked) (found : Finding) (c : OpenClaim) (before behind : Run) (o s : List ℕ) → is_open found ≡ true → AreTold q (c ∷ []) before behind o s → AreTold q (if_open found c) before behind o s
open-told q found c before behind o s opens told =
    subst (λ (cs : List OpenClaim). AreTold q cs before behind o s) (sym (cond-true (is_open found) (c ∷ []) [] opens)) told

pub settled-untold : (q : Asked) (found : Finding) (c : OpenClaim) (run : Run) (o : List ℕ) → is_open found ≡ false → AreTold q (if_open found c) run run o o
settled-untold q found c run o settled = λ rest.
    ap (λ (cs : List OpenClaim). o ++ open_text q run (cs ++ rest)) (sym (cond-false (is_open found) (c ∷ []) [] settled))

-- claims behind others
pub both-told : (q : Asked) (xs ys : List OpenClaim) (a b d : Run) (o m n : List ℕ) → AreTold q xs a b o m → AreTold q ys b d m n → AreTold q (xs ++ ys) a d o n
both-told q xs ys a b d o m n first second = λ rest.
    second rest ∙ first (ys ++ rest) ∙ ap (λ (cs : List OpenClaim). o ++ open_text q a cs) (sym (append_assoc xs ys rest))

-- those of one item more
pub more-told : {X : Type 0} (q : Asked) (f : X → List OpenClaim) (xs : List X) (i : ℕ) (x : X) (a b d : Run) (o m n : List ℕ) → i < length xs → x ≡ get_or xs i x → AreTold q (flat_map f (take i xs)) a b o m → AreTold q (f x) b d m n → AreTold q (flat_map f (take (i + 1) xs)) a d o n
more-told {X} q f xs i x a b d o m n inside here so_far more =
    let grown : flat_map f (take i xs) ++ f x ≡ flat_map f (take (i + 1) xs) =
    flat_map_more f [] (take i xs) x ∙ ap (λ (l : List X). flat_map f l) (sym (up_to xs i x inside here)) in
    subst (λ (cs : List OpenClaim). AreTold q cs a d o n) grown (both-told q (flat_map f (take i xs)) (f x) a b d o m n so_far more)

-- two lists of them, from the beginning, and what is said of the run behind them
pub all-told : (q : Asked) (xs ys : List OpenClaim) (a b : Run) (o m n r : List ℕ) → o ≡ [] → AreTold q xs Empty a o m → AreTold q ys a b m n → r ≡ n ++ run_text b → r ≡ open_text q Empty (xs ++ ys)
all-told q xs ys a b o m n r none first second last =
    last
    ∙ both-told q xs ys Empty a b o m n first second []
    ∙ ap (λ (cs : List OpenClaim). o ++ open_text q Empty cs) (append-nil (xs ++ ys))
    ∙ ap (λ (l : List ℕ). l ++ open_text q Empty (xs ++ ys)) none
