-- What is found of one right or pair of castlings more.
use Rattle.std.proofs.Common.{◌≡◌, ℕ, ◌+◌, ◌<◌, List, [], ◌∷◌, ◌++◌, length, get_or, map, take, refl, ap, sym, subst, ◌∙◌, arith, append_assoc, append-nil}
use Rattle.std.specs.List.{All}
use Rattle.std.proofs.lemmas.List.{map-append, take_more}
use Rattle.std.proofs.lemmas.List.Elements.{All-head, All-push, All-same, All-tail, All-weaker}
use Rattle.general_lemmas.proofs.Splits.{up_to}
use Rattle.board_base.specs.declared.castles.Castle.{Castle}
use Rattle.board_base.specs.declared.moves.Move.{Move}
use Rattle.query_base.specs.Asked.{Asked}
use Rattle.query_base.specs.declared.claims.Claim.{Claim}
use Rattle.codex_verdict.specs.Rights.{claim_of}
use Rattle.codex_verdict.specs.declared.kinds.Right.{Right}
use Rattle.query_base.specs.declared.claims.Claim.TheVariants.{Illegal}
use Rattle.line_claims.specs.Due.{with_both}
use Rattle.claim_findings.specs.Decisions.{Grows, IsAgreed, IsDecided}
use Rattle.claim_findings.specs.declared.deciding.Decided.{Decided}
use Rattle.diagram_study.specs.Decisions.{IsPairAgreed, IsPairSought, IsRightAgreed, IsRightSought}
use Rattle.diagram_study.specs.Pairs.{pair_of}
use Rattle.diagram_study.specs.declared.pairs.PairFound.{PairFound}
use Rattle.diagram_study.specs.declared.rights.RightFound.{RightFound}
use Rattle.claim_findings.proofs.Agreeing.{decided_grown}

pub rights_more : (each : List Right) (i : ℕ) (f : RightFound) (old new : List RightFound) → i < length each → f.right ≡ get_or each i f.right → map (λ g. g.right) old ≡ take i each → new ≡ old ++ f ∷ [] → map (λ g. g.right) new ≡ take (i + 1) each
rights_more each i f old new inside here so_far longer =
    ap (λ (l : List RightFound). map (λ g. g.right) l) longer ∙ map-append (λ (g : RightFound). g.right) old (f ∷ []) ∙ ap (λ (l : List Right). l ++ f.right ∷ []) so_far ∙ sym (up_to each i f.right inside here)

-- what was found of claims before there were more games
pub sought_grown : (q : Asked) (most nodes : ℕ) (a b : List (List Move)) (fs : List RightFound) → Grows a b → All (IsRightSought q most nodes a) fs → All (IsRightSought q most nodes b) fs
sought_grown q most nodes a b fs grows all =
    All-weaker (IsRightSought q most nodes a) (IsRightSought q most nodes b) (λ f is. record { decided = decided_grown q (claim_of f.right) most nodes a b _ grows is.decided }) fs all

pub sought_more : (q : Asked) (most nodes : ℕ) (a b : List (List Move)) (f : RightFound) (claim : Claim) (old new : List RightFound) → claim ≡ claim_of f.right → IsDecided q claim most nodes b (record { finding = f.finding; stuck = f.stuck }) → Grows a b → All (IsRightSought q most nodes a) old → new ≡ old ++ f ∷ [] → All (IsRightSought q most nodes b) new
sought_more q most nodes a b f claim old new is decided grows so_far longer =
    All-same (IsRightSought q most nodes b) new _ longer
    (All-push (IsRightSought q most nodes b) old f (sought_grown q most nodes a b old grows so_far) (record { decided = subst (λ (k : Claim). IsDecided q k most nodes b (record { finding = f.finding; stuck = f.stuck })) is decided }))

pub pairs_grown : (q : Asked) (most nodes : ℕ) (a b : List (List Move)) (fs : List PairFound) → Grows a b → All (IsPairSought q most nodes a) fs → All (IsPairSought q most nodes b) fs
pairs_grown q most nodes a b fs grows all =
    All-weaker (IsPairSought q most nodes a) (IsPairSought q most nodes b) (λ f is. record { decided = decided_grown (with_both q f.first f.second) Illegal most nodes a b _ grows is.decided }) fs all

pub pair_more : (q : Asked) (most nodes : ℕ) (a b : List (List Move)) (f : PairFound) (old new : List PairFound) → IsPairSought q most nodes b f → Grows a b → All (IsPairSought q most nodes a) old → new ≡ old ++ f ∷ [] → All (IsPairSought q most nodes b) new
pair_more q most nodes a b f old new is grows so_far longer =
    All-same (IsPairSought q most nodes b) new _ longer (All-push (IsPairSought q most nodes b) old f (pairs_grown q most nodes a b old grows so_far) is)

pub same_pair : (f g : PairFound) → f.first ≡ g.first → f.second ≡ g.second → pair_of f ≡ pair_of g
same_pair f g first second = ap (λ (x : Castle). let p : Castle × Castle = (x, f.second) in p) first ∙ ap (λ (y : Castle). let p : Castle × Castle = (g.first, y) in p) second

pub two_more : (each : List (Castle × Castle)) (i : ℕ) (d : Castle × Castle) (f : PairFound) (old new : List PairFound) → i < length each → f.first ≡ (get_or each i d).0 → f.second ≡ (get_or each i d).1 → map pair_of old ≡ take i each → new ≡ old ++ f ∷ [] → map pair_of new ≡ take (i + 1) each
two_more each i d f old new inside first second so_far longer =
    let pair : Castle × Castle = get_or each i d in
    let same : pair_of f ≡ pair = ap (λ (x : Castle). let p : Castle × Castle = (x, f.second) in p) first ∙ ap (λ (y : Castle). let p : Castle × Castle = (pair.0, y) in p) second in
    ap (λ (l : List PairFound). map pair_of l) longer ∙ map-append pair_of old (f ∷ []) ∙ ap (λ (l : List (Castle × Castle)). l ++ pair_of f ∷ []) so_far ∙ ap (λ (p : Castle × Castle). take i each ++ p ∷ []) same ∙ sym (take_more each i d inside)

-- one more by all games
pub told_more : {A B : Type 0} (h : A → B) (front rest old new : List A) (was x : A) (all : List B) → h x ≡ h was → new ≡ old ++ x ∷ [] → front ≡ was ∷ rest → map h old ++ map h front ≡ all → map h new ++ map h rest ≡ all
told_more {A} {B} h front rest old new was x all same longer next so_far =
    ap (λ (l : List A). map h l ++ map h rest) longer ∙ ap (λ (l : List B). l ++ map h rest) (map-append h old (x ∷ [])) ∙ append_assoc (map h old) (h x ∷ []) (map h rest) ∙ ap (λ (b : B). map h old ++ b ∷ map h rest) same ∙ ap (λ (l : List A). map h old ++ map h l) (sym next)
    ∙ so_far

pub told_all : {A B : Type 0} (h : A → B) (rest told : List A) (all : List B) → rest ≡ [] → map h told ++ map h rest ≡ all → map h told ≡ all
told_all {A} {B} h rest told all none so_far = sym (append-nil (map h told)) ∙ ap (λ (l : List A). map h told ++ map h l) (sym none) ∙ so_far

pub each_told : {A : Type 0} (P R : A → Type 0) (front rest old new : List A) (was x : A) → (P was → R x) → new ≡ old ++ x ∷ [] → front ≡ was ∷ rest → All R old × All P front → All R new × All P rest
each_told {A} P R front rest old new was x step longer next so_far =
    let here : All P (was ∷ rest) = All-same P (was ∷ rest) front (sym next) so_far.1 in
    (All-same R new _ longer (All-push R old x so_far.0 (step (All-head P was rest here))), All-tail P was rest here)

pub nothing_left : {A : Type 0} (l : List A) → length l ≡ 0 → l ≡ []
nothing_left [] none = refl
nothing_left (x ∷ l) none = absurd (omega (arith, none))

-- by these games too
pub right_by : (q : Asked) (claim : Claim) (most nodes : ℕ) (games : List (List Move)) (f : RightFound) (d : Decided) → claim ≡ claim_of f.right → IsRightSought q most nodes games f → (IsDecided q claim most nodes games (record { finding = f.finding; stuck = f.stuck }) → IsAgreed q claim most nodes games d) → IsRightAgreed q most nodes games (record { right = f.right; finding = d.finding; stuck = d.stuck })
right_by q claim most nodes games f d is sought step =
    let here : IsDecided q claim most nodes games (record { finding = f.finding; stuck = f.stuck }) = subst (λ (k : Claim). IsDecided q k most nodes games (record { finding = f.finding; stuck = f.stuck })) (sym is) sought.decided in
    record { agreed = subst (λ (k : Claim). IsAgreed q k most nodes games d) is (step here) }

pub pair_by : (q both : Asked) (most nodes : ℕ) (games : List (List Move)) (f : PairFound) (d : Decided) → both ≡ with_both q f.first f.second → IsPairSought q most nodes games f → (IsDecided both Illegal most nodes games (record { finding = f.finding; stuck = f.stuck }) → IsAgreed both Illegal most nodes games d) → IsPairAgreed q most nodes games (record { first = f.first; second = f.second; finding = d.finding; stuck = d.stuck })
pair_by q both most nodes games f d is sought step =
    let here : IsDecided both Illegal most nodes games (record { finding = f.finding; stuck = f.stuck }) = subst (λ (a : Asked). IsDecided a Illegal most nodes games (record { finding = f.finding; stuck = f.stuck })) (sym is) sought.decided in
    record { agreed = subst (λ (a : Asked). IsAgreed a Illegal most nodes games d) is (step here) }
