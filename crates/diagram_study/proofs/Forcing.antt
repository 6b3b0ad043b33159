-- The last moves that follow one from another.
use Rattle.std.proofs.Common.{◌≡◌, ℕ, zero, suc, ◌+◌, ◌-◌, ◌<◌, ◌≤◌, Bool, true, false, cond, List, [], ◌∷◌, ◌++◌, length, refl, ap, sym, subst, ◌∙◌, arith, append_assoc, append-nil, length-append}
use Rattle.std.specs.Prelude.{IsTrue, MatchOption, None, Option, Some, slice_get, ◌&&◌}
use Rattle.std.specs.List.{All, Contains, list_all}
use Rattle.std.proofs.lemmas.List.Elements.{All-head}
use Rattle.std.proofs.lemmas.List.Folds.{list_all-append}
use Rattle.general_lemmas.proofs.Lists.{contains-first, contains-later}
use Rattle.board_base.specs.declared.unmoves.Unmove.{Unmove}
use Rattle.query_base.specs.Asked.{Asked}
use Rattle.query_base.specs.declared.claims.Claim.TheVariants.{Last}
use Rattle.unmove_gen.specs.Listed.{unmoves}
use Rattle.unmove_gen.specs.Predecessor.{predecessor}
use Rattle.line_claims.specs.Lines.{has_text}
use Rattle.line_claims.specs.Listing.{AreListed}
use Rattle.claim_findings.proofs.OpenFronts.{listed_more, listed_none}
use Rattle.claim_findings.specs.Findings.{IsFound, is_proved, is_refuted}
use Rattle.diagram_study.specs.Forced.{AreForced, AreStepsFound, IsForced, IsOpenPlace, IsStepsFound, LastFound}
use Rattle.diagram_study.specs.Retractions.{AreLeft, HasLeft}
use Rattle.claim_findings.specs.declared.findings.Finding.{Finding}
use Rattle.diagram_study.specs.declared.forced.StepsFound.{StepsFound}

-- the first of a list of one
pub only_first : (left : List Unmove) → length left ≡ 1 → MatchOption (slice_get left 0) (length left ≡ 1 → ⊥) (λ u. left ≡ u ∷ [])
only_first [] one = λ e. omega (arith, e)
only_first (u ∷ []) one = refl
only_first (u ∷ v ∷ us) one = absurd (omega (arith, one))

-- the unmove is forced
pub forced_by : (q : Asked) (most nodes : ℕ) (left : List Unmove) (u : Unmove) (finding : Finding) → HasLeft q most nodes left → left ≡ u ∷ [] → IsFound q (Last u.mv) most nodes finding → is_proved finding ≡ true → IsForced q most nodes u
forced_by q most nodes left u finding has is found proved = record {
  finding = finding;
  last = record { left = subst (HasLeft q most nodes) is has; found = found };
  proved = proved;
}

head_is : (u v : Unmove) → u ∷ [] ≡ v ∷ [] → u ≡ v
head_is u v e = cc

-- it isn't proved to have been the last
pub open_by : (q : Asked) (most nodes : ℕ) (left : List Unmove) (u : Unmove) (finding : Finding) → HasLeft q most nodes left → left ≡ u ∷ [] → IsFound q (Last u.mv) most nodes finding → is_proved finding ≡ false → IsOpenPlace q most nodes
open_by q most nodes left u finding has is found unproved = (
  left,
  has,
  λ v e.
      let same : u ≡ v = head_is u v (sym is ∙ e) in
      let last : LastFound q most nodes u finding = record { left = subst (HasLeft q most nodes) is has; found = found } in
      (finding, subst (λ (w : Unmove). LastFound q most nodes w finding) same last, λ proved. cc),
)

-- another number is left
pub open_by_number : (q : Asked) (most nodes : ℕ) (left : List Unmove) → HasLeft q most nodes left → (length left ≡ 1 → ⊥) → IsOpenPlace q most nodes
open_by_number q most nodes left has several = (left, has, λ v e. absurd (several (ap length e)))

-- an unmove that is left is one of the unmoves
first_or_later : (b : Bool) (v : Unmove) (us others : List Unmove) (u : Unmove) → u ∷ [] ≡ cond b others (v ∷ others) → (u ∷ [] ≡ others → Contains us u) → Contains (v ∷ us) u
first_or_later true v us others u e later = contains-later v us u (later e)
first_or_later false v us others u e later = let same : u ≡ v = cc in subst (λ (w : Unmove). Contains (w ∷ us) u) same (contains-first u us)

pub left_listed : (q : Asked) (depth nodes : ℕ) (us : List Unmove) (u : Unmove) → AreLeft q depth nodes us (u ∷ []) → Contains us u
left_listed q depth nodes [] u are = absurd (omega (arith, ap length are))
left_listed q depth nodes (v ∷ us) u are =
    first_or_later (is_refuted are.0) v us are.1 u are.4 (λ e. left_listed q depth nodes us u (subst (AreLeft q depth nodes us) (sym e) are.3))

pub forced_listed_here : (q : Asked) (most nodes : ℕ) (u : Unmove) → IsForced q most nodes u → Contains (unmoves q) u
forced_listed_here q most nodes u forced = left_listed q (most - 1) nodes (unmoves q) u forced.last.left.are

pub forced_listed : (room : ℕ) (q : Asked) (most nodes : ℕ) (steps : List Unmove) → AreForced room q most nodes steps → AreListed q steps
forced_listed zero q most nodes steps forced = subst (AreListed q) (sym forced) (listed_none q)
forced_listed (suc room) q most nodes [] forced = listed_none q
forced_listed (suc room) q most nodes (u ∷ steps) forced =
    listed_more q u steps (forced_listed_here q most nodes u forced.0) (forced_listed room (predecessor q u) most nodes steps forced.1)

-- there are no more of them than that
pub forced_few : (room : ℕ) (q : Asked) (most nodes : ℕ) (steps : List Unmove) → AreForced room q most nodes steps → length steps ≤ room
forced_few zero q most nodes steps forced = omega (arith, ap length forced)
forced_few (suc room) q most nodes [] forced = omega arith
forced_few (suc room) q most nodes (u ∷ steps) forced = omega (arith, forced_few room (predecessor q u) most nodes steps forced.1)

-- the steps so far, and where they lead: what is forced there completes them
pub record ForcedSoFar (q : Asked) (most nodes : ℕ) (steps : List Unmove) (here : Asked) : Type 0 where
  pub few : length steps < 16
  pub complete : (us : List Unmove) → AreForced (16 - length steps) here most nodes us → AreForced 16 q most nodes (steps ++ us)
  pub texts : IsTrue (list_all has_text steps)

pub forced_none : (q here : Asked) (most nodes : ℕ) (steps : List Unmove) → here ≡ q → steps ≡ [] → ForcedSoFar q most nodes steps here
forced_none q here most nodes steps same none =
    subst (λ (l : List Unmove). ForcedSoFar q most nodes l here) (sym none) (subst (ForcedSoFar q most nodes []) (sym same) (record { few = omega arith; complete = λ us forced. forced; texts = refl }))

-- one step more
pub steps_more : (q : Asked) (most nodes : ℕ) (steps new : List Unmove) (here : Asked) (u : Unmove) (us : List Unmove) → ForcedSoFar q most nodes steps here → IsForced here most nodes u → new ≡ steps ++ u ∷ [] → AreForced (15 - length steps) (predecessor here u) most nodes us → AreForced 16 q most nodes (new ++ us)
steps_more q most nodes steps new here u us so_far forced longer rest =
    let room : 16 - length steps ≡ suc (15 - length steps) = omega (arith, so_far.few) in
    let whole : AreForced 16 q most nodes (steps ++ u ∷ us) = so_far.complete (u ∷ us) (subst (λ (n : ℕ). AreForced n here most nodes (u ∷ us)) (sym room) (forced, rest)) in
    subst (AreForced 16 q most nodes) (sym (append_assoc steps (u ∷ []) us) ∙ ap (λ (l : List Unmove). l ++ us) (sym longer)) whole

pub texts_more : (steps new : List Unmove) (u : Unmove) → IsTrue (list_all has_text steps) → IsTrue (has_text u) → new ≡ steps ++ u ∷ [] → IsTrue (list_all has_text new)
texts_more steps new u all text longer =
    ap (list_all has_text) longer ∙ list_all-append has_text steps (u ∷ []) ∙ ap (λ (b : Bool). b && list_all has_text (u ∷ [])) all ∙ ap (λ (b : Bool). b && true) text

pub so_far_more : (q : Asked) (most nodes : ℕ) (steps new : List Unmove) (here next : Asked) (u : Unmove) → ForcedSoFar q most nodes steps here → IsForced here most nodes u → IsTrue (has_text u) → new ≡ steps ++ u ∷ [] → (length new ≡ 16 → ⊥) → next ≡ predecessor here u → ForcedSoFar q most nodes new next
so_far_more q most nodes steps new here next u so_far forced text longer short moved =
    let number : length new ≡ length steps + 1 = ap length longer ∙ length-append steps (u ∷ []) in
    let room : 16 - length new ≡ 15 - length steps = omega (arith, number) in
    record {
      few = omega (arith, number, so_far.few);
      complete = λ us rest.
          steps_more q most nodes steps new here u us so_far forced longer
          (subst (λ (n : ℕ). AreForced n (predecessor here u) most nodes us) room (subst (λ (r : Asked). AreForced (16 - length new) r most nodes us) moved rest));
      texts = texts_more steps new u so_far.texts text longer;
    }

-- so many steps as there may be
pub forced_full : (q : Asked) (most nodes : ℕ) (steps new : List Unmove) (here : Asked) (u : Unmove) → ForcedSoFar q most nodes steps here → IsForced here most nodes u → new ≡ steps ++ u ∷ [] → length new ≡ 16 → AreForced 16 q most nodes new
forced_full q most nodes steps new here u so_far forced longer full =
    let number : length new ≡ length steps + 1 = ap length longer ∙ length-append steps (u ∷ []) in
    let none : 15 - length steps ≡ 0 = omega (arith, number, full) in
    subst (AreForced 16 q most nodes) (append-nil new)
    (steps_more q most nodes steps new here u [] so_far forced longer (subst (λ (n : ℕ). AreForced n (predecessor here u) most nodes []) (sym none) refl))

-- the steps end at an open place
pub forced_end : (q : Asked) (most nodes : ℕ) (steps : List Unmove) (here : Asked) → ForcedSoFar q most nodes steps here → IsOpenPlace here most nodes → AreForced 16 q most nodes steps
forced_end q most nodes steps here so_far place =
    let room : 16 - length steps ≡ suc (15 - length steps) = omega (arith, so_far.few) in
    subst (AreForced 16 q most nodes) (append-nil steps) (so_far.complete [] (subst (λ (n : ℕ). AreForced n here most nodes []) (sym room) place))

-- the only unmove that is left has a text
pub only_text : (left : List Unmove) (u : Unmove) → left ≡ u ∷ [] → All (λ v. IsTrue (has_text v)) left → IsTrue (has_text u)
only_text left u is all = All-head (λ (v : Unmove). IsTrue (has_text v)) u [] (subst (All (λ (v : Unmove). IsTrue (has_text v))) is all)

-- what is next, and has a text where it is an unmove
pub next_is : (q : Asked) (most nodes : ℕ) (left : List Unmove) (step : Option Unmove) → All (λ u. IsTrue (has_text u)) left → MatchOption step (IsOpenPlace q most nodes) (λ u. IsForced q most nodes u × (left ≡ u ∷ [])) → MatchOption step (IsOpenPlace q most nodes) (λ u. IsForced q most nodes u × IsTrue (has_text u))
next_is q most nodes left None all next = next
next_is q most nodes left (Some u) all next = (next.0, only_text left u next.1 all)

-- what was found of two steps or more
pub several_found : (q : Asked) (most nodes : ℕ) (steps : List Unmove) (f : StepsFound) → AreForced 16 q most nodes steps → 2 ≤ length steps → IsStepsFound q most nodes steps f → AreStepsFound q most nodes (Some f)
several_found q most nodes steps f forced several is = record { steps = steps; forced = forced; several = λ _. (f, is, refl); few = λ less. absurd (omega (arith, several, less)) }

-- and of fewer
pub few_found : (q : Asked) (most nodes : ℕ) (steps : List Unmove) → AreForced 16 q most nodes steps → length steps < 2 → AreStepsFound q most nodes None
few_found q most nodes steps forced few = record { steps = steps; forced = forced; several = λ more. absurd (omega (arith, few, more)); few = λ _. refl }
