-- The retractions that are left so far.
use Rattle.std.proofs.Common.{◌≡◌, ℕ, ◌+◌, ◌≤◌, Bool, true, false, cond, List, [], ◌∷◌, ◌++◌, length, refl, ap, sym, subst, ◌∙◌, arith, append_assoc, append-nil, length-append, inl, inr}
use Rattle.std.specs.Prelude.{IsTrue}
use Rattle.std.specs.List.{All, Contains}
use Rattle.std.proofs.lemmas.List.Elements.{All-nil, All-push, All-same, Contains-append_right}
use Rattle.general_lemmas.proofs.Lists.{contains-cases, contains-first, contains-later, contains-none}
use Rattle.board_base.specs.declared.moves.Move.{Move}
use Rattle.board_base.specs.declared.unmoves.Unmove.{Unmove}
use Rattle.line_claims.specs.Lines.{has_text}
use Rattle.query_base.specs.Asked.{Asked}
use Rattle.query_base.specs.Reach.{Holds, Reaches}
use Rattle.query_base.specs.declared.claims.Claim.TheVariants.{Illegal}
use Rattle.unmove_gen.specs.Listed.{unmoves}
use Rattle.unmove_gen.specs.Predecessor.{predecessor, unmove_after}
use Rattle.claim_findings.specs.Findings.{IsOutcome, is_refuted}
use Rattle.diagram_study.specs.Retractions.{AreLeft, EndsAmong}
use Rattle.claim_findings.specs.Outcome.{Outcome}
use Rattle.claim_findings.specs.Outcome.TheVariants.{Refuted, Open, Spent}

-- the unmoves in front of those that are still to be looked at, those of them that are left, and the number of those looked at
pub record LeftSoFar (q : Asked) (depth nodes : ℕ) (still left : List Unmove) (number : ℕ) : Type 0 where
  pub given : List Unmove
  pub split : given ++ still ≡ unmoves q
  pub counted : number ≡ length given
  pub are : AreLeft q depth nodes given left
  pub few : length left ≤ length given
  pub texts : All (λ u. IsTrue (has_text u)) left

pub left_none : (q : Asked) (depth nodes : ℕ) → LeftSoFar q depth nodes (unmoves q) [] 0
left_none q depth nodes = record { given = []; split = refl; counted = refl; are = refl; few = omega arith; texts = All-nil (λ u. IsTrue (has_text u)) }

pub left_first : (q : Asked) (depth nodes : ℕ) (still left : List Unmove) → still ≡ unmoves q → left ≡ [] → LeftSoFar q depth nodes still left 0
left_first q depth nodes still left all none =
    subst (λ (us : List Unmove). LeftSoFar q depth nodes us left 0) (sym all) (subst (λ (us : List Unmove). LeftSoFar q depth nodes (unmoves q) us 0) (sym none) (left_none q depth nodes))

joined : (b : Bool) (v : Unmove) (others more : List Unmove) → cond b others (v ∷ others) ++ more ≡ cond b (others ++ more) (v ∷ (others ++ more))
joined true v others more = refl
joined false v others more = refl

-- one unmove more, and it is left where what is before it isn't refuted
are_more : (q : Asked) (depth nodes : ℕ) (given left : List Unmove) (u : Unmove) (outcome : Outcome) → AreLeft q depth nodes given left → IsOutcome (predecessor q u) Illegal depth nodes outcome → AreLeft q depth nodes (given ++ u ∷ []) (left ++ cond (is_refuted outcome) [] (u ∷ []))
are_more q depth nodes [] left u outcome are found =
    (outcome, [], found, refl, ap (λ (l : List Unmove). l ++ cond (is_refuted outcome) [] (u ∷ [])) are)
are_more q depth nodes (v ∷ given) left u outcome are found = (
  are.0,
  are.1 ++ cond (is_refuted outcome) [] (u ∷ []),
  are.2,
  are_more q depth nodes given are.1 u outcome are.3 found,
  ap (λ (l : List Unmove). l ++ cond (is_refuted outcome) [] (u ∷ [])) are.4 ∙ joined (is_refuted are.0) v are.1 (cond (is_refuted outcome) [] (u ∷ [])),
)

pub left_more : (q : Asked) (depth nodes : ℕ) (old still left new : List Unmove) (number : ℕ) (u : Unmove) (outcome : Outcome) → LeftSoFar q depth nodes old left number → old ≡ u ∷ still → IsOutcome (predecessor q u) Illegal depth nodes outcome → new ≡ left ++ cond (is_refuted outcome) [] (u ∷ []) → length new ≤ length left + 1 → All (λ v. IsTrue (has_text v)) new → LeftSoFar q depth nodes still new (number + 1)
left_more q depth nodes old still left new number u outcome so_far front found grown few texts = record {
  given = so_far.given ++ u ∷ [];
  split = append_assoc so_far.given (u ∷ []) still ∙ ap (λ (l : List Unmove). so_far.given ++ l) (sym front) ∙ so_far.split;
  counted = omega (arith, so_far.counted, length-append so_far.given (u ∷ []));
  are = subst (AreLeft q depth nodes (so_far.given ++ u ∷ [])) (sym grown) (are_more q depth nodes so_far.given left u outcome so_far.are found);
  few = omega (arith, few, so_far.few, length-append so_far.given (u ∷ []));
  texts = texts;
}

-- the unmove is left
pub left_kept : (q : Asked) (depth nodes : ℕ) (old still left new : List Unmove) (number : ℕ) (u : Unmove) (outcome : Outcome) → LeftSoFar q depth nodes old left number → old ≡ u ∷ still → IsOutcome (predecessor q u) Illegal depth nodes outcome → is_refuted outcome ≡ false → IsTrue (has_text u) → new ≡ left ++ u ∷ [] → LeftSoFar q depth nodes still new (number + 1)
left_kept q depth nodes old still left new number u outcome so_far front found unrefuted text grown =
    left_more q depth nodes old still left new number u outcome so_far front found
    (grown ∙ ap (λ (b : Bool). left ++ cond b [] (u ∷ [])) (sym unrefuted))
    (omega (arith, ap length grown, length-append left (u ∷ [])))
    (All-same (λ v. IsTrue (has_text v)) new _ grown (All-push (λ v. IsTrue (has_text v)) left u so_far.texts text))

-- it isn't
pub left_dropped : (q : Asked) (depth nodes : ℕ) (old still left : List Unmove) (number : ℕ) (u : Unmove) (outcome : Outcome) → LeftSoFar q depth nodes old left number → old ≡ u ∷ still → IsOutcome (predecessor q u) Illegal depth nodes outcome → is_refuted outcome ≡ true → LeftSoFar q depth nodes still left (number + 1)
left_dropped q depth nodes old still left number u outcome so_far front found refuted =
    left_more q depth nodes old still left left number u outcome so_far front found
    (sym (append-nil left) ∙ ap (λ (b : Bool). left ++ cond b [] (u ∷ [])) (sym refuted))
    (omega arith)
    so_far.texts

-- the next one is an unmove of the query
pub next_listed : (q : Asked) (depth nodes : ℕ) (old still left : List Unmove) (number : ℕ) (u : Unmove) → LeftSoFar q depth nodes old left number → old ≡ u ∷ still → Contains (unmoves q) u
next_listed q depth nodes old still left number u so_far front =
    subst (λ (l : List Unmove). Contains l u) so_far.split (Contains-append_right so_far.given old u (subst (λ (l : List Unmove). Contains l u) (sym front) (contains-first u still)))

-- there are no more than those of the query
pub number_small : (q : Asked) (depth nodes : ℕ) (still left : List Unmove) (number : ℕ) → LeftSoFar q depth nodes still left number → number + length still ≡ length (unmoves q)
number_small q depth nodes still left number so_far = omega (arith, so_far.counted, length-append so_far.given still, ap length so_far.split)

-- what isn't left has a predecessor that no game reaches
at_front : (q : Asked) (depth nodes : ℕ) (v : Unmove) (others : List Unmove) (outcome : Outcome) → IsOutcome (predecessor q v) Illegal depth nodes outcome → (Holds Illegal (predecessor q v) → ⊥) → Contains (cond (is_refuted outcome) others (v ∷ others)) v
at_front q depth nodes v others (Refuted height) found alive = absurd (alive found.holds)
at_front q depth nodes v others Open found alive = contains-first v others
at_front q depth nodes v others Spent found alive = contains-first v others

behind : (b : Bool) (v : Unmove) (others : List Unmove) (u : Unmove) → Contains others u → Contains (cond b others (v ∷ others)) u
behind true v others u there = there
behind false v others u there = contains-later v others u there

still_there : (q : Asked) (depth nodes : ℕ) (us left : List Unmove) (u : Unmove) → AreLeft q depth nodes us left → Contains us u → (Holds Illegal (predecessor q u) → ⊥) → Contains left u
still_there q depth nodes [] left u are inside alive = absurd (contains-none u inside)
still_there q depth nodes (v ∷ us) left u are inside alive =
    subst (λ (l : List Unmove). Contains l u) (sym are.4) (elim (contains-cases v us u inside) [
      | inl same ↦
          let found : IsOutcome (predecessor q u) Illegal depth nodes are.0 = subst (λ (w : Unmove). IsOutcome (predecessor q w) Illegal depth nodes are.0) same are.2 in
          subst (λ (w : Unmove). Contains (cond (is_refuted are.0) are.1 (w ∷ are.1)) u) (sym same) (at_front q depth nodes u are.1 are.0 found alive)
      | inr there ↦ behind (is_refuted are.0) v are.1 u (still_there q depth nodes us are.1 u are.3 there alive)
    ])

-- each last move is listed, and the moves before it reach what is before it
abbrev pub AreListed : Type 0
AreListed = (g : List Move) (m : Move) (q : Asked) → Reaches (g ++ m ∷ []) q → Contains (unmoves q) (unmove_after q.odds g m)

abbrev pub ReachBefore : Type 0
ReachBefore = (g : List Move) (m : Move) (q : Asked) → Reaches (g ++ m ∷ []) q → Reaches g (predecessor q (unmove_after q.odds g m))

pub ends_among : AreListed → ReachBefore → (q : Asked) (depth nodes : ℕ) (left : List Unmove) → AreLeft q depth nodes (unmoves q) left → EndsAmong q left
ends_among listed before q depth nodes left are g m reaches =
    still_there q depth nodes (unmoves q) left (unmove_after q.odds g m) are (listed g m q reaches) (λ none. none g (before g m q reaches))

pub all_left : (q : Asked) (depth nodes : ℕ) (still left : List Unmove) (number : ℕ) → LeftSoFar q depth nodes still left number → still ≡ [] → AreLeft q depth nodes (unmoves q) left
all_left q depth nodes still left number so_far none =
    subst (λ (l : List Unmove). AreLeft q depth nodes l left) (sym (append-nil so_far.given) ∙ ap (λ (l : List Unmove). so_far.given ++ l) (sym none) ∙ so_far.split) so_far.are

-- what was found of what is before an unmove, which was computed
pub found_before : (q before : Asked) (below depth nodes : ℕ) (u : Unmove) (outcome : Outcome) → before ≡ predecessor q u → below ≡ depth → IsOutcome before Illegal below nodes outcome → IsOutcome (predecessor q u) Illegal depth nodes outcome
found_before q before below depth nodes u outcome is same found =
    subst (λ (n : ℕ). IsOutcome (predecessor q u) Illegal n nodes outcome) same (subst (λ (r : Asked). IsOutcome r Illegal below nodes outcome) is found)
