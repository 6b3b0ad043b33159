-- A tree that is joined of those for what is before the unmoves of a query.
use Rattle.std.proofs.Common.{◌≡◌, ℕ, suc, ◌-◌, ◌≤◌, max, Bool, true, false, cond, List, [], ◌∷◌, map, refl, ap, sym, subst, ◌∙◌, inl, inr, arith, append-nil}
use Rattle.std.specs.Prelude.{◌&&◌, not, IsTrue, Option, Some, None}
use Rattle.std.specs.List.{All, Contains, filter}
use Rattle.std.proofs.lemmas.Bool.{both_ways}
use Rattle.std.proofs.lemmas.List.Elements.{All-contains, All-head, All-nil, All-same, All-tail}
use Rattle.board_base.specs.Legal.{is_move}
use Rattle.board_base.specs.declared.moves.Move.{Move}
use Rattle.board_base.specs.declared.unmoves.Unmove.{Unmove}
use Rattle.query_base.specs.Asked.{Asked}
use Rattle.query_base.specs.Reach.{Reaches}
use Rattle.query_base.specs.Targets.{target}
use Rattle.query_base.proofs.Settled.{array_settled}
use Rattle.query_base.specs.declared.claims.Claim.TheVariants.{Illegal}
use Rattle.unmove_gen.specs.Listed.{before, candidates, fits_ends, is_legal_before, is_listed, is_marked, is_retraction, keeps_held, leads_here, mover, obeys_clock, obeys_only, unmoves}
use Rattle.unmove_gen.specs.Predecessor.{predecessor}
use Rattle.unmove_gen.specs.Sane.{is_sane}
use Rattle.cert_text.specs.Tree.{Forest, expand, none, more}
use Rattle.claim_findings.specs.Proving.{Proves, ProvesEach}
use Rattle.claim_findings.proofs.Contradicted.{contradiction-reaches}
use Rattle.claim_findings.proofs.Sound.{sound}
use Rattle.claim_findings.specs.Heights.{height_of_all}
use Rattle.claim_findings.specs.Outcomes.{HasProof}
use Rattle.claim_findings.specs.Outcome.{Outcome}
use Rattle.claim_findings.specs.Outcome.TheVariants.{Refuted}
use Rattle.claim_findings.proofs.Trees.Ancestors.{Extends, proves_below}
use Rattle.claim_findings.specs.Findings.{IsFound, IsOutcome, is_proved, is_refuted}
use Rattle.diagram_study.specs.Looks.{AreHeights, AreLooked, IsHeight, IsKeptIn, IsLooked, claim_but}
use Rattle.claim_findings.specs.declared.findings.Finding.{Finding}
use Rattle.claim_findings.specs.declared.findings.Finding.TheVariants.{Proved, Countered, Open, Spent}
use Rattle.diagram_study.specs.declared.retractions.Looked.{Looked}
use Rattle.diagram_study.proofs.Looking.{heights_low}

-- the query with this move barred
abbrev pub but_for : Asked → Option Move → Asked
but_for q but = record q { barred = but }

-- the unmove hasn't the move
abbrev pub is_other : Option Move → Unmove → Bool
is_other but u = not (is_move but u.mv)

and_true : (b : Bool) → b ≡ b && true
and_true true = refl
and_true false = refl

and_false : (b : Bool) → false ≡ b && false
and_false true = refl
and_false false = refl

-- one test more, within the others or behind them
test_behind : (a k o b m l h s c : Bool) → (a && (k && o && b) && m && l && h && s) && c ≡ ((a && (k && o && true) && m && l && h && s) && c) && b
test_behind false k o b m l h s c = refl
test_behind true false o b m l h s c = refl
test_behind true true false b m l h s c = refl
test_behind true true true true m l h s c = and_true _
test_behind true true true false m l h s c = and_false _

listed_but : (q : Asked) (but : Option Move) (u : Unmove) → is_listed (but_for q but) u ≡ is_listed (but_for q None) u && is_other but u
unfolding is_listed is_retraction
listed_but q but u =
    test_behind (fits_ends q u) (keeps_held q u.mv) (obeys_only q.only q.board u.mv) (is_other but u) (is_marked (before q u) (mover q) u) (is_legal_before (before q u) (mover q) u) (leads_here (before q u) q u.mv) (is_sane q.odds (before q u) (mover q)) (obeys_clock q u)

filter_both : (p r s : Unmove → Bool) (us : List Unmove) → ((u : Unmove) → p u ≡ r u && s u) → filter p us ≡ filter s (filter r us)
filter_both p r s [] same = refl
filter_both p r s (u ∷ us) same =
    ap (λ (b : Bool). cond b (u ∷ filter p us) (filter p us)) (same u) ∙ ap (λ (vs : List Unmove). cond (r u && s u) (u ∷ vs) vs) (filter_both p r s us same) ∙ step (r u)
  where
    step : (b : Bool) → cond (b && s u) (u ∷ filter s (filter r us)) (filter s (filter r us)) ≡ filter s (cond b (u ∷ filter r us) (filter r us))
    step true = refl
    step false = refl

unmoves_but : (q : Asked) (but : Option Move) → unmoves (but_for q but) ≡ filter (is_other but) (unmoves (but_for q None))
unfolding unmoves
unmoves_but q but = filter_both (is_listed (but_for q but)) (is_listed (but_for q None)) (is_other but) candidates (listed_but q but)

plain_is : (q : Asked) → q.barred ≡ None → but_for q None ≡ q
plain_is q plain = ap (λ (b : Option Move). but_for q b) (sym plain)

-- trees for what is before these unmoves, but those of the move
record Kids (q : Asked) (but : Option Move) (us : List Unmove) (h : ℕ) : Type 0 where
  kids : Forest
  prove : ProvesEach kids (but_for q but) (filter (is_other but) us) []
  high : height_of_all kids ≡ h

nearer : (q : Asked) → Extends [] (q ∷ [])
nearer q = record { there = λ k x e. absurd (cc) }

-- one tree more in front
kid_more : (q : Asked) (but : Option Move) (u : Unmove) (us : List Unmove) (own others h depth : ℕ) → is_move but u.mv ≡ false → HasProof (predecessor q u) own depth → Kids q but us others → h ≡ max own others → Kids q but (u ∷ us) h
kid_more q but u us own others h depth other proof rest e =
    let keeps : filter (is_other but) (u ∷ us) ≡ u ∷ filter (is_other but) us = ap (λ (b : Bool). cond (not b) (u ∷ filter (is_other but) us) (filter (is_other but) us)) other in
    record {
      kids = more u proof.tree rest.kids;
      prove = (filter (is_other but) us, keeps, proves_below proof.tree (predecessor q u) [] (but_for q but ∷ []) (nearer (but_for q but)) proof.proves, rest.prove);
      high = ap (λ (n : ℕ). max n (height_of_all rest.kids)) proof.high ∙ ap (λ (n : ℕ). max own n) rest.high ∙ sym e;
    }

kid_passed : (q : Asked) (but : Option Move) (u : Unmove) (us : List Unmove) (others h : ℕ) → is_move but u.mv ≡ true → Kids q but us others → h ≡ others → Kids q but (u ∷ us) h
kid_passed q but u us others h same rest e =
    let drops : filter (is_other but) (u ∷ us) ≡ filter (is_other but) us = ap (λ (b : Bool). cond (not b) (u ∷ filter (is_other but) us) (filter (is_other but) us)) same in
    record {
      kids = rest.kids;
      prove = subst (λ (vs : List Unmove). ProvesEach rest.kids (but_for q but) vs []) (sym drops) rest.prove;
      high = rest.high ∙ sym e;
    }

kids_of : (q : Asked) (depth nodes : ℕ) (but : Option Move) (ls : List Looked) (h : ℕ) → AreHeights but ls h → All (IsLooked q depth nodes) ls → Kids q but (map (λ l. l.unmove) ls) h
kids_of q depth nodes but [] h e found = record { kids = none; prove = refl; high = sym e }
kids_of q depth nodes but (l ∷ ls) h (own, others, is, rest, e) found =
    let kids = kids_of q depth nodes but ls others rest (All-tail (IsLooked q depth nodes) l ls found) in
    by_kind is (All-head (IsLooked q depth nodes) l ls found) kids
  where
    by_kind : IsHeight but l own → IsLooked q depth nodes l → Kids q but (map (λ k. k.unmove) ls) others → Kids q but (l.unmove ∷ map (λ k. k.unmove) ls) h
    by_kind (inl away) here kids = kid_passed q but l.unmove (map (λ k. k.unmove) ls) others h away.0 kids (omega (arith, e, away.1))
    by_kind (inr refuted) here kids =
        let proved : IsOutcome (predecessor q l.unmove) Illegal depth nodes (Refuted own) = subst (λ (o : Outcome). IsOutcome (predecessor q l.unmove) Illegal depth nodes o) refuted.1 here in
        kid_more q but l.unmove (map (λ k. k.unmove) ls) own others h depth refuted.0 proved.proof kids e

-- what no game of no moves reaches isn't reached by it with a move barred either
elsewhere_but : (q : Asked) (but : Option Move) → q.barred ≡ None → (Reaches [] q → ⊥) → Reaches [] (but_for q but) → ⊥
elsewhere_but q but plain elsewhere here =
    elsewhere (subst (λ (a : Asked). Reaches [] a) (plain_is q plain) (record { odds = here.odds; game = here.game; board = here.board; turn = here.turn; held = here.held; only = here.only; barred = tt; clock = here.clock }))

pub joined_proof : (q : Asked) (most nodes : ℕ) (but : Option Move) (left : List Unmove) (looked : List Looked) (h : ℕ) → q.barred ≡ None → 1 ≤ most → (Reaches [] q → ⊥) → AreLooked q (most - 1) nodes [] left looked → AreHeights but looked h → HasProof (but_for q but) (suc h) most
joined_proof q most nodes but left looked h plain some elsewhere are heights =
    let kids = kids_of q (most - 1) nodes but looked h heights are.found in
    let all : map (λ l. l.unmove) looked ≡ unmoves q = sym (append-nil (map (λ l. l.unmove) looked)) ∙ are.split in
    let listed : filter (is_other but) (map (λ l. l.unmove) looked) ≡ unmoves (but_for q but) =
    ap (filter (is_other but)) (all ∙ ap unmoves (sym (plain_is q plain))) ∙ sym (unmoves_but q but) in
    let proves : Proves (expand kids.kids) (but_for q but) [] = (elsewhere_but q but plain elsewhere, subst (λ (us : List Unmove). ProvesEach kids.kids (but_for q but) us []) listed kids.prove) in
    record {
      tree = expand kids.kids;
      proves = proves;
      high = ap suc kids.high;
      low = omega (arith, some, heights_low q (most - 1) nodes but looked h heights are.found);
      unreached = λ g reaches. sound (expand kids.kids) (but_for q but) proves g reaches;
    }

-- where all that is left has the move, each other was refuted
pub none_other : (q : Asked) (depth nodes : ℕ) (but : Option Move) (left : List Unmove) (looked : List Looked) (l : Looked) → AreLooked q depth nodes [] left looked → All (λ u. IsTrue (is_move but u.mv)) left → Contains looked l → is_move but l.unmove.mv ≡ false → is_refuted l.outcome ≡ false → ⊥
none_other q depth nodes but left looked l are all there other unrefuted =
    let kept : Contains left l.unmove = All-contains (IsKeptIn left) looked l are.kept there unrefuted in
    both_ways _ other (All-contains (λ (u : Unmove). IsTrue (is_move but u.mv)) left l.unmove all kept)

-- the target of the claim
target_but : (q : Asked) (but : Option Move) → q.barred ≡ None → but_for q but ≡ target q (claim_but but)
target_but q None plain = plain_is q plain
target_but q (Some m) plain = refl

-- what the search alone didn't prove is proved by the tree
pub joined_found : (q : Asked) (but : Option Move) (most nodes h : ℕ) (sought : Finding) → q.barred ≡ None → IsFound q (claim_but but) most nodes sought → is_proved sought ≡ false → HasProof (but_for q but) h most → IsFound q (claim_but but) most nodes (Proved h)
joined_found q but most nodes h (Proved depth) plain found unproved proof = cc
joined_found q but most nodes h Countered plain found unproved proof =
    let here : HasProof (target q (claim_but but)) h most = subst (λ (a : Asked). HasProof a h most) (target_but q but plain) proof in
    absurd (here.unreached found.0 (contradiction-reaches found.0 (claim_but but) q found.1))
joined_found q but most nodes h Open plain found unproved proof =
    let here : HasProof (target q (claim_but but)) h most = subst (λ (a : Asked). HasProof a h most) (target_but q but plain) proof in
    record {
      proved = record { proof = here; holds = λ g against. here.unreached g (contradiction-reaches g (claim_but but) q against) };
      least = λ k n below refutable cost. absurd (found.0 k (omega (arith, below, here.low)) refutable);
      plain = λ some e. absurd (found.1 some e);
    }
joined_found q but most nodes h Spent plain found unproved proof =
    let here : HasProof (target q (claim_but but)) h most = subst (λ (a : Asked). HasProof a h most) (target_but q but plain) proof in
    record {
      proved = record { proof = here; holds = λ g against. here.unreached g (contradiction-reaches g (claim_but but) q against) };
      least = λ k n below refutable cost. found.0 k n (omega (arith, below, here.low)) refutable cost;
      plain = λ some e. absurd (found.1 some e);
    }

pub all_none : (P : Unmove → Type 0) (left : List Unmove) → left ≡ [] → All P left
all_none P left empty = All-same P left [] empty (All-nil P)

-- nothing is left where no proof is joined: it is the array
pub array_then : (q : Asked) (most : ℕ) (left : List Unmove) (proved : Bool) → (1 ≤ most → (Reaches [] q → ⊥) → left ≡ [] → IsTrue proved) → proved ≡ false → 1 ≤ most → left ≡ [] → Reaches [] q
array_then q most left proved sure unproved some empty = elim (array_settled q) [
  | inl here ↦ here
  | inr elsewhere ↦ absurd (both_ways proved unproved (sure some elsewhere empty))
]
