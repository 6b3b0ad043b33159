-- The retractions that are told of a line that stays open.
use Rattle.std.proofs.Common.{◌≡◌, ℕ, zero, suc, ◌+◌, ◌<◌, ◌≤◌, min, Bool, true, false, List, [], ◌∷◌, ◌++◌, length, length-append, take, refl, ap, sym, subst, ◌∙◌, inl, inr, arith}
use Rattle.std.specs.Prelude.{IsTrue, Some, slice_get, ◌&&◌}
use Rattle.std.specs.List.{All, Contains}
use Rattle.std.proofs.lemmas.Bool.{cases_lt}
use Rattle.std.proofs.lemmas.List.Elements.{All-cons, All-nil, All-take}
use Rattle.general_lemmas.proofs.Splits.{up_to}
use Rattle.board_base.specs.Texts.{can_capture, can_promote}
use Rattle.board_base.specs.declared.unmoves.Unmove.{Unmove}
use Rattle.query_base.specs.Asked.{Asked}
use Rattle.unmove_gen.specs.Listed.{unmoves}
use Rattle.unmove_gen.specs.Predecessor.{left_by, predecessor}
use Rattle.line_claims.specs.Lines.{has_text}
use Rattle.line_claims.specs.Listing.{AreListed}
use Rattle.retro_search.specs.Unsettled.{IsOpenLine}
use Rattle.claim_findings.specs.Ends.{IsCut, IsTellingAt, is_telling}
use Rattle.claim_findings.proofs.Steps.{at_place}
use Rattle.line_claims.proofs.Listings.{left-push}

-- one step more in front
pub listed_more : (q : Asked) (u : Unmove) (us : List Unmove) → Contains (unmoves q) u → AreListed (predecessor q u) us → AreListed q (u ∷ us)
listed_more q u us here rest = λ before after v e. by_front before after v e
  where
    by_front : (before after : List Unmove) (v : Unmove) → u ∷ us ≡ before ++ v ∷ after → Contains (unmoves (left_by q before)) v
    by_front [] after v e = let same : u ≡ v = cc in subst (Contains (unmoves q)) same here
    by_front (w ∷ before) after v e =
        let same : u ≡ w = cc in
        let tail : us ≡ before ++ v ∷ after = cc in
        subst (λ (x : Unmove). Contains (unmoves (left_by (predecessor q x) before)) v) same (rest before after v tail)

pub listed_none : (q : Asked) → AreListed q []
listed_none q = λ before after u e. absurd (omega (arith, ap length e, length-append before (u ∷ after)))

-- each retraction of an open line is listed
pub open_listed : (q : Asked) (depth : ℕ) (ancestors : List Asked) (line : List Unmove) → IsOpenLine q depth ancestors line → AreListed q line
open_listed q depth ancestors [] stays = listed_none q
open_listed q zero ancestors (u ∷ line) stays = absurd stays
open_listed q (suc depth) ancestors (u ∷ line) stays = listed_more q u line stays.2 (open_listed (predecessor q u) depth (q ∷ ancestors) line stays.3)

within_some : {A : Type 0} (xs : List A) (i : ℕ) (x : A) → slice_get xs i ≡ Some x → i < length xs
within_some [] i x there = cc
within_some (y ∷ xs) zero x there = omega arith
within_some (y ∷ xs) (suc i) x there = omega (arith, within_some xs i x there)

take_next : (line : List Unmove) (i : ℕ) (u : Unmove) → slice_get line i ≡ Some u → take (i + 1) line ≡ take i line ++ u ∷ []
take_next line i u there = up_to line i u (within_some line i u there) (at_place line i u there)

-- the retraction at a place is listed at what those before it leave
split_at : (line : List Unmove) (i : ℕ) (u : Unmove) → slice_get line i ≡ Some u → (after : List Unmove) × (line ≡ take i line ++ u ∷ after)
split_at [] i u there = cc
split_at (v ∷ line) zero u there = let same : v ≡ u = cc in (line, ap (λ (w : Unmove). w ∷ line) same)
split_at (v ∷ line) (suc i) u there = let rest = split_at line i u there in (rest.0, ap (λ (l : List Unmove). v ∷ l) rest.1)

pub listed_here : (q here : Asked) (line : List Unmove) (i : ℕ) (u : Unmove) → AreListed q line → here ≡ left_by q (take i line) → slice_get line i ≡ Some u → Contains (unmoves here) u
listed_here q here line i u listed is there =
    let split = split_at line i u there in
    subst (λ (a : Asked). Contains (unmoves a) u) (sym is) (listed (take i line) split.0 u split.1)

-- the retractions so far: which are told, and what all of them leave
pub record CutSoFar (q : Asked) (line : List Unmove) (i number : ℕ) (here : Asked) : Type 0 where
  pub few : number ≤ i
  pub ends : (k : ℕ) → suc k ≡ number → IsTellingAt q line true k
  pub quiet : (k : ℕ) → number ≤ k → k < i → IsTellingAt q line false k
  pub here_is : here ≡ left_by q (take i line)

pub cut_none : (q here : Asked) (line : List Unmove) → here ≡ q → CutSoFar q line 0 0 here
cut_none q here line is = record {
  few = omega arith;
  ends = λ k e. absurd (omega (arith, e));
  quiet = λ k low high. absurd (omega (arith, high));
  here_is = is;
}

telling_here : (q here : Asked) (line : List Unmove) (i : ℕ) (u : Unmove) (b : Bool) → here ≡ left_by q (take i line) → slice_get line i ≡ Some u → is_telling here u ≡ b → IsTellingAt q line b i
telling_here q here line i u b is there telling = λ v found.
    let same : u ≡ v = cc in
    subst (λ (w : Unmove). is_telling (left_by q (take i line)) w ≡ b) same (ap (λ (a : Asked). is_telling a u) (sym is) ∙ telling)

next_here : (q here next : Asked) (line : List Unmove) (i : ℕ) (u : Unmove) → here ≡ left_by q (take i line) → slice_get line i ≡ Some u → next ≡ predecessor here u → next ≡ left_by q (take (i + 1) line)
next_here q here next line i u is there moved =
    moved ∙ ap (λ (a : Asked). predecessor a u) is ∙ sym (left-push q (take i line) u) ∙ ap (left_by q) (sym (take_next line i u there))

-- one that is telling
pub cut_told : (q here next : Asked) (line : List Unmove) (i number new : ℕ) (u : Unmove) → CutSoFar q line i number here → slice_get line i ≡ Some u → is_telling here u ≡ true → new ≡ i + 1 → next ≡ predecessor here u → CutSoFar q line (i + 1) new next
cut_told q here next line i number new u so_far there telling is moved = record {
  few = omega (arith, is);
  ends = λ k e.
      let same : i ≡ k = omega (arith, e, is) in
      subst (λ (j : ℕ). IsTellingAt q line true j) same (telling_here q here line i u true so_far.here_is there telling);
  quiet = λ k low high. absurd (omega (arith, low, high, is));
  here_is = next_here q here next line i u so_far.here_is there moved;
}

-- and one that isn't
pub cut_quiet : (q here next : Asked) (line : List Unmove) (i number : ℕ) (u : Unmove) → CutSoFar q line i number here → slice_get line i ≡ Some u → is_telling here u ≡ false → next ≡ predecessor here u → CutSoFar q line (i + 1) number next
cut_quiet q here next line i number u so_far there quiet moved = record {
  few = omega (arith, so_far.few);
  ends = so_far.ends;
  quiet = λ k low high. elim (cases_lt k i) [
    | inl before ↦ so_far.quiet k low before
    | inr behind ↦
        let same : i ≡ k = omega (arith, high, behind) in
        subst (λ (j : ℕ). IsTellingAt q line false j) same (telling_here q here line i u false so_far.here_is there quiet)
  ];
  here_is = next_here q here next line i u so_far.here_is there moved;
}

pub cut_done : (q here : Asked) (line : List Unmove) (i number : ℕ) → CutSoFar q line i number here → i ≤ 8 → i ≤ length line → min (length line) 8 ≤ i → IsCut q line number
cut_done q here line i number so_far low inside high = record {
  few = omega (arith, so_far.few, low);
  within = omega (arith, so_far.few, inside);
  ends = so_far.ends;
  quiet = λ k from below. λ u there. elim (cases_lt k i) [
    | inl before ↦ so_far.quiet k from before u there
    | inr behind ↦ absurd (omega (arith, within_some line k u there, below, behind, high))
  ];
}

-- one more of the first
pub first_more : (line front new : List Unmove) (i : ℕ) (u : Unmove) → front ≡ take i line → slice_get line i ≡ Some u → new ≡ front ++ u ∷ [] → new ≡ take (i + 1) line
first_more line front new i u so_far there grown = grown ∙ ap (λ (l : List Unmove). l ++ u ∷ []) so_far ∙ sym (take_next line i u there)

abbrev pub HasText : Unmove → Type 0
HasText u = IsTrue (has_text u)

-- each listed retraction has a text
pub with_text : (u : Unmove) → IsTrue (can_promote u.mv.promo) → IsTrue (can_capture u.mv.promo u.captured u.ep) → IsTrue (has_text u)
with_text u promotion capture = ap (λ (b : Bool). b && can_capture u.mv.promo u.captured u.ep) promotion ∙ capture

listed_texts : ((q : Asked) (u : Unmove) → Contains (unmoves q) u → IsTrue (can_promote u.mv.promo)) → ((q : Asked) (u : Unmove) → Contains (unmoves q) u → IsTrue (can_capture u.mv.promo u.captured u.ep)) → (q : Asked) (line : List Unmove) → AreListed q line → All HasText line
listed_texts promotion capture q [] listed = All-nil HasText
listed_texts promotion capture q (u ∷ line) listed =
    let here : Contains (unmoves q) u = listed [] line u refl in
    All-cons HasText u line (with_text u (promotion q u here) (capture q u here))
    (listed_texts promotion capture (predecessor q u) line (λ before after v e. listed (u ∷ before) after v (ap (λ (l : List Unmove). u ∷ l) e)))

pub front_texts : ((q : Asked) (u : Unmove) → Contains (unmoves q) u → IsTrue (can_promote u.mv.promo)) → ((q : Asked) (u : Unmove) → Contains (unmoves q) u → IsTrue (can_capture u.mv.promo u.captured u.ep)) → (q : Asked) (line front : List Unmove) (number : ℕ) → AreListed q line → front ≡ take number line → All HasText front
front_texts promotion capture q line front number listed is =
    subst (All HasText) (sym is) (All-take HasText number line (listed_texts promotion capture q line listed))
