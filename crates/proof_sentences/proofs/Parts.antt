-- Frozen sets within a set, and what is left where squares are taken out one after another.
use Rattle.std.proofs.Common.{◌≡◌, ℕ, suc, ◌+◌, inl, inr, Bool, true, false, cond, List, length, refl, sym, ap, ◌∙◌, subst, arith}
use Rattle.std.specs.Prelude.{None, Option, IsTrue, slice_set}
use Rattle.std.specs.List.{Contains, filter, range_with_len}
use Rattle.std.proofs.lemmas.Bool.{cond-true}
use Rattle.board_base.specs.Board.{Places, at, is_empty, is_in}
use Rattle.board_base.specs.Rights.{Rights}
use Rattle.board_base.specs.declared.men.Man.{Man}
use Rattle.cage_rules.specs.Frozen.{IsFrozen, is_held_home, may_enter, must_be_in}
use Rattle.cage_rules.proofs.SetAlgebra.{same-set}
use Rattle.cage_rules.proofs.Tested.{member-inside}
use Rattle.cert_checker.specs.Reasons.{ReasonSupports}
use Rattle.cert_text.specs.declared.reasons.Reason.{Reason}
use Rattle.play_rules.specs.Reach.{IsWithin}
use Rattle.query_base.specs.Asked.{Asked}
use Rattle.static_rules.specs.Left.{left_with}
use Rattle.static_rules.proofs.Left.{at-left}
use Rattle.proof_sentences.specs.Lessened.{IsGreatestWithin, IsLeft, IsLeftBelow, IsLessened, with_set}

-- the query with only the men of a set
abbrev pub bare : Asked → List Bool → Asked
bare q set = record q { board = left_with (is_in set) q.board }

kept-at : (q : Asked) (set : List Bool) (s : ℕ) → length set ≡ 64 → is_in set s ≡ true → at (left_with (is_in set) q.board) s ≡ at q.board s
kept-at q set s whole member =
    at-left (is_in set) q.board s (member-inside set s whole member) ∙ cond-true (is_in set s) (at q.board s) None member

same-entries : (a b : Places) (s : ℕ) → at a s ≡ at b s → must_be_in a s ≡ must_be_in b s
unfolding must_be_in
same-entries a b s e = ap (λ (place : Option Man). filter (may_enter place s) (range_with_len 0 64)) e

-- frozen sets are told by the men on their squares
same-frozen : (q p : Asked) (set : List Bool) → q.held ≡ p.held → ((s : ℕ) → is_in set s ≡ true → at q.board s ≡ at p.board s) → IsFrozen q set → IsFrozen p set
same-frozen q p set held same h = record {
  occupied = λ s member. ap is_empty (sym (same s member)) ∙ h.occupied s member;
  caged = λ s member. elim (h.caged s member) [
    | inl home ↦ inl (subst (λ (r : Rights). IsTrue (is_held_home r s)) held home)
    | inr caged ↦ inr (λ t there. caged t (subst (λ (l : List ℕ). Contains l t) (sym (same-entries q.board p.board s (same s member))) there))
  ];
}

empty-is : (b : Bool) (place : Option Man) → is_empty (cond b place None) ≡ false → b ≡ true
empty-is true place full = refl
empty-is false place full = absurd cc

-- the greatest frozen set where only the men of a set stand is the greatest within the set
pub part-of : (q : Asked) (set part : List Bool) → length set ≡ 64 → length part ≡ 64 → IsFrozen (bare q set) part → ((other : List Bool) → IsFrozen (bare q set) other → IsWithin other part) → IsGreatestWithin q set part
part-of q set part whole size h greatest =
    let within : IsWithin part set = λ s member.
    empty-is (is_in set s) (at q.board s) (ap is_empty (sym (at-left (is_in set) q.board s (member-inside part s size member))) ∙ h.occupied s member) in
    record {
      whole = size;
      frozen = same-frozen (bare q set) q part refl (λ s member. kept-at q set s whole (within s member)) h;
      within = within;
      greatest = λ other frozen inside. greatest other (same-frozen q (bare q set) other refl (λ s member. sym (kept-at q set s whole (inside s member))) frozen);
    }

-- there is one greatest
pub one-greatest : (q : Asked) (set a b : List Bool) → IsGreatestWithin q set a → IsGreatestWithin q set b → a ≡ b
one-greatest q set a b h k = same-set a b h.whole k.whole (k.greatest a h.frozen h.within) (h.greatest b k.frozen k.within)

-- the set stays where the greatest part doesn't support the reason
pub left-whole : (q : Asked) (r : Reason) (set : List Bool) (s : ℕ) (part : List Bool) → IsGreatestWithin q (slice_set set s false) part → (ReasonSupports q (with_set r part) → ⊥) → IsLeft q r set s set
left-whole q r set s part greatest fails =
    inr (λ other h. fails (subst (λ (l : List Bool). ReasonSupports q (with_set r l)) (one-greatest q (slice_set set s false) other part h.1 greatest) h.2), refl)

-- a square more
pub left-next : (q : Asked) (r : Reason) (set before left : List Bool) (i : ℕ) → IsLeftBelow q r set i before → IsLeft q r before i left → IsLeftBelow q r set (i + 1) left
left-next q r set before left i h k =
    let one : suc i ≡ i + 1 = omega arith in
    let more : IsLeftBelow q r set (suc i) left = (before, h, k) in
    subst (λ (n : ℕ). IsLeftBelow q r set n left) one more

pub left-all : (q : Asked) (r : Reason) (set left : List Bool) (i : ℕ) → i ≡ 64 → IsLeftBelow q r set i left → IsLessened q r set left
unfolding IsLessened
left-all q r set left i e h = subst (λ (n : ℕ). IsLeftBelow q r set n left) e h
