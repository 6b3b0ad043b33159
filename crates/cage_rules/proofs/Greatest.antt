-- What is left of a set when squares that may have been left are taken out is the greatest frozen set within it.
use Rattle.std.proofs.Common.{◌≡◌, ℕ, ◌<◌, ◌⊎◌, inl, inr, Bool, true, false, List, length, ap, sym, ◌∙◌, subst, arith}
use Rattle.std.proofs.lemmas.Bool.{and_parts, and_from, cases_lt, both_ways}
use Rattle.std.proofs.lemmas.List.{get_or_past}
use Rattle.std.specs.Prelude.{Option, None, IsTrue, ◌↔◌}
use Rattle.board_base.specs.Board.{Places, at, array_of, is_empty, is_in, same_place}
use Rattle.board_base.specs.declared.men.Man.{Man}
use Rattle.board_base.proofs.Equal.{place_is, place_self}
use Rattle.query_base.specs.Asked.{Asked}
use Rattle.play_rules.specs.Reach.{IsWithin}
use Rattle.cage_rules.specs.Frozen.{IsAsArray, IsCaged, IsFrozen, is_held_home}
use Rattle.cage_rules.specs.SetSteps.{both}
use Rattle.cage_rules.specs.Tests.{kept, squares_alike, ways_of}
use Rattle.cage_rules.proofs.Filling.{in-that, is_in-that}
use Rattle.general_lemmas.proofs.Rounds.{count, fewer}
use Rattle.cage_rules.proofs.Loose.{Still, kept-tells, kept-told, length-kept}
use Rattle.cage_rules.proofs.SetAlgebra.{is_in-both, length-both, same-set}
use Rattle.cage_rules.proofs.Tested.{member-inside}

pub kept-within : (q : Asked) (set : List Bool) → IsWithin (kept (ways_of q) set) set
kept-within q set s member = (kept-told q set s member).0

-- more men cage as well
pub caged-more : (board : Places) (inner outer : List Bool) (s : ℕ) → IsWithin inner outer → IsCaged board inner s → IsCaged board outer s
caged-more board inner outer s within caged t must = within t (caged t must)

pub still-more : (q : Asked) (inner outer : List Bool) (s : ℕ) → IsWithin inner outer → IsFrozen q inner → is_in inner s ≡ true → Still q outer s
still-more q inner outer s within frozen member = record {
  occupied = frozen.occupied s member;
  caged = elim (frozen.caged s member) as (λ _. (is_held_home q.held s ≡ true) ⊎ IsCaged q.board outer s) [
    | inl home ↦ inl home
    | inr caged ↦ inr (caged-more q.board inner outer s within caged)
  ];
}

-- a frozen set within this one loses nothing
pub kept-holds : (q : Asked) (inner set : List Bool) → length set ≡ 64 → IsFrozen q inner → IsWithin inner set → IsWithin inner (kept (ways_of q) set)
kept-holds q inner set size frozen within s member = kept-tells q set s (member-inside set s size (within s member)) (within s member) (still-more q inner set s within frozen member)

-- what loses nothing is frozen, and only that
pub fixed-frozen : (q : Asked) (set : List Bool) → kept (ways_of q) set ≡ set → IsFrozen q set
fixed-frozen q set fixed =
    let here : (s : ℕ) → is_in set s ≡ true → Still q set s = λ s member. (kept-told q set s (ap (λ (l : List Bool). is_in l s) fixed ∙ member)).1 in
    record { occupied = λ s member. (here s member).occupied; caged = λ s member. (here s member).caged }

pub frozen-fixed : (q : Asked) (set : List Bool) → length set ≡ 64 → IsFrozen q set → kept (ways_of q) set ≡ set
frozen-fixed q set size frozen = same-set (kept (ways_of q) set) set (length-kept q set) size (kept-within q set) (kept-holds q set set size frozen (λ s member. member))

-- what is known of a set on the way to the greatest frozen set within the first
pub record Shrunk (q : Asked) (start set : List Bool) : Type 0 where
  pub size : length set ≡ 64
  pub within : IsWithin set start
  pub holds : (inner : List Bool) → IsFrozen q inner → IsWithin inner start → IsWithin inner set

pub shrunk-start : (q : Asked) (start : List Bool) → length start ≡ 64 → Shrunk q start start
shrunk-start q start size = record { size = size; within = λ s member. member; holds = λ inner frozen within. within }

pub shrunk-more : (q : Asked) (start set left : List Bool) → left ≡ kept (ways_of q) set → Shrunk q start set → Shrunk q start left
shrunk-more q start set left e h =
    subst (Shrunk q start) (sym e) (record {
      size = length-kept q set;
      within = λ s member. h.within s (kept-within q set s member);
      holds = λ inner frozen within. kept-holds q inner set h.size frozen (h.holds inner frozen within);
    })

pub shrunk-less : (q : Asked) (start set left : List Bool) → left ≡ kept (ways_of q) set → (left ≡ set → ⊥) → Shrunk q start set → count left < count set
shrunk-less q start set left e changed h =
    let size : length left ≡ 64 = ap length e ∙ length-kept q set in
    elim (fewer left set (size ∙ sym h.size) (λ s member. kept-within q set s (ap (λ (l : List Bool). is_in l s) (sym e) ∙ member))) [
      | inl same ↦ absurd (changed same)
      | inr less ↦ less
    ]

-- an occupied square is on the board
pub occupied-inside : (board : Places) (s : ℕ) → length board ≡ 64 → is_empty (at board s) ≡ false → s < 64
occupied-inside board s len full = elim (cases_lt s 64) [
  | inl inside ↦ inside
  | inr past ↦ absurd (both_ways _ full (ap is_empty (get_or_past board s None (omega arith))))
]

pub same-tells : (a b : Option Man) → a ≡ b → same_place a b ≡ true
same-tells a b e = subst (λ (p : Option Man). same_place a p ≡ true) e (place_self a)

-- each set that is as in the array is within the squares that are
pub alike-within : (o : List Bool) (board : Places) (set : List Bool) → ((s : ℕ) → is_in set s ≡ true → s < 64) → IsAsArray o board set → IsWithin set (squares_alike board (array_of o))
unfolding squares_alike
alike-within o board set inside alike s member =
    is_in-that (λ s. same_place (at board s) (at (array_of o) s)) s (inside s member) ∙ same-tells _ _ (alike s member)

pub within-alike : (o : List Bool) (board : Places) (set : List Bool) → IsWithin set (squares_alike board (array_of o)) → IsAsArray o board set
unfolding squares_alike
within-alike o board set within s member = place_is _ _ (in-that (λ s. same_place (at board s) (at (array_of o) s)) s (within s member)).1

pub alike-answer : (o : List Bool) (b : Bool) (board : Places) (set : List Bool) → IsTrue b ↔ (both set (squares_alike board (array_of o)) ≡ set) → length set ≡ 64 → IsTrue b ↔ IsAsArray o board set
alike-answer o b board set e size =
    let first : Places = array_of o in (
      λ h. within-alike o board set (λ s member.
          let inside : s < 64 = member-inside set s size member in
          (and_parts (is_in set s) (is_in (squares_alike board first) s) (sym (is_in-both set (squares_alike board first) s inside) ∙ ap (λ (l : List Bool). is_in l s) (e.0 h) ∙ member)).1),
      λ alike.
          let within = alike-within o board set (λ s member. member-inside set s size member) alike in
          e.1 (same-set (both set (squares_alike board first)) set (length-both set (squares_alike board first)) size
          (λ s member. let inside : s < 64 = member-inside (both set (squares_alike board first)) s (length-both set (squares_alike board first)) member in (and_parts _ _ (sym (is_in-both set (squares_alike board first) s inside) ∙ member)).0)
          (λ s member. is_in-both set (squares_alike board first) s (member-inside set s size member) ∙ and_from _ _ member (within s member))),
    )
