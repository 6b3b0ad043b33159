-- The greatest frozen set and the least zone, as functions.
use Rattle.std.proofs.Common.{◌≡◌, ℕ, zero, suc, ◌<◌, arith, inl, inr, Bool, true, false, ◌&&◌, ◌||◌, not, List, [], ◌∷◌, length, refl, ap, sym, ◌∙◌}
use Rattle.std.proofs.lemmas.Bool.{and_parts, and_from, lt-ltb, ltb-true, or_cases, or_left, or_right, not-true, not_from_false, cases_Bool, both_ways, false_from_ne_true, true_from_ne_false}
use Rattle.std.specs.Prelude.{nat_lt}
use Rattle.std.specs.List.{list_all, list_any, range_with_len}
use Rattle.general_lemmas.proofs.Ranges.{any-found}
use Rattle.board_base.specs.Board.{is_in, same_kind}
use Rattle.board_base.specs.Rights.{Rights}
use Rattle.board_base.specs.declared.men.Kind.TheVariants.{Pawn}
use Rattle.play_rules.specs.Reach.{IsWithin}
use Rattle.cage_rules.specs.Frozen.{is_held_home}
use Rattle.cage_rules.specs.Sets.{all_lists, each_set, squares_that}
use Rattle.cage_rules.proofs.Filling.{in-that, is_in-that, length-that}
use Rattle.cage_rules.proofs.SetAlgebra.{lists-tell, lists-told, same-set}
use Rattle.cage_rules.proofs.Tested.{all_board, any-told, at_board, member-inside}
use Rattle.figures.specs.Figures.{Figure, Sketch, is_fixed_on}
use Rattle.figures.proofs.Sketches.{any-figure, figure-any}
use Rattle.past_account.specs.Frozen.{IsBarred, IsFrozenIn, figure_enters}
use Rattle.past_account.specs.Zones.{IsZone, goes_on, is_closed_by}
use Rattle.sketch_grounds.specs.FrozenSets.{greatest_frozen, is_frozen_in, is_shut_in}
use Rattle.sketch_grounds.specs.LeastZones.{has_all, is_only, is_pair, is_zone, least_zone}
use Rattle.sketch_grounds.proofs.Backing.{goes-inside}
use Rattle.past_account.proofs.Reached.{closed-tells, closed-told}

-- where not each list fails the test, some list passes it
some-list : (n : ℕ) (p : List Bool → Bool) → all_lists n p ≡ false → (set : List Bool) × (length set ≡ n) × (p set ≡ false)
unfolding all_lists
some-list zero p h = ([], refl, h)
some-list (suc n) p h = elim (cases_Bool (all_lists n (λ set. p (true ∷ set)))) [
  | inl all ↦
      let rest : all_lists n (λ set. p (false ∷ set)) ≡ false = ap (λ (b : Bool). b && all_lists n (λ set. p (false ∷ set))) (sym all) ∙ h in
      let x = some-list n (λ set. p (false ∷ set)) rest in
      (false ∷ x.0, ap suc x.1, x.2)
  | inr some ↦
      let x = some-list n (λ set. p (true ∷ set)) some in
      (true ∷ x.0, ap suc x.1, x.2)
]

pub some-set : (p : List Bool → Bool) → not (each_set (λ set. not (p set))) ≡ true → (set : List Bool) × (length set ≡ 64) × (p set ≡ true)
some-set p h =
    let x = some-list 64 (λ set. not (p set)) (not-true _ h) in
    (x.0, x.1, true_from_ne_false (p x.0) (λ fails. both_ways _ x.2 (not_from_false _ fails)))

pub set-some : (p : List Bool → Bool) (set : List Bool) → length set ≡ 64 → p set ≡ true → not (each_set (λ set. not (p set))) ≡ true
set-some p set_ size h = not_from_false _ (false_from_ne_true _ (λ all. both_ways (p set_) (not-true _ (lists-told 64 (λ s. not (p s)) set_ all size)) h))

-- the greatest frozen set
shut-tells : (held : Rights) (S : Sketch) (set : List Bool) (s : ℕ) → IsBarred held S set s → list_any (is_shut_in held set s) S ≡ true
shut-tells held S set_ s b = figure-any S (is_shut_in held set_ s) b.number b.figure b.there (and_from _ _ b.fixed (elim b.barred [
  | inl home ↦ or_left (is_held_home held s) (list_all (λ t. not (figure_enters b.figure s t) || is_in set_ t) (range_with_len 0 64)) home
  | inr all ↦ or_right (is_held_home held s) (list_all (λ t. not (figure_enters b.figure s t) || is_in set_ t) (range_with_len 0 64)) (all_board (λ t. not (figure_enters b.figure s t) || is_in set_ t) (λ t inside. elim (cases_Bool (figure_enters b.figure s t)) [
    | inl enters ↦ or_right (not (figure_enters b.figure s t)) (is_in set_ t) (all t inside enters)
    | inr none ↦ or_left (not (figure_enters b.figure s t)) (is_in set_ t) (not_from_false _ none)
  ]))
]))

shut-told : (held : Rights) (S : Sketch) (set : List Bool) (s : ℕ) → list_any (is_shut_in held set s) S ≡ true → IsBarred held S set s
shut-told held S set_ s h =
    let x = any-figure S (is_shut_in held set_ s) h in
    let f : Figure = x.figure in
    let parts = and_parts (is_fixed_on s f) (is_held_home held s || list_all (λ t. not (figure_enters f s t) || is_in set_ t) (range_with_len 0 64)) x.passes in
    record {
      number = x.number;
      figure = f;
      there = x.found;
      fixed = parts.0;
      barred = elim (or_cases (is_held_home held s) (list_all (λ t. not (figure_enters f s t) || is_in set_ t) (range_with_len 0 64)) parts.1) [
        | inl home ↦ inl home
        | inr all ↦ inr (λ t inside enters. elim (or_cases (not (figure_enters f s t)) (is_in set_ t) (at_board (λ t. not (figure_enters f s t) || is_in set_ t) t all inside)) [
          | inl none ↦ absurd (both_ways _ (not-true _ none) enters)
          | inr member ↦ member
        ])
      ];
    }

frozen-tells : (held : Rights) (S : Sketch) (set : List Bool) → IsFrozenIn held S set → is_frozen_in held S set ≡ true
unfolding is_frozen_in
frozen-tells held S set_ frozen = all_board (λ s. not (is_in set_ s) || list_any (is_shut_in held set_ s) S) (λ s inside. elim (cases_Bool (is_in set_ s)) [
  | inl member ↦ or_right (not (is_in set_ s)) (list_any (is_shut_in held set_ s) S) (shut-tells held S set_ s (frozen s member))
  | inr out ↦ or_left (not (is_in set_ s)) (list_any (is_shut_in held set_ s) S) (not_from_false _ out)
])

frozen-told : (held : Rights) (S : Sketch) (set : List Bool) → length set ≡ 64 → is_frozen_in held S set ≡ true → IsFrozenIn held S set
unfolding is_frozen_in
frozen-told held S set_ size h s member = elim (or_cases (not (is_in set_ s)) (list_any (is_shut_in held set_ s) S) (at_board (λ s. not (is_in set_ s) || list_any (is_shut_in held set_ s) S) s h (member-inside set_ s size member))) [
  | inl out ↦ absurd (both_ways _ (not-true _ out) member)
  | inr shut ↦ shut-told held S set_ s shut
]

pub greatest-is : (held : Rights) (S : Sketch) (set : List Bool) → length set ≡ 64 → IsFrozenIn held S set → ((other : List Bool) → IsFrozenIn held S other → IsWithin other set) → set ≡ greatest_frozen held S
unfolding greatest_frozen
greatest-is held S set_ size frozen greatest =
    let passes : ℕ → Bool = λ s. not (each_set (λ other. not (is_in other s && is_frozen_in held S other))) in
    same-set set_ (squares_that passes) size (length-that passes)
    (λ s member. is_in-that passes s (member-inside set_ s size member) ∙ set-some (λ other. is_in other s && is_frozen_in held S other) set_ size (and_from _ _ member (frozen-tells held S set_ frozen)))
    (λ s member.
    let here = in-that passes s member in
    let x = some-set (λ other. is_in other s && is_frozen_in held S other) here.1 in
    let parts = and_parts (is_in x.0 s) (is_frozen_in held S x.0) x.2 in
    greatest x.0 (frozen-told held S x.0 x.1 parts.1) s parts.0)

has-told : (zone squares : List Bool) → length squares ≡ 64 → has_all zone squares ≡ true → IsWithin squares zone
has-told zone squares size h s member = elim (or_cases (not (is_in squares s)) (is_in zone s) (at_board (λ s. not (is_in squares s) || is_in zone s) s h (member-inside squares s size member))) [
  | inl out ↦ absurd (both_ways _ (not-true _ out) member)
  | inr there ↦ there
]

has-tells : (zone squares : List Bool) → IsWithin squares zone → has_all zone squares ≡ true
has-tells zone squares within = all_board (λ s. not (is_in squares s) || is_in zone s) (λ s inside. elim (cases_Bool (is_in squares s)) [
  | inl member ↦ or_right (not (is_in squares s)) (is_in zone s) (within s member)
  | inr out ↦ or_left (not (is_in squares s)) (is_in zone s) (not_from_false _ out)
])

zone-tells : (wall : List Bool) (f : Figure) (zone : List Bool) → IsZone wall f zone → is_zone wall f zone ≡ true
unfolding is_zone
zone-tells wall f zone is = and_from _ _ (has-tells zone f.squares is.squares) (closed-tells (λ t z. goes_on wall f z t) zone (λ t z ti zi member goes. is.closed z t member goes))

zone-told : (wall : List Bool) (f : Figure) (zone : List Bool) → length f.squares ≡ 64 → list_all (same_kind Pawn) f.kinds ≡ true → is_zone wall f zone ≡ true → IsZone wall f zone
unfolding is_zone
zone-told wall f zone size pawn h =
    let parts = and_parts (has_all zone f.squares) (is_closed_by (λ t z. goes_on wall f z t) zone) h in
    record {
      pawn = pawn;
      squares = has-told zone f.squares size parts.0;
      closed = λ z t member goes. let inside = goes-inside wall f z t goes in closed-told (λ t z. goes_on wall f z t) zone t z parts.1 inside.1 inside.0 member goes;
    }

pub least-is : (wall : List Bool) (f : Figure) (set : List Bool) → length f.squares ≡ 64 → length set ≡ 64 → IsZone wall f set → ((zone : List Bool) → IsZone wall f zone → IsWithin set zone) → set ≡ least_zone wall f
unfolding least_zone
least-is wall f set_ full size is least =
    let passes : ℕ → Bool = λ s. each_set (λ zone. not (is_zone wall f zone) || is_in zone s) in
    same-set set_ (squares_that passes) size (length-that passes)
    (λ s member. is_in-that passes s (member-inside set_ s size member) ∙ lists-tell 64 (λ zone. not (is_zone wall f zone) || is_in zone s) (λ zone whole. elim (cases_Bool (is_zone wall f zone)) [
      | inl yes_ ↦ or_right (not (is_zone wall f zone)) (is_in zone s) (least zone (zone-told wall f zone full is.pawn yes_) s member)
      | inr no_ ↦ or_left (not (is_zone wall f zone)) (is_in zone s) (not_from_false _ no_)
    ]))
    (λ s member.
    let here = in-that passes s member in
    elim (or_cases (not (is_zone wall f set_)) (is_in set_ s) (lists-told 64 (λ zone. not (is_zone wall f zone) || is_in zone s) set_ here.1 size)) [
      | inl no_ ↦ absurd (both_ways _ (not-true _ no_) (zone-tells wall f set_ is))
      | inr there ↦ there
    ])

-- pairs of squares
pub pair-told : (zone : List Bool) → is_pair zone ≡ true → (t : ℕ) × (u : ℕ) × (t < u) × (u < 64) × (is_in zone t ≡ true) × (is_in zone u ≡ true) × (is_only zone t u ≡ true)
unfolding is_pair
pair-told zone h =
    let x = any-told (λ t. list_any (λ u. nat_lt t u && is_in zone t && is_in zone u && is_only zone t u) (range_with_len 0 64)) 0 64 h in
    let t : ℕ = x.0 in
    let y = any-told (λ u. nat_lt t u && is_in zone t && is_in zone u && is_only zone t u) 0 64 x.2 in
    let u : ℕ = y.0 in
    let parts = and_parts (nat_lt t u && is_in zone t && is_in zone u) (is_only zone t u) y.2 in
    let three = and_parts (nat_lt t u && is_in zone t) (is_in zone u) parts.0 in
    let two = and_parts (nat_lt t u) (is_in zone t) three.0 in
    (t, u, ltb-true t u two.0, y.1, two.1, three.1, parts.1)

pub pair-tells : (zone : List Bool) (t u : ℕ) → t < u → u < 64 → is_in zone t ≡ true → is_in zone u ≡ true → is_only zone t u ≡ true → is_pair zone ≡ true
unfolding is_pair
pair-tells zone t u less inside tm um only =
    any-found (λ t. list_any (λ u. nat_lt t u && is_in zone t && is_in zone u && is_only zone t u) (range_with_len 0 64)) 0 64 t (omega arith) (omega arith)
    (any-found (λ u. nat_lt t u && is_in zone t && is_in zone u && is_only zone t u) 0 64 u (omega arith) (omega arith) (and_from _ _ (and_from _ _ (and_from _ _ (lt-ltb t u less) tm) um) only))
