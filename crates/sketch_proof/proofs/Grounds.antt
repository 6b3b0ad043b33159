-- The greatest frozen set is frozen, and the zones that count are zones.
use Rattle.std.proofs.Common.{◌≡◌, ℕ, zero, suc, ◌<◌, ◌==◌, inl, inr, Bool, true, false, ◌&&◌, ◌||◌, not, List, [], ◌∷◌, length, refl, ap, sym, ◌∙◌, subst}
use Rattle.std.proofs.lemmas.Bool.{and_from, and_parts, both_ways, cases_Bool, ltb-true, not-true, not_from_false, or_cases, or_left, or_right, true_from_ne_false, false_from_ne_true}
use Rattle.std.specs.Prelude.{nat_lt}
use Rattle.std.specs.List.{Contains, filter, list_all, list_any, range_with_len}
use Rattle.general_lemmas.proofs.Lists.{filter-contains, map-contains}
use Rattle.board_base.specs.Attacks.{files_apart, one_ahead}
use Rattle.board_base.specs.Board.{file, is_in, same_kind}
use Rattle.board_base.specs.Rights.{Rights}
use Rattle.board_base.specs.declared.men.Kind.TheVariants.{Pawn}
use Rattle.play_rules.specs.Laws.{is_end}
use Rattle.play_rules.specs.Reach.{IsWithin}
use Rattle.cage_rules.specs.Frozen.{is_held_home}
use Rattle.cage_rules.specs.Sets.{all_lists, each_set}
use Rattle.cage_rules.proofs.Filling.{in-that, is_in-that, length-that}
use Rattle.cage_rules.proofs.SetAlgebra.{lists-tell, lists-told}
use Rattle.cage_rules.proofs.Tested.{at_board, member-inside}
use Rattle.sketch_node.specs.Ways.{is_pawn_step}
use Rattle.sketch_node.specs.Figures.{Figure, Sketch, is_fixed_on}
use Rattle.sketch_node.proofs.Sketches.{any-figure}
use Rattle.sketch_node.specs.Frozen.{IsBarred, IsFrozenIn, figure_enters}
use Rattle.sketch_node.specs.Zones.{AreZones, IsZone, goes_on, is_closed_by, may_hold}
use Rattle.sketch_node.specs.FrozenSets.{greatest_frozen, is_frozen_in, is_shut_in}
use Rattle.sketch_node.specs.LeastZones.{has_all, has_pair, is_pair, is_zone, least_zone, pair_zones}
use Rattle.sketch_node.proofs.Freezing.{number-of}

-- where not each set fails the test, some set passes it
some-list : (n : ℕ) (p : List Bool → Bool) → all_lists n p ≡ false → (set : List Bool) × (length set ≡ n) × (p set ≡ false)
unfolding all_lists
some-list zero p h = ([], refl, h)
some-list (suc n) p h = elim (cases_Bool (all_lists n (λ set. p (true ∷ set)))) [
  | inl all ↦
      let rest : all_lists n (λ set. p (false ∷ set)) ≡ false = ap (λ (b : Bool). b && all_lists n (λ set. p (false ∷ set))) (sym all) ∙ h in
      let x = some-list n (λ set. p (false ∷ set)) rest in
      (false ∷ x.0, ap suc x.1, x.2)
  | inr some ↦
      let x = some-list n (λ set. p (true ∷ set)) some in
      (true ∷ x.0, ap suc x.1, x.2)
]

some-set : (p : List Bool → Bool) → not (each_set (λ set. not (p set))) ≡ true → (set : List Bool) × (length set ≡ 64) × (p set ≡ true)
some-set p h =
    let x = some-list 64 (λ set. not (p set)) (not-true _ h) in
    (x.0, x.1, true_from_ne_false (p x.0) (λ fails. both_ways _ x.2 (not_from_false _ fails)))

set-some : (p : List Bool → Bool) (set : List Bool) → length set ≡ 64 → p set ≡ true → not (each_set (λ set. not (p set))) ≡ true
set-some p set_ size h = not_from_false _ (false_from_ne_true _ (λ all. both_ways (p set_) (not-true _ (lists-told 64 (λ s. not (p s)) set_ all size)) h))

-- THE GREATEST FROZEN SET

shut-told : (held : Rights) (S : Sketch) (set : List Bool) (s : ℕ) → list_any (is_shut_in held set s) S ≡ true → IsBarred held S set s
shut-told held S set_ s h =
    let x = any-figure S (is_shut_in held set_ s) h in
    let f : Figure = x.figure in
    let parts = and_parts (is_fixed_on s f) (is_held_home held s || list_all (λ t. not (figure_enters f s t) || is_in set_ t) (range_with_len 0 64)) x.passes in
    record {
      number = x.number;
      figure = f;
      there = x.found;
      fixed = parts.0;
      barred = elim (or_cases (is_held_home held s) (list_all (λ t. not (figure_enters f s t) || is_in set_ t) (range_with_len 0 64)) parts.1) [
        | inl home ↦ inl home
        | inr all ↦ inr (λ t inside enters. elim (or_cases (not (figure_enters f s t)) (is_in set_ t) (at_board (λ t. not (figure_enters f s t) || is_in set_ t) t all inside)) [
          | inl none ↦ absurd (both_ways _ (not-true _ none) enters)
          | inr member ↦ member
        ])
      ];
    }

frozen-told : (held : Rights) (S : Sketch) (set : List Bool) → length set ≡ 64 → is_frozen_in held S set ≡ true → IsFrozenIn held S set
unfolding is_frozen_in
frozen-told held S set_ size h s member = elim (or_cases (not (is_in set_ s)) (list_any (is_shut_in held set_ s) S) (at_board (λ s. not (is_in set_ s) || list_any (is_shut_in held set_ s) S) s h (member-inside set_ s size member))) [
  | inl out ↦ absurd (both_ways _ (not-true _ out) member)
  | inr shut ↦ shut-told held S set_ s shut
]

pub greatest-frozen : (held : Rights) (S : Sketch) → IsFrozenIn held S (greatest_frozen held S)
unfolding greatest_frozen
greatest-frozen held S s member =
    let passes : ℕ → Bool = λ s. not (each_set (λ other. not (is_in other s && is_frozen_in held S other))) in
    let here = in-that passes s member in
    let x = some-set (λ other. is_in other s && is_frozen_in held S other) here.1 in
    let parts = and_parts (is_in x.0 s) (is_frozen_in held S x.0) x.2 in
    let b = frozen-told held S x.0 x.1 parts.1 s parts.0 in
    record {
      number = b.number;
      figure = b.figure;
      there = b.there;
      fixed = b.fixed;
      barred = elim b.barred [
        | inl home ↦ inl home
        | inr shut ↦ inr (λ t inside enters. is_in-that passes t inside ∙ set-some (λ other. is_in other t && is_frozen_in held S other) x.0 x.1 (and_from _ _ (shut t inside enters) parts.1))
      ];
    }

pub greatest-size : (held : Rights) (S : Sketch) → length (greatest_frozen held S) ≡ 64
unfolding greatest_frozen
greatest-size held S = length-that _

-- THE LEAST ZONES

closed-told : (goes : ℕ → ℕ → Bool) (within : List Bool) (t u : ℕ) → is_closed_by goes within ≡ true → t < 64 → u < 64 → is_in within t ≡ true → goes t u ≡ true → is_in within u ≡ true
unfolding is_closed_by
closed-told goes within t u h ti ui member step =
    let row = at_board (λ t. list_all (λ u. not (is_in within t && goes t u && not (is_in within u))) (range_with_len 0 64)) t h ti in
    let here : (is_in within t && goes t u && not (is_in within u)) ≡ false = not-true _ (at_board (λ u. not (is_in within t && goes t u && not (is_in within u))) u row ui) in
    true_from_ne_false _ (λ out. both_ways _ here (and_from _ _ (and_from _ _ member step) (not_from_false _ out)))

has-told : (zone squares : List Bool) → length squares ≡ 64 → has_all zone squares ≡ true → IsWithin squares zone
has-told zone squares size h s member = elim (or_cases (not (is_in squares s)) (is_in zone s) (at_board (λ s. not (is_in squares s) || is_in zone s) s h (member-inside squares s size member))) [
  | inl out ↦ absurd (both_ways _ (not-true _ out) member)
  | inr there ↦ there
]

-- a pawn goes from a square of the board to one
goes-inside : (set : List Bool) (f : Figure) (z t : ℕ) → goes_on set f z t ≡ true → (z < 64) × (t < 64)
goes-inside set_ f z t h =
    let parts = and_parts (may_hold set_ z && is_pawn_step f.colour set_ z t) (not f.marked || (file z == file t)) h in
    let two = and_parts (may_hold set_ z) (is_pawn_step f.colour set_ z t) parts.0 in
    let step = and_parts (one_ahead f.colour z t && nat_lt (files_apart z t) 2 && nat_lt t 64) (not (is_in set_ t)) two.1 in
    (ltb-true z 64 (and_parts (nat_lt z 64) (not (is_end z || is_in set_ z)) two.0).0, ltb-true t 64 (and_parts (one_ahead f.colour z t && nat_lt (files_apart z t) 2) (nat_lt t 64) step.0).1)

zone-told : (wall : List Bool) (f : Figure) (zone : List Bool) → length f.squares ≡ 64 → list_all (same_kind Pawn) f.kinds ≡ true → is_zone wall f zone ≡ true → IsZone wall f zone
unfolding is_zone
zone-told wall f zone size pawn h =
    let parts = and_parts (has_all zone f.squares) (is_closed_by (λ t z. goes_on wall f z t) zone) h in
    record {
      pawn = pawn;
      squares = has-told zone f.squares size parts.0;
      closed = λ z t member goes. let inside = goes-inside wall f z t goes in closed-told (λ t z. goes_on wall f z t) zone t z parts.1 inside.1 inside.0 member goes;
    }

zone-has : (wall : List Bool) (f : Figure) (s : ℕ) → ((zone : List Bool) → length zone ≡ 64 → is_zone wall f zone ≡ true → is_in zone s ≡ true) → each_set (λ zone. not (is_zone wall f zone) || is_in zone s) ≡ true
zone-has wall f s each = lists-tell 64 (λ zone. not (is_zone wall f zone) || is_in zone s) (λ zone whole. elim (cases_Bool (is_zone wall f zone)) [
  | inl yes_ ↦ or_right (not (is_zone wall f zone)) (is_in zone s) (each zone whole yes_)
  | inr no_ ↦ or_left (not (is_zone wall f zone)) (is_in zone s) (not_from_false _ no_)
])

has-zone : (wall : List Bool) (f : Figure) (s : ℕ) (zone : List Bool) → length zone ≡ 64 → is_zone wall f zone ≡ true → each_set (λ zone. not (is_zone wall f zone) || is_in zone s) ≡ true → is_in zone s ≡ true
has-zone wall f s zone whole is all = elim (or_cases (not (is_zone wall f zone)) (is_in zone s) (lists-told 64 (λ other. not (is_zone wall f other) || is_in other s) zone all whole)) [
  | inl no_ ↦ absurd (both_ways _ (not-true _ no_) is)
  | inr there ↦ there
]

least-zone : (wall : List Bool) (f : Figure) → length f.squares ≡ 64 → list_all (same_kind Pawn) f.kinds ≡ true → IsZone wall f (least_zone wall f)
unfolding least_zone
least-zone wall f size pawn =
    let passes : ℕ → Bool = λ s. each_set (λ zone. not (is_zone wall f zone) || is_in zone s) in
    record {
      pawn = pawn;
      squares = λ s member. is_in-that passes s (member-inside f.squares s size member) ∙ zone-has wall f s (λ zone whole is. (zone-told wall f zone size pawn is).squares s member);
      closed = λ z t member goes. is_in-that passes z (goes-inside wall f z t goes).0 ∙ zone-has wall f z (λ zone whole is. (zone-told wall f zone size pawn is).closed z t (has-zone wall f t zone whole is (in-that passes t member).1) goes);
    }

-- each zone that counts is a zone of a figure
pub pairs-are : (wall : List Bool) (S : Sketch) → ((f : Figure) → Contains S f → length f.squares ≡ 64) → AreZones wall S (pair_zones wall S)
pairs-are wall S whole zone member =
    let x = map-contains (least_zone wall) (filter (has_pair wall) S) zone member in
    let y = filter-contains (has_pair wall) S x.0 x.1 in
    let n = number-of S x.0 y.0 in
    let pawn : list_all (same_kind Pawn) x.0.kinds ≡ true = (and_parts (list_all (same_kind Pawn) x.0.kinds) (is_pair (least_zone wall x.0)) y.1).0 in
    (n.0, x.0, n.1, subst (IsZone wall x.0) x.2 (least-zone wall x.0 (whole x.0 y.0) pawn))
