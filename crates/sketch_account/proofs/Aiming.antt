-- Where the ways of a figure's man may have ended.
use Rattle.std.proofs.Common.{◌≡◌, ◌≢◌, ℕ, ◌+◌, ◌-◌, ◌<◌, ◌≤◌, ◌==◌, inl, inr, Bool, true, false, ◌&&◌, ◌||◌, not, List, length, set, refl, ap, sym, ◌∙◌, arith}
use Rattle.std.proofs.lemmas.Bool.{agree_below_at, cases_Bool, cases_eq, cases_lt, cond-true, cond-false, lt-ltb, ltb-true, both_ways}
use Rattle.std.proofs.lemmas.List.{get_or-set_same, get_or-set_other, length-set}
use Rattle.std.specs.Prelude.{nat_lt}
use Rattle.std.specs.List.{list_any, range_with_len}
use Rattle.general_lemmas.proofs.Ranges.{any-found}
use Rattle.general_lemmas.proofs.Truth.{same_truth}
use Rattle.board_base.specs.Board.{is_in, rank}
use Rattle.board_base.specs.Legal.{is_officer, last_rank}
use Rattle.board_base.specs.Squares.{squares_of}
use Rattle.board_base.specs.declared.men.Colour.{Colour}
use Rattle.board_base.specs.declared.men.Colour.TheVariants.{White, Black}
use Rattle.board_base.specs.declared.men.Kind.{Kind}
use Rattle.board_base.specs.declared.men.Kind.TheVariants.{Pawn, Knight, Bishop, Rook, Queen, King}
use Rattle.cage_rules.specs.Sets.{squares_that}
use Rattle.cage_rules.proofs.Tested.{any-told}
use Rattle.balance_rule.specs.LeastWays.{seen_by}
use Rattle.balance_rule.proofs.Brought.{last-number, last-rank}
use Rattle.balance_rule.proofs.Seen.{seen-inside, seen-seen}
use Rattle.figures.specs.Figures.{Figure, may_be}
use Rattle.sketch_grounds.specs.Zones.{Room}
use Rattle.sketch_account.proofs.Algebra.{in-both}
use Rattle.sketch_account.specs.Coming.{has_room, is_free, is_goal, is_promoted}
use Rattle.sketch_grounds.proofs.Freezing.{kinds-six}

pub first-is : (s : ℕ) → s < 64 → is_in (squares_of 255) s ≡ (rank s == 0)
unfolding squares_of
first-is s inside = agree_below_at (is_in (squares_of 255)) (λ s. rank s == 0) 64 s refl inside

pub last-is : (s : ℕ) → s < 64 → is_in (squares_of 18374686479671623680) s ≡ (rank s == 7)
unfolding squares_of
last-is s inside = agree_below_at (is_in (squares_of 18374686479671623680)) (λ s. rank s == 7) 64 s refl inside

pub meets-made : (a b from : List Bool) (n : ℕ) → from ≡ squares_that (λ s. is_in a s && is_in b s) → ((s : ℕ) → s < n → is_in from s ≡ false) → (n < 64 → is_in from n ≡ true) → nat_lt n 64 ≡ list_any (λ s. is_in a s && is_in b s) (range_with_len 0 64)
meets-made a b from n made none found =
    let at_from : (t : ℕ) → t < 64 → is_in from t ≡ (is_in a t && is_in b t) = λ t inside. in-both a b from t made inside in
    same_truth (nat_lt n 64) (list_any (λ s. is_in a s && is_in b s) (range_with_len 0 64))
    (λ low. let inside : n < 64 = ltb-true n 64 low in any-found (λ s. is_in a s && is_in b s) 0 64 n (omega arith) (omega arith) (sym (at_from n inside) ∙ found inside))
    (λ h.
    let x = any-told (λ s. is_in a s && is_in b s) 0 64 h in
    let inside : x.0 < 64 = x.1 in
    elim (cases_lt x.0 n) [
      | inl below ↦ absurd (both_ways _ (none x.0 below) (at_from x.0 inside ∙ x.2))
      | inr past ↦ lt-ltb n 64 (omega arith)
    ])

pub any-board : (p q : ℕ → Bool) → ((s : ℕ) → s < 64 → p s ≡ q s) → list_any p (range_with_len 0 64) ≡ list_any q (range_with_len 0 64)
any-board p q same = same_truth _ _
    (λ h. let x = any-told p 0 64 h in let inside : x.0 < 64 = x.1 in any-found q 0 64 x.0 (omega arith) (omega arith) (sym (same x.0 inside) ∙ x.2))
    (λ h. let x = any-told q 0 64 h in let inside : x.0 < 64 = x.1 in any-found p 0 64 x.0 (omega arith) (omega arith) (same x.0 inside ∙ x.2))

and-false : (x : Bool) → (x && false) ≡ false
and-false true = refl
and-false false = refl

or-false : (x : Bool) → (x || false) ≡ x
or-false true = refl
or-false false = refl

pub promoted-made : (R : Room) (c : Colour) (wall : List Bool) (f : Figure) (e : ℕ) (a b d q : Bool) → a ≡ (may_be f Knight && has_room R c wall f e Knight) → b ≡ (may_be f Bishop && has_room R c wall f e Bishop) → d ≡ (may_be f Rook && has_room R c wall f e Rook) → q ≡ (may_be f Queen && has_room R c wall f e Queen) → ((a || b) || (d || q)) ≡ is_promoted R c wall f e
promoted-made R c wall f e a b d q ea eb ed eq =
    let t : Kind → Bool = λ k. may_be f k && (is_officer k && has_room R c wall f e k) in
    let none-pawn : t Pawn ≡ false = and-false (may_be f Pawn) in
    let none-king : t King ≡ false = and-false (may_be f King) in
    ap (λ (x : Bool). (x || b) || (d || q)) ea ∙ ap (λ (x : Bool). (t Knight || x) || (d || q)) eb ∙ ap (λ (x : Bool). (t Knight || t Bishop) || (x || q)) ed ∙ ap (λ (x : Bool). (t Knight || t Bishop) || (t Rook || x)) eq
    ∙ ap (λ (x : Bool). (t Knight || t Bishop) || (t Rook || x)) (sym (ap (λ (y : Bool). t Queen || y) none-king ∙ or-false (t Queen)))
    ∙ ap (λ (x : Bool). x || ((t Knight || t Bishop) || (t Rook || (t Queen || t King)))) (sym none-pawn)
    ∙ kinds-six f.kinds (λ k. is_officer k && has_room R c wall f e k)

-- what is known of the goals after some files
pub record Aimed (R : Room) (c : Colour) (wall : List Bool) (f : Figure) (goals : List Bool) (k : ℕ) : Type 0 where
  pub size : length goals ≡ 64
  pub short : (e : ℕ) → e < 64 → (rank e == last_rank c) ≡ false → is_in goals e ≡ (may_be f Pawn && is_free wall f e)
  pub done : (j : ℕ) → j < 8 → j < k → is_in goals (seen_by c (56 + j)) ≡ is_promoted R c wall f (seen_by c (56 + j))
  pub rest : (j : ℕ) → j < 8 → k ≤ j → is_in goals (seen_by c (56 + j)) ≡ false

last-there : (c : Colour) (j : ℕ) → j < 8 → (seen_by c (56 + j) < 64) × ((rank (seen_by c (56 + j)) == last_rank c) ≡ true)
last-there c j low = let inside : 56 + j < 64 = omega arith in (seen-inside c (56 + j) inside, last-rank c (56 + j) inside (omega arith))

pub aimed-start : (R : Room) (c : Colour) (wall : List Bool) (f : Figure) (free goals : List Bool) → length goals ≡ 64 → ((s : ℕ) → s < 64 → is_in free s ≡ is_free wall f s) → ((s : ℕ) → s < 64 → is_in goals s ≡ (may_be f Pawn && is_in free s && not (rank s == last_rank c))) → Aimed R c wall f goals 0
aimed-start R c wall f free goals size are goals_are = record {
  size = size;
  short = λ e inside short. goals_are e inside ∙ ap (λ (b : Bool). may_be f Pawn && is_in free e && not b) short ∙ and-true (may_be f Pawn && is_in free e) ∙ ap (λ (b : Bool). may_be f Pawn && b) (are e inside);
  done = λ j low none. absurd (omega arith);
  rest = λ j low high. let there = last-there c j low in goals_are (seen_by c (56 + j)) there.0 ∙ ap (λ (b : Bool). may_be f Pawn && is_in free (seen_by c (56 + j)) && not b) there.1 ∙ and-false (may_be f Pawn && is_in free (seen_by c (56 + j)));
}
  where
    and-true : (x : Bool) → (x && true) ≡ x
    and-true true = refl
    and-true false = refl

seen-apart : (c : Colour) (i j : ℕ) → i < 8 → j < 8 → i ≢ j → seen_by c (56 + i) ≢ seen_by c (56 + j)
seen-apart White i j il jl other same = other (omega arith)
seen-apart Black i j il jl other same = other (omega arith)

pub aimed-yes : (R : Room) (c : Colour) (wall : List Bool) (f : Figure) (goals next : List Bool) (k : ℕ) → k < 8 → next ≡ set goals (seen_by c (56 + k)) true → is_promoted R c wall f (seen_by c (56 + k)) ≡ true → Aimed R c wall f goals k → Aimed R c wall f next (k + 1)
aimed-yes R c wall f goals next k low made is was =
    let t : ℕ = seen_by c (56 + k) in
    let there = last-there c k low in
    let inside : t < 64 = there.0 in
    let size : length goals ≡ 64 = was.size in
    let here : is_in next t ≡ true = ap (λ (l : List Bool). is_in l t) made ∙ get_or-set_same goals t true false (omega arith) in
    let others : (s : ℕ) → s ≢ t → is_in next s ≡ is_in goals s = λ s other. ap (λ (l : List Bool). is_in l s) made ∙ get_or-set_other goals t s true false other in
    record {
      size = ap (λ (l : List Bool). length l) made ∙ length-set goals t true ∙ size;
      short = λ e ei short. others e (λ same. both_ways _ short (ap (λ (u : ℕ). rank u == last_rank c) same ∙ there.1)) ∙ was.short e ei short;
      done = λ j jl below. elim (cases_eq j k) [
        | inl same ↦ ap (λ (n : ℕ). is_in next (seen_by c (56 + n))) same ∙ here ∙ sym is ∙ ap (λ (n : ℕ). is_promoted R c wall f (seen_by c (56 + n))) (sym same)
        | inr other ↦ others (seen_by c (56 + j)) (seen-apart c j k jl low other) ∙ was.done j jl (omega arith)
      ];
      rest = λ j jl high. let other : j ≢ k = omega arith in others (seen_by c (56 + j)) (seen-apart c j k jl low other) ∙ was.rest j jl (omega arith);
    }

pub aimed-no : (R : Room) (c : Colour) (wall : List Bool) (f : Figure) (goals next : List Bool) (k : ℕ) → k < 8 → next ≡ goals → is_promoted R c wall f (seen_by c (56 + k)) ≡ false → Aimed R c wall f goals k → Aimed R c wall f next (k + 1)
aimed-no R c wall f goals next k low made is was =
    let each : (s : ℕ) → is_in next s ≡ is_in goals s = λ s. ap (λ (l : List Bool). is_in l s) made in
    record {
      size = ap (λ (l : List Bool). length l) made ∙ was.size;
      short = λ e ei short. each e ∙ was.short e ei short;
      done = λ j jl below. each (seen_by c (56 + j)) ∙ elim (cases_eq j k) [
        | inl same ↦ ap (λ (n : ℕ). is_in goals (seen_by c (56 + n))) same ∙ was.rest k low (omega arith) ∙ sym is ∙ ap (λ (n : ℕ). is_promoted R c wall f (seen_by c (56 + n))) (sym same)
        | inr other ↦ was.done j jl (omega arith)
      ];
      rest = λ j jl high. each (seen_by c (56 + j)) ∙ was.rest j jl (omega arith);
    }

pub aimed-end : (R : Room) (c : Colour) (wall : List Bool) (f : Figure) (goals : List Bool) (k e : ℕ) → 8 ≤ k → e < 64 → Aimed R c wall f goals k → is_in goals e ≡ is_goal R c wall f e
aimed-end R c wall f goals k e past inside was = elim (cases_Bool (rank e == last_rank c)) [
  | inl last ↦
      let high : 56 ≤ seen_by c e = last-number c e inside last in
      let number : seen_by c e < 64 = seen-inside c e inside in
      let j : ℕ = seen_by c e - 56 in
      let low : j < 8 = omega arith in
      let back : seen_by c (56 + j) ≡ e = let up : 56 + j ≡ seen_by c e = omega arith in ap (seen_by c) up ∙ seen-seen c e inside in
      ap (is_in goals) (sym back) ∙ was.done j low (omega arith) ∙ ap (is_promoted R c wall f) back ∙ sym (cond-true (rank e == last_rank c) (is_promoted R c wall f e) (may_be f Pawn && is_free wall f e) last)
  | inr short ↦ was.short e inside short ∙ sym (cond-false (rank e == last_rank c) (is_promoted R c wall f e) (may_be f Pawn && is_free wall f e) short)
]
