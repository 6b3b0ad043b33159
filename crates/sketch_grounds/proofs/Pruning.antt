-- Squares of zones to which single steps lead are looked at one by one.
use Rattle.std.proofs.Common.{◌≡◌, ◌≢◌, ℕ, ◌+◌, ◌<◌, ◌≤◌, ◌⊎◌, inl, inr, Bool, true, false, ◌&&◌, not, List, length, set, ap, sym, ◌∙◌, arith}
use Rattle.std.proofs.lemmas.Bool.{and_parts, and_from, or_cases, or_left, or_right, cases_Bool, cases_eq, cases_lt, lt-ltb, ltb-true, not-true, not_from_false, both_ways, false_from_ne_true}
use Rattle.std.proofs.lemmas.List.{get_or_past, get_or-set_same, get_or-set_other, length-set}
use Rattle.std.specs.Prelude.{nat_lt}
use Rattle.general_lemmas.proofs.Truth.{same_truth}
use Rattle.board_base.specs.Board.{is_in}
use Rattle.board_base.specs.declared.men.Kind.{Kind}
use Rattle.cage_rules.specs.Steps.{is_near, is_step}
use Rattle.cage_rules.specs.SetSteps.{both, is_spread, outside, spread}
use Rattle.cage_rules.specs.Sets.{squares_that}
use Rattle.cage_rules.proofs.Filling.{is_in-that, length-that, none-in-zero}
use Rattle.cage_rules.proofs.SetAlgebra.{is_in-both, is_in-outside, that-is}
use Rattle.sketch_grounds.specs.LeastZones.{is_only}
use Rattle.sketch_grounds.specs.Paces.{is_barred, is_pace, is_paced, paced}
use Rattle.sketch_grounds.specs.Wide.{AreWide}
use Rattle.cage_rules.proofs.Near.{near-tells, near-told}
use Rattle.board_base.specs.Squares.{squares_of}
use Rattle.sketch_grounds.proofs.Entering.{member-there, only-member}
use Rattle.sketch_grounds.proofs.Pacing.{only-tells, only-told}
use Rattle.past_account.proofs.Rooms.{any-zone}

-- the doubtful squares below i are decided, and the others are as at first
pub record Pruned (k : Kind) (wall : List Bool) (zones : List (List Bool)) (within doubtful more : List Bool) (i : ℕ) : Type 0 where
  pub size : length more ≡ 64
  pub done : (s : ℕ) → s < 64 → s < i → is_in doubtful s ≡ true → is_in more s ≡ is_near (is_pace k zones) within s
  pub rest : (s : ℕ) → s < 64 → (i ≤ s) ⊎ (is_in doubtful s ≡ false) → is_in more s ≡ is_in (spread k wall within) s
  pub here : i < 64 → is_in doubtful i ≡ true

pub pruned-start : (k : Kind) (wall : List Bool) (zones : List (List Bool)) (within doubtful more : List Bool) (i : ℕ) → more ≡ spread k wall within → ((s : ℕ) → s < i → is_in doubtful s ≡ false) → (i < 64 → is_in doubtful i ≡ true) → Pruned k wall zones within doubtful more i
unfolding spread
pruned-start k wall zones within doubtful more i e none found = record {
  size = ap length e ∙ length-that (is_spread k wall within);
  done = λ s inside low member. absurd (both_ways _ (none s low) member);
  rest = λ s inside where_. ap (λ (l : List Bool). is_in l s) e;
  here = found;
}

-- one doubtful square is decided
pub pruned-next : (k : Kind) (wall : List Bool) (zones : List (List Bool)) (within doubtful more next : List Bool) (i j : ℕ) → i < 64 → i < j → is_in doubtful i ≡ true → ((s : ℕ) → i + 1 ≤ s → s < j → is_in doubtful s ≡ false) → (j < 64 → is_in doubtful j ≡ true) → length next ≡ 64 → is_in next i ≡ is_near (is_pace k zones) within i → ((s : ℕ) → s ≢ i → is_in next s ≡ is_in more s) → Pruned k wall zones within doubtful more i → Pruned k wall zones within doubtful next j
pruned-next k wall zones within doubtful more next i j inside ahead member none found size here others was = record {
  size = size;
  here = found;
  done = λ s si low in_. elim (cases_eq s i) [
    | inl same ↦ ap (is_in next) same ∙ here ∙ ap (is_near (is_pace k zones) within) (sym same)
    | inr other ↦ elim (cases_lt s i) [
      | inl below ↦ others s other ∙ was.done s si below in_
      | inr past ↦ absurd (both_ways _ (none s (omega arith) low) in_)
    ]
  ];
  rest = λ s si where_. elim (cases_eq s i) [
    | inl same ↦ absurd (elim where_ [
      | inl past ↦ omega arith
      | inr out ↦ both_ways _ out (ap (is_in doubtful) same ∙ member)
    ])
    | inr other ↦ others s other ∙ was.rest s si (elim where_ [
      | inl past ↦ inl (omega arith)
      | inr out ↦ inr out
    ])
  ];
}

-- no step to a square of no zone is barred
free-elsewhere : (zones : List (List Bool)) (squares : List Bool) (s t : ℕ) → AreWide zones squares → is_in squares s ≡ false → is_barred zones t s ≡ false
unfolding is_barred
free-elsewhere zones squares s t wide out = false_from_ne_true _ (λ barred.
    let x = any-zone (λ zone. is_only zone t s) zones barred in
    wide.wide x.0 x.1 t (λ u inside member. elim (only-told x.0 t s u x.2 inside member) [
      | inl at_t ↦ at_t
      | inr at_s ↦ absurd (both_ways _ out (wide.covered x.0 x.1 s (ap (is_in x.0) (sym at_s) ∙ member)))
    ]))

pace-step : (k : Kind) (zones : List (List Bool)) (within : List Bool) (s : ℕ) → is_near (is_pace k zones) within s ≡ true → is_near (is_step k) within s ≡ true
pace-step k zones within s h =
    let from = near-told (is_pace k zones) within s h in
    near-tells (is_step k) within s (record { square = from.square; inside = from.inside; placed = (and_parts (is_step k s from.square) (not (is_barred zones from.square s)) from.placed).0; member = from.member })

step-pace : (k : Kind) (zones : List (List Bool)) (squares within : List Bool) (s : ℕ) → AreWide zones squares → is_in squares s ≡ false → is_near (is_step k) within s ≡ true → is_near (is_pace k zones) within s ≡ true
step-pace k zones squares within s wide out h =
    let from = near-told (is_step k) within s h in
    near-tells (is_pace k zones) within s (record { square = from.square; inside = from.inside; placed = and_from _ _ from.placed (not_from_false _ (free-elsewhere zones squares s from.square wide out)); member = from.member })

-- what is left is what such steps add
pub pruned-end : (k : Kind) (wall : List Bool) (zones : List (List Bool)) (squares within doubtful more : List Bool) (i : ℕ) → 64 ≤ i → AreWide zones squares → ((s : ℕ) → s < 64 → is_in doubtful s ≡ (is_in squares s && (is_in (spread k wall within) s && not (is_in within s)))) → Pruned k wall zones within doubtful more i → more ≡ paced k wall zones within
unfolding spread paced is_paced
pruned-end k wall zones squares within doubtful more i past wide doubts pruned =
    that-is (is_paced k wall zones within) more pruned.size (λ s inside.
    let first : Bool = is_in (spread k wall within) s in
    let first-is : is_in (squares_that (is_spread k wall within)) s ≡ is_spread k wall within s = is_in-that (is_spread k wall within) s inside in
    elim (cases_Bool (is_in doubtful s)) [
      | inl doubt ↦
          let parts = and_parts (is_in squares s) (is_in (squares_that (is_spread k wall within)) s && not (is_in within s)) (sym (doubts s inside) ∙ doubt) in
          let two = and_parts (is_in (squares_that (is_spread k wall within)) s) (not (is_in within s)) parts.1 in
          let out : is_in within s ≡ false = not-true _ two.1 in
          let open_ : not (is_in wall s) ≡ true = elim (or_cases (is_in within s) (is_near (is_step k) within s && not (is_in wall s)) (sym first-is ∙ two.0)) [
            | inl member ↦ absurd (both_ways _ out member)
            | inr new ↦ (and_parts _ _ new).1
          ] in
          pruned.done s inside (omega arith) doubt
          ∙ same_truth (is_near (is_pace k zones) within s) (is_paced k wall zones within s)
          (λ near_it. or_right (is_in within s) (is_near (is_pace k zones) within s && not (is_in wall s)) (and_from _ _ near_it open_))
          (λ h. elim (or_cases (is_in within s) (is_near (is_pace k zones) within s && not (is_in wall s)) h) [
            | inl member ↦ absurd (both_ways _ out member)
            | inr new ↦ (and_parts _ _ new).0
          ])
      | inr sure ↦
          pruned.rest s inside (inr sure) ∙ first-is
          ∙ same_truth (is_spread k wall within s) (is_paced k wall zones within s)
          (λ h. elim (or_cases (is_in within s) (is_near (is_step k) within s && not (is_in wall s)) h) [
            | inl member ↦ or_left (is_in within s) (is_near (is_pace k zones) within s && not (is_in wall s)) member
            | inr new ↦
                let parts = and_parts (is_near (is_step k) within s) (not (is_in wall s)) new in
                elim (cases_Bool (is_in within s)) [
                  | inl member ↦ or_left (is_in within s) (is_near (is_pace k zones) within s && not (is_in wall s)) member
                  | inr out ↦
                      let nowhere : is_in squares s ≡ false = false_from_ne_true (is_in squares s) (λ zone. both_ways _ sure (doubts s inside ∙ and_from _ _ zone (and_from _ _ (first-is ∙ h) (not_from_false _ out)))) in
                      or_right (is_in within s) (is_near (is_pace k zones) within s && not (is_in wall s)) (and_from _ _ (step-pace k zones squares within s wide nowhere parts.0) parts.1)
                ]
          ])
          (λ h. elim (or_cases (is_in within s) (is_near (is_pace k zones) within s && not (is_in wall s)) h) [
            | inl member ↦ or_left (is_in within s) (is_near (is_step k) within s && not (is_in wall s)) member
            | inr new ↦ let parts = and_parts (is_near (is_pace k zones) within s) (not (is_in wall s)) new in or_right (is_in within s) (is_near (is_step k) within s && not (is_in wall s)) (and_from _ _ (pace-step k zones within s parts.0) parts.1)
          ])
    ])

-- a zone without u
without-told : (zone : List Bool) (u s : ℕ) → is_in (set zone u false) s ≡ true → (is_in zone s ≡ true) × (s ≢ u)
without-told zone u s member = elim (cases_eq s u) [
  | inl same ↦ elim (cases_lt u (length zone)) [
    | inl low ↦ absurd (both_ways _ (get_or-set_same zone u false false low) (ap (is_in (set zone u false)) (sym same) ∙ member))
    | inr past ↦ absurd (both_ways _ (get_or_past (set zone u false) s false (omega (arith, length-set zone u false))) member)
  ]
  | inr other ↦ (sym (get_or-set_other zone u s false false other) ∙ member, other)
]

without-tells : (zone : List Bool) (u s : ℕ) → is_in zone s ≡ true → s ≢ u → is_in (set zone u false) s ≡ true
without-tells zone u s member other = get_or-set_other zone u s false false other ∙ member

-- where it has no square, any square is a partner
pub partners-all : (zone rest : List Bool) (u t : ℕ) → rest ≡ set zone u false → ((s : ℕ) → s < 64 → is_in rest s ≡ false) → true ≡ is_only zone t u
partners-all zone rest u t e none = sym (only-tells zone t u (λ s inside member. elim (cases_eq s u) [
  | inl same ↦ inr same
  | inr other ↦ absurd (both_ways _ (none s inside) (ap (λ (l : List Bool). is_in l s) e ∙ without-tells zone u s member other))
]))

-- where it has one alone, that is the partner
pub partners-one : (zone rest more : List Bool) (u x t : ℕ) → x < 64 → rest ≡ set zone u false → is_in rest x ≡ true → more ≡ set rest x false → ((s : ℕ) → s < 64 → is_in more s ≡ false) → is_in (set (squares_of 0) x true) t ≡ is_only zone t u
partners-one zone rest more u x t xi e member e' none =
    same_truth (is_in (set (squares_of 0) x true) t) (is_only zone t u)
    (λ here.
    let same : t ≡ x = only-member x t xi here in
    only-tells zone t u (λ s inside there. elim (cases_eq s u) [
      | inl at_u ↦ inr at_u
      | inr other ↦ elim (cases_eq s x) [
        | inl at_x ↦ inl (at_x ∙ sym same)
        | inr apart ↦ absurd (both_ways _ (none s inside) (ap (λ (l : List Bool). is_in l s) e' ∙ without-tells rest x s (ap (λ (l : List Bool). is_in l s) e ∙ without-tells zone u s there other) apart))
      ]
    ]))
    (λ only.
    let had = without-told zone u x (ap (λ (l : List Bool). is_in l x) (sym e) ∙ member) in
    elim (only-told zone t u x only xi had.0) [
      | inl at_t ↦ ap (is_in (set (squares_of 0) x true)) (sym at_t) ∙ member-there x xi
      | inr at_u ↦ absurd (had.1 at_u)
    ])

-- where it has two, there is none
pub partners-none : (zone rest more : List Bool) (u x y t : ℕ) → x < 64 → y < 64 → rest ≡ set zone u false → is_in rest x ≡ true → more ≡ set rest x false → is_in more y ≡ true → is_in (squares_of 0) t ≡ is_only zone t u
partners-none zone rest more u x y t xi yi e first e' second =
    none-in-zero t ∙ sym (false_from_ne_true (is_only zone t u) (λ only.
    let a = without-told zone u x (ap (λ (l : List Bool). is_in l x) (sym e) ∙ first) in
    let b = without-told rest x y (ap (λ (l : List Bool). is_in l y) (sym e') ∙ second) in
    let c = without-told zone u y (ap (λ (l : List Bool). is_in l y) (sym e) ∙ b.0) in
    elim (only-told zone t u x only xi a.0) [
      | inl x_t ↦ elim (only-told zone t u y only yi c.0) [
        | inl y_t ↦ b.1 (y_t ∙ sym x_t)
        | inr y_u ↦ c.1 y_u
      ]
      | inr x_u ↦ a.1 x_u
    ]))

-- whether there is a source from which a step leaves each zone a square
pub comes-made : (k : Kind) (zones : List (List Bool)) (within barred from : List Bool) (u n : ℕ) → from ≡ both (both within (squares_that (is_step k u))) (outside barred) → ((t : ℕ) → t < 64 → is_in barred t ≡ is_barred zones t u) → ((s : ℕ) → s < n → is_in from s ≡ false) → (n < 64 → is_in from n ≡ true) → nat_lt n 64 ≡ is_near (is_pace k zones) within u
comes-made k zones within barred from u n made are none found =
    let at_from : (t : ℕ) → t < 64 → is_in from t ≡ (is_in within t && is_step k u t && not (is_barred zones t u)) =
    λ t inside.
    ap (λ (l : List Bool). is_in l t) made ∙ is_in-both (both within (squares_that (is_step k u))) (outside barred) t inside
    ∙ ap (λ (b : Bool). b && is_in (outside barred) t) (is_in-both within (squares_that (is_step k u)) t inside ∙ ap (λ (b : Bool). is_in within t && b) (is_in-that (is_step k u) t inside))
    ∙ ap (λ (b : Bool). is_in within t && is_step k u t && b) (is_in-outside barred t inside ∙ ap not (are t inside)) in
    same_truth (nat_lt n 64) (is_near (is_pace k zones) within u)
    (λ low.
    let inside : n < 64 = ltb-true n 64 low in
    let parts = and_parts (is_in within n && is_step k u n) (not (is_barred zones n u)) (sym (at_from n inside) ∙ found inside) in
    let two = and_parts (is_in within n) (is_step k u n) parts.0 in
    near-tells (is_pace k zones) within u (record { square = n; inside = inside; placed = and_from _ _ two.1 parts.1; member = two.0 }))
    (λ near_it.
    let source = near-told (is_pace k zones) within u near_it in
    let t : ℕ = source.square in
    let inside : t < 64 = source.inside in
    let pace = and_parts (is_step k u t) (not (is_barred zones t u)) source.placed in
    let there : is_in from t ≡ true = at_from t inside ∙ and_from _ _ (and_from _ _ source.member pace.0) pace.1 in
    elim (cases_lt t n) [
      | inl below ↦ absurd (both_ways _ (none t below) there)
      | inr past ↦ lt-ltb n 64 (omega arith)
    ])
