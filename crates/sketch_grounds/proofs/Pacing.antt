-- What officers reach past zones by single steps is what they reach by moves.
use Rattle.std.proofs.Common.{◌≡◌, ℕ, zero, suc, ◌+◌, ◌-◌, ◌<◌, ◌≤◌, ◌==◌, ◌⊎◌, inl, inr, Bool, true, false, ◌&&◌, ◌||◌, not, List, [], ◌∷◌, length, set, refl, ap, sym, ◌∙◌, subst, arith}
use Rattle.std.proofs.lemmas.Bool.{and_parts, and_from, or_cases, or_left, or_right, cases_Bool, cases_eq, eqb-true, eq-eqb, not-true, not_from_false, both_ways, false_from_ne_true}
use Rattle.std.proofs.lemmas.List.{length-set}
use Rattle.std.specs.Prelude.{Some}
use Rattle.std.specs.List.{list_any, range_with_len}
use Rattle.general_lemmas.proofs.Ranges.{all_in_range, any-found}
use Rattle.general_lemmas.proofs.Rounds.{count, count-le, fewer}
use Rattle.general_lemmas.proofs.Truth.{same_truth}
use Rattle.board_base.specs.Board.{at, is_empty, is_in, same_kind}
use Rattle.board_base.specs.Attacks.{is_open, kind_attacks, king_distance, on_one_diagonal, on_one_line, on_the_way}
use Rattle.board_base.specs.Legal.{is_officer}
use Rattle.board_base.specs.Squares.{squares_of}
use Rattle.board_base.specs.SquareNumbers.{length-squares_of}
use Rattle.board_base.specs.declared.men.Colour.{Colour}
use Rattle.board_base.specs.declared.men.Kind.{Kind}
use Rattle.board_base.specs.declared.men.Kind.TheVariants.{Pawn, Knight, Bishop, Rook, Queen, King}
use Rattle.board_base.specs.declared.men.Man.{Man}
use Rattle.board_base.proofs.Ways.{king_distance-sym}
use Rattle.play_rules.specs.Reach.{IsWithin}
use Rattle.cage_rules.specs.Frozen.{is_next}
use Rattle.cage_rules.specs.Regions.{may_roam, walls}
use Rattle.cage_rules.specs.Steps.{is_diagonal_step, is_line_step, is_near, is_step}
use Rattle.cage_rules.proofs.Entries.{knight-back}
use Rattle.cage_rules.proofs.Filling.{in-that, is_in-that, length-that}
use Rattle.cage_rules.proofs.Near.{Source, near-tells, near-told}
use Rattle.cage_rules.proofs.Rays.{diagonal-end, diagonal-step, line-end, line-step, no-steps}
use Rattle.cage_rules.proofs.SetAlgebra.{same-set}
use Rattle.cage_rules.proofs.Tested.{all_board, at_board, member-inside}
use Rattle.sketch_grounds.specs.LeastZones.{is_only}
use Rattle.sketch_grounds.specs.Paces.{is_barred, is_pace, is_paced, paced}
use Rattle.past_account.specs.Zones.{is_trodden, reached_from, roams_past, treads_all}
use Rattle.sketch_grounds.proofs.Entering.{only-member, member-there}
use Rattle.past_account.proofs.Reached.{reached-goes, reached-home, reached-least}
use Rattle.cage_rules.proofs.Spread.{open-out, step-goes}

-- where each zone that passes one test passes another
pub any-so : (p q : List Bool → Bool) (zones : List (List Bool)) → ((zone : List Bool) → p zone ≡ true → q zone ≡ true) → list_any p zones ≡ true → list_any q zones ≡ true
any-so p q [] so h = h
any-so p q (zone ∷ zones) so h = elim (or_cases (p zone) (list_any p zones) h) [
  | inl here ↦ or_left (q zone) (list_any q zones) (so zone here)
  | inr later ↦ or_right (q zone) (list_any q zones) (any-so p q zones so later)
]

pub any-same : (p q : List Bool → Bool) (zones : List (List Bool)) → ((zone : List Bool) → p zone ≡ q zone) → list_any p zones ≡ list_any q zones
any-same p q zones same = same_truth _ _ (any-so p q zones (λ zone h. sym (same zone) ∙ h)) (any-so q p zones (λ zone h. same zone ∙ h))

-- a zone that has no squares but two has all of them trodden by who treads these two
pub only-told : (zone : List Bool) (t u s : ℕ) → is_only zone t u ≡ true → s < 64 → is_in zone s ≡ true → (s ≡ t) ⊎ (s ≡ u)
unfolding is_only
only-told zone t u s only inside member =
    elim (or_cases (not (is_in zone s) || (s == t)) (s == u) (at_board (λ s. not (is_in zone s) || (s == t) || (s == u)) s only inside)) [
      | inl first ↦ elim (or_cases (not (is_in zone s)) (s == t) first) [
        | inl out ↦ absurd (both_ways _ (not-true (is_in zone s) out) member)
        | inr at_t ↦ inl (eqb-true s t at_t)
      ]
      | inr at_u ↦ inr (eqb-true s u at_u)
    ]

pub only-tells : (zone : List Bool) (t u : ℕ) → ((s : ℕ) → s < 64 → is_in zone s ≡ true → (s ≡ t) ⊎ (s ≡ u)) → is_only zone t u ≡ true
unfolding is_only
only-tells zone t u h =
    all_board (λ s. not (is_in zone s) || (s == t) || (s == u)) (λ s inside. elim (cases_Bool (is_in zone s)) [
      | inl member ↦ elim (h s inside member) [
        | inl at_t ↦ or_left (not (is_in zone s) || (s == t)) (s == u) (or_right (not (is_in zone s)) (s == t) (eq-eqb s t at_t))
        | inr at_u ↦ or_right (not (is_in zone s) || (s == t)) (s == u) (eq-eqb s u at_u)
      ]
      | inr out ↦ or_left (not (is_in zone s) || (s == t)) (s == u) (or_left (not (is_in zone s)) (s == t) (not_from_false (is_in zone s) out))
    ])

-- who goes from a to b on the way of a move treads squares of the move
treads-more : (k : Kind) (t u a b : ℕ) (zone : List Bool) → is_trodden k t u a ≡ true → is_trodden k t u b ≡ true → is_only zone a b ≡ true → treads_all k t u zone ≡ true
treads-more k t u a b zone first second only =
    all_board (λ z. not (is_in zone z) || is_trodden k t u z) (λ s inside. elim (cases_Bool (is_in zone s)) [
      | inl member ↦ or_right (not (is_in zone s)) (is_trodden k t u s) (elim (only-told zone a b s only inside member) [
        | inl at_a ↦ ap (is_trodden k t u) at_a ∙ first
        | inr at_b ↦ ap (is_trodden k t u) at_b ∙ second
      ])
      | inr out ↦ or_left (not (is_in zone s)) (is_trodden k t u s) (not_from_false (is_in zone s) out)
    ])

trodden-first : (k : Kind) (t u : ℕ) → is_trodden k t u t ≡ true
trodden-first k t u = or_left ((t == t) || (t == u)) _ (or_left (t == t) (t == u) (eq-eqb t t refl))

trodden-last : (k : Kind) (t u : ℕ) → is_trodden k t u u ≡ true
trodden-last k t u = or_left ((u == t) || (u == u)) _ (or_right (u == t) (u == u) (eq-eqb u u refl))

trodden-way : (k : Kind) (t u i : ℕ) → same_kind Knight k ≡ false → on_the_way t u (king_distance t u) ≡ u → i ≤ king_distance t u → is_trodden k t u (on_the_way t u i) ≡ true
trodden-way k t u zero other end low = ap (is_trodden k t u) (no-steps t u) ∙ trodden-first k t u
trodden-way k t u (suc i) other end low = elim (cases_eq (suc i) (king_distance t u)) [
  | inl last ↦ ap (λ (n : ℕ). is_trodden k t u (on_the_way t u n)) last ∙ ap (is_trodden k t u) end ∙ trodden-last k t u
  | inr more ↦
      let z : ℕ = on_the_way t u (suc i) in
      or_right ((z == t) || (z == u)) (not (same_kind Knight k) && list_any (λ j. on_the_way t u j == z) (range_with_len 1 (king_distance t u - 1)))
      (and_from _ _ (not_from_false _ other) (any-found (λ j. on_the_way t u j == z) 1 (king_distance t u - 1) (suc i) (omega arith) (omega arith) (eq-eqb z z refl)))
]

-- no single step past zones leaves the set but into the walls
pub record IsStepped (k : Kind) (wall_ : List Bool) (zones : List (List Bool)) (within : List Bool) : Type 0 where
  pub size : length within ≡ 64
  pub stays : (s t : ℕ) → s < 64 → t < 64 → is_in within t ≡ true → is_step k s t ≡ true → is_barred zones t s ≡ false → is_in wall_ s ≡ false → is_in within s ≡ true

module _ (k : Kind) (frozen : List Bool) (zones : List (List Bool)) (within : List Bool) (stepped : IsStepped k frozen zones within) (t u : ℕ) (leaves : list_any (treads_all k t u) zones ≡ false) where
  -- no step on the way of a move that leaves each zone a square is barred
  step-free : (a b : ℕ) → is_trodden k t u a ≡ true → is_trodden k t u b ≡ true → is_barred zones a b ≡ false
  unfolding is_barred
  step-free a b first second = false_from_ne_true (list_any (λ zone. is_only zone a b) zones) (λ barred.
      both_ways (list_any (treads_all k t u) zones) leaves (any-so (λ zone. is_only zone a b) (treads_all k t u) zones (λ zone only. treads-more k t u a b zone first second only) barred))

  -- a way of single steps, each to a square that is open
  abbrev StepsOn : Type 0
  StepsOn = (i : ℕ) → i < king_distance t u → (on_the_way t u i < 64) × (on_the_way t u (i + 1) < 64) × (is_step k (on_the_way t u (i + 1)) (on_the_way t u i) ≡ true)

  module _ (other : same_kind Knight k ≡ false) (steps : StepsOn) (clear : is_open (walls frozen) t u ≡ true) (end : on_the_way t u (king_distance t u) ≡ u) (out : is_in frozen u ≡ false) (member : is_in within t ≡ true) where
    along-way : (i : ℕ) → i ≤ king_distance t u → is_in within (on_the_way t u i) ≡ true
    along-way zero far = ap (is_in within) (no-steps t u) ∙ member
    along-way (suc i) far =
        let n : ℕ = king_distance t u in
        let here = steps i (omega arith) in
        let e : i + 1 ≡ suc i = omega arith in
        let before : is_in within (on_the_way t u i) ≡ true = along-way i (omega arith) in
        let free : is_in frozen (on_the_way t u (i + 1)) ≡ false = elim (cases_eq (i + 1) n) [
          | inl last ↦ ap (λ (x : ℕ). is_in frozen (on_the_way t u x)) last ∙ ap (is_in frozen) end ∙ out
          | inr more ↦ open-out frozen (on_the_way t u (i + 1)) here.1 (all_in_range (λ x. is_empty (at (walls frozen) (on_the_way t u x))) 1 (n - 1) (i + 1) clear (omega arith) (omega arith))
        ] in
        let unbarred : is_barred zones (on_the_way t u i) (on_the_way t u (i + 1)) ≡ false = step-free (on_the_way t u i) (on_the_way t u (i + 1)) (trodden-way k t u i other end (omega arith)) (trodden-way k t u (i + 1) other end (omega arith)) in
        ap (λ (x : ℕ). is_in within (on_the_way t u x)) (sym e) ∙ stepped.stays (on_the_way t u (i + 1)) (on_the_way t u i) here.1 here.0 before here.2 unbarred free

    way-there : is_in within u ≡ true
    way-there = ap (is_in within) (sym end) ∙ along-way (king_distance t u) (omega arith)

  line-goes : same_kind Knight k ≡ false → ((a b : ℕ) → is_line_step a b ≡ true → is_step k a b ≡ true) → t < 64 → u < 64 → on_one_line t u ≡ true → is_open (walls frozen) t u ≡ true → is_in frozen u ≡ false → is_in within t ≡ true → is_in within u ≡ true
  line-goes other so ti ui line clear out member =
      way-there other (λ i more. let ray = line-step t u i ti ui line more in (ray.inside, ray.inside_then, so _ _ (and_from _ _ ray.next ray.way))) clear (line-end t u line) out member

  diagonal-goes : same_kind Knight k ≡ false → ((a b : ℕ) → is_diagonal_step a b ≡ true → is_step k a b ≡ true) → t < 64 → u < 64 → on_one_diagonal t u ≡ true → is_open (walls frozen) t u ≡ true → is_in frozen u ≡ false → is_in within t ≡ true → is_in within u ≡ true
  diagonal-goes other so ti ui line clear out member =
      way-there other (λ i more. let ray = diagonal-step t u i ti ui line more in (ray.inside, ray.inside_then, so _ _ (and_from _ _ ray.next ray.way))) clear (diagonal-end t u line) out member

-- an officer's move
pub officer-goes : (c : Colour) (k : Kind) (frozen : List Bool) (zones : List (List Bool)) (within : List Bool) (t u : ℕ) → is_officer k ≡ true → t < 64 → u < 64 → IsStepped k frozen zones within → kind_attacks (walls frozen) c k t u ≡ true → list_any (treads_all k t u) zones ≡ false → is_in frozen u ≡ false → is_in within t ≡ true → is_in within u ≡ true
unfolding kind_attacks is_step
officer-goes c Pawn frozen zones within t u officer ti ui stepped h leaves out member = absurd (both_ways false refl officer)
officer-goes c King frozen zones within t u officer ti ui stepped h leaves out member = absurd (both_ways false refl officer)
officer-goes c Knight frozen zones within t u officer ti ui stepped h leaves out member =
    stepped.stays u t ui ti member (ap (λ (n : ℕ). n == 2) (sym (knight-back t u)) ∙ h) (step-free Knight frozen zones within stepped t u leaves t u (trodden-first Knight t u) (trodden-last Knight t u)) out
officer-goes c Bishop frozen zones within t u officer ti ui stepped h leaves out member =
    let parts = and_parts (not (t == u) && on_one_diagonal t u) (is_open (walls frozen) t u) h in
    diagonal-goes Bishop frozen zones within stepped t u leaves refl (λ a b step. step) ti ui (and_parts (not (t == u)) (on_one_diagonal t u) parts.0).1 parts.1 out member
officer-goes c Rook frozen zones within t u officer ti ui stepped h leaves out member =
    let parts = and_parts (not (t == u) && on_one_line t u) (is_open (walls frozen) t u) h in
    line-goes Rook frozen zones within stepped t u leaves refl (λ a b step. step) ti ui (and_parts (not (t == u)) (on_one_line t u) parts.0).1 parts.1 out member
officer-goes c Queen frozen zones within t u officer ti ui stepped h leaves out member =
    let parts = and_parts (not (t == u) && (on_one_line t u || on_one_diagonal t u)) (is_open (walls frozen) t u) h in
    elim (or_cases (on_one_line t u) (on_one_diagonal t u) (and_parts (not (t == u)) (on_one_line t u || on_one_diagonal t u) parts.0).1) [
      | inl line ↦ line-goes Queen frozen zones within stepped t u leaves refl (λ a b step. (and_parts _ _ step).0) ti ui line parts.1 out member
      | inr diagonal ↦ diagonal-goes Queen frozen zones within stepped t u leaves refl (λ a b step. (and_parts _ _ step).0) ti ui diagonal parts.1 out member
    ]

-- a step goes over no square
none-crossed : (k : Kind) (s t z : ℕ) → is_next s t ≡ true → list_any (λ j. on_the_way t s j == z) (range_with_len 1 (king_distance t s - 1)) ≡ false
none-crossed k s t z next =
    let one : king_distance t s ≡ 1 = king_distance-sym t s ∙ eqb-true _ 1 next in
    ap (λ (n : ℕ). list_any (λ j. on_the_way t s j == z) (range_with_len 1 (n - 1))) one

crosses-none : (k : Kind) (s t z : ℕ) → is_officer k ≡ true → is_step k s t ≡ true → (not (same_kind Knight k) && list_any (λ j. on_the_way t s j == z) (range_with_len 1 (king_distance t s - 1))) ≡ false
unfolding is_step
crosses-none Pawn s t z officer step = absurd (both_ways false refl officer)
crosses-none King s t z officer step = absurd (both_ways false refl officer)
crosses-none Knight s t z officer step = refl
crosses-none Bishop s t z officer step = none-crossed Bishop s t z (and_parts (is_next s t) (on_one_diagonal s t) step).0
crosses-none Rook s t z officer step = none-crossed Rook s t z (and_parts (is_next s t) (on_one_line s t) step).0
crosses-none Queen s t z officer step = none-crossed Queen s t z step

-- so it treads no other squares than its two
step-trodden : (k : Kind) (s t z : ℕ) → is_officer k ≡ true → is_step k s t ≡ true → is_trodden k t s z ≡ true → (z ≡ t) ⊎ (z ≡ s)
step-trodden k s t z officer step trodden =
    elim (or_cases ((z == t) || (z == s)) (not (same_kind Knight k) && list_any (λ j. on_the_way t s j == z) (range_with_len 1 (king_distance t s - 1))) trodden) [
      | inl ends ↦ elim (or_cases (z == t) (z == s) ends) [
        | inl first ↦ inl (eqb-true z t first)
        | inr last ↦ inr (eqb-true z s last)
      ]
      | inr crossing ↦ absurd (both_ways _ (crosses-none k s t z officer step) crossing)
    ]

treads-only : (k : Kind) (s t : ℕ) (zone : List Bool) → is_officer k ≡ true → is_step k s t ≡ true → treads_all k t s zone ≡ true → is_only zone t s ≡ true
treads-only k s t zone officer step treads =
    only-tells zone t s (λ z inside member. elim (or_cases (not (is_in zone z)) (is_trodden k t s z) (at_board (λ z. not (is_in zone z) || is_trodden k t s z) z treads inside)) [
      | inl out ↦ absurd (both_ways _ (not-true (is_in zone z) out) member)
      | inr trodden ↦ step-trodden k s t z officer step trodden
    ])

-- a single step that isn't barred leaves each zone a square
pub step-roams : (man : Man) (frozen : List Bool) (zones : List (List Bool)) (s t : ℕ) → is_officer man.kind ≡ true → is_step man.kind s t ≡ true → is_barred zones t s ≡ false → is_in frozen s ≡ false → roams_past frozen zones (Some man) t s ≡ true
unfolding is_barred
step-roams man frozen zones s t officer step free out =
    and_from _ _ (and_from _ _ (step-goes (walls frozen) man.colour man.kind s t officer step) (not_from_false _ out))
    (not_from_false _ (false_from_ne_true (list_any (treads_all man.kind t s) zones) (λ treads.
    both_ways (list_any (λ zone. is_only zone t s) zones) free (any-so (treads_all man.kind t s) (λ zone. is_only zone t s) zones (λ zone all. treads-only man.kind s t zone officer step all) treads))))

-- what is known of a set on the way to a room
pub record Grown (wall_ : List Bool) (zones : List (List Bool)) (man : Man) (h : ℕ) (within : List Bool) : Type 0 where
  pub size : length within ≡ 64
  pub home : is_in within h ≡ true
  pub least : (s : ℕ) → is_in within s ≡ true → is_in (reached_from (roams_past wall_ zones (Some man)) h) s ≡ true

pub grown-start : (wall_ : List Bool) (zones : List (List Bool)) (man : Man) (h : ℕ) (within : List Bool) → h < 64 → within ≡ set (squares_of 0) h true → Grown wall_ zones man h within
grown-start wall_ zones man h within inside e =
    let full : length (squares_of 0) ≡ 64 = length-squares_of 0 in
    record {
      size = ap length e ∙ length-set (squares_of 0) h true ∙ full;
      home = ap (λ (l : List Bool). is_in l h) e ∙ member-there h inside;
      least = λ s member.
          let same : s ≡ h = only-member h s inside (ap (λ (l : List Bool). is_in l s) (sym e) ∙ member) in
          ap (is_in (reached_from (roams_past wall_ zones (Some man)) h)) same ∙ reached-home (roams_past wall_ zones (Some man)) h inside;
    }

pub length-paced : (k : Kind) (wall_ : List Bool) (zones : List (List Bool)) (within : List Bool) → length (paced k wall_ zones within) ≡ 64
unfolding paced
length-paced k wall_ zones within = length-that (is_paced k wall_ zones within)

paced-more : (k : Kind) (wall_ : List Bool) (zones : List (List Bool)) (within : List Bool) → length within ≡ 64 → IsWithin within (paced k wall_ zones within)
unfolding paced is_paced
paced-more k wall_ zones within size s member = is_in-that (is_paced k wall_ zones within) s (member-inside within s size member) ∙ or_left (is_in within s) (is_near (is_pace k zones) within s && not (is_in wall_ s)) member

paced-told : (k : Kind) (wall_ : List Bool) (zones : List (List Bool)) (within : List Bool) (s : ℕ) → is_in (paced k wall_ zones within) s ≡ true → (s < 64) × ((is_in within s ≡ true) ⊎ (Source (is_pace k zones) within s × (is_in wall_ s ≡ false)))
unfolding paced is_paced
paced-told k wall_ zones within s member =
    let here = in-that (is_paced k wall_ zones within) s member in (
      here.0,
      elim (or_cases (is_in within s) (is_near (is_pace k zones) within s && not (is_in wall_ s)) here.1) [
        | inl before ↦ inl before
        | inr new ↦ let parts = and_parts (is_near (is_pace k zones) within s) (not (is_in wall_ s)) new in inr (near-told (is_pace k zones) within s parts.0, not-true _ parts.1)
      ],
    )

pub grown-more : (wall_ : List Bool) (zones : List (List Bool)) (man : Man) (h : ℕ) (within more : List Bool) → is_officer man.kind ≡ true → more ≡ paced man.kind wall_ zones within → Grown wall_ zones man h within → Grown wall_ zones man h more
grown-more wall_ zones man h within more officer e grown =
    subst (Grown wall_ zones man h) (sym e) (record {
      size = length-paced man.kind wall_ zones within;
      home = paced-more man.kind wall_ zones within grown.size h grown.home;
      least = λ s member.
          let here = paced-told man.kind wall_ zones within s member in
          elim here.1 [
            | inl before ↦ grown.least s before
            | inr new ↦
                let from = new.0 in
                let pace = and_parts (is_step man.kind s from.square) (not (is_barred zones from.square s)) from.placed in
                reached-goes (roams_past wall_ zones (Some man)) h from.square s here.0 (grown.least from.square from.member)
                (step-roams man wall_ zones s from.square officer pace.0 (not-true _ pace.1) new.1)
          ];
    })

pub grown-less : (wall_ : List Bool) (zones : List (List Bool)) (man : Man) (h : ℕ) (within more : List Bool) → more ≡ paced man.kind wall_ zones within → (more ≡ within → ⊥) → Grown wall_ zones man h within → 64 - count more < 64 - count within
grown-less wall_ zones man h within more e changed grown =
    let size : length more ≡ 64 = ap length e ∙ length-paced man.kind wall_ zones within in
    elim (fewer within more (grown.size ∙ sym size) (λ s member. ap (λ (l : List Bool). is_in l s) e ∙ paced-more man.kind wall_ zones within grown.size s member)) [
      | inl same ↦ absurd (changed (sym same))
      | inr less ↦ let all : count more ≤ length more = count-le more in omega arith
    ]

fixed-stepped : (k : Kind) (wall_ : List Bool) (zones : List (List Bool)) (within : List Bool) → length within ≡ 64 → paced k wall_ zones within ≡ within → IsStepped k wall_ zones within
unfolding paced is_paced
fixed-stepped k wall_ zones within full fixed = record {
  size = full;
  stays = λ s t si ti member step free out.
      ap (λ (l : List Bool). is_in l s) (sym fixed) ∙ is_in-that (is_paced k wall_ zones within) s si
      ∙ or_right (is_in within s) (is_near (is_pace k zones) within s && not (is_in wall_ s))
      (and_from _ _ (near-tells (is_pace k zones) within s (record { square = t; inside = ti; placed = and_from _ _ step (not_from_false _ free); member = member })) (not_from_false _ out));
}

pub length-reached : (goes : ℕ → ℕ → Bool) (h : ℕ) → length (reached_from goes h) ≡ 64
unfolding reached_from
length-reached goes h = length-that _

-- what no step makes larger is the room
pub grown-least : (wall_ : List Bool) (zones : List (List Bool)) (man : Man) (h : ℕ) (within more : List Bool) → h < 64 → is_officer man.kind ≡ true → more ≡ paced man.kind wall_ zones within → more ≡ within → Grown wall_ zones man h within → within ≡ reached_from (roams_past wall_ zones (Some man)) h
grown-least wall_ zones man h within more inside officer e fixed grown =
    let goes : ℕ → ℕ → Bool = roams_past wall_ zones (Some man) in
    let stepped : IsStepped man.kind wall_ zones within = fixed-stepped man.kind wall_ zones within grown.size (sym e ∙ fixed) in
    same-set within (reached_from goes h) grown.size (length-reached goes h) grown.least
    (reached-least goes h within inside grown.home (λ t u ti ui member roams.
    let parts = and_parts (may_roam wall_ (Some man) t u) (not (list_any (treads_all man.kind t u) zones)) roams in
    let way = and_parts (kind_attacks (walls wall_) man.colour man.kind t u) (not (is_in wall_ u)) parts.0 in
    officer-goes man.colour man.kind wall_ zones within t u officer ti ui stepped way.0 (not-true _ parts.1) (not-true _ way.1) member))
