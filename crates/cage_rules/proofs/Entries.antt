-- A man who comes to a square comes from, or over, an empty square next to it that is an entry of his.
use Rattle.std.proofs.Common.{◌≡◌, ◌≢◌, ℕ, ◌+◌, ◌-◌, ◌*◌, ◌<◌, ◌≤◌, ◌==◌, max, ◌⊎◌, inl, inr, Bool, true, false, refl, ap, sym, ◌∙◌, subst, arith}
use Rattle.std.proofs.lemmas.Bool.{and_parts, and_from, or_cases, or_left, cases_lt, eqb-true, eqb-false, both_ways, not-true}
use Rattle.board_base.specs.Board.{Places, at, is_empty, same_kind, file, rank}
use Rattle.board_base.specs.Attacks.{distance, files_apart, ranks_apart, on_one_line, on_one_diagonal, on_the_way, king_distance, is_open, kind_attacks}
use Rattle.board_base.specs.declared.men.Colour.{Colour}
use Rattle.board_base.specs.declared.men.Kind.{Kind}
use Rattle.board_base.specs.declared.men.Kind.TheVariants.{Pawn, Knight, Bishop, Rook, Queen, King}
use Rattle.general_lemmas.proofs.Ranges.{all_in_range}
use Rattle.board_base.proofs.Ways.{distance-low, king_distance-sym, distance-sym, zero-apart}
use Rattle.cage_rules.specs.Frozen.{is_entry, is_next, is_plain_entry}
use Rattle.cage_rules.proofs.Rays.{RayStep, diagonal-end, diagonal-step, line-end, line-step, no-steps}

-- an entry to t that a man who comes from s leaves, or crosses last, and that is empty then
pub record WayIn (board : Places) (c : Colour) (k : Kind) (s t : ℕ) : Type 0 where
  pub entry : ℕ
  pub inside : entry < 64
  pub apart : entry ≢ t
  pub vacant : (entry ≡ s) ⊎ (is_empty (at board entry) ≡ true)
  pub enters : is_entry c k t entry ≡ true

-- the last square on the way from s to t
abbrev pub last_square : ℕ → ℕ → ℕ
last_square s t = on_the_way s t (king_distance s t - 1)

-- on a line
record LastStep (s t : ℕ) (is_on : ℕ → ℕ → Bool) : Type 0 where
  inside : last_square s t < 64
  next : is_next t (last_square s t) ≡ true
  way : is_on t (last_square s t) ≡ true

-- the last step of the way to t
last-of : (s t : ℕ) (is_on : ℕ → ℕ → Bool) → 1 ≤ king_distance s t → on_the_way s t (king_distance s t) ≡ t → RayStep s t (king_distance s t - 1) is_on → LastStep s t is_on
last-of s t is_on some end ray =
    let up : king_distance s t - 1 + 1 ≡ king_distance s t = omega arith in
    let e : on_the_way s t (king_distance s t - 1 + 1) ≡ t = ap (on_the_way s t) up ∙ end in
    record { inside = ray.inside; next = subst (λ (x : ℕ). is_next x (last_square s t) ≡ true) e ray.next; way = subst (λ (x : ℕ). is_on x (last_square s t) ≡ true) e ray.way }

last-diagonal : (s t : ℕ) → s < 64 → t < 64 → s ≢ t → on_one_diagonal s t ≡ true → LastStep s t on_one_diagonal
last-diagonal s t small inside apart line =
    let some : 1 ≤ king_distance s t = distance-low s t apart in
    last-of s t on_one_diagonal some (diagonal-end s t line) (diagonal-step s t (king_distance s t - 1) small inside line (omega arith))

last-line : (s t : ℕ) → s < 64 → t < 64 → s ≢ t → on_one_line s t ≡ true → LastStep s t on_one_line
last-line s t small inside apart line =
    let some : 1 ≤ king_distance s t = distance-low s t apart in
    last-of s t on_one_line some (line-end s t line) (line-step s t (king_distance s t - 1) small inside line (omega arith))

-- on an open way the last square before t is s, or is empty
last-vacant : (board : Places) (s t : ℕ) → s < 64 → s ≢ t → is_open board s t ≡ true → (last_square s t ≡ s) ⊎ (is_empty (at board (last_square s t)) ≡ true)
last-vacant board s t small apart clear = elim (cases_lt (king_distance s t) 2) [
  | inl near ↦ let some : 1 ≤ king_distance s t = distance-low s t apart in inl (ap (on_the_way s t) (let e : king_distance s t - 1 ≡ 0 = omega arith in e) ∙ no-steps s t)
  | inr far ↦ inr (all_in_range (λ k. is_empty (at board (on_the_way s t k))) 1 (king_distance s t - 1) (king_distance s t - 1) clear (omega arith) (omega arith))
]

next-apart : (t e : ℕ) → is_next t e ≡ true → e ≢ t
unfolding king_distance distance
next-apart t e next same = let one : max (files_apart t e) (ranks_apart t e) ≡ 1 = eqb-true _ 1 next in omega arith

pub knight-back : (s t : ℕ) → (files_apart s t * ranks_apart s t) ≡ (files_apart t s * ranks_apart t s)
knight-back s t = ap (λ (n : ℕ). n * ranks_apart s t) (distance-sym (file s) (file t)) ∙ ap (λ (n : ℕ). files_apart t s * n) (distance-sym (rank s) (rank t))

knight-apart : (s t : ℕ) → (files_apart s t * ranks_apart s t == 2) ≡ true → s ≢ t
knight-apart s t h same =
    let none : files_apart s t ≡ 0 = zero-apart _ _ (ap file same) in
    let two : files_apart s t * ranks_apart s t ≡ 2 = eqb-true _ 2 h in
    let zero_times : files_apart s t * ranks_apart s t ≡ 0 * ranks_apart s t = ap (λ (n : ℕ). n * ranks_apart s t) none in
    omega arith

-- the same of a man who was never promoted, and of a pawn that never captured
pub record PlainWay (board : Places) (c : Colour) (k : Kind) (s t : ℕ) : Type 0 where
  pub entry : ℕ
  pub inside : entry < 64
  pub apart : entry ≢ t
  pub vacant : (entry ≡ s) ⊎ (is_empty (at board entry) ≡ true)
  pub enters : is_plain_entry c k t entry ≡ true

-- an officer or a king who goes from s to t
pub man-enters-plain : (board : Places) (c : Colour) (k : Kind) (s t : ℕ) → s < 64 → t < 64 → same_kind Pawn k ≡ false → kind_attacks board c k s t ≡ true → PlainWay board c k s t
unfolding kind_attacks is_plain_entry
man-enters-plain board c Pawn s t small inside other h = absurd (both_ways true other refl)
man-enters-plain board c Knight s t small inside other h =
    let e : (files_apart t s * ranks_apart t s == 2) ≡ true = ap (λ (n : ℕ). n == 2) (sym (knight-back s t)) ∙ h in
    record { entry = s; inside = small; apart = knight-apart s t h; vacant = inl refl; enters = e }
man-enters-plain board c Bishop s t small inside other h =
    let parts = and_parts _ _ h in
    let two = and_parts _ _ parts.0 in
    let apart : s ≢ t = eqb-false s t (not-true _ two.0) in
    let last = last-diagonal s t small inside apart two.1 in
    record { entry = last_square s t; inside = last.inside; apart = next-apart t _ last.next; vacant = last-vacant board s t small apart parts.1; enters = and_from _ _ last.next last.way }
man-enters-plain board c Rook s t small inside other h =
    let parts = and_parts _ _ h in
    let two = and_parts _ _ parts.0 in
    let apart : s ≢ t = eqb-false s t (not-true _ two.0) in
    let last = last-line s t small inside apart two.1 in
    record { entry = last_square s t; inside = last.inside; apart = next-apart t _ last.next; vacant = last-vacant board s t small apart parts.1; enters = and_from _ _ last.next last.way }
man-enters-plain board c Queen s t small inside other h =
    let parts = and_parts _ _ h in
    let two = and_parts _ _ parts.0 in
    let apart : s ≢ t = eqb-false s t (not-true _ two.0) in
    elim (or_cases _ _ two.1) [
      | inl line ↦
          let last = last-line s t small inside apart line in
          record { entry = last_square s t; inside = last.inside; apart = next-apart t _ last.next; vacant = last-vacant board s t small apart parts.1; enters = last.next }
      | inr diagonal ↦
          let last = last-diagonal s t small inside apart diagonal in
          record { entry = last_square s t; inside = last.inside; apart = next-apart t _ last.next; vacant = last-vacant board s t small apart parts.1; enters = last.next }
    ]
man-enters-plain board c King s t small inside other h =
    let back : is_next t s ≡ true = ap (λ (n : ℕ). n == 1) (king_distance-sym t s) ∙ h in
    record { entry = s; inside = small; apart = next-apart t s back; vacant = inl refl; enters = back }

plain-entry : (c : Colour) (k : Kind) (s t : ℕ) → same_kind Pawn k ≡ false → is_plain_entry c k s t ≡ true → is_entry c k s t ≡ true
unfolding is_entry is_plain_entry
plain-entry c Pawn s t other h = absurd (both_ways true other refl)
plain-entry c Knight s t other h = or_left _ _ h
plain-entry c Bishop s t other h = or_left _ _ h
plain-entry c Rook s t other h = or_left _ _ h
plain-entry c Queen s t other h = or_left _ _ h
plain-entry c King s t other h = h

pub man-enters : (board : Places) (c : Colour) (k : Kind) (s t : ℕ) → s < 64 → t < 64 → same_kind Pawn k ≡ false → kind_attacks board c k s t ≡ true → WayIn board c k s t
man-enters board c k s t small inside other h =
    let way = man-enters-plain board c k s t small inside other h in
    record { entry = way.entry; inside = way.inside; apart = way.apart; vacant = way.vacant; enters = plain-entry c k t way.entry other way.enters }
