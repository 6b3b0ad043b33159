-- The entry by which a pawn comes to a square, also where he is promoted there.
use Rattle.std.proofs.Common.{◌≡◌, ◌≢◌, ℕ, ◌+◌, ◌-◌, ◌*◌, ◌<◌, ◌==◌, inl, inr, true, false, refl, sym, ◌∙◌, arith}
use Rattle.std.proofs.lemmas.Bool.{and_from, and_parts, or_left, or_right, eqb-true, eqb-false, eq-eqb, lt-ltb, both_ways}
use Rattle.board_base.specs.Board.{Places, at, is_empty, file, rank}
use Rattle.board_base.specs.Attacks.{distance, files_apart, ranks_apart, toward, on_the_way, king_distance, is_open, one_ahead}
use Rattle.board_base.specs.Legal.{is_officer, last_rank, pawn_rank}
use Rattle.board_base.specs.declared.men.Colour.{Colour}
use Rattle.board_base.specs.declared.men.Colour.TheVariants.{White, Black}
use Rattle.board_base.specs.declared.men.Kind.{Kind}
use Rattle.board_base.specs.declared.men.Kind.TheVariants.{Pawn, Knight, Bishop, Rook, Queen, King}
use Rattle.general_lemmas.proofs.Ranges.{all_in_range}
use Rattle.play_rules.specs.Laws.{is_end}
use Rattle.play_rules.proofs.Skipped.{same-file}
use Rattle.cage_rules.specs.Frozen.{is_before_promotion, is_behind, is_entry, is_past_home, is_plain_entry}
use Rattle.cage_rules.proofs.Entries.{PlainWay, WayIn}
use Rattle.board_base.proofs.Ways.{toward-down, toward-same, toward-up, distance-sym}
use Rattle.cage_rules.proofs.Rays.{rank-of, file-of}

-- a pawn's step to the next rank
pub record Steps (c : Colour) (s t : ℕ) : Type 0 where
  pub ahead : one_ahead c s t ≡ true
  pub near : files_apart s t < 2

behind-from : (c : Colour) (s t : ℕ) → Steps c s t → is_behind c t s ≡ true
behind-from c s t step = and_from _ _ step.ahead (lt-ltb _ _ (let e = distance-sym (file s) (file t) in let n = step.near in omega (arith, e, n)))

ahead-apart : (c : Colour) (s t : ℕ) → one_ahead c s t ≡ true → s ≢ t
ahead-apart White s t h same = let up : rank t ≡ rank s + 1 = eqb-true _ _ h in omega arith
ahead-apart Black s t h same = let down : rank s ≡ rank t + 1 = eqb-true _ _ h in omega arith

-- s is on neither end
pub inner : (s : ℕ) → is_end s ≡ false → (rank s ≢ 0) × (rank s ≢ 7)
inner s none = (λ e. both_ways _ none (or_left _ _ (eq-eqb _ _ e)), λ e. both_ways _ none (or_right _ _ (eq-eqb _ _ e)))

pub past-home : (c : Colour) (s t : ℕ) → s < 64 → t < 64 → one_ahead c s t ≡ true → is_end s ≡ false → (rank t == last_rank c) ≡ false → is_past_home c t ≡ true
past-home White s t small inside h none other =
    let up : rank t ≡ rank s + 1 = eqb-true _ _ h in
    let first = (inner s none).0 in
    let last = eqb-false (rank t) 7 other in
    let low : 1 < rank t = omega arith in
    let high : rank t < 7 = omega arith in
    and_from _ _ (lt-ltb _ _ low) (lt-ltb _ _ high)
past-home Black s t small inside h none other =
    let down : rank s ≡ rank t + 1 = eqb-true _ _ h in
    let last = (inner s none).1 in
    let first = eqb-false (rank t) 0 other in
    let low : 0 < rank t = omega arith in
    let high : rank t < 6 = omega arith in
    and_from _ _ (lt-ltb _ _ low) (lt-ltb _ _ high)

-- a pawn that goes one rank on and stays a pawn
pub pawn-enters : (board : Places) (c : Colour) (s t : ℕ) → s < 64 → t < 64 → Steps c s t → is_end s ≡ false → (rank t == last_rank c) ≡ false → WayIn board c Pawn s t
unfolding is_entry
pawn-enters board c s t small inside step none other =
    record { entry = s; inside = small; apart = ahead-apart c s t step.ahead; vacant = inl refl; enters = and_from _ _ (past-home c s t small inside step.ahead none other) (behind-from c s t step) }

promotes-here : (c : Colour) (k : Kind) (s t : ℕ) → is_officer k ≡ true → is_before_promotion c t s ≡ true → is_entry c k t s ≡ true
unfolding is_entry
promotes-here c Pawn s t officer h = absurd (both_ways true (sym officer) refl)
promotes-here c Knight s t officer h = or_right _ _ h
promotes-here c Bishop s t officer h = or_right _ _ h
promotes-here c Rook s t officer h = or_right _ _ h
promotes-here c Queen s t officer h = or_right _ _ h
promotes-here c King s t officer h = absurd (both_ways true (sym officer) refl)

-- a pawn that is promoted
pub promotion-enters : (board : Places) (c : Colour) (k : Kind) (s t : ℕ) → s < 64 → t < 64 → Steps c s t → is_officer k ≡ true → (rank t == last_rank c) ≡ true → WayIn board c k s t
promotion-enters board c k s t small inside step officer last =
    record { entry = s; inside = small; apart = ahead-apart c s t step.ahead; vacant = inl refl; enters = promotes-here c k s t officer (and_from _ _ last (behind-from c s t step)) }

-- the square that a double step crosses, by ranks and files
pub record Crossed (c : Colour) (t e : ℕ) : Type 0 where
  pub inside : e < 64
  pub ahead : one_ahead c e t ≡ true
  pub file_is : file e ≡ file t
  pub past : is_past_home c t ≡ true

pub crossed-from : (c : Colour) (s t e : ℕ) → t < 64 → rank s ≡ pawn_rank c → file s ≡ file t → ranks_apart s t ≡ 2 → rank e ≡ toward (rank s) (rank t) 1 → file e ≡ file t → Crossed c t e
unfolding distance
crossed-from White s t e inside home same two r f =
    let up : rank s < rank t = omega arith in
    let here : rank e ≡ rank s + 1 = r ∙ toward-up (rank s) (rank t) 1 up in
    let ahead : rank t ≡ rank e + 1 = omega arith in
    let low : 1 < rank t = omega arith in
    let high : rank t < 7 = omega arith in
    record { inside = omega arith; ahead = eq-eqb _ _ ahead; file_is = f; past = and_from _ _ (lt-ltb _ _ low) (lt-ltb _ _ high) }
crossed-from Black s t e inside home same two r f =
    let down : rank t < rank s = omega arith in
    let here : rank e ≡ rank s - 1 = r ∙ toward-down (rank s) (rank t) 1 down in
    let ahead : rank e ≡ rank t + 1 = omega arith in
    let low : 0 < rank t = omega arith in
    let high : rank t < 6 = omega arith in
    record { inside = omega arith; ahead = eq-eqb _ _ ahead; file_is = f; past = and_from _ _ (lt-ltb _ _ low) (lt-ltb _ _ high) }

pub two-steps : (s t : ℕ) → file s ≡ file t → ranks_apart s t ≡ 2 → king_distance s t ≡ 2
unfolding king_distance distance
two-steps s t same two = omega arith

-- a pawn that goes straight on
pub step-enters : (board : Places) (c : Colour) (s t : ℕ) → s < 64 → t < 64 → one_ahead c s t ≡ true → file s ≡ file t → is_end s ≡ false → (rank t == last_rank c) ≡ false → PlainWay board c Pawn s t
unfolding is_plain_entry
step-enters board c s t small inside ahead same none other =
    record { entry = s; inside = small; apart = ahead-apart c s t ahead; vacant = inl refl; enters = and_from _ _ (past-home c s t small inside ahead none other) (and_from _ _ ahead (eq-eqb (file t) (file s) (sym same))) }

-- a pawn that goes two ranks on crosses the square behind
pub double-enters-plain : (board : Places) (c : Colour) (s t : ℕ) → t < 64 → rank s ≡ pawn_rank c → file s ≡ file t → ranks_apart s t ≡ 2 → is_empty (at board (on_the_way s t 1)) ≡ true → PlainWay board c Pawn s t
unfolding is_plain_entry on_the_way
double-enters-plain board c s t inside home same two vacant =
    let r : ℕ = toward (rank s) (rank t) 1 in
    let f : ℕ = toward (file s) (file t) 1 in
    let e : ℕ = 8 * r + f in
    let stays : f ≡ file t = toward-same (file s) (file t) 1 same ∙ same in
    let small : f < 8 = omega arith in
    let cross : Crossed c t e = crossed-from c s t e inside home same two (rank-of r f small) (file-of r f small ∙ stays) in
    record { entry = e; inside = cross.inside; apart = ahead-apart c e t cross.ahead; vacant = inr vacant; enters = and_from _ _ cross.past (and_from _ _ cross.ahead (eq-eqb (file t) (file e) (sym cross.file_is))) }

plain-pawn : (c : Colour) (s t : ℕ) → is_plain_entry c Pawn s t ≡ true → is_entry c Pawn s t ≡ true
unfolding is_entry is_plain_entry
plain-pawn c s t h =
    let parts = and_parts _ _ h in
    let straight = and_parts _ _ parts.1 in
    and_from _ _ parts.0 (and_from _ _ straight.0 (lt-ltb _ _ (same-file s t (eqb-true (file s) (file t) straight.1))))

pub double-enters : (board : Places) (c : Colour) (s t : ℕ) → t < 64 → rank s ≡ pawn_rank c → file s ≡ file t → ranks_apart s t ≡ 2 → is_open board s t ≡ true → WayIn board c Pawn s t
double-enters board c s t inside home same two clear =
    let steps : king_distance s t ≡ 2 = two-steps s t same two in
    let vacant : is_empty (at board (on_the_way s t 1)) ≡ true = all_in_range (λ k. is_empty (at board (on_the_way s t k))) 1 (king_distance s t - 1) 1 clear (omega arith) (omega arith) in
    let way = double-enters-plain board c s t inside home same two vacant in
    record { entry = way.entry; inside = way.inside; apart = way.apart; vacant = way.vacant; enters = plain-pawn c t way.entry way.enters }
