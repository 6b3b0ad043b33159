-- The candidates by their numbers.
use Rattle.std.proofs.Common.{◌≡◌, ℕ, zero, suc, ◌+◌, ◌*◌, ◌/◌, ◌%◌, ◌<◌, List, [], ◌∷◌, ◌++◌, length, refl, ap, sym, ◌∙◌, arith}
use Rattle.std.proofs.Math.Nat.{mul-suc}
use Rattle.std.proofs.lemmas.List.{length-append}
use Rattle.std.proofs.lemmas.Option.{same_Some, slice_get_within, slice_get-map}
use Rattle.std.specs.Prelude.{Option, Some, None, map, slice_get}
use Rattle.std.specs.Option.{option_map}
use Rattle.std.specs.List.{flat_map, range_with_len}
use Rattle.board_base.specs.declared.men.Kind.{Kind}
use Rattle.board_base.specs.declared.men.Kind.TheVariants.{Knight, Bishop, Rook, Queen}
use Rattle.board_base.specs.declared.moves.Move.{Move}
use Rattle.board_base.specs.declared.unmoves.Unmove.{Unmove}
use Rattle.play_rules.specs.Listed.{move_of, moves_between, promotions}
use Rattle.unmove_gen.specs.Listed.{candidates, unmoves_between, unmoves_of, unmoves_to}
use Rattle.unmove_gen.specs.Numbers.{number_at}

get-left : {A : Type 0} (xs ys : List A) (r : ℕ) → r < length xs → slice_get (xs ++ ys) r ≡ slice_get xs r
get-left {A} [] ys r h = absurd (omega arith)
get-left {A} (x ∷ xs) ys zero h = refl
get-left {A} (x ∷ xs) ys (suc r) h = get-left xs ys r (omega arith)

get-right : {A : Type 0} (xs ys : List A) (k n : ℕ) → n ≡ length xs + k → slice_get (xs ++ ys) n ≡ slice_get ys k
get-right {A} [] ys k n h = let e : n ≡ k = omega arith in ap (slice_get ys) e
get-right {A} (x ∷ xs) ys k zero h = absurd (omega arith)
get-right {A} (x ∷ xs) ys k (suc n) h = get-right xs ys k n (omega arith)

-- in a list of blocks of one length
get-block : {A B : Type 0} (f : A → List B) (b : ℕ) → ((x : A) → length (f x) ≡ b) → (xs : List A) (j r n : ℕ) (x : A) → r < b → n ≡ b * j + r → slice_get xs j ≡ Some x → slice_get (flat_map f xs) n ≡ slice_get (f x) r
get-block {A} {B} f b long [] j r n x h e there = cc
get-block {A} {B} f b long (y ∷ ys) zero r n x h e there =
    let same : y ≡ x = same_Some _ _ there in
    let e' : n ≡ r = omega arith in
    ap (slice_get (f y ++ flat_map f ys)) e' ∙ get-left (f y) (flat_map f ys) r (omega (arith, long y)) ∙ ap (λ (z : A). slice_get (f z) r) same
get-block {A} {B} f b long (y ∷ ys) (suc j) r n x h e there =
    let e' : n ≡ length (f y) + (b * j + r) = omega (arith, long y, mul-suc b j) in
    get-right (f y) (flat_map f ys) (b * j + r) n e' ∙ get-block f b long ys j r (b * j + r) x h refl there

length-blocks : {A B : Type 0} (f : A → List B) (b : ℕ) → ((x : A) → length (f x) ≡ b) → (xs : List A) → length (flat_map f xs) ≡ b * length xs
length-blocks {A} {B} f b long [] = omega arith
length-blocks {A} {B} f b long (x ∷ xs) = omega (arith, length-append (f x) (flat_map f xs), long x, length-blocks f b long xs, mul-suc b (length xs))

get-range : (n k j : ℕ) → j < n → slice_get (range_with_len k n) j ≡ Some (k + j)
get-range zero k j h = absurd (omega arith)
get-range (suc n) k zero h = let e : k ≡ k + 0 = omega arith in ap Some e
get-range (suc n) k (suc j) h = let e : k + 1 + j ≡ k + suc j = omega arith in get-range n (k + 1) j (omega arith) ∙ ap Some e

length-range : (n k : ℕ) → length (range_with_len k n) ≡ n
length-range zero k = refl
length-range (suc n) k = ap suc (length-range n (k + 1))

get-square : (s : ℕ) → s < 64 → slice_get (range_with_len 0 64) s ≡ Some s
get-square s small = let e : 0 + s ≡ s = omega arith in get-range 64 0 s (omega arith) ∙ ap Some e

between-long : (to from : ℕ) → length (unmoves_between to from) ≡ 35
unfolding moves_between
between-long to from = length-blocks unmoves_of 7 (λ m. refl) (map (move_of from to) promotions)

to-long : (to : ℕ) → length (unmoves_to to) ≡ 2240
to-long to = length-blocks (unmoves_between to) 35 (between-long to) (range_with_len 0 64) ∙ ap (λ (n : ℕ). 35 * n) (length-range 64 0)

pub candidates-long : length candidates ≡ 143360
unfolding candidates
candidates-long = length-blocks unmoves_to 2240 to-long (range_with_len 0 64) ∙ ap (λ (n : ℕ). 2240 * n) (length-range 64 0)

get-move : (from to p : ℕ) (promo : Option Kind) → slice_get promotions p ≡ Some promo → slice_get (moves_between from to) p ≡ Some (move_of from to promo)
unfolding moves_between
get-move from to p promo h = slice_get-map (move_of from to) promotions p ∙ ap (option_map (move_of from to)) h

-- the candidate with this target, this origin, and these places of its promotion and its capture
pub candidate-at : (to from p r : ℕ) (promo : Option Kind) → to < 64 → from < 64 → p < 5 → r < 7 → slice_get promotions p ≡ Some promo → slice_get candidates (number_at to from p r) ≡ slice_get (unmoves_of (move_of from to promo)) r
unfolding candidates
candidate-at to from p r promo t f few fits there =
    get-block unmoves_to 2240 to-long (range_with_len 0 64) to (35 * from + 7 * p + r) (number_at to from p r) to (omega arith) (omega arith) (get-square to t)
    ∙ get-block (unmoves_between to) 35 (between-long to) (range_with_len 0 64) from (7 * p + r) (35 * from + 7 * p + r) from (omega arith) (omega arith) (get-square from f)
    ∙ get-block unmoves_of 7 (λ m. refl) (moves_between from to) p r (7 * p + r) (move_of from to promo) (omega arith) refl (get-move from to p promo there)

get-promotion : (p : ℕ) → p < 5 → (promo : Option Kind) × (slice_get promotions p ≡ Some promo)
get-promotion zero h = (None, refl)
get-promotion (suc zero) h = (Some Knight, refl)
get-promotion (suc (suc zero)) h = (Some Bishop, refl)
get-promotion (suc (suc (suc zero))) h = (Some Rook, refl)
get-promotion (suc (suc (suc (suc zero)))) h = (Some Queen, refl)
get-promotion (suc (suc (suc (suc (suc p))))) h = absurd (omega arith)

move-of-capture : (m : Move) (r : ℕ) (u : Unmove) → slice_get (unmoves_of m) r ≡ Some u → u.mv ≡ m
move-of-capture m zero u h = sym (ap (λ (v : Unmove). v.mv) (same_Some _ _ h))
move-of-capture m (suc zero) u h = sym (ap (λ (v : Unmove). v.mv) (same_Some _ _ h))
move-of-capture m (suc (suc zero)) u h = sym (ap (λ (v : Unmove). v.mv) (same_Some _ _ h))
move-of-capture m (suc (suc (suc zero))) u h = sym (ap (λ (v : Unmove). v.mv) (same_Some _ _ h))
move-of-capture m (suc (suc (suc (suc zero)))) u h = sym (ap (λ (v : Unmove). v.mv) (same_Some _ _ h))
move-of-capture m (suc (suc (suc (suc (suc zero))))) u h = sym (ap (λ (v : Unmove). v.mv) (same_Some _ _ h))
move-of-capture m (suc (suc (suc (suc (suc (suc zero)))))) u h = sym (ap (λ (v : Unmove). v.mv) (same_Some _ _ h))
move-of-capture m (suc (suc (suc (suc (suc (suc (suc r))))))) u h = cc

-- a candidate by the parts of its number
pub record Numbered (n : ℕ) (u : Unmove) : Type 0 where
  pub promotion : ℕ
  pub capture : ℕ
  pub number : n ≡ number_at u.mv.to u.mv.from promotion capture
  pub target : u.mv.to < 64
  pub origin : u.mv.from < 64
  pub few : promotion < 5
  pub fits : capture < 7
  pub promo : slice_get promotions promotion ≡ Some u.mv.promo
  pub taken : slice_get (unmoves_of u.mv) capture ≡ Some u

pub numbered : (n : ℕ) (u : Unmove) → slice_get candidates n ≡ Some u → Numbered n u
numbered n u here =
    let small : n < 143360 = let inside : n < length candidates = slice_get_within candidates n u here in omega (arith, candidates-long) in
    let promo = get-promotion (n / 7 % 5) (omega arith) in
    let m : Move = move_of (n / 35 % 64) (n / 2240) promo.0 in
    let e : n ≡ number_at (n / 2240) (n / 35 % 64) (n / 7 % 5) (n % 7) = omega arith in
    let there : slice_get (unmoves_of m) (n % 7) ≡ Some u =
    sym (candidate-at (n / 2240) (n / 35 % 64) (n / 7 % 5) (n % 7) promo.0 (omega arith) (omega arith) (omega arith) (omega arith) promo.1) ∙ ap (slice_get candidates) (sym e) ∙ here in
    let same : u.mv ≡ m = move-of-capture m (n % 7) u there in
    let to : u.mv.to ≡ n / 2240 = ap (λ (k : Move). k.to) same in
    let from : u.mv.from ≡ n / 35 % 64 = ap (λ (k : Move). k.from) same in
    record {
      promotion = n / 7 % 5;
      capture = n % 7;
      number = omega arith;
      target = omega arith;
      origin = omega arith;
      few = omega arith;
      fits = omega arith;
      promo = promo.1 ∙ ap (λ (k : Move). Some k.promo) (sym same);
      taken = ap (λ (k : Move). slice_get (unmoves_of k) (n % 7)) same ∙ there;
    }
