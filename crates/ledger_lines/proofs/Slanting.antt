-- A pawn who goes to another file with each step goes along a diagonal.
use Rattle.std.proofs.Common.{◌≡◌, ℕ, ◌+◌, ◌-◌, ◌*◌, ◌≤◌, ◌<◌, ◌==◌, zero, suc, inl, inr, Bool, true, List, [], ◌∷◌, length, map, refl, ap, sym, ◌∙◌, arith}
use Rattle.std.specs.Prelude.{nat_lt}
use Rattle.std.specs.List.{range_with_len}
use Rattle.std.proofs.lemmas.Bool.{and_parts, cases_Bool, cond-false, cond-true, eqb-true, le-ltb, lt-ltb, ltb-false, ltb-true}
use Rattle.board_base.specs.Attacks.{distance, files_apart, on_the_way, ranks_apart, toward}
use Rattle.board_base.specs.Board.{file, rank}
use Rattle.board_base.specs.declared.men.Colour.{Colour}
use Rattle.board_base.specs.declared.men.Colour.TheVariants.{White, Black}
use Rattle.men_fates.specs.Ways.{captures_on, is_pawn_step, is_way, way_end}
use Rattle.ledger_lines.specs.Slants.{is_slant, slant}
use Rattle.ledger_lines.proofs.FilesCrossed.{triangle}
use Rattle.ledger_lines.proofs.MostAside.{Ahead, a-step, ahead-ranks, captures-more, gone-ahead}

same-few : (a : ℕ) → distance a a ≤ 0
unfolding distance
same-few a = omega arith

files-few : (c : Colour) (set : List Bool) (s : ℕ) (way : List ℕ) → is_way c set s way ≡ true → distance (file s) (file (way_end s way)) ≤ length way
files-few c set s [] is = same-few (file s)
files-few c set s (t ∷ way) is =
    let parts = and_parts (is_pawn_step c set s t) (is_way c set t way) is in
    omega (arith, (a-step c set s t parts.0).near, files-few c set t way parts.1, triangle (file s) (file t) (file (way_end t way)))

-- one step toward a number, and then the rest
toward-on : (a b t n k : ℕ) → distance a b ≡ suc n → distance a t < 2 → distance t b ≡ n → 1 ≤ k → k ≤ n → toward t b k ≡ toward a b (k + 1)
unfolding distance toward
toward-on a b t n k far near rest some few = elim (cases_Bool (nat_lt a b)) [
  | inl below ↦
      let low = ltb-true a b below in
      cond-true (nat_lt t b) (t + k) _ (lt-ltb t b (omega (arith, low, far, near, rest, some, few)))
      ∙ (let e : t + k ≡ a + (k + 1) = omega (arith, low, far, near, rest, some, few) in e)
      ∙ sym (cond-true (nat_lt a b) (a + (k + 1)) _ below)
  | inr above ↦
      let high = ltb-false a b above in
      cond-false (nat_lt t b) (t + k) _ (le-ltb t b (omega (arith, high, far, near, rest, some, few)))
      ∙ cond-true (nat_lt b t) (t - k) t (lt-ltb b t (omega (arith, high, far, near, rest, some, few)))
      ∙ (let e : t - k ≡ a - (k + 1) = omega (arith, high, far, near, rest, some, few) in e)
      ∙ sym (cond-true (nat_lt b a) (a - (k + 1)) a (lt-ltb b a (omega (arith, high, far))))
      ∙ sym (cond-false (nat_lt a b) (a + (k + 1)) _ above)
]

toward-first : (a b t n : ℕ) → distance a b ≡ suc n → distance a t < 2 → distance t b ≡ n → toward a b 1 ≡ t
unfolding distance toward
toward-first a b t n far near rest = elim (cases_Bool (nat_lt a b)) [
  | inl below ↦ let low = ltb-true a b below in cond-true (nat_lt a b) (a + 1) _ below ∙ omega (arith, low, far, near, rest)
  | inr above ↦
      let high = ltb-false a b above in
      cond-false (nat_lt a b) (a + 1) _ above ∙ cond-true (nat_lt b a) (a - 1) a (lt-ltb b a (omega (arith, high, far))) ∙ omega (arith, high, far, near, rest)
]

ahead-near : (c : Colour) (s t : ℕ) → Ahead c s t 1 → distance (rank s) (rank t) < 2
unfolding distance
ahead-near White s t one = omega (arith, one)
ahead-near Black s t one = omega (arith, one)

map-on : (f g : ℕ → ℕ) (k n : ℕ) → ((i : ℕ) → k ≤ i → i < k + n → f i ≡ g (i + 1)) → map f (range_with_len k n) ≡ map g (range_with_len (k + 1) n)
map-on f g k zero same = refl
map-on f g k (suc n) same =
    ap (λ (x : ℕ). x ∷ map f (range_with_len (k + 1) n)) (same k (omega arith) (omega arith)) ∙ ap (λ (l : List ℕ). g (k + 1) ∷ l) (map-on f g (k + 1) n (λ i low high. same i (omega arith) (omega arith)))

-- it captures on each square of it
slanting : (c : Colour) (set : List Bool) (s : ℕ) (way : List ℕ) → is_way c set s way ≡ true → files_apart s (way_end s way) ≡ length way → captures_on s way ≡ map (on_the_way s (way_end s way)) (range_with_len 1 (length way))
unfolding on_the_way
slanting c set s [] is far = refl
slanting c set s (t ∷ way) is far =
    let e : ℕ = way_end t way in
    let parts = and_parts (is_pawn_step c set s t) (is_way c set t way) is in
    let step = a-step c set s t parts.0 in
    let few = files-few c set t way parts.1 in
    let around = triangle (file s) (file t) (file e) in
    let near = step.near in
    let files : distance (file t) (file e) ≡ length way = omega (arith, far, few, around, near) in
    let ranks = ahead-ranks c t e (length way) (gone-ahead c set t way parts.1) in
    let ranks_all = ahead-ranks c s e (suc (length way)) (gone-ahead c set s (t ∷ way) is) in
    let rank_near = ahead-near c s t step.ahead in
    let first : t ≡ 8 * toward (rank s) (rank e) 1 + toward (file s) (file e) 1 = omega (arith, toward-first (rank s) (rank e) (rank t) (length way) ranks_all rank_near ranks, toward-first (file s) (file e) (file t) (length way) far near files) in
    let later : (i : ℕ) → 1 ≤ i → i < 1 + length way → 8 * toward (rank t) (rank e) i + toward (file t) (file e) i ≡ 8 * toward (rank s) (rank e) (i + 1) + toward (file s) (file e) (i + 1) = λ i low high. omega (arith, toward-on (rank s) (rank e) (rank t) (length way) i ranks_all rank_near ranks low (omega arith), toward-on (file s) (file e) (file t) (length way) i far near files low (omega arith)) in
    elim (captures-more s t way) [
      | inl same ↦ absurd (omega (arith, far, few, same.0, ap (λ (x : ℕ). distance x (file e)) same.0))
      | inr other ↦ other.1 ∙ ap (λ (l : List ℕ). t ∷ l) (slanting c set t way parts.1 files ∙ map-on (on_the_way t e) (on_the_way s e) 1 (length way) later) ∙ ap (λ (x : ℕ). x ∷ map (on_the_way s e) (range_with_len 2 (length way))) first
    ]

pub slant-captured : (c : Colour) (set : List Bool) (s : ℕ) (way : List ℕ) → is_way c set s way ≡ true → is_slant s (way_end s way) ≡ true → captures_on s way ≡ slant s (way_end s way)
unfolding slant
slant-captured c set s way is slants =
    let e : ℕ = way_end s way in
    let parts = and_parts (nat_lt 0 (files_apart s e)) (files_apart s e == ranks_apart s e) slants in
    let far : files_apart s e ≡ length way = eqb-true (files_apart s e) (ranks_apart s e) parts.1 ∙ ahead-ranks c s e (length way) (gone-ahead c set s way is) in
    slanting c set s way is far
    ∙ sym (map-on (λ (k : ℕ). on_the_way s e (k + 1)) (on_the_way s e) 0 (length way) (λ i low high. refl))
    ∙ ap (λ (n : ℕ). map (λ (k : ℕ). on_the_way s e (k + 1)) (range_with_len 0 n)) (sym far)
