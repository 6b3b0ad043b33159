-- The text of potentials, as it is written.
use Rattle.std.proofs.Common.{◌≡◌, ℕ, suc, ◌+◌, ◌*◌, ◌<◌, ◌≤◌, List, [], ◌∷◌, ◌++◌, length, take, get_or, map, refl, sym, ap, ◌∙◌, arith, append_assoc, append-nil, length-append, take_all}
use Rattle.std.specs.Prelude.{codes, ℤ, pos, negsuc}
use Rattle.std.specs.Fmt.{signed_decimal}
use Rattle.std.specs.List.{join_with_byte}
use Rattle.std.proofs.lemmas.Fmt.{length-decimal-le}
use Rattle.std.proofs.lemmas.Int.{ints}
use Rattle.std.proofs.lemmas.List.{take_more}
use Rattle.board_base.specs.Potentials.{Duals, IsWithinLimit}
use Rattle.cert_text.specs.Arguments.{potentials_text}

-- the text of a number from -64 to 64 is short
pub signed_short : (x : ℤ) → IsWithinLimit x → length (signed_decimal x) ≤ 3
signed_short (pos n) near =
    let few : n ≤ 64 = let high = near.1 in omega (arith, ints) in
    omega (arith, length-decimal-le 2 n (omega arith) (omega arith) (omega arith))
signed_short (negsuc n) near =
    let few : suc n ≤ 64 = let low = near.0 in omega (arith, ints) in
    omega (arith, length-decimal-le 2 (suc n) (omega arith) (omega arith) (omega arith))

-- numbers with a space behind each, and with one before each

abbrev pub spaced_behind : List ℤ → List ℕ
spaced_behind [] = []
spaced_behind (x ∷ xs) = signed_decimal x ++ 32 ∷ spaced_behind xs

abbrev pub spaced_before : List ℤ → List ℕ
spaced_before [] = []
spaced_before (x ∷ xs) = 32 ∷ (signed_decimal x ++ spaced_before xs)

joined-before : (w : List ℕ) (vs : List ℤ) → join_with_byte 32 (w ∷ map signed_decimal vs) ≡ w ++ spaced_before vs
joined-before w [] = sym (append-nil w)
joined-before w (v ∷ vs) = ap (λ (l : List ℕ). w ++ 32 ∷ l) (joined-before (signed_decimal v) vs)

pub joined-both : (us vs : List ℤ) → join_with_byte 32 (map signed_decimal us ++ codes "/" ∷ map signed_decimal vs) ≡ spaced_behind us ++ 47 ∷ spaced_before vs
joined-both [] vs = joined-before (codes "/") vs
joined-both (u ∷ []) vs =
    ap (λ (l : List ℕ). signed_decimal u ++ 32 ∷ l) (joined-before (codes "/") vs) ∙ sym (append_assoc (signed_decimal u) (32 ∷ []) (47 ∷ spaced_before vs))
joined-both (u ∷ w ∷ us) vs =
    ap (λ (l : List ℕ). signed_decimal u ++ 32 ∷ l) (joined-both (w ∷ us) vs) ∙ sym (append_assoc (signed_decimal u) (32 ∷ spaced_behind (w ∷ us)) (47 ∷ spaced_before vs))

behind-more : (xs : List ℤ) (x : ℤ) → spaced_behind (xs ++ x ∷ []) ≡ spaced_behind xs ++ (signed_decimal x ++ 32 ∷ [])
behind-more [] x = refl
behind-more (y ∷ xs) x =
    ap (λ (l : List ℕ). signed_decimal y ++ 32 ∷ l) (behind-more xs x) ∙ sym (append_assoc (signed_decimal y) (32 ∷ spaced_behind xs) (signed_decimal x ++ 32 ∷ []))

before-more : (xs : List ℤ) (x : ℤ) → spaced_before (xs ++ x ∷ []) ≡ spaced_before xs ++ 32 ∷ signed_decimal x
before-more [] x = ap (λ (l : List ℕ). 32 ∷ l) (append-nil (signed_decimal x))
before-more (y ∷ xs) x =
    ap (λ (l : List ℕ). 32 ∷ (signed_decimal y ++ l)) (before-more xs x) ∙ ap (λ (l : List ℕ). 32 ∷ l) (sym (append_assoc (signed_decimal y) (spaced_before xs) (32 ∷ signed_decimal x)))

-- how far the numbers of rows were written
pub record RowsWritten (u : List ℤ) (i : ℕ) (old now : List ℕ) : Type 0 where
  pub text : now ≡ old ++ spaced_behind (take i u)
  pub room : length now ≤ length old + 4 * i

pub rows_begun : (u : List ℤ) (old : List ℕ) → RowsWritten u 0 old old
rows_begun u old = record { text = sym (append-nil old); room = omega arith }

pub rows_next : (u : List ℤ) (i : ℕ) (old now next : List ℕ) (x : ℤ) → i < length u → x ≡ get_or u i (pos 0) → next ≡ now ++ signed_decimal x → length next ≤ length now + 3 → RowsWritten u i old now → RowsWritten u (i + 1) old (next ++ 32 ∷ [])
rows_next u i old now next x inside here e short w =
    let room = w.room in
    record {
      text = ap (λ (l : List ℕ). l ++ 32 ∷ []) (e ∙ ap (λ (l : List ℕ). l ++ signed_decimal x) w.text) ∙ append_assoc (old ++ spaced_behind (take i u)) (signed_decimal x) (32 ∷ []) ∙ append_assoc old (spaced_behind (take i u)) (signed_decimal x ++ 32 ∷ [])
          ∙ ap (λ (l : List ℕ). old ++ l) (sym (behind-more (take i u) x) ∙ ap (λ (y : ℤ). spaced_behind (take i u ++ y ∷ [])) here ∙ ap spaced_behind (sym (take_more u i (pos 0) inside)));
      room = omega (arith, length-append next (32 ∷ []));
    }

-- how far the numbers of columns were written
pub record ColumnsWritten (v : List ℤ) (i : ℕ) (old now : List ℕ) : Type 0 where
  pub text : now ≡ old ++ spaced_before (take i v)
  pub room : length now ≤ length old + 4 * i

pub columns_begun : (v : List ℤ) (old : List ℕ) → ColumnsWritten v 0 old old
columns_begun v old = record { text = sym (append-nil old); room = omega arith }

pub columns_next : (v : List ℤ) (i : ℕ) (old now next : List ℕ) (x : ℤ) → i < length v → x ≡ get_or v i (pos 0) → next ≡ (now ++ 32 ∷ []) ++ signed_decimal x → length next ≤ length (now ++ 32 ∷ []) + 3 → ColumnsWritten v i old now → ColumnsWritten v (i + 1) old next
columns_next v i old now next x inside here e short w =
    let room = w.room in
    record {
      text = e ∙ append_assoc now (32 ∷ []) (signed_decimal x) ∙ ap (λ (l : List ℕ). l ++ 32 ∷ signed_decimal x) w.text ∙ append_assoc old (spaced_before (take i v)) (32 ∷ signed_decimal x)
          ∙ ap (λ (l : List ℕ). old ++ l) (sym (before-more (take i v) x) ∙ ap (λ (y : ℤ). spaced_before (take i v ++ y ∷ [])) here ∙ ap spaced_before (sym (take_more v i (pos 0) inside)));
      room = omega (arith, length-append now (32 ∷ []));
    }

-- both, with a / between them
pub potentials_written : (d : Duals) (i j : ℕ) (old middle now : List ℕ) → length d.u ≤ i → length d.v ≤ j → RowsWritten d.u i old middle → ColumnsWritten d.v j (middle ++ 47 ∷ []) now → now ≡ old ++ potentials_text d
unfolding potentials_text
potentials_written d i j old middle now us vs pawns files =
    let first : middle ≡ old ++ spaced_behind d.u = pawns.text ∙ ap (λ (l : List ℤ). old ++ spaced_behind l) (take_all i d.u us) in
    files.text ∙ ap (λ (l : List ℤ). (middle ++ 47 ∷ []) ++ spaced_before l) (take_all j d.v vs) ∙ append_assoc middle (47 ∷ []) (spaced_before d.v) ∙ ap (λ (l : List ℕ). l ++ 47 ∷ spaced_before d.v) first
    ∙ append_assoc old (spaced_behind d.u) (47 ∷ spaced_before d.v) ∙ ap (λ (l : List ℕ). old ++ l) (sym (joined-both d.u d.v))
