-- Potentials and their texts.
use Rattle.std.proofs.Common.{◌≡◌, ℕ, ◌+◌, ◌<◌, ◌≤◌, ◌==◌, Bool, true, false, cond, not, List, [], ◌∷◌, ◌++◌, length, map, take, set, Option, Some, None, Bor, inl, inr, refl, sym, ap, ◌∙◌, arith, append-nil, append_assoc, length-append, nat_le, take_all}
use Rattle.std.specs.Prelude.{codes, ℤ, is_some}
use Rattle.std.proofs.lemmas.Bool.{and_parts, and_from, cond-true, cond-false, cases_Bool, eq-eqb, eqb-true, le-leb, leb-true, lt-leb, ne_eqb, not-true, not_from_false}
use Rattle.std.proofs.lemmas.List.{length-map, length-set, take_more_set}
use Rattle.std.proofs.lemmas.List.Folds.{list_all-append}
use Rattle.std.proofs.lemmas.List.Splits.{join_with_byte-slice_split}
use Rattle.std.proofs.lemmas.Option.{same_Some, option_and_then_some}
use Rattle.std.proofs.lemmas.Slice.Eq.{bytes_eq-Decides}
use Rattle.std.specs.Fmt.{signed_decimal}
use Rattle.std.specs.List.{join_with_byte, list_all}
use Rattle.std.specs.Option.{option_map, option_and_then}
use Rattle.general_lemmas.proofs.Options.{when}
use Rattle.board_base.specs.Potentials.{Duals, duals}
use Rattle.fen_text.specs.Parts.{Free}
use Rattle.fen_text.specs.Numbers.{number}
use Rattle.price_text.specs.Words.{is_slash, words}
use Rattle.price_text.proofs.WordLemmas.{all_back_words, are_free, joined_free, left, some_words}
use Rattle.cert_text.specs.Arguments.{both_of, columns_of, duals_of, halves, potentials_text, rows_of, signed, signed_all}
use Rattle.cert_text.specs.Writable.{are_near, is_near}
use Rattle.cert_text.proofs.SignedTexts.{signed_back, signed_free, signed_read}
use Rattle.board_base.proofs.TextLemmas.{mapped_some}

-- lists of numbers

nothing_more : {A B : Type 0} (o : Option A) → option_and_then (λ (a : A). let n : Option B = None in n) o ≡ None
nothing_more None = refl
nothing_more (Some a) = refl

signed_stop : (front : List (List ℕ)) (w : List ℕ) (ws : List (List ℕ)) → signed w ≡ None → signed_all (front ++ w ∷ ws) ≡ None
signed_stop [] w ws bad = ap (option_and_then (λ (x : ℤ). option_map (λ (xs : List ℤ). x ∷ xs) (signed_all ws))) bad
signed_stop (f ∷ front) w ws bad =
    ap (λ (o : Option (List ℤ)). option_and_then (λ (x : ℤ). option_map (λ (xs : List ℤ). x ∷ xs) o) (signed f)) (signed_stop front w ws bad) ∙ nothing_more (signed f)

-- a list of words whose first stands for x, and the others for xs
record StandFor (f : List ℕ) (front : List (List ℕ)) (ys : List ℤ) : Type 0 where
  x : ℤ
  xs : List ℤ
  first : signed f ≡ Some x
  others : signed_all front ≡ Some xs
  whole : x ∷ xs ≡ ys

stand_for : (f : List ℕ) (front : List (List ℕ)) (ys : List ℤ) → signed_all (f ∷ front) ≡ Some ys → StandFor f front ys
stand_for f front ys e =
    option_and_then_some (λ (x : ℤ). option_map (λ (xs : List ℤ). x ∷ xs) (signed_all front)) (signed f) ys e (λ x is stands.
    let m = mapped_some (λ (xs : List ℤ). x ∷ xs) (signed_all front) ys stands in
    record { x = x; xs = m.0; first = is; others = m.1; whole = m.2 })

stands_for : (f : List ℕ) (front : List (List ℕ)) (x : ℤ) (xs : List ℤ) → signed f ≡ Some x → signed_all front ≡ Some xs → signed_all (f ∷ front) ≡ Some (x ∷ xs)
stands_for f front x xs first others =
    ap (option_and_then (λ (y : ℤ). option_map (λ (ys : List ℤ). y ∷ ys) (signed_all front))) first ∙ ap (option_map (λ (ys : List ℤ). x ∷ ys)) others

signed_more : (front : List (List ℕ)) (w : List ℕ) (xs : List ℤ) (x : ℤ) → signed_all front ≡ Some xs → signed w ≡ Some x → signed_all (front ++ w ∷ []) ≡ Some (xs ++ x ∷ [])
signed_more [] w xs x e good = stands_for w [] x [] good refl ∙ ap (λ (l : List ℤ). Some (l ++ x ∷ [])) (same_Some [] xs e)
signed_more (f ∷ front) w xs x e good =
    let s = stand_for f front xs e in
    stands_for f (front ++ w ∷ []) s.x (s.xs ++ x ∷ []) s.first (signed_more front w s.xs x s.others good) ∙ ap (λ (l : List ℤ). Some (l ++ x ∷ [])) s.whole

-- words are the one text of the numbers that they stand for
record AreTexts (ws : List (List ℕ)) (xs : List ℤ) : Type 0 where
  texts_are : ws ≡ map signed_decimal xs
  near : list_all is_near xs ≡ true

all_read : (ws : List (List ℕ)) (xs : List ℤ) → signed_all ws ≡ Some xs → AreTexts ws xs
all_read [] xs e =
    let same : [] ≡ xs = same_Some [] xs e in
    record { texts_are = ap (map signed_decimal) same; near = ap (list_all is_near) (sym same) }
all_read (w ∷ ws) ys e =
    let s = stand_for w ws ys e in
    let rest = all_read ws s.xs s.others in
    let one = signed_read w s.x s.first in
    record {
      texts_are = ap (λ (l : List ℕ). l ∷ ws) one.text_is ∙ ap (λ (l : List (List ℕ)). signed_decimal s.x ∷ l) rest.texts_are ∙ ap (map signed_decimal) s.whole;
      near = ap (list_all is_near) (sym s.whole) ∙ and_from _ _ one.near rest.near;
    }

all_back : (xs : List ℤ) → list_all is_near xs ≡ true → signed_all (map signed_decimal xs) ≡ Some xs
all_back [] near = refl
all_back (x ∷ xs) near =
    let parts = and_parts (is_near x) (list_all is_near xs) near in
    stands_for (signed_decimal x) (map signed_decimal xs) x xs (signed_back x parts.0) (all_back xs parts.1)

-- the potentials of words
abbrev duals_in : ℕ → List (List ℕ) → Option Duals
duals_in width ws = option_and_then (λ p. both_of width p.0 p.1) (halves ws)

pub in_words : (width : ℕ) (text : List ℕ) → duals_of width text ≡ duals_in width (words text)
unfolding duals_of
in_words width text = refl

-- halves

abbrev are_plain : List (List ℕ) → Bool
are_plain ws = list_all (λ w. not (is_slash w)) ws

halves_slash : (front : List (List ℕ)) (w : List ℕ) (ws : List (List ℕ)) → are_plain front ≡ true → is_slash w ≡ true → halves (front ++ w ∷ ws) ≡ Some (front, ws)
halves_slash [] w ws plain slash = cond-true (is_slash w) (Some ([], ws)) _ slash
halves_slash (f ∷ front) w ws plain slash =
    let parts = and_parts (not (is_slash f)) (are_plain front) plain in
    cond-false (is_slash f) (Some ([], front ++ w ∷ ws)) _ (not-true (is_slash f) parts.0) ∙ ap (option_map (λ (p : List (List ℕ) × List (List ℕ)). (f ∷ p.0, p.1))) (halves_slash front w ws parts.1 slash)

-- where there are halves, the words are these with a / between them
record AreHalves (ws a b : List (List ℕ)) : Type 0 where
  whole : ws ≡ a ++ codes "/" ∷ b
  plain : are_plain a ≡ true

halves_read : (ws : List (List ℕ)) (p : List (List ℕ) × List (List ℕ)) → halves ws ≡ Some p → AreHalves ws p.0 p.1
halves_read [] p e = absurd cc
halves_read (w ∷ ws) p e = elim (cases_Bool (is_slash w)) [
  | inl slash ↦
      let here : ([], ws) ≡ p = same_Some ([], ws) p (sym (cond-true (is_slash w) (Some ([], ws)) (option_map (λ (p : List (List ℕ) × List (List ℕ)). (w ∷ p.0, p.1)) (halves ws)) slash) ∙ e) in
      let is : w ≡ codes "/" = (bytes_eq-Decides w (codes "/")).0 slash in
      record {
        whole = ap (λ (l : List ℕ). l ∷ ws) is ∙ ap (λ (q : List (List ℕ) × List (List ℕ)). q.0 ++ codes "/" ∷ q.1) here;
        plain = ap (λ (q : List (List ℕ) × List (List ℕ)). are_plain q.0) (sym here);
      }
  | inr other ↦
      let here = sym (cond-false (is_slash w) (Some ([], ws)) (option_map (λ (p : List (List ℕ) × List (List ℕ)). (w ∷ p.0, p.1)) (halves ws)) other) ∙ e in
      let m = mapped_some (λ (p : List (List ℕ) × List (List ℕ)). (w ∷ p.0, p.1)) (halves ws) p here in
      let rest = halves_read ws m.0 m.1 in
      record {
        whole = ap (λ (l : List (List ℕ)). w ∷ l) rest.whole ∙ ap (λ (q : List (List ℕ) × List (List ℕ)). q.0 ++ codes "/" ∷ q.1) m.2;
        plain = ap (λ (q : List (List ℕ) × List (List ℕ)). are_plain q.0) (sym m.2) ∙ and_from _ _ (not_from_false (is_slash w) other) rest.plain;
      }
]

-- a word that is no / stops what begins so, if it does with any words behind it
none_behind : (width : ℕ) (front : List (List ℕ)) (w : List ℕ) (o : Option (List (List ℕ) × List (List ℕ))) → ((a : List (List ℕ)) → rows_of width (front ++ w ∷ a) ≡ None) → option_and_then (λ (p : List (List ℕ) × List (List ℕ)). both_of width (front ++ w ∷ p.0) p.1) o ≡ None
none_behind width front w None bad = refl
none_behind width front w (Some p) bad = ap (option_and_then (λ (u : List ℤ). option_map (λ (v : List ℤ). duals u v) (columns_of width p.1))) (bad p.0)

map_map : {A B C : Type 0} (o : Option A) (g : A → B) (f : B → C) → option_map f (option_map g o) ≡ option_map (λ a. f (g a)) o
map_map None g f = refl
map_map (Some a) g f = refl

plain_next : (front : List (List ℕ)) (w : List ℕ) (ws : List (List ℕ)) → are_plain front ≡ true → is_slash w ≡ false → halves (front ++ w ∷ ws) ≡ option_map (λ (p : List (List ℕ) × List (List ℕ)). (front ++ w ∷ p.0, p.1)) (halves ws)
plain_next [] w ws plain other = cond-false (is_slash w) (Some ([], ws)) _ other
plain_next (f ∷ front) w ws plain other =
    let parts = and_parts (not (is_slash f)) (are_plain front) plain in
    cond-false (is_slash f) (Some ([], front ++ w ∷ ws)) _ (not-true (is_slash f) parts.0)
    ∙ ap (option_map (λ (p : List (List ℕ) × List (List ℕ)). (f ∷ p.0, p.1))) (plain_next front w ws parts.1 other) ∙ map_map (halves ws) (λ p. (front ++ w ∷ p.0, p.1)) (λ p. (f ∷ p.0, p.1))

then_mapped : {A B C : Type 0} (o : Option A) (g : A → B) (f : B → Option C) → option_and_then f (option_map g o) ≡ option_and_then (λ a. f (g a)) o
then_mapped None g f = refl
then_mapped (Some a) g f = refl

stopped : (width : ℕ) (front : List (List ℕ)) (w : List ℕ) (ws : List (List ℕ)) → are_plain front ≡ true → is_slash w ≡ false → ((a : List (List ℕ)) → rows_of width (front ++ w ∷ a) ≡ None) → duals_in width (front ++ w ∷ ws) ≡ None
stopped width front w ws plain other bad =
    ap (option_and_then (λ (p : List (List ℕ) × List (List ℕ)). both_of width p.0 p.1)) (plain_next front w ws plain other)
    ∙ then_mapped (halves ws) (λ (p : List (List ℕ) × List (List ℕ)). (front ++ w ∷ p.0, p.1)) (λ (p : List (List ℕ) × List (List ℕ)). both_of width p.0 p.1) ∙ none_behind width front w (halves ws) bad

-- reading the columns

-- how far the potentials of columns were read
pub record ColumnsSoFar (width : ℕ) (text : List ℕ) (i : ℕ) (rest : Option (Bor (List ℕ))) (v : List ℤ) : Type 0 where
  pub front : List (List ℕ)
  pub split : words text ≡ front ++ left rest
  pub size : length front ≡ i
  pub v_size : length v ≡ width
  pub read : signed_all front ≡ Some (take i v)

pub columns_begun : (width : ℕ) (text : List ℕ) (b : Bor (List ℕ)) (v : List ℤ) → b.now ≡ text → length v ≡ width → ColumnsSoFar width text 0 (Some b) v
columns_begun width text b v e size = record { front = []; split = ap words (sym e); size = refl; v_size = size; read = refl }

same_none : (b : Bool) (o : Option (List ℤ)) → o ≡ None → cond b o None ≡ None
same_none true o e = e
same_none false o e = refl

wrong_size : (width : ℕ) (ws : List (List ℕ)) → (length ws ≡ width → ⊥) → columns_of width ws ≡ None
wrong_size width ws other = cond-false (length ws == width) (signed_all ws) None (ne_eqb (length ws) width other)

pub columns_short : (width : ℕ) (text : List ℕ) (i : ℕ) (rest : Option (Bor (List ℕ))) (v : List ℤ) → rest ≡ None → i < width → ColumnsSoFar width text i rest v → columns_of width (words text) ≡ None
columns_short width text i rest v e low s =
    let size : length (words text) ≡ i = ap length (s.split ∙ ap (λ (o : Option (Bor (List ℕ))). s.front ++ left o) e ∙ append-nil s.front) ∙ s.size in
    wrong_size width (words text) (λ other. omega arith)

pub columns_bad : (width : ℕ) (text : List ℕ) (i : ℕ) (rest : Option (Bor (List ℕ))) (v : List ℤ) (w : List ℕ) (ws : List (List ℕ)) → left rest ≡ w ∷ ws → signed w ≡ None → ColumnsSoFar width text i rest v → columns_of width (words text) ≡ None
columns_bad width text i rest v w ws here bad s =
    same_none (length (words text) == width) (signed_all (words text)) (ap signed_all (s.split ∙ ap (λ (l : List (List ℕ)). s.front ++ l) here) ∙ signed_stop s.front w ws bad)

pub columns_next : (width : ℕ) (text : List ℕ) (i : ℕ) (rest after : Option (Bor (List ℕ))) (v : List ℤ) (w : List ℕ) (x : ℤ) → i < width → left rest ≡ w ∷ left after → signed w ≡ Some x → ColumnsSoFar width text i rest v → ColumnsSoFar width text (i + 1) after (set v i x)
columns_next width text i rest after v w x low here good s =
    let v_size = s.v_size in
    record {
      front = s.front ++ w ∷ [];
      split = s.split ∙ ap (λ (l : List (List ℕ)). s.front ++ l) here ∙ sym (append_assoc s.front (w ∷ []) (left after));
      size = length-append s.front (w ∷ []) ∙ ap (λ (n : ℕ). n + 1) s.size;
      v_size = length-set v i x ∙ s.v_size;
      read = signed_more s.front w (take i v) x s.read good ∙ ap (λ (l : List ℤ). Some l) (sym (take_more_set v i x (omega arith)));
    }

pub columns_long : (width : ℕ) (text : List ℕ) (i : ℕ) (rest : Option (Bor (List ℕ))) (v : List ℤ) (b : Bor (List ℕ)) → rest ≡ Some b → width ≤ i → ColumnsSoFar width text i rest v → columns_of width (words text) ≡ None
columns_long width text i rest v b e high s =
    let size : length (words text) ≡ length s.front + length (words b.now) = ap length (s.split ∙ ap (λ (o : Option (Bor (List ℕ))). s.front ++ left o) e) ∙ length-append s.front (words b.now) in
    let front = s.size in
    wrong_size width (words text) (λ other. omega (arith, some_words b.now))

-- a word is left behind so many
pub columns_over : (width : ℕ) (text : List ℕ) (i : ℕ) (rest : Option (Bor (List ℕ))) (v : List ℤ) → is_some rest ≡ true → width ≤ i → ColumnsSoFar width text i rest v → columns_of width (words text) ≡ None
columns_over width text i None v some high s = absurd cc
columns_over width text i (Some b) v some high s = columns_long width text i (Some b) v b refl high s

pub columns_done : (width : ℕ) (text : List ℕ) (i : ℕ) (rest : Option (Bor (List ℕ))) (v : List ℤ) → rest ≡ None → i ≡ width → ColumnsSoFar width text i rest v → columns_of width (words text) ≡ Some v
columns_done width text i rest v e full s =
    let whole : words text ≡ s.front = s.split ∙ ap (λ (o : Option (Bor (List ℕ))). s.front ++ left o) e ∙ append-nil s.front in
    let v_size = s.v_size in
    cond-true (length (words text) == width) (signed_all (words text)) None (eq-eqb (length (words text)) width (ap length whole ∙ s.size ∙ full))
    ∙ ap signed_all whole ∙ s.read ∙ ap (λ (l : List ℤ). Some l) (take_all i v (omega arith))

-- reading the rows

pub record RowsSoFar (width : ℕ) (text : List ℕ) (n : ℕ) (rest : List ℕ) (u : List ℤ) : Type 0 where
  pub front : List (List ℕ)
  pub split : words text ≡ front ++ words rest
  pub size : length front ≡ n
  pub few : n ≤ width
  pub u_size : length u ≡ n
  pub plain : are_plain front ≡ true
  pub read : signed_all front ≡ Some u

pub rows_begun : (width : ℕ) (text : List ℕ) → RowsSoFar width text 0 text []
rows_begun width text = record { front = []; split = refl; size = refl; few = omega arith; u_size = refl; plain = refl; read = refl }

split_at : (width : ℕ) (text : List ℕ) (n : ℕ) (rest : List ℕ) (u : List ℤ) (w : List ℕ) (ws : List (List ℕ)) (s : RowsSoFar width text n rest u) → words rest ≡ w ∷ ws → duals_of width text ≡ duals_in width (s.front ++ w ∷ ws)
split_at width text n rest u w ws s here = in_words width text ∙ ap (duals_in width) (s.split ∙ ap (λ (l : List (List ℕ)). s.front ++ l) here)

at_slash : (width : ℕ) (text : List ℕ) (n : ℕ) (rest : List ℕ) (u : List ℤ) (w : List ℕ) (ws : List (List ℕ)) → words rest ≡ w ∷ ws → is_slash w ≡ true → RowsSoFar width text n rest u → duals_of width text ≡ option_map (λ (v : List ℤ). duals u v) (columns_of width ws)
at_slash width text n rest u w ws here slash s =
    let few = s.few in
    let size = s.size in
    split_at width text n rest u w ws s here ∙ ap (option_and_then (λ (p : List (List ℕ) × List (List ℕ)). both_of width p.0 p.1)) (halves_slash s.front w ws s.plain slash)
    ∙ ap (option_and_then (λ (u : List ℤ). option_map (λ (v : List ℤ). duals u v) (columns_of width ws))) (cond-true (nat_le (length s.front) width) (signed_all s.front) None (le-leb (length s.front) width (omega arith)) ∙ s.read)

pub rows_slash : (width : ℕ) (text : List ℕ) (n : ℕ) (rest : List ℕ) (u : List ℤ) (w more : List ℕ) (o : Option (List ℤ)) → words rest ≡ w ∷ words more → is_slash w ≡ true → columns_of width (words more) ≡ o → RowsSoFar width text n rest u → duals_of width text ≡ option_map (λ (v : List ℤ). duals u v) o
rows_slash width text n rest u w more o here slash columns s =
    at_slash width text n rest u w (words more) here slash s ∙ ap (option_map (λ (v : List ℤ). duals u v)) columns

pub rows_many : (width : ℕ) (text : List ℕ) (n : ℕ) (rest : List ℕ) (u : List ℤ) (w : List ℕ) (ws : List (List ℕ)) → words rest ≡ w ∷ ws → is_slash w ≡ false → width ≤ n → RowsSoFar width text n rest u → duals_of width text ≡ None
rows_many width text n rest u w ws here other high s =
    let size = s.size in
    split_at width text n rest u w ws s here
    ∙ stopped width s.front w ws s.plain other (λ a. cond-false (nat_le (length (s.front ++ w ∷ a)) width) (signed_all (s.front ++ w ∷ a)) None (lt-leb (length (s.front ++ w ∷ a)) width (omega (arith, length-append s.front (w ∷ a)))))

pub rows_bad : (width : ℕ) (text : List ℕ) (n : ℕ) (rest : List ℕ) (u : List ℤ) (w : List ℕ) (ws : List (List ℕ)) → words rest ≡ w ∷ ws → is_slash w ≡ false → signed w ≡ None → RowsSoFar width text n rest u → duals_of width text ≡ None
rows_bad width text n rest u w ws here other bad s =
    split_at width text n rest u w ws s here
    ∙ stopped width s.front w ws s.plain other (λ a. same_none (nat_le (length (s.front ++ w ∷ a)) width) (signed_all (s.front ++ w ∷ a)) (signed_stop s.front w a bad))

last_word : (width : ℕ) (front : List (List ℕ)) (w : List ℕ) (b : Bool) → 1 ≤ width → is_slash w ≡ b → are_plain front ≡ true → duals_in width (front ++ w ∷ []) ≡ None
last_word width front w true some slash plain =
    ap (option_and_then (λ (p : List (List ℕ) × List (List ℕ)). both_of width p.0 p.1)) (halves_slash front w [] plain slash)
    ∙ ap (λ (o : Option (List ℤ)). option_and_then (λ (u : List ℤ). option_map (λ (v : List ℤ). duals u v) o) (rows_of width front)) (wrong_size width [] (λ none. omega arith)) ∙ nothing_more (rows_of width front)
last_word width front w false some other plain = ap (option_and_then (λ (p : List (List ℕ) × List (List ℕ)). both_of width p.0 p.1)) (plain_next front w [] plain other)

pub rows_end : (width : ℕ) (text : List ℕ) (n : ℕ) (rest : List ℕ) (u : List ℤ) (w : List ℕ) → 1 ≤ width → words rest ≡ w ∷ [] → RowsSoFar width text n rest u → duals_of width text ≡ None
rows_end width text n rest u w some here s = split_at width text n rest u w [] s here ∙ last_word width s.front w (is_slash w) some refl s.plain

pub rows_next : (width : ℕ) (text : List ℕ) (n : ℕ) (rest : List ℕ) (u : List ℤ) (w more : List ℕ) (x : ℤ) → words rest ≡ w ∷ words more → is_slash w ≡ false → n < width → signed w ≡ Some x → RowsSoFar width text n rest u → RowsSoFar width text (n + 1) more (u ++ x ∷ [])
rows_next width text n rest u w more x here other low good s =
    let u_size = s.u_size in
    record {
      front = s.front ++ w ∷ [];
      split = s.split ∙ ap (λ (l : List (List ℕ)). s.front ++ l) here ∙ sym (append_assoc s.front (w ∷ []) (words more));
      size = length-append s.front (w ∷ []) ∙ ap (λ (k : ℕ). k + 1) s.size;
      few = omega arith;
      u_size = length-append u (x ∷ []) ∙ ap (λ (k : ℕ). k + 1) s.u_size;
      plain = list_all-append (λ (w : List ℕ). not (is_slash w)) s.front (w ∷ []) ∙ and_from _ _ s.plain (and_from _ _ (not_from_false (is_slash w) other) refl);
      read = signed_more s.front w u x s.read good;
    }

-- texts

-- a text is the one of potentials
pub record IsTextOfDuals (width : ℕ) (text : List ℕ) (d : Duals) : Type 0 where
  pub text_is : text ≡ potentials_text d
  pub near : are_near width d ≡ true

both_read : (width : ℕ) (text : List ℕ) (a b : List (List ℕ)) (d : Duals) → words text ≡ a ++ codes "/" ∷ b → both_of width a b ≡ Some d → IsTextOfDuals width text d
unfolding potentials_text
both_read width text a b d whole e =
    option_and_then_some (λ (u : List ℤ). option_map (λ (v : List ℤ). duals u v) (columns_of width b)) (rows_of width a) d e (λ u first second.
    let m = mapped_some (λ (v : List ℤ). duals u v) (columns_of width b) d second in
    let rows = when (nat_le (length a) width) (signed_all a) u first in
    let columns = when (length b == width) (signed_all b) m.0 m.1 in
    let us = all_read a u rows.1 in
    let vs = all_read b m.0 columns.1 in
    let u_size : length u ≡ length a = sym (ap length us.texts_are ∙ length-map u signed_decimal) in
    let v_size : length m.0 ≡ length b = sym (ap length vs.texts_are ∙ length-map m.0 signed_decimal) in
    let full = leb-true (length a) width rows.0 in
    record {
      text_is = sym (join_with_byte-slice_split 32 text) ∙ ap (join_with_byte 32) (whole ∙ ap (λ (l : List (List ℕ)). l ++ codes "/" ∷ b) us.texts_are ∙ ap (λ (l : List (List ℕ)). map signed_decimal u ++ codes "/" ∷ l) vs.texts_are)
          ∙ ap (λ (d : Duals). join_with_byte 32 (map signed_decimal d.u ++ codes "/" ∷ map signed_decimal d.v)) m.2;
      near = ap (are_near width) (sym m.2) ∙ and_from _ _ (and_from _ _ (and_from _ _ (le-leb (length u) width (omega arith)) (eq-eqb (length m.0) width (v_size ∙ eqb-true (length b) width columns.0))) us.near) vs.near;
    })

pub duals_read : (width : ℕ) (text : List ℕ) (d : Duals) → duals_of width text ≡ Some d → IsTextOfDuals width text d
duals_read width text d e =
    option_and_then_some (λ (p : List (List ℕ) × List (List ℕ)). both_of width p.0 p.1) (halves (words text)) d (sym (in_words width text) ∙ e) (λ p is stands.
    both_read width text p.0 p.1 d (halves_read (words text) p is).whole stands)

texts_free : (c : ℕ) (xs : List ℤ) → c < 45 → list_all is_near xs ≡ true → are_free c (map signed_decimal xs) ≡ true
texts_free c [] low near = refl
texts_free c (x ∷ xs) low near =
    let parts = and_parts (is_near x) (list_all is_near xs) near in
    and_from _ _ (signed_free c x low parts.0) (texts_free c xs low parts.1)

no_number : (x : ℤ) → signed (codes "/") ≡ Some x → ⊥
unfolding signed number
no_number x e = absurd cc

not_slash : (x : ℤ) → is_near x ≡ true → not (is_slash (signed_decimal x)) ≡ true
not_slash x near = elim (cases_Bool (is_slash (signed_decimal x))) [
  | inl slash ↦ absurd (no_number x (ap signed (sym ((bytes_eq-Decides (signed_decimal x) (codes "/")).0 slash)) ∙ signed_back x near))
  | inr other ↦ not_from_false (is_slash (signed_decimal x)) other
]

texts_plain : (xs : List ℤ) → list_all is_near xs ≡ true → are_plain (map signed_decimal xs) ≡ true
texts_plain [] near = refl
texts_plain (x ∷ xs) near =
    let parts = and_parts (is_near x) (list_all is_near xs) near in
    and_from _ _ (not_slash x parts.0) (texts_plain xs parts.1)

abbrev all_words : Duals → List (List ℕ)
all_words d = map signed_decimal d.u ++ codes "/" ∷ map signed_decimal d.v

pub record AreNear (width : ℕ) (d : Duals) : Type 0 where
  pub u_few : nat_le (length d.u) width ≡ true
  pub v_size : (length d.v == width) ≡ true
  pub u : list_all is_near d.u ≡ true
  pub v : list_all is_near d.v ≡ true

pub near_parts : (width : ℕ) (d : Duals) → are_near width d ≡ true → AreNear width d
near_parts width d near =
    let last = and_parts _ (list_all is_near d.v) near in
    let third = and_parts _ (list_all is_near d.u) last.0 in
    let first = and_parts (nat_le (length d.u) width) (length d.v == width) third.0 in
    record { u_few = first.0; v_size = first.1; u = third.1; v = last.1 }

words_free : (width : ℕ) (c : ℕ) (d : Duals) → c < 45 → AreNear width d → are_free c (all_words d) ≡ true
words_free width c d low near =
    list_all-append (λ (w : List ℕ). list_all (λ b. not (b == c)) w) (map signed_decimal d.u) (codes "/" ∷ map signed_decimal d.v)
    ∙ and_from _ _ (texts_free c d.u low near.u) (and_from _ _ (and_from _ _ (ap not (ne_eqb 47 c (λ e. omega arith))) refl) (texts_free c d.v low near.v))

-- the text of potentials stands for them
pub duals_back : (width : ℕ) (d : Duals) → are_near width d ≡ true → duals_of width (potentials_text d) ≡ Some d
unfolding potentials_text
duals_back width d near =
    let n = near_parts width d near in
    let us : List (List ℕ) = map signed_decimal d.u in
    let vs : List (List ℕ) = map signed_decimal d.v in
    let some : 1 ≤ length (all_words d) = omega (arith, length-append us (codes "/" ∷ vs)) in
    let few : nat_le (length us) width ≡ true = ap (λ (k : ℕ). nat_le k width) (length-map d.u signed_decimal) ∙ n.u_few in
    let full : (length vs == width) ≡ true = ap (λ (k : ℕ). k == width) (length-map d.v signed_decimal) ∙ n.v_size in
    in_words width (join_with_byte 32 (all_words d)) ∙ ap (duals_in width) (all_back_words (all_words d) (words_free width 32 d (omega arith) n) some)
    ∙ ap (option_and_then (λ (p : List (List ℕ) × List (List ℕ)). both_of width p.0 p.1)) (halves_slash us (codes "/") vs (texts_plain d.u n.u) refl)
    ∙ ap (option_and_then (λ (u : List ℤ). option_map (λ (v : List ℤ). duals u v) (columns_of width vs))) (cond-true (nat_le (length us) width) (signed_all us) None few ∙ all_back d.u n.u)
    ∙ ap (option_map (λ (v : List ℤ). duals d.u v)) (cond-true (length vs == width) (signed_all vs) None full ∙ all_back d.v n.v)

pub duals_free : (width : ℕ) (d : Duals) → are_near width d ≡ true → Free 10 (potentials_text d)
unfolding potentials_text
duals_free width d near = joined_free (all_words d) (words_free width 10 d (omega arith) (near_parts width d near))
