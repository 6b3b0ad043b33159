-- Texts with a sign between them, and texts one after another.
use Rattle.std.proofs.Common.{◌≡◌, ℕ, zero, suc, ◌+◌, ◌-◌, ◌<◌, ◌≤◌, ◌==◌, cond, false, List, [], ◌∷◌, ◌++◌, length, map, take, drop, get_or, refl, sym, ap, ◌∙◌, arith}
use Rattle.std.specs.List.{flat_map}
use Rattle.std.proofs.Math.Seq.{drop-cons}
use Rattle.std.proofs.lemmas.Bool.{cond-false, ne_eqb}
use Rattle.std.proofs.lemmas.Grind.{flat_map-append, take_at_read}
use Rattle.std.proofs.lemmas.List.{append_assoc, append-nil, drop_all, length-drop, length-map, length-take-le, map-append, take_all}
use Rattle.board_base.specs.declared.men.Kind.{Kind}
use Rattle.prose_words.specs.Words.{kind_word}
use Rattle.proof_story.specs.Rendering.{before_kind, behind, other_kinds, parted, rows_from}
use Rattle.proof_story.specs.Rows.{rows_of}
use Rattle.proof_story.specs.declared.stories.Paragraph.{Paragraph}

-- the items up to one, and that one
pub item-more : {A : Type 0} (xs : List A) (i : ℕ) (x : A) → i < length xs → x ≡ get_or xs i x → take (i + 1) xs ≡ take i xs ++ x ∷ []
item-more {A} xs i x lt is = (take_at_read xs i x lt).1 ∙ ap (λ (y : A). take i xs ++ y ∷ []) (sym is)

-- one text more behind another
behind-more : (sign : List ℕ) (ts : List (List ℕ)) (t : List ℕ) → behind sign (ts ++ t ∷ []) ≡ behind sign ts ++ (sign ++ t)
behind-more sign ts t =
    flat_map-append (λ (text : List ℕ). sign ++ text) ts (t ∷ []) ∙ ap (λ (l : List ℕ). behind sign ts ++ l) (append-nil (sign ++ t))

four-apart : (a b c d : List ℕ) → a ++ (b ++ (c ++ d)) ≡ ((a ++ b) ++ c) ++ d
four-apart a b c d = simp append_assoc

parted-more : (sign : List ℕ) (ts : List (List ℕ)) (t : List ℕ) → parted sign (ts ++ t ∷ []) ≡ (parted sign ts ++ cond (length ts == 0) [] sign) ++ t
parted-more sign [] t = append-nil t
parted-more sign (s ∷ ts) t =
    let some : (length (s ∷ ts) == 0) ≡ false = ne_eqb (length (s ∷ ts)) 0 (λ e. omega (arith, e)) in
    ap (λ (l : List ℕ). s ++ l) (behind-more sign ts t) ∙ four-apart s (behind sign ts) sign t
    ∙ ap (λ (l : List ℕ). ((s ++ behind sign ts) ++ l) ++ t) (sym (cond-false (length (s ∷ ts) == 0) [] sign some))

-- one text more, after the sign unless it is the first
pub parted-step : {A : Type 0} (f : A → List ℕ) (sign : List ℕ) (xs : List A) (i : ℕ) (x : A) (o done now new : List ℕ) → i < length xs → x ≡ get_or xs i x → done ≡ o ++ parted sign (map f (take i xs)) → now ≡ done ++ cond (i == 0) [] sign → new ≡ now ++ f x → new ≡ o ++ parted sign (map f (take (i + 1) xs))
parted-step {A} f sign xs i x o done now new lt is e sign-is last =
    let before : List (List ℕ) = map f (take i xs) in
    let more : map f (take (i + 1) xs) ≡ before ++ f x ∷ [] = ap (map f) (item-more xs i x lt is) ∙ map-append f (take i xs) (x ∷ []) in
    let few : i ≤ length xs = omega arith in
    let many : length before ≡ i = length-map (take i xs) f ∙ length-take-le i xs few in
    let whole : parted sign (map f (take (i + 1) xs)) ≡ (parted sign before ++ cond (i == 0) [] sign) ++ f x =
    ap (parted sign) more ∙ parted-more sign before (f x) ∙ ap (λ (n : ℕ). (parted sign before ++ cond (n == 0) [] sign) ++ f x) many in
    last
    ∙ ap (λ (l : List ℕ). l ++ f x) (sign-is ∙ ap (λ (l : List ℕ). l ++ cond (i == 0) [] sign) e)
    ∙ sym (four-apart o (parted sign before) (cond (i == 0) [] sign) (f x))
    ∙ ap (λ (l : List ℕ). o ++ l) (sym (append_assoc (parted sign before) (cond (i == 0) [] sign) (f x)) ∙ sym whole)

-- no text is left
pub parted-whole : {A : Type 0} (f : A → List ℕ) (sign : List ℕ) (xs : List A) (i : ℕ) (o done : List ℕ) → length xs ≤ i → done ≡ o ++ parted sign (map f (take i xs)) → done ≡ o ++ parted sign (map f xs)
parted-whole {A} f sign xs i o done past e = e ∙ ap (λ (l : List A). o ++ parted sign (map f l)) (take_all i xs past)

-- one paragraph more
pub rows-step : (story ps : List Paragraph) (i : ℕ) (p : Paragraph) (out line out2 line2 o : List ℕ) → i < length ps → p ≡ get_or ps i p → ((rest : List Paragraph) → out2 ++ rows_from story line2 rest ≡ out ++ rows_from story line (p ∷ rest)) → out ++ rows_from story line (drop i ps) ≡ o → out2 ++ rows_from story line2 (drop (i + 1) ps) ≡ o
rows-step story ps i p out line out2 line2 o lt is step so_far =
    let rest : List Paragraph = drop (i + 1) ps in
    let one : suc i ≡ i + 1 = omega arith in
    let here : drop i ps ≡ p ∷ rest = drop-cons ps i p lt ∙ ap (λ (n : ℕ). get_or ps i p ∷ drop n ps) one ∙ ap (λ (q : Paragraph). q ∷ rest) (sym is) in
    step rest ∙ ap (λ (l : List Paragraph). out ++ rows_from story line l) (sym here) ∙ so_far

-- no paragraph is left
pub rows-whole : (story ps : List Paragraph) (i : ℕ) (out line o : List ℕ) → length ps ≤ i → out ++ rows_from story line (drop i ps) ≡ o → out ++ rows_of line ≡ o
rows-whole story ps i out line o past so_far = ap (λ (l : List Paragraph). out ++ rows_from story line l) (sym (drop_all i ps past)) ∙ so_far

pub kinds-apart : (a b c d : List ℕ) → ((a ++ b) ++ c) ++ d ≡ a ++ ((b ++ c) ++ d)
kinds-apart a b c d = simp append_assoc

-- one kind more
pub kinds-step : (ks : List Kind) (i : ℕ) (d : Kind) (done mid new o : List ℕ) → i < length ks → mid ≡ done ++ before_kind (length ks - 1 - i) → new ≡ mid ++ kind_word (get_or ks i d) → done ++ other_kinds (drop i ks) ≡ o → new ++ other_kinds (drop (i + 1) ks) ≡ o
kinds-step ks i d done mid new o lt first second so_far =
    let k : Kind = get_or ks i d in
    let rest : List Kind = drop (i + 1) ks in
    let one : suc i ≡ i + 1 = omega arith in
    let after : length rest ≡ length ks - 1 - i = omega (arith, length-drop (i + 1) ks) in
    let here : drop i ks ≡ k ∷ rest = drop-cons ks i d lt ∙ ap (λ (n : ℕ). k ∷ drop n ks) one in
    let now : new ≡ (done ++ before_kind (length rest)) ++ kind_word k =
    second ∙ ap (λ (l : List ℕ). l ++ kind_word k) (first ∙ ap (λ (n : ℕ). done ++ before_kind n) (sym after)) in
    ap (λ (l : List ℕ). l ++ other_kinds rest) now
    ∙ kinds-apart done (before_kind (length rest)) (kind_word k) (other_kinds rest)
    ∙ ap (λ (l : List Kind). done ++ other_kinds l) (sym here)
    ∙ so_far

pub kinds-whole : (ks : List Kind) (i : ℕ) (done o : List ℕ) → length ks ≤ i → done ++ other_kinds (drop i ks) ≡ o → done ≡ o
kinds-whole ks i done o past so_far = sym (append-nil done) ∙ ap (λ (l : List Kind). done ++ other_kinds l) (sym (drop_all i ks past)) ∙ so_far
