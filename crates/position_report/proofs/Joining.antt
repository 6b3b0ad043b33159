-- Texts and lists that are put together.
use Rattle.std.proofs.Common.{◌≡◌, ℕ, ◌+◌, ◌-◌, ◌<◌, ◌≤◌, Bool, true, false, cond, List, [], ◌∷◌, ◌++◌, length, get_or, take, drop, sym, ap, subst, ◌∙◌, append-nil, arith, length-drop}
use Rattle.std.specs.Prelude.{◌&&◌, ◌||◌, not, Option, None, Some}
use Rattle.std.specs.List.{All, flat_map, list_any}
use Rattle.std.proofs.lemmas.List.{flat_map_more, take_all}
use Rattle.std.proofs.lemmas.List.Elements.{All-append, All-cons, All-drop, All-get_or, All-nil, All-take}
use Rattle.general_lemmas.proofs.Splits.{up_to}
use Rattle.query_base.specs.Asked.{Asked}
use Rattle.diagram_study.specs.declared.findings.Found.{Found}
use Rattle.diagram_study.specs.declared.pairs.PairFound.{PairFound}
use Rattle.diagram_study.specs.declared.retractions.MoveFound.{MoveFound}
use Rattle.diagram_study.specs.declared.rights.RightFound.{RightFound}
use Rattle.diagram_study.specs.ClaimFindings.{is_proved}
use Rattle.position_report.specs.Parts.{part_text, parts_text}
use Rattle.position_report.specs.Sayings.{has_last}
use Rattle.position_report.specs.Shown.{illegal_shown, is_given, last_shown, other_shown, pair_shown, proves_passing, right_shown, shown_claims}
use Rattle.position_report.specs.declared.shown.Shown.{Shown}

-- what one item more adds
pub added-more : {A B : Type 0} (f : A → List B) (front : List B) (xs : List A) (i : ℕ) (x : A) (old new : List B) → i < length xs → x ≡ get_or xs i x → old ≡ front ++ flat_map f (take i xs) → new ≡ old ++ f x → new ≡ front ++ flat_map f (take (i + 1) xs)
added-more {A} {B} f front xs i x old new inside here so_far more =
    more ∙ ap (λ (t : List B). t ++ f x) so_far ∙ flat_map_more f front (take i xs) x ∙ ap (λ (l : List A). front ++ flat_map f l) (sym (up_to xs i x inside here))

-- a list with its first element, and the rest
pub first-rest : {A : Type 0} (xs : List A) (x : A) → 1 ≤ length xs → x ≡ get_or xs 0 x → x ∷ drop 1 xs ≡ xs
first-rest {A} [] x some is = absurd (omega (arith, some))
first-rest {A} (y ∷ xs) x some is = ap (λ (z : A). z ∷ xs) is

-- those behind the first, as a pattern of a slice has them
abbrev pub others_of : {A : Type 0} → List A → List A
others_of {A} xs = take (length xs - 1) (drop 1 xs)

pub first-others : {A : Type 0} (xs : List A) (x : A) → 1 ≤ length xs → x ≡ get_or xs 0 x → x ∷ others_of xs ≡ xs
first-others {A} xs x some is =
    ap (λ (ys : List A). x ∷ ys) (take_all (length xs - 1) (drop 1 xs) (omega (arith, length-drop 1 xs))) ∙ first-rest xs x some is

-- three lists, from the beginning
pub three-joined : {A : Type 0} (o p r s a b c : List A) → o ≡ [] → p ≡ o ++ a → r ≡ p ++ b → s ≡ r ++ c → s ≡ (a ++ b) ++ c
three-joined {A} o p r s a b c none first second third =
    third ∙ ap (λ (l : List A). l ++ c) (second ∙ ap (λ (l : List A). l ++ b) (first ∙ ap (λ (l : List A). l ++ a) none))

-- what is told from the beginning, alone and behind another text
pub from-nothing : (P : List ℕ → Type 0) (o r : List ℕ) → o ≡ [] → (own : List ℕ) × P own × (r ≡ o ++ own) → P r
from-nothing P o r none (own, told, e) = subst P (sym (e ∙ ap (λ (l : List ℕ). l ++ own) none)) told

pub from-text : (P : List ℕ → Type 0) (o p r a : List ℕ) → o ≡ [] → p ≡ o ++ a → (own : List ℕ) × P own × (r ≡ p ++ own) → (own : List ℕ) × P own × (r ≡ a ++ own)
from-text P o p r a none first (own, told, e) = (own, told, e ∙ ap (λ (l : List ℕ). l ++ own) (first ∙ ap (λ (l : List ℕ). l ++ a) none))

-- a part more
part-more : (o p r : List ℕ) (parts : List (List ℕ)) (part : List ℕ) → p ≡ o ++ parts_text parts → r ≡ p ++ part_text part → r ≡ o ++ parts_text (parts ++ part ∷ [])
unfolding parts_text
part-more o p r parts part so_far more =
    more ∙ ap (λ (l : List ℕ). l ++ part_text part) so_far ∙ flat_map_more part_text o parts part

no-part : (o : List ℕ) → o ≡ o ++ parts_text []
unfolding parts_text
no-part o = sym (append-nil o)

-- three parts, five and eight
three-parts : (o p1 p2 p3 a b c : List ℕ) → p1 ≡ o ++ part_text a → p2 ≡ p1 ++ part_text b → p3 ≡ p2 ++ part_text c → p3 ≡ o ++ parts_text (a ∷ b ∷ c ∷ [])
three-parts o p1 p2 p3 a b c e1 e2 e3 =
    part-more o p2 p3 (a ∷ b ∷ []) c (part-more o p1 p2 (a ∷ []) b (part-more o o p1 [] a (no-part o) e1) e2) e3

four-parts : (o p1 p2 p3 p4 a b c d : List ℕ) → p1 ≡ o ++ part_text a → p2 ≡ p1 ++ part_text b → p3 ≡ p2 ++ part_text c → p4 ≡ p3 ++ part_text d → p4 ≡ o ++ parts_text (a ∷ b ∷ c ∷ d ∷ [])
four-parts o p1 p2 p3 p4 a b c d e1 e2 e3 e4 = part-more o p3 p4 (a ∷ b ∷ c ∷ []) d (three-parts o p1 p2 p3 a b c e1 e2 e3) e4

pub five-parts : (o p1 p2 p3 p4 p5 a b c d e : List ℕ) → p1 ≡ o ++ part_text a → p2 ≡ p1 ++ part_text b → p3 ≡ p2 ++ part_text c → p4 ≡ p3 ++ part_text d → p5 ≡ p4 ++ part_text e → p5 ≡ o ++ parts_text (a ∷ b ∷ c ∷ d ∷ e ∷ [])
five-parts o p1 p2 p3 p4 p5 a b c d e e1 e2 e3 e4 e5 = part-more o p4 p5 (a ∷ b ∷ c ∷ d ∷ []) e (four-parts o p1 p2 p3 p4 a b c d e1 e2 e3 e4) e5

pub eight-parts : (o p1 p2 p3 p4 p5 p6 p7 p8 a b c d e f g h : List ℕ) → p1 ≡ o ++ part_text a → p2 ≡ p1 ++ part_text b → p3 ≡ p2 ++ part_text c → p4 ≡ p3 ++ part_text d → p5 ≡ p4 ++ part_text e → p6 ≡ p5 ++ part_text f → p7 ≡ p6 ++ part_text g → p8 ≡ p7 ++ part_text h → p8 ≡ o ++ parts_text (a ∷ b ∷ c ∷ d ∷ e ∷ f ∷ g ∷ h ∷ [])
eight-parts o p1 p2 p3 p4 p5 p6 p7 p8 a b c d e f g h e1 e2 e3 e4 e5 e6 e7 e8 =
    let to5 : p5 ≡ o ++ parts_text (a ∷ b ∷ c ∷ d ∷ e ∷ []) = five-parts o p1 p2 p3 p4 p5 a b c d e e1 e2 e3 e4 e5 in
    let to6 : p6 ≡ o ++ parts_text (a ∷ b ∷ c ∷ d ∷ e ∷ f ∷ []) = part-more o p5 p6 (a ∷ b ∷ c ∷ d ∷ e ∷ []) f to5 e6 in
    let to7 : p7 ≡ o ++ parts_text (a ∷ b ∷ c ∷ d ∷ e ∷ f ∷ g ∷ []) = part-more o p6 p7 (a ∷ b ∷ c ∷ d ∷ e ∷ f ∷ []) g to6 e7 in
    part-more o p7 p8 (a ∷ b ∷ c ∷ d ∷ e ∷ f ∷ g ∷ []) h to7 e8

-- no move is barred in what is shown of a query in which none is
abbrev pub IsPlain : Shown → Type 0
IsPlain s = s.query.barred ≡ None

plain-if : (b : Bool) (s : Shown) → IsPlain s → All IsPlain (cond b (s ∷ []) [])
plain-if true s plain = All-cons IsPlain s [] plain (All-nil IsPlain)
plain-if false s plain = All-nil IsPlain

plain-unless : (b : Bool) (xs : List Shown) → All IsPlain xs → All IsPlain (cond b [] xs)
plain-unless true xs plain = All-nil IsPlain
plain-unless false xs plain = plain

plain-each : {X : Type 0} (f : X → List Shown) → ((x : X) → All IsPlain (f x)) → (xs : List X) → All IsPlain (flat_map f xs)
plain-each {X} f one [] = All-nil IsPlain
plain-each {X} f one (x ∷ xs) = All-append IsPlain (f x) (flat_map f xs) (one x) (plain-each f one xs)

plain-last : (q : Asked) (last : Option MoveFound) → q.barred ≡ None → All IsPlain (last_shown q last)
plain-last q None plain = All-nil IsPlain
plain-last q (Some f) plain = plain-if (is_proved f.finding) _ plain

pub plain-claims : (q : Asked) (f : Found) → q.barred ≡ None → All IsPlain (shown_claims q f)
unfolding shown_claims
plain-claims q f plain =
    let rights : List Shown = flat_map (right_shown q) f.rights.items in
    let pairs : List Shown = flat_map (pair_shown q) f.pairs.items in
    All-append IsPlain (rights ++ pairs) (other_shown q f)
    (All-append IsPlain rights pairs (plain-each (right_shown q) (λ (r : RightFound). plain-if (is_proved r.finding && not (is_given q r.right)) _ plain) f.rights.items) (plain-each (pair_shown q) (λ (p : PairFound). plain-if (is_proved p.finding) _ plain) f.pairs.items))
    (plain-unless (has_last q || list_any proves_passing f.rights.items) (last_shown q f.last) (plain-last q f.last plain))

-- none is in the first of them, nor in the others
pub plain-first : (all : List Shown) (s : Shown) → 1 ≤ length all → s ≡ get_or all 0 s → All IsPlain all → IsPlain s
plain-first all s some is plain = subst IsPlain (sym is) (All-get_or IsPlain all 0 s (omega (arith, some)) plain)

pub plain-rest : (all : List Shown) → All IsPlain all → All IsPlain (others_of all)
plain-rest all plain = All-take IsPlain (length all - 1) (drop 1 all) (All-drop IsPlain 1 all plain)

-- nor in the claim that no game leads to the position
pub plain-illegal : (q : Asked) → q.barred ≡ None → All IsPlain (illegal_shown q ∷ [])
plain-illegal q plain = All-cons IsPlain (illegal_shown q) [] plain (All-nil IsPlain)
