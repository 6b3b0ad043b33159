-- In every game the pawns of a side and its men above the homes that still count are no more than its pawns' homes.
use Rattle.std.proofs.Common.{◌≡◌, ◌⊎◌, ℕ, ◌+◌, ◌-◌, ◌<◌, ◌≤◌, Bool, true, false, ◌&&◌, not, inl, inr, List, refl, ap, sym, ◌∙◌, subst, arith}
use Rattle.std.proofs.lemmas.Bool.{and_parts, and_from, cases_Bool}
use Rattle.std.proofs.lemmas.List.Sums.{sum_by-le-sum_by}
use Rattle.std.specs.Prelude.{Option, Some, None, is_none}
use Rattle.std.specs.List.{sum_by, range_with_len}
use Rattle.board_base.specs.Board.{Places, array_of, at, is_of, is_a, is_the, is_empty, same_colour, same_kind}
use Rattle.board_base.specs.Legal.{is_officer}
use Rattle.board_base.specs.Game.{IsGame, board_after}
use Rattle.board_base.specs.declared.men.Colour.{Colour}
use Rattle.board_base.specs.declared.men.Kind.{Kind}
use Rattle.board_base.specs.declared.men.Kind.TheVariants.{Pawn, Knight, Bishop, Rook, Queen, King}
use Rattle.board_base.specs.declared.men.Man.{Man}
use Rattle.board_base.specs.declared.moves.Move.{Move}
use Rattle.board_base.proofs.KindsOfMen.{kind_is, colour_is}
use Rattle.men_account.specs.Account.{men, is_light, is_dark, is_any, counts_of, excess_of, allowance_of}
use Rattle.men_account.specs.Labels.{Labels, label_at, labels_after, LabelsEachMan, AreApart, HoldsOfEach, HasColourOf, IsPromotedFrom}
use Rattle.men_account.specs.Captures.{KeepsColour}
use Rattle.men_account.specs.Homes.{is_officer_of, HasOfficersFrom}
use Rattle.general_lemmas.proofs.Counts.{one_if}
use Rattle.general_lemmas.proofs.SumsAmong.{value_at, sum-through, sum-both}
use Rattle.men_account.proofs.Labelled.{labels-apart, labels-colours, labels-promotions, labels-each_man}
use Rattle.men_account.proofs.Captured.{man-there}
use Rattle.men_account.proofs.FilesLeft.{array-inside}
use Rattle.men_account.proofs.Bishops.{bishops-keep, pawn-label}

-- what is known of each man and his label
abbrev Known : Places → ℕ → ℕ → Man → Type 0
Known first s l man = HasColourOf first s l man × IsPromotedFrom first s l man × KeepsColour first s l man

-- the label is a pawn's home
abbrev from_pawn : Places → Option ℕ → Bool
from_pawn first None = false
from_pawn first (Some l) = is_a Pawn (at first l)

-- men of one kind who were pawns
abbrev promoted_count : Places → Places → Labels → Colour → Kind → (ℕ → Bool) → ℕ → ℕ
promoted_count first board labels c k among s = one_if ((is_the c k (at board s) && among s) && from_pawn first (label_at labels s))

-- homes of men of one kind
abbrev home_count : Places → Colour → Kind → (ℕ → Bool) → ℕ → ℕ
home_count first c k alive l = one_if (is_the c k (at first l) && alive l)

one-true : (b : Bool) → b ≡ true → one_if b ≡ 1
one-true b h = ap one_if h

-- a man of a kind began on such a home, or was a pawn
began : (first : Places) (c : Colour) (k : Kind) (among alive : ℕ → Bool) (s l : ℕ) (man : Man) → Known first s l man → is_the c k (Some man) ≡ true → among s ≡ true → (is_the c k (at first l) ≡ true → among s ≡ true → alive l ≡ true) → (is_the c k (at first l) && alive l ≡ true) ⊎ (is_a Pawn (at first l) ≡ true)
began first c k among alive s l man known is here counts =
    let parts = and_parts (is_of c (Some man)) (is_a k (Some man)) is in
    let kind : k ≡ man.kind = kind_is k man.kind parts.1 in
    let side : c ≡ man.colour = colour_is c man.colour parts.0 in
    let colour : is_of c (at first l) ≡ true = subst (λ (x : Colour). is_of x (at first l) ≡ true) (sym side) known.0 in
    elim (cases_Bool (is_a man.kind (at first l))) [
      | inl same ↦
          let home : is_the c k (at first l) ≡ true = and_from _ _ colour (subst (λ (x : Kind). is_a x (at first l) ≡ true) (sym kind) same) in
          inl (and_from _ _ home (counts home here))
      | inr other ↦ inr (known.1 other).1
    ]

kind-told : (first : Places) (c : Colour) (k : Kind) (alive : ℕ → Bool) (l : ℕ) (b : Bool) → (b ≡ true → (is_the c k (at first l) && alive l ≡ true) ⊎ (is_a Pawn (at first l) ≡ true)) → one_if b ≤ one_if (is_the c k (at first l) && alive l) + one_if (b && is_a Pawn (at first l))
kind-told first c k alive l false h = omega arith
kind-told first c k alive l true h = elim (h refl) [
  | inl home ↦ let e = one-true (is_the c k (at first l) && alive l) home in omega arith
  | inr pawn ↦ let e = one-true (is_a Pawn (at first l)) pawn in omega (arith, e)
]

kind-at : (first : Places) (c : Colour) (k : Kind) (among alive : ℕ → Bool) (s : ℕ) (place : Option Man) (label : Option ℕ) → is_none label ≡ is_empty place → ((l : ℕ) (man : Man) → label ≡ Some l → place ≡ Some man → is_the c k (Some man) ≡ true → among s ≡ true → (is_the c k (at first l) && alive l ≡ true) ⊎ (is_a Pawn (at first l) ≡ true)) → one_if (is_the c k place && among s) ≤ value_at (home_count first c k alive) label + one_if ((is_the c k place && among s) && from_pawn first label)
kind-at first c k among alive s None label same told = omega arith
kind-at first c k among alive s (Some man) None same told = cc
kind-at first c k among alive s (Some man) (Some l) same told =
    kind-told first c k alive l (is_the c k (Some man) && among s) (λ h. let parts = and_parts (is_the c k (Some man)) (among s) h in told l man refl refl parts.0 parts.1)

-- each square with a man of the kind is told by his home or by his having been a pawn
kind-each : (first board : Places) (labels : Labels) (c : Colour) (k : Kind) (among alive : ℕ → Bool) → HoldsOfEach board labels (Known first) → LabelsEachMan board labels → ((s l : ℕ) (man : Man) → label_at labels s ≡ Some l → at board s ≡ Some man → is_the c k (Some man) ≡ true → is_the c k (at first l) ≡ true → among s ≡ true → alive l ≡ true) → (s : ℕ) → one_if (is_the c k (at board s) && among s) ≤ value_at (home_count first c k alive) (label_at labels s) + promoted_count first board labels c k among s
kind-each first board labels c k among alive known each counts s =
    kind-at first c k among alive s (at board s) (label_at labels s) (each s) (λ l man label there is here. began first c k among alive s l man (known s l man label there) is here (λ home. counts s l man label there is home))

-- the men of a kind are no more than the homes that count and those who were pawns
kind-count : (first board : Places) (labels : Labels) (c : Colour) (k : Kind) (among alive : ℕ → Bool) → HoldsOfEach board labels (Known first) → LabelsEachMan board labels → AreApart labels → ((s l : ℕ) → label_at labels s ≡ Some l → l < 64) → ((s l : ℕ) (man : Man) → label_at labels s ≡ Some l → at board s ≡ Some man → is_the c k (Some man) ≡ true → is_the c k (at first l) ≡ true → among s ≡ true → alive l ≡ true) → men c k among board ≤ men c k alive first + sum_by (promoted_count first board labels c k among) (range_with_len 0 64)
unfolding men
kind-count first board labels c k among alive known each apart inside counts =
    let homes : ℕ → ℕ = home_count first c k alive in
    let promoted : ℕ → ℕ = promoted_count first board labels c k among in
    let most = sum_by-le-sum_by (λ s. one_if (is_the c k (at board s) && among s)) (λ s. value_at homes (label_at labels s) + promoted s) (range_with_len 0 64) (kind-each first board labels c k among alive known each counts) in
    let parts = sum-both (λ s. value_at homes (label_at labels s)) promoted (range_with_len 0 64) in
    let through = sum-through homes (label_at labels) 64 64 apart (λ s l small label. inside s l label) in
    omega (arith, most, parts, through)

-- a man is of one kind: as a pawn, or as one who was a pawn, he counts once at most
once : (own was light : Bool) (k : Kind) (n : ℕ) → (own ≡ true → same_kind Pawn k ≡ true → 1 ≤ n) → (own ≡ true → was ≡ true → 1 ≤ n) → one_if ((own && same_kind Pawn k) && true) + one_if (((own && same_kind Queen k) && true) && was) + one_if (((own && same_kind Rook k) && true) && was) + one_if (((own && same_kind Knight k) && true) && was) + one_if (((own && same_kind Bishop k) && light) && was) + one_if (((own && same_kind Bishop k) && not light) && was) ≤ n
once false was light k n pawn promoted = omega arith
once true was light Pawn n pawn promoted = let one = pawn refl refl in omega arith
once true false light Queen n pawn promoted = omega arith
once true true light Queen n pawn promoted = let one = promoted refl refl in omega arith
once true false light Rook n pawn promoted = omega arith
once true true light Rook n pawn promoted = let one = promoted refl refl in omega arith
once true false light Knight n pawn promoted = omega arith
once true true light Knight n pawn promoted = let one = promoted refl refl in omega arith
once true false true Bishop n pawn promoted = omega arith
once true false false Bishop n pawn promoted = omega arith
once true true true Bishop n pawn promoted = let one = promoted refl refl in omega arith
once true true false Bishop n pawn promoted = let one = promoted refl refl in omega arith
once true was light King n pawn promoted = omega arith

once-at : (first : Places) (c : Colour) (s : ℕ) (place : Option Man) (label : Option ℕ) → is_none label ≡ is_empty place → ((l : ℕ) (man : Man) → label ≡ Some l → place ≡ Some man → Known first s l man) → one_if (is_the c Pawn place && true) + one_if ((is_the c Queen place && true) && from_pawn first label) + one_if ((is_the c Rook place && true) && from_pawn first label) + one_if ((is_the c Knight place && true) && from_pawn first label) + one_if ((is_the c Bishop place && is_light s) && from_pawn first label) + one_if ((is_the c Bishop place && is_dark s) && from_pawn first label) ≤ value_at (home_count first c Pawn is_any) label
once-at first c s None label same known = omega arith
once-at first c s (Some man) None same known = cc
once-at first c s (Some man) (Some l) same known =
    let it = known l man refl refl in
    let colour : same_colour c man.colour ≡ true → is_of c (at first l) ≡ true = λ own. subst (λ (x : Colour). is_of x (at first l) ≡ true) (sym (colour_is c man.colour own)) it.0 in
    let one : is_the c Pawn (at first l) ≡ true → 1 ≤ one_if (is_the c Pawn (at first l) && true) = λ home. let e = one-true (is_the c Pawn (at first l) && true) (and_from _ _ home refl) in omega (arith, e) in
    once (same_colour c man.colour) (is_a Pawn (at first l)) (is_light s) man.kind (one_if (is_the c Pawn (at first l) && true))
    (λ own pawn. one (and_from _ _ (colour own) (pawn-label first s l man it.1 pawn)))
    (λ own was. one (and_from _ _ (colour own) was))

six-sums : (a b c d e f : ℕ → ℕ) (xs : List ℕ) → sum_by (λ s. a s + b s + c s + d s + e s + f s) xs ≡ sum_by a xs + sum_by b xs + sum_by c xs + sum_by d xs + sum_by e xs + sum_by f xs
six-sums a b c d e f xs =
    omega (arith, sum-both (λ s. a s + b s + c s + d s + e s) f xs, sum-both (λ s. a s + b s + c s + d s) e xs, sum-both (λ s. a s + b s + c s) d xs, sum-both (λ s. a s + b s) c xs, sum-both a b xs)

below : (s t v w : ℕ) → t ≡ s → t ≤ v → v ≤ w → s ≤ w
below s t v w same few most = omega arith

-- the pawns and the men who were pawns are no more than the pawns' homes
pawns-count : (first board : Places) (labels : Labels) (c : Colour) → HoldsOfEach board labels (Known first) → LabelsEachMan board labels → AreApart labels → ((s l : ℕ) → label_at labels s ≡ Some l → l < 64) → men c Pawn is_any board + sum_by (promoted_count first board labels c Queen is_any) (range_with_len 0 64) + sum_by (promoted_count first board labels c Rook is_any) (range_with_len 0 64) + sum_by (promoted_count first board labels c Knight is_any) (range_with_len 0 64) + sum_by (promoted_count first board labels c Bishop is_light) (range_with_len 0 64) + sum_by (promoted_count first board labels c Bishop is_dark) (range_with_len 0 64) ≤ men c Pawn is_any first
unfolding men
pawns-count first board labels c known each apart inside =
    let homes : ℕ → ℕ = home_count first c Pawn is_any in
    let six = six-sums (λ s. one_if (is_the c Pawn (at board s) && is_any s)) (promoted_count first board labels c Queen is_any) (promoted_count first board labels c Rook is_any) (promoted_count first board labels c Knight is_any) (promoted_count first board labels c Bishop is_light) (promoted_count first board labels c Bishop is_dark) (range_with_len 0 64) in
    let most = sum_by-le-sum_by (λ s. one_if (is_the c Pawn (at board s) && is_any s) + promoted_count first board labels c Queen is_any s + promoted_count first board labels c Rook is_any s + promoted_count first board labels c Knight is_any s + promoted_count first board labels c Bishop is_light s + promoted_count first board labels c Bishop is_dark s) (λ s. value_at homes (label_at labels s)) (range_with_len 0 64) (λ s. once-at first c s (at board s) (label_at labels s) (each s) (known s)) in
    let through = sum-through homes (label_at labels) 64 64 apart (λ s l small label. inside s l label) in
    below _ _ _ _ six most through

over-most : (n a p : ℕ) → n ≤ a + p → n - a ≤ p
over-most n a p h = omega arith

all-over : (pawns q r n l d hq hr hn hl hd pq pr pn pl pd homes : ℕ) → q ≤ hq + pq → r ≤ hr + pr → n ≤ hn + pn → l ≤ hl + pl → d ≤ hd + pd → pawns + pq + pr + pn + pl + pd ≤ homes → pawns + (q - hq) + (r - hr) + (n - hn) + (l - hl) + (d - hd) ≤ homes
all-over pawns q r n l d hq hr hn hl hd pq pr pn pl pd homes a b c e f all =
    omega (arith, over-most q hq pq a, over-most r hr pr b, over-most n hn pn c, over-most l hl pl e, over-most d hd pd f)

officer-of : (c : Colour) (k : Kind) (place : Option Man) → is_officer k ≡ true → is_the c k place ≡ true → is_officer_of c place ≡ true
officer-of c k None officer home = cc
officer-of c k (Some man) officer home =
    let parts = and_parts (is_of c (Some man)) (is_a k (Some man)) home in
    and_from _ _ parts.0 (ap is_officer (sym (kind_is k man.kind parts.1)) ∙ officer)

-- where the homes of officers that are labels on the board pass the test
excess-most : (first board : Places) (labels : Labels) (c : Colour) (alive : ℕ → Bool) → HoldsOfEach board labels (Known first) → LabelsEachMan board labels → AreApart labels → ((s l : ℕ) → label_at labels s ≡ Some l → l < 64) → HasOfficersFrom first c alive labels → excess_of (counts_of c board) (allowance_of c alive first) ≤ men c Pawn is_any first
excess-most first board labels c alive known each apart inside from =
    let counted : (k : Kind) (among : ℕ → Bool) (counts : ℕ → Bool) → ((s l : ℕ) (man : Man) → label_at labels s ≡ Some l → at board s ≡ Some man → is_the c k (Some man) ≡ true → is_the c k (at first l) ≡ true → among s ≡ true → counts l ≡ true) → men c k among board ≤ men c k counts first + sum_by (promoted_count first board labels c k among) (range_with_len 0 64) =
    λ k among counts. kind-count first board labels c k among counts known each apart inside in
    let alive-home : (k : Kind) (s l : ℕ) → is_officer k ≡ true → label_at labels s ≡ Some l → is_the c k (at first l) ≡ true → alive l ≡ true = λ k s l officer label home. from s l label (officer-of c k (at first l) officer home) in
    let bishop : (s l : ℕ) (man : Man) → label_at labels s ≡ Some l → at board s ≡ Some man → is_the c Bishop (Some man) ≡ true → is_the c Bishop (at first l) ≡ true → is_light s ≡ is_light l = λ s l man label there is home. (known s l man label there).2 (and_parts (is_of c (Some man)) (is_a Bishop (Some man)) is).1 (and_parts (is_of c (at first l)) (is_a Bishop (at first l)) home).1 in
    all-over _ _ _ _ _ _ _ _ _ _ _ _ _ _ _ _ _
    (counted Queen is_any alive (λ s l man label there is home here. alive-home Queen s l refl label home))
    (counted Rook is_any alive (λ s l man label there is home here. alive-home Rook s l refl label home))
    (counted Knight is_any alive (λ s l man label there is home here. alive-home Knight s l refl label home))
    (counted Bishop is_light (λ l. is_light l && alive l) (λ s l man label there is home here. and_from _ _ (sym (bishop s l man label there is home) ∙ here) (alive-home Bishop s l refl label home)))
    (counted Bishop is_dark (λ l. is_dark l && alive l) (λ s l man label there is home here. and_from _ _ (ap not (sym (bishop s l man label there is home)) ∙ here) (alive-home Bishop s l refl label home)))
    (pawns-count first board labels c known each apart inside)

-- a label is a square of the board
pub label-inside : (o : List Bool) (g : List Move) → IsGame o g → (s l : ℕ) → label_at (labels_after o g) s ≡ Some l → l < 64
label-inside o g game s l label =
    let man = man-there (board_after o g) (labels_after o g) s l (labels-each_man o g game) label in
    array-inside o (is_of man.0.colour) l refl (labels-colours o g game s l man.0 label man.1)

pub promotions-most : (o : List Bool) (g : List Move) (c : Colour) (alive : ℕ → Bool) → IsGame o g → HasOfficersFrom (array_of o) c alive (labels_after o g) → excess_of (counts_of c (board_after o g)) (allowance_of c alive (array_of o)) ≤ men c Pawn is_any (array_of o)
promotions-most o g c alive game from =
    excess-most (array_of o) (board_after o g) (labels_after o g) c alive (λ s l man label there. (labels-colours o g game s l man label there, labels-promotions o g game s l man label there, bishops-keep o g game s l man label there)) (labels-each_man o g game) (labels-apart o g game) (label-inside o g game) from
