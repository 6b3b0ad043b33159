-- In every game the men whom pawns took, those on the board and those who are known to be gone otherwise began on different homes.
use Rattle.std.proofs.Common.{◌≡◌, ℕ, ◌+◌, ◌<◌, ◌≤◌, Bool, true, false, cond, ◌&&◌, inl, inr, List, ◌++◌, length, refl, ap, sym, ◌∙◌, subst, arith}
use Rattle.std.proofs.lemmas.Bool.{and_parts, both_ways, cases_Bool, cond-true}
use Rattle.std.proofs.lemmas.List.Sums.{sum_by-append, sum_by-le-sum_by}
use Rattle.std.proofs.lemmas.Option.{cond_some}
use Rattle.std.specs.Prelude.{Option, Some, None, is_none}
use Rattle.std.specs.List.{sum_by, filter_map, range_with_len}
use Rattle.board_base.specs.Board.{Places, array_of, at, is_of, is_empty, opponent}
use Rattle.board_base.specs.Game.{IsGame, board_after}
use Rattle.board_base.specs.declared.men.Colour.{Colour}
use Rattle.board_base.specs.declared.men.Man.{Man}
use Rattle.board_base.specs.declared.moves.Move.{Move}
use Rattle.board_base.proofs.KindsOfMen.{colour_is}
use Rattle.men_account.specs.Account.{is_any}
use Rattle.men_account.specs.Labels.{Labels, label_at, labels_after, LabelsEachMan, AreApart, HoldsOfEach, HasColourOf}
use Rattle.men_account.specs.Captures.{captured_by_pawns}
use Rattle.men_account.specs.Homes.{men_of, AreGoneOtherwise}
use Rattle.general_lemmas.proofs.Differing.{Has, Differ, LeadsApart, has-either, has-contains, has-led, has-range, differ-append, differ-led, differ-range}
use Rattle.general_lemmas.proofs.SumsAmong.{value_at, sum-led, sum-among, sum-ones}
use Rattle.general_lemmas.proofs.Counts.{one_if, one_if-most}
use Rattle.general_lemmas.proofs.Options.{when}
use Rattle.men_account.proofs.Labelled.{labels-apart, labels-colours, labels-each_man}
use Rattle.men_account.proofs.Captured.{captured-differ, captured-enemies, captured-gone}
use Rattle.men_account.proofs.FilesLeft.{array-inside}

-- 1 at the homes of this side
abbrev home_of : Places → Colour → ℕ → ℕ
home_of first e l = one_if (is_of e (at first l))

-- the label of a man of this side on this square
abbrev label_of : Places → Labels → Colour → ℕ → Option ℕ
label_of board labels e s = cond (is_of e (at board s)) (label_at labels s) None

-- the square, if it is a home of this side that passes the test
abbrev home_with : Places → Colour → (ℕ → Bool) → ℕ → Option ℕ
home_with first e dead h = cond (is_of e (at first h) && dead h) (Some h) None

label-apart : (board : Places) (labels : Labels) (e : Colour) → AreApart labels → LeadsApart (label_of board labels e)
label-apart board labels e apart s t u a b = apart s t u (when (is_of e (at board s)) (label_at labels s) u a).1 (when (is_of e (at board t)) (label_at labels t) u b).1

home-apart : (first : Places) (e : Colour) (dead : ℕ → Bool) → LeadsApart (home_with first e dead)
home-apart first e dead s t u a b = (cond_some _ s u a).1 ∙ sym (cond_some _ t u b).1

-- a man of the side has the label of a home of the side
label-home : (first board : Places) (labels : Labels) (e : Colour) (s l : ℕ) (place : Option Man) → HoldsOfEach board labels (HasColourOf first) → at board s ≡ place → is_of e place ≡ true → label_at labels s ≡ Some l → is_of e (at first l) ≡ true
label-home first board labels e s l None colours there own label = absurd (both_ways false refl own)
label-home first board labels e s l (Some man) colours there own label =
    subst (λ (x : Colour). is_of x (at first l) ≡ true) (sym (colour_is e man.colour own)) (colours s l man label there)

label-value : (first : Places) (e : Colour) (place : Option Man) (label : Option ℕ) → is_none label ≡ is_empty place → ((l : ℕ) → label ≡ Some l → is_of e place ≡ true → is_of e (at first l) ≡ true) → one_if (is_of e place && true) ≤ value_at (home_of first e) (cond (is_of e place) label None)
label-value first e None label same home = omega arith
label-value first e (Some man) None same home = cc
label-value first e (Some man) (Some l) same home = elim (cases_Bool (is_of e (Some man))) [
  | inl own ↦
      let one : one_if (is_of e (at first l)) ≡ 1 = ap one_if (home l refl own) in
      let most : one_if (is_of e (Some man) && true) ≤ 1 = one_if-most (is_of e (Some man) && true) in
      let same : value_at (home_of first e) (cond (is_of e (Some man)) (Some l) None) ≡ one_if (is_of e (at first l)) = ap (value_at (home_of first e)) (cond-true _ (Some l) None own) in
      omega (arith, one, most, same)
  | inr other ↦
      let none : one_if (is_of e (Some man) && true) ≡ 0 = ap (λ (b : Bool). one_if (b && true)) other in
      omega (arith, none)
]

home-value : (first : Places) (e : Colour) (h : ℕ) (b d : Bool) → is_of e (at first h) ≡ b → one_if (b && d) ≤ value_at (home_of first e) (cond (b && d) (Some h) None)
home-value first e h true true own = let one : one_if (is_of e (at first h)) ≡ 1 = ap one_if own in omega (arith, one)
home-value first e h true false own = omega arith
home-value first e h false d own = omega arith

-- all homes of the side are on the board
homes-most : (first : Places) (e : Colour) (xs : List ℕ) → Differ xs → ((z : ℕ) → Has xs z → z < 64) → sum_by (home_of first e) xs ≤ sum_by (home_of first e) (range_with_len 0 64)
homes-most first e xs differ inside = sum-among (home_of first e) xs (range_with_len 0 64) differ (λ z h. has-range 0 64 z (omega arith) (let small = inside z h in omega arith))

one-any : (b : Bool) → one_if b ≤ one_if (b && true)
one-any true = omega arith
one-any false = omega arith

-- the sums put together
joined : (all homes taken rest len living others led_living led_others on_board dead most : ℕ) → all ≤ homes → all ≡ taken + rest → rest ≡ living + others → taken ≡ len → living ≡ led_living → others ≡ led_others → on_board ≤ led_living → dead ≤ led_others → homes ≤ most → len + on_board + dead ≤ most
joined all homes taken rest len living others led_living led_others on_board dead most a b c d e f g h i = omega arith

missing-most : (first board : Places) (labels : Labels) (e : Colour) (dead : ℕ → Bool) (taken : List ℕ) → LabelsEachMan board labels → AreApart labels → HoldsOfEach board labels (HasColourOf first) → ((s : ℕ) → is_of e (at first s) ≡ true → s < 64) → Differ taken → ((l : ℕ) → Has taken l → is_of e (at first l) ≡ true) → ((l s : ℕ) → Has taken l → label_at labels s ≡ Some l → ⊥) → AreGoneOtherwise first e dead labels taken → length taken + men_of e is_any board + men_of e dead first ≤ men_of e is_any first
unfolding men_of
missing-most first board labels e dead taken each apart colours inside differ enemies gone otherwise =
    let squares : List ℕ = range_with_len 0 64 in
    let f : ℕ → ℕ = home_of first e in
    let living : List ℕ = filter_map (label_of board labels e) squares in
    let others : List ℕ = filter_map (home_with first e dead) squares in
    let living-is : (z : ℕ) → Has living z → (s : ℕ) × (is_of e (at board s) ≡ true) × (label_at labels s ≡ Some z) = λ z h.
    let found = has-led (label_of board labels e) squares z h in
    let parts = when (is_of e (at board found.0)) (label_at labels found.0) z found.2 in (found.0, parts.0, parts.1) in
    let others-are : (z : ℕ) → Has others z → (is_of e (at first z) ≡ true) × (dead z ≡ true) = λ z h.
    let found = has-led (home_with first e dead) squares z h in
    let parts = cond_some (is_of e (at first found.0) && dead found.0) found.0 z found.2 in
    subst (λ (y : ℕ). (is_of e (at first y) ≡ true) × (dead y ≡ true)) parts.1 (and_parts _ _ parts.0) in
    let home : (z : ℕ) → Has (taken ++ (living ++ others)) z → is_of e (at first z) ≡ true = λ z h. elim (has-either taken (living ++ others) z h) [
      | inl a ↦ enemies z a
      | inr bc ↦ elim (has-either living others z bc) [
        | inl b ↦ let it = living-is z b in label-home first board labels e it.0 z (at board it.0) colours refl it.1 it.2
        | inr c ↦ (others-are z c).0
      ]
    ] in
    let rest-differ : Differ (living ++ others) = differ-append living others (differ-led (label_of board labels e) (label-apart board labels e apart) squares (differ-range 0 64)) (differ-led (home_with first e dead) (home-apart first e dead) squares (differ-range 0 64)) (λ z b c.
    let it = living-is z b in let that = others-are z c in (otherwise z that.0 that.1).0 it.0 it.2) in
    let all-differ : Differ (taken ++ (living ++ others)) = differ-append taken (living ++ others) differ rest-differ (λ z a bc. elim (has-either living others z bc) [
      | inl b ↦ let it = living-is z b in gone z it.0 a it.2
      | inr c ↦ let that = others-are z c in (otherwise z that.0 that.1).1 (has-contains taken z a)
    ]) in
    let all = homes-most first e (taken ++ (living ++ others)) all-differ (λ z h. inside z (home z h)) in
    let split = sum_by-append f taken (living ++ others) in
    let split-rest = sum_by-append f living others in
    let of-taken = sum-ones f taken (λ z a. ap one_if (enemies z a)) in
    let of-living = sum-led f (label_of board labels e) squares in
    let of-others = sum-led f (home_with first e dead) squares in
    let few-living = sum_by-le-sum_by (λ s. one_if (is_of e (at board s) && is_any s)) (λ s. value_at f (label_of board labels e s)) squares (λ s. label-value first e (at board s) (label_at labels s) (each s) (λ l label own. label-home first board labels e s l (at board s) colours refl own label)) in
    let few-others = sum_by-le-sum_by (λ h. one_if (is_of e (at first h) && dead h)) (λ h. value_at f (home_with first e dead h)) squares (λ h. home-value first e h (is_of e (at first h)) (dead h) refl) in
    let of-homes = sum_by-le-sum_by f (λ h. one_if (is_of e (at first h) && is_any h)) squares (λ h. one-any (is_of e (at first h))) in
    joined _ _ _ _ _ _ _ _ _ _ _ _ all split split-rest of-taken of-living of-others few-living few-others of-homes

pub men-missing : (o : List Bool) (g : List Move) (c : Colour) (dead : ℕ → Bool) → IsGame o g → AreGoneOtherwise (array_of o) (opponent c) dead (labels_after o g) (captured_by_pawns o g c) → length (captured_by_pawns o g c) + men_of (opponent c) is_any (board_after o g) + men_of (opponent c) dead (array_of o) ≤ men_of (opponent c) is_any (array_of o)
men-missing o g c dead game otherwise =
    missing-most (array_of o) (board_after o g) (labels_after o g) (opponent c) dead (captured_by_pawns o g c) (labels-each_man o g game) (labels-apart o g game) (labels-colours o g game) (λ s. array-inside o (is_of (opponent c)) s refl) (captured-differ o g c game) (captured-enemies o g c game) (captured-gone o g c game) otherwise
