-- The candidates are in order, and each capture en passant that a board admits is one of them.
use Rattle.std.proofs.Common.{◌≡◌, ℕ, ◌+◌, ◌-◌, ◌/◌, ◌%◌, ◌<◌, ◌==◌, inl, inr, Bool, true, false, cond, ◌&&◌, List, [], ◌∷◌, refl, sym, ap, subst, arith}
use Rattle.std.proofs.lemmas.Bool.{and_parts, cases_lt, cond-true, cond_both, eqb-true, lt-ltb}
use Rattle.std.proofs.lemmas.List.Elements.{All-nil, All-cons, Contains-append_left, Contains-append_right}
use Rattle.std.proofs.lemmas.List.Kept.{AllPairs-cons, AllPairs-filter}
use Rattle.std.specs.Prelude.{Option, None, is_none, nat_lt}
use Rattle.std.specs.List.{All, Contains, filter, list_all}
use Rattle.std.specs.declared.cmp.Ordering.{Ordering}
use Rattle.std.specs.declared.cmp.Ordering.TheVariants.{Less, Equal, Greater}
use Rattle.board_base.specs.Attacks.{distance, files_apart, one_ahead}
use Rattle.board_base.specs.Board.{Places, rank}
use Rattle.board_base.specs.Play.{double_of, en_passant_rank}
use Rattle.board_base.specs.Texts.{move_order}
use Rattle.board_base.specs.declared.men.Colour.{Colour}
use Rattle.board_base.specs.declared.men.Colour.TheVariants.{White, Black}
use Rattle.board_base.specs.declared.moves.Move.{Move}
use Rattle.board_base.proofs.Equal.{none_is}
use Rattle.ep_history.specs.Fits.{ep_fits, fits_after}
use Rattle.play_rules.specs.Listed.{IsAscending}
use Rattle.play_rules.proofs.Order.{contains-flat}
use Rattle.general_lemmas.proofs.Lists.{contains-first}
use Rattle.codex_verdict.specs.Candidates.{aside, captures_from, captures_of, first_origin, first_target}

-- order, as a test

is_less : Ordering → Bool
is_less Less = true
is_less Equal = false
is_less Greater = false

less-is : (o : Ordering) → is_less o ≡ true → o ≡ Less
unfolding is_less
less-is Less h = refl
less-is Equal h = cc
less-is Greater h = cc

in_order : List Move → Bool
in_order [] = true
in_order (m ∷ moves) = list_all (λ n. is_less (move_order m n)) moves && in_order moves

all-less : (m : Move) (moves : List Move) → list_all (λ n. is_less (move_order m n)) moves ≡ true → All (λ n. move_order m n ≡ Less) moves
all-less m [] h = All-nil (λ n. move_order m n ≡ Less)
all-less m (n ∷ moves) h =
    let parts = and_parts (is_less (move_order m n)) (list_all (λ k. is_less (move_order m k)) moves) h in
    All-cons (λ k. move_order m k ≡ Less) n moves (less-is (move_order m n) parts.0) (all-less m moves parts.1)

ordered : (moves : List Move) → in_order moves ≡ true → IsAscending moves
unfolding in_order
ordered [] h = λ i j d before inside. absurd (omega arith)
ordered (m ∷ moves) h =
    let parts = and_parts (list_all (λ n. is_less (move_order m n)) moves) (in_order moves) h in
    AllPairs-cons (λ a b. move_order a b ≡ Less) m moves (all-less m moves parts.0) (ordered moves parts.1)

candidates-ordered : (side : Colour) → in_order (captures_of side) ≡ true
unfolding in_order captures_of is_less
candidates-ordered White = refl
candidates-ordered Black = refl

-- those of the candidates that pass a test are in order
pub kept-ascend : (side : Colour) (p : Move → Bool) → IsAscending (filter p (captures_of side))
kept-ascend side p = AllPairs-filter (λ a b. move_order a b ≡ Less) p (captures_of side) (ordered (captures_of side) (candidates-ordered side))

-- each capture is a candidate

record FromTo (side : Colour) (m : Move) : Type 0 where
  from : rank m.from ≡ en_passant_rank side
  ahead : one_ahead side m.from m.to ≡ true
  apart : files_apart m.from m.to ≡ 1
  plain : m.promo ≡ None

answered : (board : Places) (side : Colour) (m : Move) → fits_after board side m (double_of m side) ≡ true → FromTo side m
answered board side m fits =
    let drafts : Bool = (rank m.from == en_passant_rank side) && one_ahead side m.from m.to && (files_apart m.from m.to == 1) && is_none m.promo in
    cond_both drafts _ _ (λ (o : Option Move). fits_after board side m o ≡ true → FromTo side m) (λ yes_ fits.
    let a = and_parts ((rank m.from == en_passant_rank side) && one_ahead side m.from m.to && (files_apart m.from m.to == 1)) (is_none m.promo) yes_ in
    let b = and_parts ((rank m.from == en_passant_rank side) && one_ahead side m.from m.to) (files_apart m.from m.to == 1) a.0 in
    let c = and_parts (rank m.from == en_passant_rank side) (one_ahead side m.from m.to) b.0 in
    record { from = eqb-true _ _ c.0; ahead = c.1; apart = eqb-true _ _ b.1; plain = none_is m.promo a.1 })
    (λ no_ fits. absurd cc) fits

before : (side : Colour) (file from to : ℕ) (m : Move) → 0 < file → from ≡ first_origin side + file → to ≡ first_target side + file - 1 → m ≡ aside from to → Contains (captures_from side file) m
before side file from to m some e f is =
    let first : cond (nat_lt 0 file) (aside (first_origin side + file) (first_target side + file - 1) ∷ []) [] ≡ aside (first_origin side + file) (first_target side + file - 1) ∷ [] = cond-true _ _ _ (lt-ltb 0 file some) in
    let here : m ≡ aside (first_origin side + file) (first_target side + file - 1) = cc in
    Contains-append_left _ _ m (subst (λ (l : List Move). Contains l m) (sym first) (subst (λ (k : Move). Contains (k ∷ []) m) here (contains-first m [])))

behind : (side : Colour) (file from to : ℕ) (m : Move) → file < 7 → from ≡ first_origin side + file → to ≡ first_target side + file + 1 → m ≡ aside from to → Contains (captures_from side file) m
behind side file from to m some e f is =
    let last : cond (nat_lt file 7) (aside (first_origin side + file) (first_target side + file + 1) ∷ []) [] ≡ aside (first_origin side + file) (first_target side + file + 1) ∷ [] = cond-true _ _ _ (lt-ltb file 7 some) in
    let here : m ≡ aside (first_origin side + file) (first_target side + file + 1) = cc in
    Contains-append_right _ _ m (subst (λ (l : List Move). Contains l m) (sym last) (subst (λ (k : Move). Contains (k ∷ []) m) here (contains-first m [])))

-- a move between two squares without promotion
plain-aside : (m : Move) → m.promo ≡ None → m ≡ aside m.from m.to
plain-aside m plain = ap (λ (p : Option _). record { from = m.from; to = m.to; promo = p }) plain

on-file : (side : Colour) (m : Move) → FromTo side m → Contains (captures_from side (m.from % 8)) m
unfolding distance
on-file White m is =
    let rank_from : m.from / 8 ≡ 4 = is.from in
    let rank_to : m.to / 8 ≡ m.from / 8 + 1 = eqb-true _ _ is.ahead in
    let apart : (m.from % 8 - m.to % 8) + (m.to % 8 - m.from % 8) ≡ 1 = is.apart in
    elim (cases_lt (m.to % 8) (m.from % 8)) [
      | inl left ↦ before White (m.from % 8) m.from m.to m (omega arith) (omega arith) (omega arith) (plain-aside m is.plain)
      | inr right ↦ behind White (m.from % 8) m.from m.to m (omega arith) (omega arith) (omega arith) (plain-aside m is.plain)
    ]
on-file Black m is =
    let rank_from : m.from / 8 ≡ 3 = is.from in
    let rank_to : m.from / 8 ≡ m.to / 8 + 1 = eqb-true _ _ is.ahead in
    let apart : (m.from % 8 - m.to % 8) + (m.to % 8 - m.from % 8) ≡ 1 = is.apart in
    elim (cases_lt (m.to % 8) (m.from % 8)) [
      | inl left ↦ before Black (m.from % 8) m.from m.to m (omega arith) (omega arith) (omega arith) (plain-aside m is.plain)
      | inr right ↦ behind Black (m.from % 8) m.from m.to m (omega arith) (omega arith) (omega arith) (plain-aside m is.plain)
    ]

pub is-candidate : (board : Places) (side : Colour) (m : Move) → ep_fits board side m ≡ true → Contains (captures_of side) m
unfolding ep_fits captures_of
is-candidate board side m fits = contains-flat (captures_from side) m (m.from % 8) 0 8 (omega arith) (omega arith) (on-file side m (answered board side m fits))

-- and promotes no pawn
pub capture-plain : (board : Places) (side : Colour) (m : Move) → ep_fits board side m ≡ true → m.promo ≡ None
unfolding ep_fits
capture-plain board side m fits = (answered board side m fits).plain
