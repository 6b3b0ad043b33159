-- Each query has one text of four fields.
use Rattle.std.proofs.Common.{◌≡◌, ℕ, zero, suc, ◌+◌, ◌-◌, ◌*◌, ◌<◌, ◌≤◌, ◌==◌, Bool, true, false, cond, ◌&&◌, not, List, [], ◌∷◌, ◌++◌, length, take, drop, replicate, inl, inr, refl, sym, ap, ◌∙◌, subst, arith, append_assoc, append-nil, length-append, length-drop, take_all, true≢false, nat_le, Option, Some, None}
use Rattle.std.proofs.lemmas.Bool.{and_parts, not-true, cases_eq, cases_Bool, ne_eqb, eqb-true, eq-eqb, leb-true, cond-true, cond-false}
use Rattle.std.proofs.lemmas.Option.{cond_some}
use Rattle.std.proofs.lemmas.List.{take-append-le, drop-append-le, drop_at}
use Rattle.std.specs.List.{list_all}
use Rattle.std.specs.Option.{option_map}
use Rattle.board_base.specs.Board.{Places, file}
use Rattle.board_base.specs.Rights.{Rights, no_rights}
use Rattle.board_base.specs.declared.men.Man.{Man}
use Rattle.board_base.specs.declared.men.Colour.{Colour}
use Rattle.board_base.specs.declared.men.Colour.TheVariants.{White, Black}
use Rattle.board_base.specs.declared.moves.Move.{Move}
use Rattle.query_base.specs.Asked.{Asked}
use Rattle.fen_text.specs.Ranks.{letter, is_run, places_of, is_symbol, runs_apart, rank_places, is_rank, rank}
use Rattle.fen_text.specs.Fen.{ranks, placement, turn, mark, castle_letters, marks, is_nothing, is_dash, rights_of, rights, en_passant, en_passant_digit, double_on, number, Position, asked, from_numbers, from_en_passant, from_rights, from_turn, fen, unnumbered, fen_of_four}
use Rattle.fen_text.specs.Spelling.{symbol, run_text, rank_text, turn_letter, rights_text, en_passant_text, spelling}
use Rattle.fen_text.specs.WrittenParts.{letter_if, rank_of, ranks_text}
use Rattle.fen_text.proofs.Spelled.{letters_are, passed, spelled}
use Rattle.fen_text.proofs.PartLemmas.{some_value, parted_known, followed}
use Rattle.fen_text.proofs.RankLemmas.{run_places, letter_len, letter_symbol}
use Rattle.fen_text.proofs.PlacementLemmas.{rank_length}
use Rattle.fen_text.proofs.Lengths.{spelling_bound}
use Rattle.fen_text.proofs.FieldLemmas.{mark_hit, mark_miss, nothing_is, dash_is}
use Rattle.board_base.proofs.TextLemmas.{mapped_some}

-- one line of a table of bytes
pick : {V : Type 0} (P : V → Type 0) (c k : ℕ) (v w : V) (rest : Option V) → (c ≡ k → P v) → (rest ≡ Some w → P w) → cond (c == k) (Some v) rest ≡ Some w → P w
pick P c k v w rest here others e = elim (cases_eq c k) [
  | inl same ↦
      let is = sym (cond-true (c == k) (Some v) rest (eq-eqb c k same)) ∙ e in
      subst P (cc) (here same)
  | inr other ↦ others (sym (cond-false (c == k) (Some v) rest (ne_eqb c k other)) ∙ e)
]

man_spelled : (c : ℕ) (m : Man) → letter c ≡ Some m → c ≡ symbol m.colour m.kind
man_spelled c m =
    let P : Man → Type 0 = λ m. c ≡ symbol m.colour m.kind in
    pick P c 80 _ m _ (λ e. e) (
    pick P c 78 _ m _ (λ e. e) (
    pick P c 66 _ m _ (λ e. e) (
    pick P c 82 _ m _ (λ e. e) (
    pick P c 81 _ m _ (λ e. e) (
    pick P c 75 _ m _ (λ e. e) (
    pick P c 112 _ m _ (λ e. e) (
    pick P c 110 _ m _ (λ e. e) (
    pick P c 98 _ m _ (λ e. e) (
    pick P c 114 _ m _ (λ e. e) (
    pick P c 113 _ m _ (λ e. e) (
    pick P c 107 _ m _ (λ e. e) (λ e. cc))))))))))))

-- a run of empty squares
is_some_run : ℕ → Bool
is_some_run zero = false
is_some_run (suc n) = true

runs_merge : (n k : ℕ) (ps : Places) → rank_text k (replicate n None ++ ps) ≡ rank_text (k + n) ps
runs_merge zero k ps = ap (λ (j : ℕ). rank_text j ps) (let e : k ≡ k + 0 = omega arith in e)
runs_merge (suc n) k ps = runs_merge n (k + 1) ps ∙ ap (λ (j : ℕ). rank_text j ps) (let e : k + 1 + n ≡ k + suc n = omega arith in e)

no_run_before : (k : ℕ) (b : Bool) → b ≡ true → not (is_some_run k && b) ≡ true → k ≡ 0
unfolding is_some_run
no_run_before zero b run apart = refl
no_run_before (suc n) b run apart = absurd (true≢false (sym run ∙ not-true b apart))

run_spelled : (c : ℕ) (text : List ℕ) (ps : Places) → is_run c ≡ true → rank_text (suc (c - 49)) ps ≡ run_text (suc (c - 49)) ++ text → rank_text 0 (places_of c ++ ps) ≡ c ∷ text
run_spelled c text ps run again =
    let low = leb-true 49 c ((and_parts (nat_le 49 c) (nat_le c 56) run).0) in
    let size : 0 + (c - 48) ≡ suc (c - 49) = omega arith in
    let digit : 49 + (c - 49) ≡ c = omega arith in
    ap (λ (l : Places). rank_text 0 (l ++ ps)) (run_places c run) ∙ runs_merge (c - 48) 0 ps ∙ ap (λ (j : ℕ). rank_text j ps) size ∙ again ∙ ap (λ (d : ℕ). d ∷ text) digit

-- what is written of the places of a rank, after so many empty squares
spelled_again : (text : List ℕ) (k : ℕ) → list_all is_symbol text ≡ true → runs_apart (is_some_run k) text ≡ true → rank_text k (rank_places text) ≡ run_text k ++ text
unfolding is_some_run
spelled_again [] k all apart = sym (append-nil (run_text k))
spelled_again (c ∷ text) k all apart =
    let alls = and_parts (is_symbol c) (list_all is_symbol text) all in
    let aparts = and_parts (not (is_some_run k && is_run c)) (runs_apart (is_run c) text) apart in
    elim (cases_Bool (is_run c)) [
      | inl run ↦
          let none : k ≡ 0 = no_run_before k (is_run c) run aparts.0 in
          let again = spelled_again text (suc (c - 49)) alls.1 (subst (λ (b : Bool). runs_apart b text ≡ true) run aparts.1) in
          subst (λ (j : ℕ). rank_text j (places_of c ++ rank_places text) ≡ run_text j ++ c ∷ text) (sym none) (run_spelled c text (rank_places text) run again)
      | inr man ↦
          let m : (x : Man) × (letter c ≡ Some x) = some_value (letter c) (sym (letter_symbol c man) ∙ alls.0) in
          let place : places_of c ≡ Some m.0 ∷ [] = letter_len c man ∙ ap (λ (o : Option Man). o ∷ []) m.1 in
          let again = spelled_again text 0 alls.1 (subst (λ (b : Bool). runs_apart b text ≡ true) man aparts.1) in
          ap (λ (l : Places). rank_text k (l ++ rank_places text)) place ∙ ap (λ (l : List ℕ). run_text k ++ symbol m.0.colour m.0.kind ∷ l) again ∙ ap (λ (b : ℕ). run_text k ++ b ∷ text) (sym (man_spelled c m.0 m.1))
    ]

rank_spelled : (text : List ℕ) (ps : Places) → rank text ≡ Some ps → text ≡ rank_text 0 ps
unfolding rank is_some_run
rank_spelled text ps good =
    let p = cond_some (is_rank text) (rank_places text) ps good in
    let tests = and_parts (list_all is_symbol text) (runs_apart false text) ((and_parts (list_all is_symbol text && runs_apart false text) (0 + length (rank_places text) == 8) p.0).0) in
    sym (spelled_again text 0 tests.0 tests.1) ∙ ap (rank_text 0) p.1

-- the ranks of a longer board
rank_front : (n : ℕ) (xs ys : Places) → 8 * n + 8 ≤ length xs → rank_of n (xs ++ ys) ≡ rank_of n xs
rank_front n xs ys long = ap (take 8) (drop-append-le (8 * n) xs ys (omega arith)) ∙ take-append-le 8 (drop (8 * n) xs) ys (omega (arith, length-drop (8 * n) xs))

ranks_front : (n : ℕ) (xs ys : Places) → 8 * n + 8 ≤ length xs → ranks_text n (xs ++ ys) ≡ ranks_text n xs
unfolding ranks_text
ranks_front zero xs ys long = ap (rank_text 0) (rank_front 0 xs ys long)
ranks_front (suc n) xs ys long =
    ap (λ (l : Places). rank_text 0 l ++ 47 ∷ ranks_text n (xs ++ ys)) (rank_front (suc n) xs ys long) ∙ ap (λ (t : List ℕ). rank_text 0 (rank_of (suc n) xs) ++ 47 ∷ t) (ranks_front n xs ys (omega arith))

ranks_spelled : (n : ℕ) (text : List ℕ) (board : Places) → ranks n text ≡ Some board → (text ≡ ranks_text n board) × (length board ≡ 8 * n + 8)
unfolding ranks ranks_text
ranks_spelled zero text board good =
    let size = rank_length text board good in
    (rank_spelled text board good ∙ ap (rank_text 0) (sym (take_all 8 board (omega arith))), omega arith)
ranks_spelled (suc n) text board good =
    let parts = followed 47 rank (λ r. None) (λ r below. option_map (λ (places : Places). places ++ r) (ranks n below)) text board (λ r. refl) good in
    let r : Places = parts.value in
    let below = mapped_some (λ (places : Places). places ++ r) (ranks n parts.rest) board parts.goes_on in
    let xs : Places = below.0 in
    let again = ranks_spelled n parts.rest xs below.1 in
    let size = rank_length parts.front r parts.good in
    let length_xs = again.1 in
    let last : rank_of (suc n) (xs ++ r) ≡ r = ap (take 8) (drop_at xs r (8 * suc n) (omega arith)) ∙ take_all 8 r (omega arith) in
    let top = rank_spelled parts.front r parts.good ∙ ap (rank_text 0) (sym last) in
    let low = again.0 ∙ sym (ranks_front n xs r (omega arith)) in (
      parts.whole ∙ ap (λ (t : List ℕ). t ++ 47 ∷ parts.rest) top ∙ ap (λ (t : List ℕ). rank_text 0 (rank_of (suc n) (xs ++ r)) ++ 47 ∷ t) low ∙ ap (λ (b : Places). rank_text 0 (rank_of (suc n) b) ++ 47 ∷ ranks_text n b) below.2,
      omega (arith, ap length below.2, length-append xs r),
    )

-- the text of a side is its letter
pub turn_spelled : (text : List ℕ) (t : Colour) → turn text ≡ Some t → text ≡ turn_letter t ∷ []
turn_spelled [] t e = cc
turn_spelled (c ∷ []) t e =
    let P : Colour → Type 0 = λ t. c ≡ turn_letter t in
    ap (λ (b : ℕ). b ∷ []) (pick P c 119 White t _ (λ s. s) (pick P c 98 Black t None (λ s. s) (λ n. cc)) e)
turn_spelled (c ∷ d ∷ text) t e = cc

mark_spelled : (l : ℕ) (text : List ℕ) → text ≡ letter_if (mark l text).0 l ++ (mark l text).1
mark_spelled l [] = refl
mark_spelled l (b ∷ text) = elim (cases_eq b l) [
  | inl hit ↦ ap (λ (c : ℕ). c ∷ text) hit ∙ ap (λ (m : Bool × List ℕ). letter_if m.0 l ++ m.1) (sym (mark_hit l b text hit))
  | inr miss ↦ ap (λ (m : Bool × List ℕ). letter_if m.0 l ++ m.1) (sym (mark_miss l (b ∷ text) miss))
]

given_spelled : (k q kk qq : Bool) (text : List ℕ) → is_nothing text ≡ false → text ≡ letter_if k 75 ++ letter_if q 81 ++ letter_if kk 107 ++ letter_if qq 113 → text ≡ rights_text (record { white_short = k; white_long = q; black_short = kk; black_long = qq })
given_spelled true q kk qq text some e = e ∙ sym (letters_are true q kk qq)
given_spelled false true kk qq text some e = e ∙ sym (letters_are false true kk qq)
given_spelled false false true qq text some e = e ∙ sym (letters_are false false true qq)
given_spelled false false false true text some e = e
given_spelled false false false false text some e = absurd (true≢false (sym (ap is_nothing e) ∙ some))

rights_spelled : (text : List ℕ) (r : Rights) → rights text ≡ Some r → text ≡ rights_text r
unfolding rights
rights_spelled text r e = elim (cases_Bool (is_dash text)) [
  | inl dash ↦
      let is = sym (cond-true (is_dash text) (Some no_rights) (cond (not (is_nothing text) && is_nothing (marks castle_letters text).1) (Some (rights_of (marks castle_letters text).0)) None) dash) ∙ e in
      let same : no_rights ≡ r = cc in
      dash_is text dash ∙ ap rights_text same
  | inr letters ↦
      let p = cond_some (not (is_nothing text) && is_nothing (marks castle_letters text).1) (rights_of (marks castle_letters text).0) r (sym (cond-false (is_dash text) (Some no_rights) (cond (not (is_nothing text) && is_nothing (marks castle_letters text).1) (Some (rights_of (marks castle_letters text).0)) None) letters) ∙ e) in
      let tests = and_parts (not (is_nothing text)) (is_nothing (marks castle_letters text).1) p.0 in
      let k : Bool × List ℕ = mark 75 text in
      let q : Bool × List ℕ = mark 81 k.1 in
      let kk : Bool × List ℕ = mark 107 q.1 in
      let qq : Bool × List ℕ = mark 113 kk.1 in
      let all = mark_spelled 75 text ∙ ap (λ (t : List ℕ). letter_if k.0 75 ++ t) (mark_spelled 81 k.1 ∙ ap (λ (t : List ℕ). letter_if q.0 81 ++ t) (mark_spelled 107 q.1 ∙ ap (λ (t : List ℕ). letter_if kk.0 107 ++ t) (mark_spelled 113 kk.1 ∙ ap (λ (t : List ℕ). letter_if qq.0 113 ++ t) (nothing_is qq.1 tests.1) ∙ append-nil (letter_if qq.0 113)))) in
      let regrouped = append_assoc (letter_if k.0 75 ++ letter_if q.0 81) (letter_if kk.0 107) (letter_if qq.0 113) ∙ append_assoc (letter_if k.0 75) (letter_if q.0 81) (letter_if kk.0 107 ++ letter_if qq.0 113) in
      given_spelled k.0 q.0 kk.0 qq.0 text (not-true (is_nothing text) tests.0) (all ∙ sym regrouped) ∙ ap rights_text p.1
]

over_file : (c : Colour) (f : ℕ) → 97 ≤ f → f ≤ 104 → f ≡ 97 + file (double_on c (f - 97)).to
over_file White f low high = omega arith
over_file Black f low high = omega arith

en_passant_spelled : (c : Colour) (text : List ℕ) (o : Option Move) → en_passant c text ≡ Some o → text ≡ en_passant_text c o
en_passant_spelled c [] o e = cc
en_passant_spelled c (b ∷ []) o e =
    let P : Option Move → Type 0 = λ o. b ∷ [] ≡ en_passant_text c o in
    pick P b 45 None o None (λ s. ap (λ (d : ℕ). d ∷ []) s) (λ n. cc) e
en_passant_spelled c (f ∷ r ∷ []) o e =
    let p = cond_some (nat_le 97 f && nat_le f 104 && (r == en_passant_digit c)) (Some (double_on c (f - 97))) o e in
    let tests = and_parts (nat_le 97 f && nat_le f 104) (r == en_passant_digit c) p.0 in
    let bounds = and_parts (nat_le 97 f) (nat_le f 104) tests.0 in
    ap (λ (b : ℕ). b ∷ r ∷ []) (over_file c f (leb-true 97 f bounds.0) (leb-true f 104 bounds.1))
    ∙ ap (λ (b : ℕ). (97 + file (double_on c (f - 97)).to) ∷ b ∷ []) (eqb-true r (en_passant_digit c) tests.1) ∙ sym (passed c (double_on c (f - 97)))
    ∙ ap (en_passant_text c) p.1
en_passant_spelled c (f ∷ r ∷ b ∷ text) o e = cc

-- with numbers there are more fields than four
numbers_of : Option Position → Option (ℕ × ℕ)
numbers_of None = None
numbers_of (Some p) = p.1

query_of : Asked → Option Position → Asked
query_of q None = q
query_of q (Some p) = p.0

never_numbered : (q p : Asked) (h f : ℕ) → ◌≡◌ {A = Option Position} (Some (q, Some (h, f))) (Some (p, None)) → ⊥
unfolding numbers_of
never_numbered q p h f e = let s : ◌≡◌ {A = Option (ℕ × ℕ)} (Some (h, f)) None = ap numbers_of e in cc

no_numbers : (q p : Asked) (text : List ℕ) → from_numbers q text ≡ Some (p, None) → ⊥
unfolding from_numbers
no_numbers q p text e =
    let parts = followed 32 number (λ h. None) (λ (h : ℕ) last. option_map (λ (f : ℕ). (q, Some (h, f))) (number last)) text (p, None) (λ h. refl) e in
    let last = mapped_some (λ (f : ℕ). (q, Some (parts.value, f))) (number parts.rest) (p, None) parts.goes_on in
    never_numbered q p parts.value last.0 (ap (λ (x : Position). Some x) last.2)

-- what stands in each field, from the last to the first
last_spelled : (b : Places) (t : Colour) (r : Rights) (text : List ℕ) (q : Asked) → from_en_passant b t r text ≡ Some (q, None) → (b ≡ q.board) × (t ≡ q.turn) × (r ≡ q.held) × (text ≡ en_passant_text q.turn q.only)
unfolding from_en_passant query_of
last_spelled b t r text q e = elim (parted_known 32 (en_passant t) (λ e. Some (asked b t r e, None)) (λ e. from_numbers (asked b t r e)) text (q, None) e) [
  | inl alone ↦
      let is : asked b t r alone.value ≡ q = ap (query_of q) alone.ends in (
        ap (λ (a : Asked). a.board) is,
        ap (λ (a : Asked). a.turn) is,
        ap (λ (a : Asked). a.held) is,
        en_passant_spelled t text alone.value alone.good ∙ ap (λ (a : Asked). en_passant_text a.turn a.only) is,
      )
  | inr more ↦ absurd (no_numbers (asked b t r more.value) q more.rest more.goes_on)
]

from_rights_spelled : (b : Places) (t : Colour) (text : List ℕ) (q : Asked) → from_rights b t text ≡ Some (q, None) → (b ≡ q.board) × (t ≡ q.turn) × (text ≡ rights_text q.held ++ 32 ∷ en_passant_text q.turn q.only)
unfolding from_rights
from_rights_spelled b t text q e =
    let parts = followed 32 rights (λ r. None) (from_en_passant b t) text (q, None) (λ r. refl) e in
    let rest = last_spelled b t parts.value parts.rest q parts.goes_on in (
      rest.0,
      rest.1,
      parts.whole ∙ ap (λ (l : List ℕ). l ++ 32 ∷ parts.rest) (rights_spelled parts.front parts.value parts.good ∙ ap rights_text rest.2) ∙ ap (λ (l : List ℕ). rights_text q.held ++ 32 ∷ l) rest.3,
    )

from_turn_spelled : (b : Places) (text : List ℕ) (q : Asked) → from_turn b text ≡ Some (q, None) → (b ≡ q.board) × (text ≡ turn_letter q.turn ∷ 32 ∷ (rights_text q.held ++ 32 ∷ en_passant_text q.turn q.only))
unfolding from_turn
from_turn_spelled b text q e =
    let parts = followed 32 turn (λ t. None) (from_rights b) text (q, None) (λ t. refl) e in
    let rest = from_rights_spelled b parts.value parts.rest q parts.goes_on in (
      rest.0,
      parts.whole ∙ ap (λ (l : List ℕ). l ++ 32 ∷ parts.rest) (turn_spelled parts.front parts.value parts.good ∙ ap (λ (t : Colour). turn_letter t ∷ []) rest.1) ∙ ap (λ (l : List ℕ). turn_letter q.turn ∷ 32 ∷ l) rest.2,
    )

fen_spelled : (text : List ℕ) (q : Asked) → fen text ≡ Some (q, None) → (text ≡ spelling q) × (length q.board ≡ 64)
unfolding fen placement
fen_spelled text q e =
    let parts = followed 32 placement (λ b. None) from_turn text (q, None) (λ b. refl) e in
    let rest = from_turn_spelled parts.value parts.rest q parts.goes_on in
    let first = ranks_spelled 7 parts.front parts.value parts.good in (
      parts.whole ∙ ap (λ (l : List ℕ). l ++ 32 ∷ parts.rest) (first.0 ∙ ap (ranks_text 7) rest.0) ∙ ap (λ (l : List ℕ). ranks_text 7 q.board ++ 32 ∷ l) rest.1 ∙ sym (spelled q),
      sym (ap length rest.0) ∙ first.1,
    )

alone : (o : Option Position) (q : Asked) → unnumbered o ≡ Some q → o ≡ Some (q, None)
alone None q e = cc
alone (Some (p, None)) q e = let same : p ≡ q = cc in ap (λ (x : Asked). Some (x, None)) same
alone (Some (p, Some numbers)) q e = cc

four_known : (text : List ℕ) (q : Asked) → fen_of_four text ≡ Some q → fen text ≡ Some (q, None)
unfolding fen_of_four
four_known text q e = alone (fen text) q e

pub four_spelled : (text : List ℕ) (q : Asked) → fen_of_four text ≡ Some q → text ≡ spelling q
four_spelled text q e = (fen_spelled text q (four_known text q e)).0

pub four_equal : (a b : List ℕ) (q : Asked) → fen_of_four a ≡ Some q → fen_of_four b ≡ Some q → a ≡ b
four_equal a b q known_a known_b = four_spelled a q known_a ∙ sym (four_spelled b q known_b)

pub four_short : (text : List ℕ) (q : Asked) → fen_of_four text ≡ Some q → length text ≤ 81
four_short text q e = let few = spelling_bound q in omega (arith, ap length (four_spelled text q e))

-- a longer text has other fields than four
pub four_long : (text : List ℕ) → 81 < length text → fen_of_four text ≡ None
four_long text long = elim (fen_of_four text) as (λ o. fen_of_four text ≡ o → o ≡ None) [
  | None ↦ λ e. refl
  | Some q ↦ λ e. let short = four_short text q e in absurd (omega arith)
] refl
