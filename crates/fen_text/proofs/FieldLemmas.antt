-- The short fields.
use Rattle.std.proofs.Common.{◌≡◌, ◌≢◌, ℕ, ◌-◌, ◌<◌, ◌==◌, Bool, true, false, cond, ◌&&◌, ◌||◌, not, List, [], ◌∷◌, ◌++◌, length, get_or, inl, inr, refl, sym, ap, ◌∙◌, subst, subst₂, arith, append-nil, length-append, true≢false, nat_le, Some, None, is_some}
use Rattle.std.proofs.lemmas.Bool.{and_parts, and_from, and_left, and_right, cases_eq, ne_eqb, cases_Bool, eqb-true, leb-true, eq-eqb, cond-true, cond-false}
use Rattle.board_base.specs.Rights.{Rights, holds, no_rights}
use Rattle.board_base.specs.declared.castles.Castle.{Castle}
use Rattle.board_base.specs.declared.castles.Castle.TheVariants.{WhiteShort, WhiteLong, BlackShort, BlackLong}
use Rattle.board_base.specs.declared.men.Colour.{Colour}
use Rattle.board_base.specs.declared.men.Colour.TheVariants.{White, Black}
use Rattle.fen_text.specs.Parts.{Free}
use Rattle.fen_text.specs.Faults.{Begins, IsFault}
use Rattle.fen_text.specs.Fen.{turn, mark, castle_letters, marks, is_nothing, is_dash, rights_of, rights, en_passant, en_passant_digit, double_on}
use Rattle.fen_text.proofs.PartLemmas.{Clean, not_some, some_is, stop, stop_at, stop_end}

-- the side to move
pub turn_none : (text : List ℕ) → length text ≡ 0 → IsFault turn text 0
turn_none [] e = stop_end turn [] (119 ∷ [], refl) refl
turn_none (b ∷ text) e = absurd (omega arith)

bad_turn : (b : ℕ) → (b ≡ 119 → ⊥) → (b ≡ 98 → ⊥) → (x : List ℕ) → turn (b ∷ x) ≡ None
bad_turn b n1 n2 [] = cond-false _ (Some White) (cond (b == 98) (Some Black) None) (ne_eqb b 119 n1) ∙ cond-false _ (Some Black) None (ne_eqb b 98 n2)
bad_turn b n1 n2 (c ∷ x) = refl

pub turn_bad : (text : List ℕ) → 0 < length text → (get_or text 0 0 ≡ 119 → ⊥) → (get_or text 0 0 ≡ 98 → ⊥) → IsFault turn text 0
turn_bad text some n1 n2 = stop_at turn text 0 some (119 ∷ [], refl) (λ x. bad_turn _ n1 n2 x)

pub clean_turn : Clean 32 turn
clean_turn [] s = absurd (true≢false (sym s))
clean_turn (b ∷ []) s = elim (cases_eq b 32) [
  | inl e ↦ absurd (not_some (turn (32 ∷ [])) refl (some_is _ _ (ap (λ (c : ℕ). turn (c ∷ [])) e) s))
  | inr ne ↦ and_from _ _ (ap not (ne_eqb b 32 ne)) refl
]
clean_turn (b ∷ d ∷ text) s = absurd (true≢false (sym s))

-- castling rights
abbrev Misses : ℕ → List ℕ → Type 0
Misses l [] = Unit {0}
Misses l (b ∷ text) = b ≡ l → ⊥

-- nothing, or the first byte of the first text
abbrev SameHead : List ℕ → List ℕ → Type 0
SameHead r [] = Unit {0}
SameHead [] (b ∷ x) = ⊥
SameHead (c ∷ r) (b ∷ x) = b ≡ c

pub mark_miss : (l : ℕ) (text : List ℕ) → Misses l text → mark l text ≡ (false, text)
mark_miss l [] m = refl
mark_miss l (b ∷ text) m = cond-false _ (true, text) (false, b ∷ text) (ne_eqb b l m)

pub mark_hit : (l b : ℕ) (text : List ℕ) → b ≡ l → mark l (b ∷ text) ≡ (true, text)
mark_hit l b text e = cond-true _ (true, text) (false, b ∷ text) (eq-eqb b l e)

step : (l : ℕ) (ls text : List ℕ) (m : Bool × List ℕ) → mark l text ≡ m → marks (l ∷ ls) text ≡ (m.0 ∷ (marks ls m.1).0, (marks ls m.1).1)
step l ls text m e = ap (λ (m : Bool × List ℕ). (m.0 ∷ (marks ls m.1).0, (marks ls m.1).1)) e

marks_nil : (ls : List ℕ) → (marks ls []).1 ≡ []
marks_nil [] = refl
marks_nil (l ∷ ls) = marks_nil ls

-- how the letters that begin a text go on
record Eaten (ls text : List ℕ) : Type 0 where
  pub front : List ℕ
  pub whole : text ≡ front ++ (marks ls text).1
  pub again : (x : List ℕ) → SameHead (marks ls text).1 x → marks ls (front ++ x) ≡ ((marks ls text).0, x)

only_nil : (r x : List ℕ) → r ≡ [] → SameHead r x → x ≡ []
only_nil r [] e h = refl
only_nil [] (b ∷ x) e h = absurd h
only_nil (c ∷ r) (b ∷ x) e h = cc

head_misses : (l b : ℕ) (text p r x : List ℕ) → b ∷ text ≡ p ++ r → (b ≡ l → ⊥) → SameHead r x → Misses l (p ++ x)
head_misses l b text [] r [] e ne h = tt
head_misses l b text [] [] (d ∷ x) e ne h = absurd h
head_misses l b text [] (c ∷ r) (d ∷ x) e ne h = λ eq. ne (let e2 : b ≡ c = cc in e2 ∙ sym h ∙ eq)
head_misses l b text (c ∷ p) r x e ne h = λ eq. ne (let e2 : b ≡ c = cc in e2 ∙ eq)

eaten : (ls text : List ℕ) → Eaten ls text
eaten [] text = record { front = []; whole = refl; again = λ x h. refl }
eaten (l ∷ ls) [] = record {
  front = [];
  whole = sym (marks_nil ls);
  again = λ x h. let e : x ≡ [] = only_nil (marks ls []).1 x (marks_nil ls) h in ap (marks (l ∷ ls)) e ∙ ap (λ (y : List ℕ). (false ∷ (marks ls []).0, y)) (marks_nil ls ∙ sym e);
}
eaten (l ∷ ls) (b ∷ text) = elim (cases_eq b l) [
  | inl hit ↦
      let before : Eaten ls text = eaten ls text in
      let here = step l ls (b ∷ text) (true, text) (mark_hit l b text hit) in
      let left : (marks (l ∷ ls) (b ∷ text)).1 ≡ (marks ls text).1 = ap (λ (m : List Bool × List ℕ). m.1) here in
      let flags : (marks (l ∷ ls) (b ∷ text)).0 ≡ true ∷ (marks ls text).0 = ap (λ (m : List Bool × List ℕ). m.0) here in
      record {
        front = b ∷ before.front;
        whole = ap (λ (y : List ℕ). b ∷ y) (before.whole ∙ ap (λ (y : List ℕ). before.front ++ y) (sym left));
        again = λ x h. step l ls (b ∷ (before.front ++ x)) (true, before.front ++ x) (mark_hit l b (before.front ++ x) hit)
            ∙ ap (λ (m : List Bool × List ℕ). (true ∷ m.0, m.1)) (before.again x (subst (λ (r : List ℕ). SameHead r x) left h))
            ∙ ap (λ (fs : List Bool). (fs, x)) (sym flags);
      }
  | inr miss ↦
      let before : Eaten ls (b ∷ text) = eaten ls (b ∷ text) in
      let here = step l ls (b ∷ text) (false, b ∷ text) (mark_miss l (b ∷ text) miss) in
      let left : (marks (l ∷ ls) (b ∷ text)).1 ≡ (marks ls (b ∷ text)).1 = ap (λ (m : List Bool × List ℕ). m.1) here in
      let flags : (marks (l ∷ ls) (b ∷ text)).0 ≡ false ∷ (marks ls (b ∷ text)).0 = ap (λ (m : List Bool × List ℕ). m.0) here in
      record {
        front = before.front;
        whole = before.whole ∙ ap (λ (y : List ℕ). before.front ++ y) (sym left);
        again = λ x h.
            let h2 = subst (λ (r : List ℕ). SameHead r x) left h in
            step l ls (before.front ++ x) (false, before.front ++ x) (mark_miss l (before.front ++ x) (head_misses l b text before.front (marks ls (b ∷ text)).1 x before.whole miss h2))
            ∙ ap (λ (m : List Bool × List ℕ). (false ∷ m.0, m.1)) (before.again x h2)
            ∙ ap (λ (fs : List Bool). (fs, x)) (sym flags);
      }
]

rights_begun : (p : List ℕ) → (marks castle_letters p).1 ≡ [] → Begins rights p
unfolding rights
rights_begun [] e = (45 ∷ [], refl)
rights_begun (b ∷ p) e =
    let good : is_nothing (marks castle_letters (b ∷ p)).1 ≡ true = ap is_nothing e in (
      [],
      ap (λ (y : List ℕ). is_some (rights y)) (append-nil (b ∷ p)) ∙ (elim (cases_Bool (is_dash (b ∷ p))) [
        | inl d ↦ ap is_some (cond-true _ (Some no_rights) (cond (true && is_nothing (marks castle_letters (b ∷ p)).1) (Some (rights_of (marks castle_letters (b ∷ p)).0)) None) d)
        | inr d ↦ ap is_some (cond-false _ (Some no_rights) (cond (true && is_nothing (marks castle_letters (b ∷ p)).1) (Some (rights_of (marks castle_letters (b ∷ p)).0)) None) d ∙ cond-true _ (Some (rights_of (marks castle_letters (b ∷ p)).0)) None good)
      ]),
    )

no_dash : (p r x text : List ℕ) (b : ℕ) → text ≡ p ++ b ∷ r → (get_or text 0 0 ≡ 45 → ⊥) → is_dash (p ++ b ∷ x) ≡ false
no_dash [] r x text b e ne = and_left _ _ (ne_eqb b 45 (λ d. ne (ap (λ (t : List ℕ). get_or t 0 0) e ∙ d)))
no_dash (c ∷ p) r x text b e ne = and_left _ _ (ne_eqb c 45 (λ d. ne (ap (λ (t : List ℕ). get_or t 0 0) e ∙ d)))

rights_none : (text left : List ℕ) (b : ℕ) → is_dash text ≡ false → (marks castle_letters text).1 ≡ b ∷ left → rights text ≡ None
unfolding rights
rights_none text left b dash more =
    cond-false _ (Some no_rights) (cond (not (is_nothing text) && is_nothing (marks castle_letters text).1) (Some (rights_of (marks castle_letters text).0)) None) dash
    ∙ cond-false _ (Some (rights_of (marks castle_letters text).0)) None (and_right _ _ (ap is_nothing more))

rights_stop : (text rest : List ℕ) → (marks castle_letters text).1 ≡ rest → 0 < length rest → (get_or text 0 0 ≡ 45 → ⊥) → IsFault rights text (length text - length rest)
rights_stop text [] e some ne = absurd (omega arith)
rights_stop text (b ∷ r) e some ne =
    let all : Eaten castle_letters text = eaten castle_letters text in
    let whole : text ≡ all.front ++ b ∷ r = all.whole ∙ ap (λ (y : List ℕ). all.front ++ y) e in
    let len : length all.front ≡ length text - length (b ∷ r) = omega (arith, ap length whole, length-append all.front (b ∷ r)) in
    let none = ap (λ (m : List Bool × List ℕ). m.1) (all.again [] tt) in
    let begun : Begins rights all.front = rights_begun all.front (ap (λ (y : List ℕ). (marks castle_letters y).1) (sym (append-nil all.front)) ∙ none) in
    let bad = λ (x : List ℕ). rights_none (all.front ++ b ∷ x) x b (no_dash all.front r x text b whole ne) (ap (λ (m : List Bool × List ℕ). m.1) (all.again (b ∷ x) (subst (λ (y : List ℕ). SameHead y (b ∷ x)) (sym e) refl))) in
    subst₂ (λ (t : List ℕ) (n : ℕ). IsFault rights t n) (sym whole) len (stop rights all.front b r begun bad)

pub rights_fault : (text rest : List ℕ) → (marks castle_letters text).1 ≡ rest → (length rest ≡ 0 → ⊥) → (get_or text 0 0 ≡ 45 → ⊥) → IsFault rights text (length text - length rest)
rights_fault text rest e some ne = rights_stop text rest e (omega arith) ne

pub rights_empty : (text : List ℕ) → length text ≡ 0 → IsFault rights text 0
unfolding rights
rights_empty [] e = stop_end rights [] (45 ∷ [], refl) refl
rights_empty (b ∷ text) e = absurd (omega arith)

pub dash_long : (text : List ℕ) → 0 < length text → (length text ≡ 1 → ⊥) → get_or text 0 0 ≡ 45 → IsFault rights text 1
unfolding rights
dash_long [] some long dash = absurd (omega arith)
dash_long (b ∷ []) some long dash = absurd (long refl)
dash_long (b ∷ d ∷ text) some long dash =
    subst (λ (c : ℕ). IsFault rights (c ∷ d ∷ text) 1) (sym dash) (stop_at rights (45 ∷ d ∷ text) 1 (omega arith) ([], refl) (λ x. refl))

rights_equal : (a b : Rights) → ((c : Castle) → holds a c ≡ holds b c) → a ≡ b
rights_equal a b same = λ i. record { white_short = same WhiteShort i; white_long = same WhiteLong i; black_short = same BlackShort i; black_long = same BlackLong i }

pub no_holds : (c : Castle) → holds no_rights c ≡ false
no_holds WhiteShort = refl
no_holds WhiteLong = refl
no_holds BlackShort = refl
no_holds BlackLong = refl

pub dash_only : (text : List ℕ) (set : Rights) → length text ≡ 1 → get_or text 0 0 ≡ 45 → ((c : Castle) → holds set c ≡ false) → rights text ≡ Some set
unfolding rights
dash_only [] set one dash none = absurd (omega arith)
dash_only (b ∷ []) set one dash none = ap (λ (c : ℕ). rights (c ∷ [])) dash ∙ ap (λ (s : Rights). Some s) (rights_equal no_rights set (λ c. no_holds c ∙ sym (none c)))
dash_only (b ∷ d ∷ text) set one dash none = absurd (omega arith)

letters_free : (ls : List ℕ) → Free 32 ls → (text : List ℕ) → Free 32 (marks ls text).1 → Free 32 text
letters_free [] f text g = g
letters_free (l ∷ ls) f [] g = refl
letters_free (l ∷ ls) f (b ∷ text) g =
    let fs = and_parts _ _ f in
    elim (cases_eq b l) [
      | inl hit ↦
          let left : (marks (l ∷ ls) (b ∷ text)).1 ≡ (marks ls text).1 = ap (λ (m : List Bool × List ℕ). m.1) (step l ls (b ∷ text) (true, text) (mark_hit l b text hit)) in
          and_from _ _ (ap (λ (c : ℕ). not (c == 32)) hit ∙ fs.0) (letters_free ls fs.1 text (subst (Free 32) left g))
      | inr miss ↦
          let left : (marks (l ∷ ls) (b ∷ text)).1 ≡ (marks ls (b ∷ text)).1 = ap (λ (m : List Bool × List ℕ). m.1) (step l ls (b ∷ text) (false, b ∷ text) (mark_miss l (b ∷ text) miss)) in
          letters_free ls fs.1 (b ∷ text) (subst (Free 32) left g)
    ]

pub nothing_is : (text : List ℕ) → is_nothing text ≡ true → text ≡ []
nothing_is [] e = refl
nothing_is (b ∷ text) e = absurd (true≢false (sym e))

pub dash_is : (text : List ℕ) → is_dash text ≡ true → text ≡ 45 ∷ []
dash_is [] e = absurd (true≢false (sym e))
dash_is (b ∷ text) e =
    let es = and_parts _ _ e in
    ap (λ (t : List ℕ). b ∷ t) (nothing_is text es.1) ∙ ap (λ (c : ℕ). c ∷ []) (eqb-true b 45 es.0)

pub clean_rights : Clean 32 rights
unfolding rights
clean_rights text s = elim (cases_Bool (is_dash text)) [
  | inl d ↦ subst (Free 32) (sym (dash_is text d)) refl
  | inr d ↦ elim (cases_Bool (is_nothing (marks castle_letters text).1)) [
    | inl e ↦ letters_free castle_letters refl text (subst (Free 32) (sym (nothing_is _ e)) refl)
    | inr e ↦ absurd (not_some (rights text) (cond-false _ (Some no_rights) (cond (not (is_nothing text) && is_nothing (marks castle_letters text).1) (Some (rights_of (marks castle_letters text).0)) None) d ∙ cond-false _ (Some (rights_of (marks castle_letters text).0)) None (and_right _ _ e)) s)
  ]
]

-- all letters were taken
pub rights_good : (text : List ℕ) (set : Rights) → (length text ≡ 0 → ⊥) → (get_or text 0 0 ≡ 45 → ⊥) → is_nothing (marks castle_letters text).1 ≡ true → rights_of (marks castle_letters text).0 ≡ set → rights text ≡ Some set
unfolding rights
rights_good [] set some ne done is = absurd (some refl)
rights_good (b ∷ text) set some ne done is =
    cond-false _ (Some no_rights) (cond (true && is_nothing (marks castle_letters (b ∷ text)).1) (Some (rights_of (marks castle_letters (b ∷ text)).0)) None) (and_left _ _ (ne_eqb b 45 ne))
    ∙ cond-true _ (Some (rights_of (marks castle_letters (b ∷ text)).0)) None done ∙ ap (λ (s : Rights). Some s) is

pub nothing_left : (text : List ℕ) → length text ≡ 0 → is_nothing text ≡ true
nothing_left [] e = refl
nothing_left (b ∷ text) e = absurd (omega arith)

pub marks_four : (text r1 r2 r3 r4 : List ℕ) (b1 b2 b3 b4 : Bool) → (b1, r1) ≡ mark 75 text → (b2, r2) ≡ mark 81 r1 → (b3, r3) ≡ mark 107 r2 → (b4, r4) ≡ mark 113 r3 → marks castle_letters text ≡ (b1 ∷ b2 ∷ b3 ∷ b4 ∷ [], r4)
marks_four text r1 r2 r3 r4 b1 b2 b3 b4 e1 e2 e3 e4 =
    let l4 = step 113 [] r3 (b4, r4) (sym e4) in
    let l3 = step 107 (113 ∷ []) r2 (b3, r3) (sym e3) ∙ ap (λ (m : List Bool × List ℕ). (b3 ∷ m.0, m.1)) l4 in
    let l2 = step 81 (107 ∷ 113 ∷ []) r1 (b2, r2) (sym e2) ∙ ap (λ (m : List Bool × List ℕ). (b2 ∷ m.0, m.1)) l3 in
    step 75 (81 ∷ 107 ∷ 113 ∷ []) text (b1, r1) (sym e1) ∙ ap (λ (m : List Bool × List ℕ). (b1 ∷ m.0, m.1)) l2

-- a set with one castling more, if it is given
pub record Added (before now : Rights) (c : Castle) (b : Bool) : Type 0 where
  pub here : holds now c ≡ (holds before c || b)
  pub others : (x : Castle) → x ≢ c → holds now x ≡ holds before x

set_of : (s0 s1 s2 s3 s4 : Rights) (b1 b2 b3 b4 : Bool) → ((c : Castle) → holds s0 c ≡ false) → Added s0 s1 WhiteShort b1 → Added s1 s2 WhiteLong b2 → Added s2 s3 BlackShort b3 → Added s3 s4 BlackLong b4 → (c : Castle) → holds (rights_of (b1 ∷ b2 ∷ b3 ∷ b4 ∷ [])) c ≡ holds s4 c
set_of s0 s1 s2 s3 s4 b1 b2 b3 b4 none a1 a2 a3 a4 WhiteShort = sym (a4.others WhiteShort (λ e. cc) ∙ a3.others WhiteShort (λ e. cc) ∙ a2.others WhiteShort (λ e. cc) ∙ a1.here ∙ ap (λ (x : Bool). x || b1) (none WhiteShort))
set_of s0 s1 s2 s3 s4 b1 b2 b3 b4 none a1 a2 a3 a4 WhiteLong = sym (a4.others WhiteLong (λ e. cc) ∙ a3.others WhiteLong (λ e. cc) ∙ a2.here ∙ ap (λ (x : Bool). x || b2) (a1.others WhiteLong (λ e. cc) ∙ none WhiteLong))
set_of s0 s1 s2 s3 s4 b1 b2 b3 b4 none a1 a2 a3 a4 BlackShort = sym (a4.others BlackShort (λ e. cc) ∙ a3.here ∙ ap (λ (x : Bool). x || b3) (a2.others BlackShort (λ e. cc) ∙ a1.others BlackShort (λ e. cc) ∙ none BlackShort))
set_of s0 s1 s2 s3 s4 b1 b2 b3 b4 none a1 a2 a3 a4 BlackLong = sym (a4.here ∙ ap (λ (x : Bool). x || b4) (a3.others BlackLong (λ e. cc) ∙ a2.others BlackLong (λ e. cc) ∙ a1.others BlackLong (λ e. cc) ∙ none BlackLong))

pub rights_built : (s0 s1 s2 s3 s4 : Rights) (b1 b2 b3 b4 : Bool) → ((c : Castle) → holds s0 c ≡ false) → Added s0 s1 WhiteShort b1 → Added s1 s2 WhiteLong b2 → Added s2 s3 BlackShort b3 → Added s3 s4 BlackLong b4 → rights_of (b1 ∷ b2 ∷ b3 ∷ b4 ∷ []) ≡ s4
rights_built s0 s1 s2 s3 s4 b1 b2 b3 b4 none a1 a2 a3 a4 = rights_equal _ _ (set_of s0 s1 s2 s3 s4 b1 b2 b3 b4 none a1 a2 a3 a4)

-- the square that a double step crossed
pub en_passant_none : (c : Colour) (text : List ℕ) → length text ≡ 0 → IsFault (en_passant c) text 0
en_passant_none c [] e = stop_end (en_passant c) [] (45 ∷ [], refl) refl
en_passant_none c (b ∷ text) e = absurd (omega arith)

bad_start : (c : Colour) (b : ℕ) → (b ≡ 45 → ⊥) → (nat_le 97 b && nat_le b 104) ≡ false → (x : List ℕ) → en_passant c (b ∷ x) ≡ None
bad_start c b n1 n2 [] = cond-false _ (Some None) None (ne_eqb b 45 n1)
bad_start c b n1 n2 (r ∷ []) = cond-false _ (Some (Some (double_on c (b - 97)))) None (and_left _ _ n2)
bad_start c b n1 n2 (r ∷ d ∷ x) = refl

pub en_passant_bad : (c : Colour) (text : List ℕ) → 0 < length text → (get_or text 0 0 ≡ 45 → ⊥) → (nat_le 97 (get_or text 0 0) && nat_le (get_or text 0 0) 104) ≡ false → IsFault (en_passant c) text 0
en_passant_bad c text some n1 n2 = stop_at (en_passant c) text 0 some (45 ∷ [], refl) (λ x. bad_start c _ n1 n2 x)

file_begun : (c : Colour) (f : ℕ) → (nat_le 97 f && nat_le f 104) ≡ true → Begins (en_passant c) (f ∷ [])
file_begun c f good = (en_passant_digit c ∷ [], ap is_some (cond-true _ (Some (Some (double_on c (f - 97)))) None (and_from _ _ good (eq-eqb (en_passant_digit c) (en_passant_digit c) refl))))

pub en_passant_short : (c : Colour) (text : List ℕ) → length text ≡ 1 → (get_or text 0 0 ≡ 45 → ⊥) → (nat_le 97 (get_or text 0 0) && nat_le (get_or text 0 0) 104) ≡ true → IsFault (en_passant c) text 1
en_passant_short c [] one ne good = absurd (omega arith)
en_passant_short c (f ∷ []) one ne good = stop_end (en_passant c) (f ∷ []) (file_begun c f good) (cond-false _ (Some None) None (ne_eqb f 45 ne))
en_passant_short c (f ∷ r ∷ text) one ne good = absurd (omega arith)

bad_rank : (c : Colour) (f r : ℕ) → (r ≡ en_passant_digit c → ⊥) → (x : List ℕ) → en_passant c (f ∷ r ∷ x) ≡ None
bad_rank c f r ne [] = cond-false _ (Some (Some (double_on c (f - 97)))) None (and_right _ _ (ne_eqb r (en_passant_digit c) ne))
bad_rank c f r ne (d ∷ x) = refl

pub en_passant_rank : (c : Colour) (text : List ℕ) → 1 < length text → (nat_le 97 (get_or text 0 0) && nat_le (get_or text 0 0) 104) ≡ true → (get_or text 1 0 ≡ en_passant_digit c → ⊥) → IsFault (en_passant c) text 1
en_passant_rank c [] two good ne = absurd (omega arith)
en_passant_rank c (f ∷ []) two good ne = absurd (omega arith)
en_passant_rank c (f ∷ r ∷ text) two good ne = stop_at (en_passant c) (f ∷ r ∷ text) 1 (omega arith) (file_begun c f good) (λ x. bad_rank c f r ne x)

square_good : (c : Colour) (f r : ℕ) → (nat_le 97 f && nat_le f 104) ≡ true → r ≡ en_passant_digit c → en_passant c (f ∷ r ∷ []) ≡ Some (Some (double_on c (f - 97)))
square_good c f r good e = cond-true _ (Some (Some (double_on c (f - 97)))) None (and_from _ _ good (eq-eqb r (en_passant_digit c) e))

pub en_passant_over : (c : Colour) (text : List ℕ) → 2 < length text → (nat_le 97 (get_or text 0 0) && nat_le (get_or text 0 0) 104) ≡ true → get_or text 1 0 ≡ en_passant_digit c → IsFault (en_passant c) text 2
en_passant_over c [] two good e = absurd (omega arith)
en_passant_over c (f ∷ []) two good e = absurd (omega arith)
en_passant_over c (f ∷ r ∷ []) two good e = absurd (omega arith)
en_passant_over c (f ∷ r ∷ d ∷ text) two good e = stop_at (en_passant c) (f ∷ r ∷ d ∷ text) 2 (omega arith) ([], ap is_some (square_good c f r good e)) (λ x. refl)

pub en_passant_good : (c : Colour) (text : List ℕ) → length text ≡ 2 → (nat_le 97 (get_or text 0 0) && nat_le (get_or text 0 0) 104) ≡ true → get_or text 1 0 ≡ en_passant_digit c → en_passant c text ≡ Some (Some (double_on c (get_or text 0 0 - 97)))
en_passant_good c [] two good e = absurd (omega arith)
en_passant_good c (f ∷ []) two good e = absurd (omega arith)
en_passant_good c (f ∷ r ∷ []) two good e = square_good c f r good e
en_passant_good c (f ∷ r ∷ d ∷ text) two good e = absurd (omega arith)

digit_no_space : (c : Colour) (r : ℕ) → (r == en_passant_digit c) ≡ true → not (r == 32) ≡ true
digit_no_space White r e = ap (λ (x : ℕ). not (x == 32)) (eqb-true r 54 e)
digit_no_space Black r e = ap (λ (x : ℕ). not (x == 32)) (eqb-true r 51 e)

pub clean_en_passant : (c : Colour) → Clean 32 (en_passant c)
clean_en_passant c [] s = absurd (true≢false (sym s))
clean_en_passant c (b ∷ []) s = elim (cases_Bool (b == 45)) [
  | inl e ↦ ap (λ (x : ℕ). not (x == 32) && true) (eqb-true b 45 e)
  | inr e ↦ absurd (not_some (en_passant c (b ∷ [])) (cond-false _ (Some None) None e) s)
]
clean_en_passant c (f ∷ r ∷ []) s = elim (cases_Bool (nat_le 97 f && nat_le f 104 && (r == en_passant_digit c))) [
  | inl e ↦
      let es = and_parts (nat_le 97 f && nat_le f 104) (r == en_passant_digit c) e in
      let fs = and_parts (nat_le 97 f) (nat_le f 104) es.0 in
      let le = leb-true 97 f fs.0 in
      and_from _ _ (ap not (ne_eqb f 32 (λ x. omega arith))) (and_from _ _ (digit_no_space c r es.1) refl)
  | inr e ↦ absurd (not_some (en_passant c (f ∷ r ∷ [])) (cond-false _ (Some (Some (double_on c (f - 97)))) None e) s)
]
clean_en_passant c (f ∷ r ∷ d ∷ text) s = absurd (true≢false (sym s))
