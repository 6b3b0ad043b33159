-- The side whose men show a query's games to be longer.
use Rattle.std.proofs.Common.{◌≡◌, ℕ, ◌-◌, ◌<◌, ◌≤◌, Bool, true, false, cond, length, inl, inr, refl, sym, ap, ◌∙◌, subst, arith, nat_le, nat_lt}
use Rattle.std.specs.Prelude.{List, Option, Some, None, IfSome, IsNone, MatchOption, ◌↔◌, ℤ, pos, ◌+ℤ◌}
use Rattle.std.specs.Option.{option_map}
use Rattle.std.proofs.lemmas.Bool.{cases_lt, cond-true, cond-false, le-leb, lt-leb}
use Rattle.std.proofs.lemmas.Option.{same_Some}
use Rattle.board_base.specs.declared.men.Colour.{Colour}
use Rattle.board_base.specs.declared.men.Colour.TheVariants.{White, Black}
use Rattle.board_base.specs.Board.{men_squares}
use Rattle.assignment.specs.Assignments.{least_cost, total}
use Rattle.query_base.specs.Asked.{Asked}
use Rattle.length_bound.specs.SideBounds.{at_least_0, holds_some, length_with, move_costs, moves_shown}
use Rattle.length_bound.specs.Longest.{IsBest, longer_side, side_length}
use Rattle.length_bound.specs.LengthAnswers.{IsShown}
use Rattle.length_bound.specs.LongerTexts.{IsBestOf, longer_text}
use Rattle.length_bound.specs.declared.texts.LengthText.{LengthText}

-- a side of more than sixteen men shows nothing
pub none_shown : (c : Colour) (q : Asked) → 16 < length (men_squares c q.board) → side_length c q ≡ None
unfolding side_length
none_shown c q many = cond-false (nat_le (length (men_squares c q.board)) 16) _ None (lt-leb (length (men_squares c q.board)) 16 many)

-- and only such
pub many_men : (c : Colour) (q : Asked) → side_length c q ≡ None → 16 < length (men_squares c q.board)
unfolding side_length
many_men c q none = elim (cases_lt 16 (length (men_squares c q.board))) [
  | inl many ↦ many
  | inr few ↦ let some = sym (cond-true (nat_le (length (men_squares c q.board)) 16) _ None (le-leb (length (men_squares c q.board)) 16 few)) ∙ none in cc
]

-- the length of potentials with the greatest sum
pub some_shown : (c : Colour) (q : Asked) (u v : List ℤ) (n : ℕ) → (16 < length (men_squares c q.board) → ⊥) → (total u +ℤ total v) ≡ pos (least_cost 16 (move_costs q.odds c q.board)) → n ≡ length_with c q.turn (moves_shown c q.held u v) → side_length c q ≡ Some n
unfolding side_length
some_shown c q u v n few sum is =
    let low : length (men_squares c q.board) ≤ 16 = elim (cases_lt 16 (length (men_squares c q.board))) [ inl many ↦ absurd (few many) | inr low ↦ low ] in
    cond-true (nat_le (length (men_squares c q.board)) 16) _ None (le-leb (length (men_squares c q.board)) 16 low)
    ∙ ap (λ (k : ℕ). Some k) (sym (is ∙ ap (λ (s : ℤ). length_with c q.turn (at_least_0 s - cond (holds_some c q.held) 0 2)) sum))

-- a side of which some length is shown
pub some_men : (c : Colour) (q : Asked) (n : ℕ) → side_length c q ≡ Some n → length (men_squares c q.board) ≤ 16
some_men c q n some = elim (cases_lt 16 (length (men_squares c q.board))) [
  | inl many ↦ absurd (let none = sym (none_shown c q many) ∙ some in cc)
  | inr few ↦ few
]

-- what the length is of which a side shows some
length_shown : (c : Colour) (q : Asked) (n : ℕ) → side_length c q ≡ Some n → n ≡ length_with c q.turn (least_cost 16 (move_costs q.odds c q.board) - cond (holds_some c q.held) 0 2)
unfolding side_length
length_shown c q n some = elim (cases_lt 16 (length (men_squares c q.board))) [
  | inl many ↦ absurd (let none = sym (cond-false (nat_le (length (men_squares c q.board)) 16) _ None (lt-leb (length (men_squares c q.board)) 16 many)) ∙ some in cc)
  | inr few ↦ same_Some _ _ (sym some ∙ cond-true (nat_le (length (men_squares c q.board)) 16) _ None (le-leb (length (men_squares c q.board)) 16 few))
]

-- potentials with the greatest sum show the length that they are best for
pub best-shown : (q : Asked) (text : LengthText) → IsBest q text → IsShown text
best-shown q text best = subst (λ (r : Asked). IsShown (record text { query = r })) (sym best.query) (record {
  bound = best.bound;
  long =
      let sum : moves_shown text.side q.held text.potentials.u text.potentials.v ≡ least_cost 16 (move_costs q.odds text.side q.board) - cond (holds_some text.side q.held) 0 2 =
      ap (λ (s : ℤ). at_least_0 s - cond (holds_some text.side q.held) 0 2) best.greatest in
      let same : text.at_least ≡ length_with text.side q.turn (moves_shown text.side q.held text.potentials.u text.potentials.v) =
      length_shown text.side q text.at_least best.at_least ∙ ap (length_with text.side q.turn) (sym sum) in
      omega (arith, same);
})

-- of one side or of both

abbrev Best : Colour → Asked → Option LengthText → Type 0
Best c q o = MatchOption o (side_length c q ≡ None) (IsBestOf c q)

shown : (c : Colour) (q : Asked) (t : LengthText) → IsBestOf c q t → side_length c q ≡ Some t.at_least
shown c q t b = ap (λ (d : Colour). side_length d q) (sym b.side) ∙ b.best.at_least

pub longer_best : (q : Asked) (w b : Option LengthText) → Best White q w → Best Black q b → IfSome (longer_text w b) (IsBest q)
longer_best q None None w b = tt
longer_best q None (Some t) w b = b.best
longer_best q (Some s) None w b = w.best
longer_best q (Some s) (Some t) w b = elim (nat_lt s.at_least t.at_least) as (λ k. IsBest q (cond k t s)) [ true ↦ b.best | false ↦ w.best ]

pub longer_small : (q : Asked) (w b : Option LengthText) → Best White q w → Best Black q b → IfSome (longer_text w b) (λ t. t.at_least ≤ 9999)
longer_small q None None w b = tt
longer_small q None (Some t) w b = b.small
longer_small q (Some s) None w b = w.small
longer_small q (Some s) (Some t) w b = elim (nat_lt s.at_least t.at_least) as (λ (k : Bool). let l : LengthText = cond k t s in l.at_least ≤ 9999) [ true ↦ b.small | false ↦ w.small ]

chosen : (k : Bool) (s t : LengthText) → s.side ≡ White → t.side ≡ Black → option_map (λ (l : LengthText). l.side) (Some (cond k t s)) ≡ Some (cond k Black White)
chosen true s t w b = ap (λ (c : Colour). Some c) b
chosen false s t w b = ap (λ (c : Colour). Some c) w

pub longer_chosen : (q : Asked) (w b : Option LengthText) → Best White q w → Best Black q b → option_map (λ (l : LengthText). l.side) (longer_text w b) ≡ longer_side (side_length White q) (side_length Black q)
longer_chosen q None None w b = rw (w, b) refl
longer_chosen q None (Some t) w b = rw (w, shown Black q t b) (ap (λ (c : Colour). Some c) b.side)
longer_chosen q (Some s) None w b = rw (shown White q s w, b) (ap (λ (c : Colour). Some c) w.side)
longer_chosen q (Some s) (Some t) w b = rw (shown White q s w, shown Black q t b) (chosen (nat_lt s.at_least t.at_least) s t w.side b.side)

not_many : (c : Colour) (q : Asked) (t : LengthText) → IsBestOf c q t → 16 < length (men_squares c q.board) → ⊥
not_many c q t b many = let none = sym (none_shown c q many) ∙ shown c q t b in cc

pub longer_none : (q : Asked) (w b : Option LengthText) → Best White q w → Best Black q b → IsNone (longer_text w b) ↔ ((16 < length (men_squares White q.board)) × (16 < length (men_squares Black q.board)))
longer_none q None None w b = (λ e. (many_men White q w, many_men Black q b), λ many. refl)
longer_none q None (Some t) w b = (λ e. absurd cc, λ many. absurd (not_many Black q t b many.1))
longer_none q (Some s) None w b = (λ e. absurd cc, λ many. absurd (not_many White q s w many.0))
longer_none q (Some s) (Some t) w b = (λ e. absurd cc, λ many. absurd (not_many White q s w many.0))
