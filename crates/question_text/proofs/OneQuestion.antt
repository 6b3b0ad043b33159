-- What an input's lines ask is one query, or none.
use Rattle.std.proofs.Common.{◌≡◌, inl, inr, ℕ, Bool, List, [], refl, sym, ap, ◌∙◌, subst}
use Rattle.std.proofs.lemmas.Option.{same_Some, none-some}
use Rattle.std.specs.Prelude.{Option, None}
use Rattle.board_base.specs.Board.{no_odds}
use Rattle.query_base.specs.Asked.{Asked}
use Rattle.fen_text.specs.Parts.{parted}
use Rattle.fen_text.specs.Ranks.{rank}
use Rattle.fen_text.specs.Fen.{fen, placement, ranks}
use Rattle.question_text.specs.InputLines.{first_line}
use Rattle.question_text.specs.Questions.{Agree, Asks, AsksAlone, HasBadLine, IsNoLoneQuestion, IsNoQuestion, from_fen}
use Rattle.question_text.specs.Positions.{AsksWithoutClock, IsLonePosition, IsNoLonePosition}
use Rattle.question_text.specs.declared.faults.InputFault.{InputFault}
use Rattle.question_text.specs.declared.faults.InputFault.TheVariants.{BadLine, BadFen}

-- what a FEN says of a query
abbrev Position : Type 0
Position = Asked × Option (ℕ × ℕ)

-- two queries that differ in odds and clock alone, and have the same, are one
same-demands : (q r : Asked) → q.odds ≡ r.odds → q.clock ≡ r.clock → record q { odds = no_odds; clock = None } ≡ record r { odds = no_odds; clock = None } → q ≡ r
same-demands q r odds clock rest =
    ap (λ (a : Asked). record a { odds = q.odds; clock = q.clock }) rest ∙ ap (λ (o : List Bool). record r { odds = o; clock = q.clock }) odds ∙ ap (λ (k : Option ℕ). record r { clock = k }) clock

-- the lines ask one query
pub asks-one : (input : List ℕ) (q r : Asked) → Asks input q → Asks input r → q ≡ r
asks-one input q r a b =
    same-demands q r (same_Some _ _ (sym a.odds ∙ b.odds)) (same_Some _ _ (sym a.clock ∙ b.clock)) (ap (λ (x : Position). x.0) (same_Some _ _ (sym a.position ∙ b.position)))

-- no line is no FEN
no-line : fen (first_line []) ≡ None
unfolding first_line fen parted placement ranks rank
no-line = refl

bad-line : (input : List ℕ) (q : Asked) (n : ℕ) → Asks input q → HasBadLine input n → ⊥
bad-line input q n asks (inl bad) = none-some q.odds (sym bad.0 ∙ asks.odds)
bad-line input q n asks (inr (inl bad)) = none-some q.clock (sym bad.2 ∙ asks.clock)
bad-line input q n asks (inr (inr (inl none))) = none-some _ (sym no-line ∙ ap (λ (l : List ℕ). fen (first_line l)) (sym none.3) ∙ asks.position)
bad-line input q n asks (inr (inr (inr other))) =
    let clock : q.clock ≡ other.0.clock = same_Some _ _ (sym asks.clock ∙ other.2.clock_is) in
    let numbers : asks.numbers ≡ other.1 = ap (λ (x : Position). x.1) (same_Some _ _ (sym asks.position ∙ other.3)) in
    other.4 (subst (λ (k : Option ℕ). Agree k other.1) clock (subst (Agree q.clock) numbers asks.agree))

bad-fen : (input : List ℕ) (q : Asked) → Asks input q → fen (first_line (from_fen input)) ≡ None → ⊥
bad-fen input q asks none = none-some _ (sym none ∙ asks.position)

pub asks-some : (input : List ℕ) (q : Asked) (why : InputFault) → Asks input q → IsNoQuestion input why → ⊥
asks-some input q (BadLine n) asks none = bad-line input q n asks none
asks-some input q (BadFen fault) asks none = bad-fen input q asks none.is_fault.place.unknown

pub alone-some : (input : List ℕ) (q : Asked) (why : InputFault) → AsksAlone input q → IsNoLoneQuestion input why → ⊥
alone-some input q (BadLine n) alone (inl bad) = bad-line input q n alone.begins bad
alone-some input q (BadLine n) alone (inr more) = more.2 alone.no_more
alone-some input q (BadFen fault) alone none = bad-fen input q alone.begins none.is_fault.place.unknown

-- what an input without a clock asks is one query, or none

pub position-one : (input : List ℕ) (q r : Asked) → AsksWithoutClock input q → AsksWithoutClock input r → q ≡ r
position-one input q r a b =
    same-demands q r (same_Some _ _ (sym a.odds ∙ b.odds)) (a.clock ∙ sym b.clock) (ap (λ (x : Position). x.0) (same_Some _ _ (sym a.position ∙ b.position)))

pub position-some : (input : List ℕ) (q : Asked) (why : InputFault) → IsLonePosition input q → IsNoLonePosition input why → ⊥
position-some input q (BadLine n) alone (inl bad) = none-some q.odds (sym bad.0 ∙ alone.begins.odds)
position-some input q (BadLine n) alone (inr (inl none)) = none-some _ (sym no-line ∙ ap (λ (l : List ℕ). fen (first_line l)) (sym none.2) ∙ alone.begins.position)
position-some input q (BadLine n) alone (inr (inr more)) = more.2 alone.no_more
position-some input q (BadFen fault) alone none = none-some _ (sym none.is_fault.place.unknown ∙ alone.begins.position)
