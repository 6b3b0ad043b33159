-- What is told of the last moves.
use Rattle.std.proofs.Common.{◌≡◌, ℕ, Bool, true, List, [], ◌∷◌, ◌++◌, length, refl, sym, ap, ◌∙◌, inl, inr, append_assoc, arith, subst}
use Rattle.std.specs.Prelude.{◌&&◌, IfSome, IsSome, IsTrue, None, Option, Some, SomeIff, slice_get}
use Rattle.std.specs.List.{All}
use Rattle.std.proofs.lemmas.List.Elements.{All-head, All-same}
use Rattle.std.proofs.lemmas.Bool.{cases_lt}
use Rattle.board_base.specs.declared.unmoves.Unmove.{Unmove}
use Rattle.query_base.specs.Asked.{Asked}
use Rattle.line_claims.specs.Lines.{HasLine, has_text}
use Rattle.line_claims.specs.declared.claims.LineClaim.{LineClaim}
use Rattle.line_claims.specs.declared.claims.LineClaim.TheVariants.{Line}
use Rattle.unmove_gen.specs.Listed.{unmoves}
use Rattle.diagram_study.specs.declared.findings.Found.{Found}
use Rattle.verdict_prose.specs.LastMoves.{EndsWithOneOf, IsEnd, WereLast}
use Rattle.verdict_prose.specs.Choices.{last_text}
use Rattle.verdict_prose.specs.Moves.{left_text, line_text}
use Rattle.position_report.specs.LastMoves.{CanBeNamed, HasLone, IsLone, TellsLast, possible_text, proved_steps, steps_in}
use Rattle.position_report.specs.Told.{HaveEnds, IsLineTold}
use Rattle.position_report.proofs.Saying.{ends-so}

-- the moves of a claim about the last ones
pub claim-told : (q : Asked) (claim : LineClaim) (steps items : List Unmove) (old new : List ℕ) → claim ≡ Line steps → items ≡ steps → new ≡ old ++ line_text q items → IsLineTold q (steps_in claim) true old new
claim-told q claim steps items old new is same e = (steps, ap steps_in is, e ∙ ap (λ (l : List Unmove). old ++ line_text q l) same)

-- several are proved
pub line-told : (q : Asked) (f : Found) (old new : List ℕ) → ((steps : List Unmove) → proved_steps f.steps ≡ Some steps → WereLast q steps) → IsLineTold q (proved_steps f.steps) true old new → (own : List ℕ) × TellsLast q f own × (new ≡ old ++ own)
line-told q f old new holds (steps, are, e) = (line_text q steps, inl (record { steps = steps; are = are; so = holds steps are; text_is = refl }), e)

-- games end with what is found of the ends; if more than eight are left, nothing is
named-ends : (q : Asked) (left : List Unmove) (ends : Option (List Unmove)) → HaveEnds q left ends → CanBeNamed q left → IfSome ends (All (IsEnd q))
named-ends q left ends (by, has) named = elim (cases_lt (length left) 9) [
  | inl few ↦ ends-so q by left ends has (record { some = named.some; few = omega (arith, few); elsewhere = named.elsewhere })
  | inr many ↦ subst (λ (o : Option (List Unmove)). IfSome o (All (IsEnd q))) (sym (has.none (λ few. omega (arith, few.few, many)))) tt
]

-- few retractions are left
pub few-told : (q : Asked) (f : Found) (old mid new : List ℕ) → proved_steps f.steps ≡ None → EndsWithOneOf q f.left → HaveEnds q f.left f.ends → CanBeNamed q f.left → mid ≡ old ++ last_text q f.left → new ≡ mid ++ possible_text q f.ends (length f.left) → (own : List ℕ) × TellsLast q f own × (new ≡ old ++ own)
few-told q f old mid new none among ends few first last = (
  last_text q f.left ++ possible_text q f.ends (length f.left),
  inr (inl (record {
    none = none;
    few = few;
    so = record { some = few.elsewhere; among = among };
    ends = named-ends q f.left f.ends ends few;
    text_is = refl;
  })),
  last ∙ ap (λ (l : List ℕ). l ++ possible_text q f.ends (length f.left)) first ∙ append_assoc old (last_text q f.left) (possible_text q f.ends (length f.left)),
)

-- many or none are, or the game of no moves leads there
pub many-told : (q : Asked) (f : Found) (n : ℕ) (old new : List ℕ) → proved_steps f.steps ≡ None → EndsWithOneOf q f.left → f.all ≡ length (unmoves q) → (CanBeNamed q f.left → ⊥) → n ≡ length f.left → new ≡ old ++ left_text n f.all → (own : List ℕ) × TellsLast q f own × (new ≡ old ++ own)
many-told q f n old new none among all many same e = (
  left_text (length f.left) f.all,
  inr (inr (record { none = none; many = many; so = record { number = refl; whole = sym all; among = among }; text_is = refl })),
  e ∙ ap (λ (m : ℕ). old ++ left_text m f.all) same,
)

-- the first of a list of one
pub lone-first : (q : Asked) (left : List Unmove) → IsLone q left → HasLone q left (slice_get left 0)
lone-first q [] is = absurd (omega (arith, is.one))
lone-first q (u ∷ []) is = (is, refl)
lone-first q (u ∷ v ∷ us) is = absurd (omega (arith, is.one))

-- it has a text, as all that are left have
pub lone-text : (q : Asked) (left : List Unmove) (lone : Option Unmove) → HasLone q left lone → All (λ u. IsTrue (has_text u)) left → IfSome lone (λ u. IsTrue (has_text u))
lone-text q left None has all = tt
lone-text q left (Some u) has all =
    All-head (λ (v : Unmove). IsTrue (has_text v)) u [] (All-same (λ (v : Unmove). IsTrue (has_text v)) (u ∷ []) left (sym has.1) all)

-- a list that can be made is made
pub list-given : (r : Option (List Unmove)) (P : Type 0) (v : List Unmove) → SomeIff r P v → P → IsSome r
list-given None P v none is = absurd (none is)
list-given (Some us) P v some is = refl

-- the claim of one step has a line
pub one-line : (u : Unmove) (claim : LineClaim) → claim ≡ Line (u ∷ []) → IsTrue (has_text u) → HasLine claim
one-line u claim is text =
    subst HasLine (sym is) (record { some = omega arith; few = omega arith; texts = ap (λ (b : Bool). b && true) text })
