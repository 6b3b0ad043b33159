use Rattle.std.proofs.Common.{◌≡◌, ℕ, [], ◌∷◌, List, ap, sym, ◌∙◌}
use Rattle.board_base.specs.declared.men.Kind.{Kind}
use Rattle.figures.specs.Figures.{Sketch}
use Rattle.figures.specs.Known.{known_at}
use Rattle.sketch_checker.specs.DueNodes.{Due, case_due, cases_from, kind_of}
use Rattle.sketch_prose.proofs.dues.next_case.Goals as goal
use Rattle.sketch_prose.specs.Levels.{due_with}
use Rattle.sketch_text.specs.declared.labels.Label.TheVariants.{Case}
use Rattle.sketch_text.specs.declared.labels.Officer.{Officer}
use Rattle.sketch_text.specs.declared.labels.Officer.TheVariants.{Knight, Rook, Queen}

-- the first case is this one
first : (n : ℕ) (S T : Sketch) (k : Kind) (o x : Officer) (old rest : List Due) → T ≡ known_at n k S → k ≡ kind_of o → o ≡ x → old ≡ case_due x n S ∷ rest → old ≡ due_with (Case x) T ∷ rest
first n S T k o x old rest known kind is e =
    e ∙ ap (λ (U : Sketch). due_with (Case x) U ∷ rest) (sym (known ∙ ap (λ (z : Kind). known_at n z S) (kind ∙ ap kind_of is)))

pub returns-in-Knight : goal.returns-in-Knight
returns-in-Knight c =
    let n : ℕ = c.args.cases.number in
    let S : Sketch = c.args.cases.sketch in (
      Case Knight,
      first n S c.known_at-known.result c.kind_of.result c.args.cases.officer Knight (cases_from c.args.cases.officer n S) (case_due Rook n S ∷ case_due Queen n S ∷ []) c.known_at-known.ensures c.kind_of.ensures c.in-Knight.is (ap (λ (o : Officer). cases_from o n S) c.in-Knight.is),
    )

pub returns-in-Rook : goal.returns-in-Rook
returns-in-Rook c =
    let n : ℕ = c.args.cases.number in
    let S : Sketch = c.args.cases.sketch in (
      Case Rook,
      first n S c.known_at-known.result c.kind_of.result c.args.cases.officer Rook (cases_from c.args.cases.officer n S) (case_due Queen n S ∷ []) c.known_at-known.ensures c.kind_of.ensures c.in-Rook.is (ap (λ (o : Officer). cases_from o n S) c.in-Rook.is),
    )

pub returns-in-Queen : goal.returns-in-Queen
returns-in-Queen c =
    let n : ℕ = c.args.cases.number in
    let S : Sketch = c.args.cases.sketch in (
      Case Queen,
      first n S c.known_at-known.result c.kind_of.result c.args.cases.officer Queen (cases_from c.args.cases.officer n S) [] c.known_at-known.ensures c.kind_of.ensures c.in-Queen.is (ap (λ (o : Officer). cases_from o n S) c.in-Queen.is),
    )
