use Rattle.std.proofs.Common.{◌≡◌, ◌++◌, ℕ, List, inl, length, refl, sym, ap, ◌∙◌, subst}
use Rattle.std.proofs.lemmas.Result.{IfOk-weaker}
use Rattle.assignment.specs.Assignments.{IsInjection, assignment_cost, least_cost}
use Rattle.length_bound.specs.SideBounds.{move_costs}
use Rattle.proof_story.specs.Rows.{rows_of}
use Rattle.dossier_prose.specs.Lengths.{AreCheapest, shown_text, side_line}
use Rattle.dossier_prose.proofs.lengths.push_shown.Goals as goal

pub returns : goal.returns
returns c =
    let q = c.args.query.now in
    let side = c.args.side in
    let n = c.args.half_moves in
    let found = c.solve-solution.result in
    let costs : c.as_slice.result.now ≡ move_costs q.odds side q.board = c.as_slice.ensures.value ∙ c.table_of-table.ensures.items in
    let line =
    c.as_slice-3.ensures.value
    ∙ c.in_ok-push_line.ensures
    ∙ ap (λ (l : List ℕ). l ++ side_line q side c.as_slice-2.result.now found.cost n) c.new-line.ensures.items
    ∙ ap (λ (h : List ℕ). side_line q side h found.cost n) c.as_slice-2.ensures.value
    ∙ ap (λ (k : ℕ). side_line q side found.columns.items k n) (c.solve-solution.ensures.least ∙ ap (λ (t : List (List ℕ)). least_cost 16 t) costs) in
    let cheapest : AreCheapest side q found.columns.items = record {
      injection = subst (λ (t : List (List ℕ)). IsInjection 16 (length t) found.columns.items) costs c.solve-solution.ensures.injection;
      least = subst (λ (t : List (List ℕ)). assignment_cost t found.columns.items ≡ least_cost 16 t) costs (sym c.solve-solution.ensures.cost ∙ c.solve-solution.ensures.least);
    } in
    IfOk-weaker c.push_wrapped.result (λ _. c.push_wrapped.new.out.items ≡ c.args.out.now.items ++ rows_of c.as_slice-3.result.now) _
    (λ _ written. (shown_text side q found.columns.items n, inl (n, found.columns.items, c.requires, cheapest, refl), written ∙ ap (λ (l : List ℕ). c.args.out.now.items ++ rows_of l) line))
    c.push_wrapped.ensures
