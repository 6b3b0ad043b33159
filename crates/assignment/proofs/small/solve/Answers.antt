use Rattle.std.proofs.Common.{◌≡◌, ◌∙◌, arith, sym, subst, List, ℕ, rules}
use Rattle.std.specs.Prelude.{ℤ}
use Rattle.std.specs.List.{All}
use Rattle.assignment.specs.Tables.{IsTable}
use Rattle.assignment.specs.Assignments.{IsWithin}
use Rattle.assignment.proofs.small.solve.Goals as goal

-- the table with more room is the same
same_table : (width : ℕ) (costs wide slice : List (List ℕ)) → wide ≡ costs → slice ≡ wide → IsTable costs width 64 → IsTable slice width 64
same_table width costs wide slice same is h = subst (λ (t : List (List ℕ)). IsTable t width 64) (sym (is ∙ same)) h

pub overflow_cast-result : goal.overflow_cast-result
overflow_cast-result g c =
    let table = same_table g.row.W _ _ _ c.widened.ensures c.as_slice.ensures.value c.requires in
    let small = c.solve_large-solution.ensures.small 64 table in
    let rows = table.rows in
    let few = table.few in
    omega arith

pub narrowed-requires : goal.narrowed-requires
narrowed-requires g c =
    (search rules, (search rules, c.solve_large-solution.ensures.u_within 64 (same_table g.row.W _ _ _ c.widened.ensures c.as_slice.ensures.value c.requires)))

pub narrowed_all-requires : goal.narrowed_all-requires
narrowed_all-requires g c =
    (search rules, (search rules, c.solve_large-solution.ensures.v_within 64 (same_table g.row.W _ _ _ c.widened.ensures c.as_slice.ensures.value c.requires)))

pub returns-clause-u_within : goal.returns-clause-u_within
returns-clause-u_within g c =
    subst (λ (l : List ℤ). All (IsWithin 64) l) (sym c.narrowed.ensures)
    (c.solve_large-solution.ensures.u_within 64 (same_table g.row.W _ _ _ c.widened.ensures c.as_slice.ensures.value c.requires))

pub returns-clause-v_within : goal.returns-clause-v_within
returns-clause-v_within g c =
    subst (λ (l : List ℤ). All (IsWithin 64) l) (sym c.narrowed_all.ensures)
    (c.solve_large-solution.ensures.v_within 64 (same_table g.row.W _ _ _ c.widened.ensures c.as_slice.ensures.value c.requires))
