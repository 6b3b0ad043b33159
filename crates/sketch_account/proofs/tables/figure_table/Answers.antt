use Rattle.std.proofs.Common.{◌≡◌, ◌-◌, ◌≤◌, ◌++◌, ◌∙◌, ℕ, List, length, refl, ap, sym, arith}
use Rattle.std.proofs.lemmas.List.{append-nil, length-map}
use Rattle.std.specs.Prelude.{replicate}
use Rattle.std.specs.List.{filter}
use Rattle.arrayvec.specs.ArrayVec.{ArrayVec}
use Rattle.board_base.specs.Board.{array_of}
use Rattle.sketch_grounds.specs.Account.{Counted, figure_row, is_figure_of, lost_row}
use Rattle.sketch_account.specs.Counting.{counted_as}
use Rattle.sketch_account.proofs.Tabled.{table-is}
use Rattle.sketch_account.proofs.tables.figure_table.Goals as goal
use Rattle.sketch_account.proofs.tables.figure_table.Goals.{then-len-begun, else-len-begun}

pub returns-clause-items : goal.returns-clause-items
returns-clause-items c = λ o p R ground begun.
    let g = c.args.ground.now in
    let xs : List Counted = counted_as c.args.against c.args.sketch.now in
    let rows : List (List ℕ) = c.in-Some.rows.items in
    let had = c.in-Some.ensures.items o p R ground in
    let size : length rows ≡ length (filter (is_figure_of g.base.side) xs) = ap (λ (l : List (List ℕ)). length l) had ∙ length-map (filter (is_figure_of g.base.side) xs) (figure_row p g.base.frozen R g.base.side (array_of o)) in
    let few : length rows ≤ c.args.begun = c.in-Some.ensures.few in (
      omega (arith, size, few),
      elim c.if-len-begun.branch [
        | then-len-begun w ↦
            table-is p g.base.frozen R g.base.side (array_of o) xs rows c.if-len-begun.rows.items w.lost_row.result c.args.begun begun had (w.lost_row.ensures.value o p R ground) (ap (λ (r : ArrayVec (List ℕ)). r.items) w.rows-is ∙ w.fill_up.ensures.items)
        | else-len-begun w ↦
            let row : List ℕ = lost_row p g.base.frozen R g.base.side (array_of o) in
            let none : c.args.begun - length rows ≡ 0 = omega (arith, c.len.ensures.value, w.if-len-begun.false) in
            table-is p g.base.frozen R g.base.side (array_of o) xs rows c.if-len-begun.rows.items row c.args.begun begun had refl
            (ap (λ (r : ArrayVec (List ℕ)). r.items) w.rows-is ∙ sym (ap (λ (n : ℕ). rows ++ replicate n row) none ∙ append-nil rows))
      ],
    )

pub returns-in_default-clause-items : goal.returns-in_default-clause-items
returns-in_default-clause-items c = λ o p R ground begun. c.in_default.ensures.items o p R ground
