use Rattle.std.proofs.Common.{◌≡◌, ◌<◌, ◌≤◌, ◌+◌, ◌∙◌, ◌++◌, ◌∷◌, [], ℕ, List, Bool, true, false, get_or, length, map, take, ap, sym, subst, rules, arith, length-append}
use Rattle.std.proofs.lemmas.List.{take_all}
use Rattle.std.specs.List.{filter}
use Rattle.arrayvec.specs.ArrayVec.{ArrayVec}
use Rattle.assignment.specs.Tables.{IsTable}
use Rattle.assignment.proofs.Tables.{IsTable-more}
use Rattle.board_base.specs.Board.{array_of, same_colour}
use Rattle.board_base.proofs.KindsOfMen.{colour_is}
use Rattle.balance_rule.specs.Costs.{never}
use Rattle.balance_rule.proofs.Rowed.{table-none}
use Rattle.figures.specs.Figures.{Figure, Sketch}
use Rattle.sketch_grounds.specs.Account.{Counted, figure_row, is_figure_of}
use Rattle.sketch_grounds.specs.Limits.{Limit}
use Rattle.sketch_account.specs.Counting.{counted_as, limit_by}
use Rattle.sketch_account.specs.Rows.{counted}
use Rattle.sketch_grounds.proofs.Filtered.{filter-most, mapped-more, skipped, taken}
use Rattle.sketch_account.proofs.Tabled.{counted-at, length-counted}
use Rattle.sketch_account.proofs.tables.figure_rows.Goals as goal
use Rattle.sketch_account.proofs.tables.figure_rows.Goals.{then-eq+else-len-begun, else-eq}

pub loop-i-init : goal.loop-i-init
loop-i-init c = record {
  few = omega (arith, ap (λ (l : List (List ℕ)). length l) c.new-rows.ensures);
  number = ap (λ (l : List (List ℕ)). length l) c.new-rows.ensures;
  table = table-none c.new-rows.result.items c.new-rows.ensures;
  made = λ o p R ground. c.new-rows.ensures;
}

pub returns-then-len-begun-clause-items : goal.returns-then-len-begun-clause-items
returns-then-len-begun-clause-items c = λ o p R ground.
    let g = c.args.ground.now in
    let S : Sketch = c.args.sketch.now in
    let xs : List Counted = counted_as c.args.against S in
    let own : Counted → Bool = is_figure_of g.base.side in
    let i : ℕ = c.loop-i.i in
    let f : Figure = c.index-figures-i.result in
    let value : c.figures-figures.result.now ≡ S = c.figures-figures.ensures.value in
    let low : i < length S = omega (arith, c.loop-i-test.true, ap (λ (l : Sketch). length l) value) in
    let e : f ≡ get_or S i f = c.index-figures-i.is ∙ ap (λ (l : Sketch). get_or l i f) value in
    let x : Counted = counted f (limit_by c.args.against i f) in
    let lowx : i < length xs = omega (arith, low, length-counted (limit_by c.args.against) S) in
    let here : get_or xs i x ≡ x = counted-at (limit_by c.args.against) S i f x low e in
    let colour : c.figure.inside.colour ≡ f.colour = ap (λ (y : Figure). y.colour) c.figure.view_is in
    let mine : same_colour g.base.side c.figure.inside.colour ≡ true = search rules in
    let tk : filter own (take (i + 1) xs) ≡ filter own (take i xs) ++ x ∷ [] = taken own xs i x lowx here (ap (same_colour g.base.side) (sym colour) ∙ mine) in
    let more : length (filter own (take (i + 1) xs)) ≡ length (filter own (take i xs)) + 1 = ap (λ (l : List Counted). length l) tk ∙ length-append (filter own (take i xs)) (x ∷ []) in
    omega (arith, more, filter-most own xs (i + 1), c.loop-i.invariant.number, c.len.ensures.value, c.if-len-begun.true)

pub loop-i-preserved : goal.loop-i-preserved
loop-i-preserved c =
    let g = c.args.ground.now in
    let S : Sketch = c.args.sketch.now in
    let xs : List Counted = counted_as c.args.against S in
    let own : Counted → Bool = is_figure_of g.base.side in
    let i : ℕ = c.loop-i.i in
    let f : Figure = c.index-figures-i.result in
    let value : c.figures-figures.result.now ≡ S = c.figures-figures.ensures.value in
    let low : i < length S = omega (arith, c.loop-i-test.true, ap (λ (l : Sketch). length l) value) in
    let e : f ≡ get_or S i f = c.index-figures-i.is ∙ ap (λ (l : Sketch). get_or l i f) value in
    let x : Counted = counted f (limit_by c.args.against i f) in
    let lowx : i < length xs = omega (arith, low, length-counted (limit_by c.args.against) S) in
    let here : get_or xs i x ≡ x = counted-at (limit_by c.args.against) S i f x low e in
    let colour : c.figure.inside.colour ≡ f.colour = ap (λ (y : Figure). y.colour) c.figure.view_is in
    elim c.if-eq.branch [
      | then-eq+else-len-begun w ↦
          let mine : same_colour g.base.side c.figure.inside.colour ≡ true = search rules in
          let tk : filter own (take (i + 1) xs) ≡ filter own (take i xs) ++ x ∷ [] = taken own xs i x lowx here (ap (same_colour g.base.side) (sym colour) ∙ mine) in
          let more : c.if-eq.rows.items ≡ c.loop-i.rows.items ++ w.figure_row.result ∷ [] = ap (λ (r : ArrayVec (List ℕ)). r.items) w.rows-is ∙ w.push.ensures.items in
          let longer : length (filter own (take (i + 1) xs)) ≡ length (filter own (take i xs)) + 1 = ap (λ (l : List Counted). length l) tk ∙ length-append (filter own (take i xs)) (x ∷ []) in
          let size : length c.if-eq.rows.items ≡ length c.loop-i.rows.items + 1 = ap (λ (l : List (List ℕ)). length l) more ∙ length-append c.loop-i.rows.items (w.figure_row.result ∷ []) in
          let other : length c.loop-i.rows.items ≡ c.args.begun → ⊥ = λ same. w.if-len-begun.false (w.len.ensures.value ∙ same) in
          let room : length c.loop-i.rows.items < c.args.begun = omega (arith, c.loop-i.invariant.few, other) in
          record {
            few = omega (arith, size, room);
            number = omega (arith, size, longer, c.loop-i.invariant.number);
            table = IsTable-more c.loop-i.rows.items c.if-eq.rows.items w.figure_row.result 16 never c.loop-i.invariant.table (omega (arith, room, c.requires)) w.figure_row.ensures.small more;
            made = λ o p R ground.
                let l : Limit = limit_by c.args.against i f in
                let comer = w.comer_of.ensures.comer o p R l ground (sym colour ∙ sym (colour_is g.base.side c.figure.inside.colour mine)) w.manner_of.ensures in
                let row : w.figure_row.result ≡ figure_row p g.base.frozen R g.base.side (array_of o) x = w.figure_row.ensures.value o p R l ground comer ∙ ap (λ (y : Figure). figure_row p g.base.frozen R g.base.side (array_of o) (counted y l)) w.comer_of.ensures.figure in
                mapped-more (figure_row p g.base.frozen R g.base.side (array_of o)) (filter own (take i xs)) (filter own (take (i + 1) xs)) x c.loop-i.rows.items c.if-eq.rows.items tk (c.loop-i.invariant.made o p R ground) (more ∙ ap (λ (r : List ℕ). c.loop-i.rows.items ++ r ∷ []) row);
          }
      | else-eq w ↦
          let others : same_colour g.base.side c.figure.inside.colour ≡ false = search rules in
          let sk : filter own (take (i + 1) xs) ≡ filter own (take i xs) = skipped own xs i x lowx here (ap (same_colour g.base.side) (sym colour) ∙ others) in
          let same : c.if-eq.rows.items ≡ c.loop-i.rows.items = ap (λ (r : ArrayVec (List ℕ)). r.items) w.rows-is in
          record {
            few = omega (arith, ap (λ (l : List (List ℕ)). length l) same, c.loop-i.invariant.few);
            number = ap (λ (l : List (List ℕ)). length l) same ∙ c.loop-i.invariant.number ∙ ap (λ (l : List Counted). length l) (sym sk);
            table = subst (λ (t : List (List ℕ)). IsTable t 16 never) (sym same) c.loop-i.invariant.table;
            made = λ o p R ground. same ∙ c.loop-i.invariant.made o p R ground ∙ ap (map (figure_row p g.base.frozen R g.base.side (array_of o))) (sym sk);
          }
    ]

pub returns-clause-items : goal.returns-clause-items
returns-clause-items c = λ o p R ground.
    let g = c.args.ground.now in
    let S : Sketch = c.args.sketch.now in
    let xs : List Counted = counted_as c.args.against S in
    let value : c.figures-figures.result.now ≡ S = c.figures-figures.ensures.value in
    let past : length xs ≤ c.loop-i.i = omega (arith, c.loop-i-test.false, ap (λ (l : Sketch). length l) value, length-counted (limit_by c.args.against) S) in
    c.loop-i.invariant.made o p R ground ∙ ap (λ (l : List Counted). map (figure_row p g.base.frozen R g.base.side (array_of o)) (filter (is_figure_of g.base.side) l)) (take_all c.loop-i.i xs past)
