use Rattle.std.proofs.Common.{◌≡◌, ℕ, ◌+◌, ◌++◌, ◌∷◌, [], ◌∙◌, List, length, get_or, ap, subst, sym, arith, refl, rules, SFits, to_z-of_z, w8}
use Rattle.std.specs.Prelude.{ℤ, pos}
use Rattle.std.specs.Fmt.{signed_decimal}
use Rattle.board_base.specs.Potentials.{duals}
use Rattle.cert_text.proofs.WrittenNumbers.{ColumnsWritten, RowsWritten, columns_next, rows_next, potentials_written}
use Rattle.cert_text.proofs.argument_writing.push_duals.Goals as goal

pub loop-row-preserved : goal.loop-row-preserved
loop-row-preserved g c =
    let x : ℤ = get_or c.args.u.now c.loop-row.row-index (pos 0) in
    let fits : SFits w8 x = search rules in
    let text : c.push_signed.new.out.items ≡ c.loop-row.out.items ++ signed_decimal x = c.push_signed.ensures.text ∙ ap (λ (z : ℤ). c.loop-row.out.items ++ signed_decimal z) (to_z-of_z fits) in
    subst (RowsWritten c.args.u.now (c.loop-row.row-index + 1) c.args.out.now.items) (sym c.push.ensures.items)
    (rows_next _ _ _ _ _ x c.loop-row-test.true refl text c.push_signed.ensures.short c.loop-row.invariant)

pub loop-column-preserved : goal.loop-column-preserved
loop-column-preserved g c =
    let x : ℤ = get_or c.args.v.now c.loop-column.column-index (pos 0) in
    let fits : SFits w8 x = search rules in
    let text : c.push_signed-in-loop-column.new.out.items ≡ (c.loop-column.out.items ++ 32 ∷ []) ++ signed_decimal x =
    c.push_signed-in-loop-column.ensures.text ∙ ap (λ (z : ℤ). c.push-in-loop-column.new.self.items ++ signed_decimal z) (to_z-of_z fits) ∙ ap (λ (l : List ℕ). l ++ signed_decimal x) c.push-in-loop-column.ensures.items in
    columns_next _ _ _ _ _ x c.loop-column-test.true refl text (omega (arith, c.push_signed-in-loop-column.ensures.short, ap length c.push-in-loop-column.ensures.items)) c.loop-column.invariant

pub returns-clause-text : goal.returns-clause-text
returns-clause-text g c =
    let files = subst (λ (l : List ℕ). ColumnsWritten c.args.v.now c.loop-column.column-index l c.loop-column.out.items) c.push-2.ensures.items c.loop-column.invariant in
    potentials_written (duals c.args.u.now c.args.v.now) _ _ _ _ _ c.loop-row-test.false c.loop-column-test.false c.loop-row.invariant files
