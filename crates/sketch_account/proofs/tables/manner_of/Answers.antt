use Rattle.std.proofs.Common.{ℕ, true, false, refl, sym, subst}
use Rattle.std.specs.Prelude.{Option, Some}
use Rattle.sketch_grounds.specs.Account.{mark_limit}
use Rattle.sketch_account.specs.Counting.{limit_by}
use Rattle.sketch_account.specs.Rows.{IsManner}
use Rattle.sketch_account.specs.declared.rows.Manner.{Manner}
use Rattle.sketch_account.proofs.Tabled.{manner-against, manner-else, manner-mark}
use Rattle.sketch_account.proofs.tables.manner_of.Goals as goal

pub returns-then-i-j : goal.returns-then-i-j
returns-then-i-j c =
    let m : Manner = record { plain = false; other = true } in
    subst (λ (a : Option ℕ). IsManner (limit_by a c.args.i c.args.figure.now) m) (sym c.in-Some.is) (manner-against c.args.figure.now c.in-Some.j c.args.i m c.if-i-j.true refl refl)

pub returns-else-i-j : goal.returns-else-i-j
returns-else-i-j c =
    subst (λ (a : Option ℕ). IsManner (limit_by a c.args.i c.args.figure.now) c.by_mark.result) (sym c.in-Some.is)
    (manner-mark c.args.figure.now (limit_by (Some c.in-Some.j) c.args.i c.args.figure.now) c.by_mark.result (manner-else c.args.figure.now c.in-Some.j c.args.i c.if-i-j.false) c.by_mark.ensures.plain c.by_mark.ensures.other)

pub returns-in-None : goal.returns-in-None
returns-in-None c =
    subst (λ (a : Option ℕ). IsManner (limit_by a c.args.i c.args.figure.now) c.by_mark-in-None.result) (sym c.in-None.is)
    (manner-mark c.args.figure.now (mark_limit c.args.figure.now) c.by_mark-in-None.result refl c.by_mark-in-None.ensures.plain c.by_mark-in-None.ensures.other)
