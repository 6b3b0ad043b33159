use Rattle.std.proofs.Common.{arith, sym}
use Rattle.cert_text.proofs.HeadLines.{head_bad, head_ends, head_few, head_next, root_bad}
use Rattle.cert_text.proofs.headers.read_header.Goals as goal

pub returns-in_default-clause-bad : goal.returns-in_default-clause-bad
returns-in_default-clause-bad c = head_ends _ _ _ _ c.lines.invariant c.in_default.ensures

pub overflow_add-result : goal.overflow_add-result
overflow_add-result c = let few = head_few _ _ _ _ c.lines.invariant in omega (arith, c.requires)

pub returns-in-None-clause-bad : goal.returns-in-None-clause-bad
returns-in-None-clause-bad c = root_bad _ _ _ c.in-Some.after.now _ _ _ _ c.lines.invariant c.in-RootDue.is c.in-Some.ensures (sym c.in-None.ensures)

pub returns-in_default-read_head_line : goal.returns-in_default-read_head_line
returns-in_default-read_head_line c = record {
  ok = tt;
  bad = head_bad _ _ _ c.in-Some.after.now _ _ c.lines.invariant c.in-Some.ensures c.in_default-due.not-RootDue (sym c.in_default-read_head_line.ensures);
}

pub overflow_add-number : goal.overflow_add-number
overflow_add-number c = let few = head_few _ _ _ _ c.lines.invariant in omega (arith, c.requires)

pub lines-preserved : goal.lines-preserved
lines-preserved c = head_next _ _ _ _ _ _ _ c.lines.invariant c.in-Some.ensures (sym c.in-Some-read_head_line.ensures)
