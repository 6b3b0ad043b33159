use Rattle.std.proofs.Common.{◌<◌, ◌≤◌, length, ◌∙◌, sym, ap, arith, refl, true≢false}
use Rattle.std.specs.Prelude.{Some}
use Rattle.cert_text.specs.Tree.{Forest, count, kid_at}
use Rattle.cert_text.specs.declared.nodes.Kid.{Kid}
use Rattle.cert_text.specs.Seen.{tree_of}
use Rattle.cert_text.proofs.Forests.{count-forest, kid_at-forest, kid_at-past}
use Rattle.cert_text.proofs.nodes.Kids.get.Goals as goal

pub returns-then-i-len-clause-kid : goal.returns-then-i-len-clause-kid
returns-then-i-len-clause-kid c =
    let inside : c.args.i < length c.self.inside.items.items = omega (arith, c.self.inside.items.ok.0, c.len.ensures, c.if-i-len.true) in
    ap (λ (f : Forest). kid_at f c.args.i) (sym c.self.view_is) ∙ kid_at-forest c.self.inside.items.items c.args.i c.index.result.now inside
    ∙ ap (λ (k : Kid). Some (k.label, tree_of k.node)) (sym c.index.ensures)

pub returns-then-i-len-clause-none : goal.returns-then-i-len-clause-none
returns-then-i-len-clause-none c =
    let size = count-forest c.self.inside.items.items ∙ ap count c.self.view_is in
    ((λ none. absurd (true≢false none)), λ past. absurd (omega (arith, size, c.self.inside.items.ok.0, c.len.ensures, c.if-i-len.true, past)))

pub returns-else-i-len-clause-kid : goal.returns-else-i-len-clause-kid
returns-else-i-len-clause-kid c =
    let size = count-forest c.self.inside.items.items ∙ ap count c.self.view_is in
    let past : count c.args.self.now ≤ c.args.i = omega (arith, size, c.self.inside.items.ok.0, c.len.ensures, c.if-i-len.false) in
    kid_at-past c.args.self.now c.args.i past

pub returns-else-i-len-clause-none : goal.returns-else-i-len-clause-none
returns-else-i-len-clause-none c =
    let size = count-forest c.self.inside.items.items ∙ ap count c.self.view_is in
    let past : count c.args.self.now ≤ c.args.i = omega (arith, size, c.self.inside.items.ok.0, c.len.ensures, c.if-i-len.false) in
    ((λ none. past), λ p. refl)
