use Rattle.std.proofs.Common.{◌≡◌, ◌+◌, ◌∙◌, suc, length, reverse, refl, sym, arith}
use Rattle.std.proofs.lemmas.List.{length-reverse}
use Rattle.cert_checker.specs.Framing.{IsStack}
use Rattle.cert_checker.proofs.Taking.{good, kid_room, stage_kid}
use Rattle.general_lemmas.proofs.Lasts.{pushed}
use Rattle.cert_checker.proofs.frames.take_line.Goals as goal

pub returns-in-Some-read_kid_line-clause-stage : goal.returns-in-Some-read_kid_line-clause-stage
returns-in-Some-read_kid_line-clause-stage c = λ claim q.
    let first = pushed c.pop.new.self.items c.args.frames.now.items c.in-Some.top (rw c.in-Some.is at c.pop.ensures.items) in
    let opened = rw first at c.requires.open in
    let deep : c.len.result + 1 ≡ suc (length (reverse c.pop.new.self.items)) = omega (arith, length-reverse c.pop.new.self.items, c.len.ensures.value) in
    stage_kid c.walk_kid.result c.walk_kid.new.sketching c.args.sketching.now.units c.in-Some.top (reverse c.args.frames.now.items) (reverse c.pop.new.self.items) (reverse c.walk_kid.new.frames.items) c.args.number _ c.args.line.now _ _ claim q first opened deep (sym c.read_kid_line.ensures ∙ c.in-Some-read_kid_line.is) c.walk_kid.ensures.walk c.walk_kid.ensures.due

pub returns-in-Some-read_kid_line-clause-stack : goal.returns-in-Some-read_kid_line-clause-stack
returns-in-Some-read_kid_line-clause-stack c =
    let first = pushed c.pop.new.self.items c.args.frames.now.items c.in-Some.top (rw c.in-Some.is at c.pop.ensures.items) in
    let all = rw first at c.requires.stack in
    let deep : c.len.result + 1 ≡ suc (length c.pop.new.self.items) = omega (arith, c.len.ensures.value) in
    good c.walk_kid.result (IsStack (reverse c.walk_kid.new.frames.items)) (c.walk_kid.ensures.stack (kid_room _ _ c.args.line.now _ _ deep (sym c.read_kid_line.ensures ∙ c.in-Some-read_kid_line.is)) all.2)

pub returns-in-Some-read_kid_line-clause-reading : goal.returns-in-Some-read_kid_line-clause-reading
returns-in-Some-read_kid_line-clause-reading c =
    c.walk_kid.ensures.reading (c.len.result + 1) (kid_room _ (c.len.result + 1) c.args.line.now _ _ refl (sym c.read_kid_line.ensures ∙ c.in-Some-read_kid_line.is))
