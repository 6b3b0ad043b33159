use Rattle.std.proofs.Common.{◌≡◌, ◌∷◌, List, drop, length, refl, reverse, subst}
use Rattle.std.proofs.lemmas.List.{length-reverse}
use Rattle.general_lemmas.proofs.Lasts.{pushed}
use Rattle.cert_checker.specs.Frames.{OnFirst}
use Rattle.cert_checker.specs.Framing.{behind}
use Rattle.cert_checker.specs.Kept.{Frame}
use Rattle.cert_checker.proofs.Opening.{first_listed}
use Rattle.cert_checker.proofs.Taking.{kid_due, kid_walked, walked_stack}
use Rattle.cert_checker.proofs.frames.walk_kid.Goals as goal

pub returns-clause-walk : goal.returns-clause-walk
returns-clause-walk c =
    let push = subst (λ (f : Frame). reverse c.push.new.self.items ≡ f ∷ reverse c.args.frames.now.items) c.next_child-first.ensures.rest (pushed c.args.frames.now.items c.push.new.self.items _ c.push.ensures.items) in
    let asked = rw c.query-query.ensures at c.look_at-found.ensures in
    let on = subst (λ (l : List Frame). OnFirst c.next_child-first.result.0 c.args.top.query (reverse l) c.args.line c.args.label.now c.args.body.now (behind c.look_at-found.result.0 c.args.body.now c.look_at-found.result.1 (reverse l) c.args.line)) c.as_slice.ensures.value asked in
    kid_walked c.go_below.result c.go_below.new.sketching c.args.top c.next_child-first.result.0 (drop 1 c.args.top.left) (reverse c.args.frames.now.items) (reverse c.push.new.self.items) (reverse c.go_below.new.frames.items) c.args.line c.args.label.now c.args.body.now _
    c.next_child-first.ensures.first refl push on c.go_below.ensures.walk

pub returns-clause-due : goal.returns-clause-due
returns-clause-due c =
    let push = subst (λ (f : Frame). reverse c.push.new.self.items ≡ f ∷ reverse c.args.frames.now.items) c.next_child-first.ensures.rest (pushed c.args.frames.now.items c.push.new.self.items _ c.push.ensures.items) in
    kid_due c.go_below.result c.go_below.new.sketching c.args.sketching.now.units c.args.top (drop 1 c.args.top.left) (reverse c.args.frames.now.items) (reverse c.push.new.self.items) (reverse c.go_below.new.frames.items) c.args.line c.args.body.now _
    push c.go_below.ensures.frames c.go_below.ensures.due

pub returns-clause-stack : goal.returns-clause-stack
returns-clause-stack c = λ room stack.
    let push = subst (λ (f : Frame). reverse c.push.new.self.items ≡ f ∷ reverse c.args.frames.now.items) c.next_child-first.ensures.rest (pushed c.args.frames.now.items c.push.new.self.items _ c.push.ensures.items) in
    walked_stack c.args.top.query c.args.top.left (drop 1 c.args.top.left) _ _ c.args.line (length c.args.frames.now.items) (reverse c.args.frames.now.items) (reverse c.push.new.self.items) _ c.args.body.now _
    refl c.requires.listed (length-reverse c.args.frames.now.items) c.requires.room push c.go_below.ensures.frames room stack

pub look_at-found-requires : goal.look_at-found-requires
look_at-found-requires c = rw (c.query-query.ensures, c.next_child-first.ensures.first) (first_listed c.args.top.left c.args.top.query c.requires.listed)
