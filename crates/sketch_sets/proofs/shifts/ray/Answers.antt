use Rattle.std.proofs.Common.{◌≡◌, ◌+◌, ℕ, suc, Bool, List, ◌||◌, ◌&&◌, not, ap, ◌∙◌, arith}
use Rattle.board_base.specs.Board.{is_in}
use Rattle.sketch_sets.specs.Shifts.{comes_by}
use Rattle.sketch_sets.proofs.Sets.{told-either, told-less}
use Rattle.sketch_sets.proofs.Shifting.{ray-more, ray-none}
use Rattle.sketch_sets.proofs.shifts.ray.Goals as goal

pub loop-init : goal.loop-init
loop-init c = λ e low. ap (λ (l : List Bool). is_in l e) c.from_bits-from.ensures.squares ∙ ray-none c.args.direction c.args.to c.args.fixed e

pub loop-preserved : goal.loop-preserved
loop-preserved c = λ e low.
    let more : suc c.loop.counter ≡ c.loop.counter + 1 = omega arith in
    c.shifted-from.ensures e low
    ∙ ray-more c.args.direction c.args.to c.args.fixed c.either.result c.loop.counter e low (λ t inside.
    told-either c.args.to c.both-past.result c.either.result t inside c.either.ensures
    ∙ ap (λ (x : Bool). is_in c.args.to t || x) (told-less c.loop.from c.args.fixed c.outside.result c.both-past.result t inside c.outside.ensures c.both-past.ensures ∙ ap (λ (x : Bool). x && not (is_in c.args.fixed t)) (c.loop.invariant t inside)))
    ∙ ap (λ (n : ℕ). comes_by c.args.direction c.args.to c.args.fixed n e) more

pub returns : goal.returns
returns c = λ e low. c.loop.invariant e low ∙ ap (λ (n : ℕ). comes_by c.args.direction c.args.to c.args.fixed n e) (let end : c.loop.counter ≡ c.args.steps = omega arith in end)
