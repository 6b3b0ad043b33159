use Rattle.std.proofs.Common.{List, Bool, ap, sym, ◌∙◌, arith}
use Rattle.board_base.specs.Board.{is_in}
use Rattle.board_base.specs.declared.lines.Change.{Change}
use Rattle.board_base.specs.declared.lines.Change.TheVariants.{Falls, Rises}
use Rattle.sketch_sets.specs.Shifts.{rank_comes}
use Rattle.sketch_sets.proofs.Shifting.{ranks-fall, ranks-rise, ranks-stay}
use Rattle.sketch_sets.proofs.shifts.from_ranks.Goals as goal

pub returns-in-Falls : goal.returns-in-Falls
returns-in-Falls c = λ e low. ap (λ (l : List Bool). is_in l e) c.from_bits.ensures.squares ∙ ranks-fall c.bits.result e low ∙ ap (λ (l : List Bool). rank_comes Falls l e) c.bits.ensures.squares ∙ ap (λ (x : Change). rank_comes x c.args.set e) (sym c.in-Falls.is)

pub returns-in-Stays : goal.returns-in-Stays
returns-in-Stays c = λ e low. ranks-stay c.args.set e ∙ ap (λ (x : Change). rank_comes x c.args.set e) (sym c.in-Stays.is)

pub returns-in-Rises : goal.returns-in-Rises
returns-in-Rises c = λ e low. ap (λ (l : List Bool). is_in l e) c.from_bits-in-Rises.ensures.squares ∙ ranks-rise c.bits-in-Rises.result e (omega arith) low ∙ ap (λ (l : List Bool). rank_comes Rises l e) c.bits-in-Rises.ensures.squares ∙ ap (λ (x : Change). rank_comes x c.args.set e) (sym c.in-Rises.is)
