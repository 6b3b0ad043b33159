use Rattle.std.proofs.Common.{List, Bool, ap, sym, ◌∙◌}
use Rattle.board_base.specs.Board.{is_in}
use Rattle.board_base.specs.declared.lines.Change.{Change}
use Rattle.board_base.specs.declared.lines.Change.TheVariants.{Falls, Rises}
use Rattle.sketch_sets.specs.Shifts.{file_comes}
use Rattle.sketch_sets.proofs.Shifting.{files-fall, files-rise, files-stay}
use Rattle.sketch_sets.proofs.shifts.from_files.Goals as goal

pub returns-in-Falls : goal.returns-in-Falls
returns-in-Falls c = λ e low. ap (λ (l : List Bool). is_in l e) c.from_bits.ensures.squares ∙ files-fall c.bits.result e low ∙ ap (λ (l : List Bool). file_comes Falls l e) c.bits.ensures.squares ∙ ap (λ (x : Change). file_comes x c.args.set e) (sym c.in-Falls.is)

pub returns-in-Stays : goal.returns-in-Stays
returns-in-Stays c = λ e low. files-stay c.args.set e ∙ ap (λ (x : Change). file_comes x c.args.set e) (sym c.in-Stays.is)

pub returns-in-Rises : goal.returns-in-Rises
returns-in-Rises c = λ e low. ap (λ (l : List Bool). is_in l e) c.from_bits-in-Rises.ensures.squares ∙ files-rise c.bits-in-Rises.result e low ∙ ap (λ (l : List Bool). file_comes Rises l e) c.bits-in-Rises.ensures.squares ∙ ap (λ (x : Change). file_comes x c.args.set e) (sym c.in-Rises.is)
