use Rattle.std.proofs.Common.{◌==◌, ap, ◌∙◌}
use Rattle.board_base.specs.Board.{file}
use Rattle.sketch_sets.specs.Tests.{meets}
use Rattle.sketch_sets.proofs.Sets.{meets-told}
use Rattle.sketch_sets.proofs.masks.has_file.Goals as goal

pub returns : goal.returns
returns c = c.meets.ensures ∙ ap (meets c.args.set) c.file_squares.ensures ∙ meets-told c.args.set (λ q. file q == c.args.n)
