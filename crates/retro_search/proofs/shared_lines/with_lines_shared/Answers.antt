use Rattle.std.proofs.Common.{[], refl}
use Rattle.retro_search.proofs.SharedLines.{left_alone}
use Rattle.retro_search.proofs.shared_lines.with_lines_shared.Goals as goal

pub with_shared_lines-requires : goal.with_shared_lines-requires
with_shared_lines-requires c = ([], rw c.in-Ok.is at c.requires)

pub returns-then-eq-clause-shared : goal.returns-then-eq-clause-shared
returns-then-eq-clause-shared c = left_alone c.args.came c.args.came c.args.query.now refl
