use Rattle.std.proofs.Common.{◌+◌, ◌*◌}
use Rattle.sketch_search.proofs.writing.Writer.+writing.Given as goal

abbrev pub decreases-write_all : goal.decreases-write_all
decreases-write_all l = 2 * l.room + 1

abbrev pub decreases-write : goal.decreases-write
decreases-write l = 2 * l.room
