-- Sketches trimmed to the end.
use Rattle.std.specs.Prelude.{◌*◌, length}
use Rattle.figures.specs.Figures.{Sketch}
use Rattle.figures.specs.Trimmed.{trims}

-- trimmed until nothing changes: each round but the last leaves somebody fewer squares
unfoldable pub trimmed_out : Sketch → Sketch
trimmed_out S = trims (64 * length S) S
