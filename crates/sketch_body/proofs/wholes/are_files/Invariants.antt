use Rattle.std.proofs.Common.{◌≡◌, drop}
use Rattle.sketch_text.specs.Heads.{are_files}
use Rattle.sketch_body.proofs.wholes.are_files.Given as goal

abbrev pub invariant-loop-file : goal.invariant-loop-file
invariant-loop-file l = are_files l.least (drop l.file-index l.files) ≡ are_files 0 l.files
