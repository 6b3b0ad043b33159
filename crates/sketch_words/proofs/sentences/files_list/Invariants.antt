use Rattle.std.proofs.Common.{◌≡◌}
use Rattle.std.specs.List.{flat_map, range_with_len}
use Rattle.sketch_words.specs.Phrases.{file_words}
use Rattle.sketch_words.proofs.sentences.files_list.Given as goal

abbrev pub invariant-loop-file : goal.invariant-loop-file
invariant-loop-file l = l.list.items ≡ flat_map (file_words l.exact) (range_with_len 0 l.file)
