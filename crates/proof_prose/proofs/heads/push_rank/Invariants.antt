use Rattle.std.proofs.Common.{◌≡◌, ◌+◌, ◌*◌, ◌++◌}
use Rattle.std.specs.List.{flat_map, range_with_len}
use Rattle.proof_prose.specs.Heads.{place_text}
use Rattle.proof_prose.proofs.heads.push_rank.Given as goal

abbrev pub invariant-loop-file : goal.invariant-loop-file
invariant-loop-file l = l.out.items ≡ l.initial.out.items ++ flat_map (λ f. place_text l.board (8 * l.rank + f)) (range_with_len 0 l.file)
