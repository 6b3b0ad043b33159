use Rattle.std.proofs.Common.{◌≡◌, ◌++◌, ◌∷◌, take}
use Rattle.std.specs.List.{flat_map}
use Rattle.board_base.specs.Texts.{unmove_text}
use Rattle.claim_findings.proofs.lines.push_unmoves.Given as goal

abbrev pub invariant-loop-i : goal.invariant-loop-i
invariant-loop-i l = l.text.items ≡ l.initial.text.items ++ flat_map (λ u. 32 ∷ unmove_text u) (take l.i l.left)
