use Rattle.std.proofs.Common.{ap, length}
use Rattle.std.proofs.lemmas.Bool.{both_ways}
use Rattle.sketch_found.proofs.Within.{not-within}
use Rattle.sketch_found.proofs.found.if_proved.Goals as goal
use Rattle.sketch_found.proofs.found.if_proved.Goals.{else-proved-via-then-proved+else-within, else-proved-via-else-proved}

pub returns-else-proved-clause-all : goal.returns-else-proved-clause-all
returns-else-proved-clause-all c = λ can proof within.
    elim c.else-proved.branch [
      | else-proved-via-then-proved+else-within w ↦
          absurd (not-within c.args.most c.args.found (length c.as_slice-prices.result.now) c.as_slice.result.now c.are_lines-within.result (ap length c.as_slice-prices.ensures.value) c.as_slice.ensures.value c.are_lines-within.ensures w.if-within.false within)
      | else-proved-via-else-proved w ↦
          absurd (both_ways c.is_proof-proved.result w.if-proved.false (c.is_proof-proved.ensures.all can within.few proof))
    ]
