use Rattle.std.proofs.Common.{Bool, List, sym, subst}
use Rattle.cage_rules.proofs.Beginners.{officer-inside}
use Rattle.cage_rules.proofs.Gains.{region-less}
use Rattle.ledger_lines.specs.Known.{AreWithin}
use Rattle.ledger_lines.proofs.confined.is_kept.Goals as goal

pub returns : goal.returns
returns c =
    let within : List Bool → Type 0 = λ inner. AreWithin inner c.args.squares in (
      λ yes. record { set = c.greatest_frozen-set.result; whole = c.is_whole.ensures; frozen = c.greatest_frozen-set.ensures.frozen; within = subst within c.region.ensures.squares (c.are_within.ensures.0 yes) },
      λ kept. c.are_within.ensures.1 (subst within (sym c.region.ensures.squares) (λ s low there.
          kept.within s low (region-less kept.set c.greatest_frozen-set.result c.args.h (officer-inside c.args.h c.requires) kept.whole (c.greatest_frozen-set.ensures.greatest kept.set kept.frozen) s there))),
    )
