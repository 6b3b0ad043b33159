use Rattle.std.proofs.Common.{◌∙◌, sym}
use Rattle.cage_rules.specs.Frozen.{is_before_promotion}
use Rattle.sketch_grounds.proofs.Entering.{before-none, none-that}
use Rattle.sketch_grounds.proofs.entries.promotion_entries.Goals as goal

pub returns-else-rank-last_rank : goal.returns-else-rank-last_rank
returns-else-rank-last_rank c =
    c.none.ensures ∙ none-that (is_before_promotion c.args.colour c.args.s) (λ t inside. before-none c.args.colour c.args.s t (λ same. c.if-rank-last_rank.false (c.rank.ensures ∙ same ∙ sym c.last_rank.ensures)))
