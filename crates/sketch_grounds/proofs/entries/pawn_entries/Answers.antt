use Rattle.std.proofs.Common.{◌≡◌, false, ◌∙◌}
use Rattle.cage_rules.specs.Frozen.{is_past_home}
use Rattle.sketch_grounds.proofs.Entering.{enters-none, none-that}
use Rattle.sketch_grounds.specs.Entries.{pawn_enters}
use Rattle.sketch_grounds.proofs.entries.pawn_entries.Goals as goal

pub returns-then-not-is_past_home : goal.returns-then-not-is_past_home
returns-then-not-is_past_home c =
    let here : is_past_home c.args.colour c.args.s ≡ false = cc in
    c.none.ensures ∙ none-that (pawn_enters c.args.marked c.args.colour c.args.s) (λ t inside. enters-none c.args.marked c.args.colour c.args.s t here)
