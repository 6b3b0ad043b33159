use Rattle.std.proofs.Common.{◌≡◌, ℕ, drop, sym, ap, ◌∙◌}
use Rattle.std.specs.List.{filter}
use Rattle.unmove_gen.specs.Cursors.{number_of}
use Rattle.unmove_gen.specs.Listed.{candidates, is_listed, unmoves}
use Rattle.general_lemmas.proofs.Filtered.{rest_skips}
use Rattle.unmove_gen.proofs.lists.QueryUnmoves.new.Goals as goal

pub returns : goal.returns
unfolding unmoves
returns c =
    let first : number_of c.first.result ≡ 0 = c.first.ensures in
    ap (λ l. record { query = c.args.query.now; left = l }) (sym (ap (λ (n : ℕ). filter (is_listed c.args.query.now) (drop n candidates)) (sym first)
    ∙ rest_skips (is_listed c.args.query.now) candidates (number_of c.first.result) (number_of c.stop_from-stop.result.cursor) c.stop_from-stop.ensures.forward (λ k u low below there. c.stop_from-stop.ensures.unlisted k u low below there)))
