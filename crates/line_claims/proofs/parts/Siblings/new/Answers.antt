use Rattle.std.proofs.Common.{ap, List, map}
use Rattle.std.proofs.lemmas.List.Elements.{All-contains_itself, All-same}
use Rattle.std.specs.List.{Contains, filter}
use Rattle.board_base.specs.declared.unmoves.Unmove.{Unmove}
use Rattle.unmove_gen.specs.Listed.{unmoves}
use Rattle.line_claims.specs.Due.{excluded, is_other, siblings}
use Rattle.line_claims.proofs.parts.Siblings.new.Goals as goal

pub invariant_of-result : goal.invariant_of-result
invariant_of-result c = All-same (Contains (unmoves c.args.query.now)) c.new.result (unmoves c.args.query.now) c.new.ensures (All-contains_itself (unmoves c.args.query.now))

pub returns : goal.returns
unfolding siblings
returns c = ap (λ (us : List Unmove). map (excluded c.args.query.now) (filter (is_other c.args.step.now) us)) c.new.ensures
