-- What can be settled: whether nothing has to be taken back, and whether a query is refutable.
use Rattle.std.proofs.Common.{ℕ, zero, suc, List, [], ◌∷◌}
use Rattle.board_base.specs.declared.unmoves.Unmove.{Unmove}
use Rattle.general_lemmas.proofs.Settling.{Settled, both, each_member, either, negated}
use Rattle.query_base.specs.Asked.{Asked}
use Rattle.query_base.specs.Reach.{Reaches}
use Rattle.query_base.proofs.Settled.{array_settled}
use Rattle.query_base.proofs.Nearest.{covered_settled}
use Rattle.static_rules.specs.Supports.{IsClosed}
use Rattle.static_rules.proofs.Settled.{closed_settled}
use Rattle.unmove_gen.specs.Listed.{unmoves}
use Rattle.unmove_gen.specs.Predecessor.{predecessor}
use Rattle.query_base.specs.Ancestors.{IsCovered}
use Rattle.retro_search.specs.Refutable.{IsRefutable, IsShut}

pub shut_settled : (q : Asked) (ancestors : List Asked) → Settled (IsShut q ancestors)
shut_settled q ancestors = either (IsClosed q) (IsCovered q ancestors) (closed_settled q) (covered_settled q ancestors)

pub refutable_settled : (depth : ℕ) (q : Asked) (ancestors : List Asked) → Settled (IsRefutable q depth ancestors)
refutable_settled zero q ancestors = shut_settled q ancestors
refutable_settled (suc depth) q ancestors =
    either (IsShut q ancestors) _ (shut_settled q ancestors) (both (Reaches [] q → ⊥) _ (negated (Reaches [] q) (array_settled q)) (each_member {A = Unmove} (λ u. IsRefutable (predecessor q u) depth (q ∷ ancestors)) (unmoves q) (λ u. refutable_settled depth (predecessor q u) (q ∷ ancestors))))
