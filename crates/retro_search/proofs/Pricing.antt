-- Queries that flat prices support, and lines on which none stands that they support.
use Rattle.std.proofs.Common.{◌≡◌, List, [], ◌∷◌, ◌++◌, reverse, sym, ap, ◌∙◌, subst, arith}
use Rattle.board_base.specs.declared.unmoves.Unmove.{Unmove}
use Rattle.general_lemmas.proofs.Lasts.{pushed}
use Rattle.query_base.specs.Asked.{Asked}
use Rattle.query_base.specs.Reach.{Reaches}
use Rattle.unmove_gen.specs.Predecessor.{predecessor}
use Rattle.price_search.specs.FlatPrices.{FlatPricesSupport, flat_prices}
use Rattle.balance_rule.proofs.Sound.{balance-unreached}
use Rattle.retro_search.specs.Runs.{GoesOn, IsSameButDesk}
use Rattle.retro_search.specs.Unrefuted.{IfOpen, IsLengthened}
use Rattle.retro_search.specs.Unsettled.{IsUnpriced}
use Rattle.retro_search.specs.declared.memos.Memo.{Memo}
use Rattle.retro_search.specs.declared.runs.Run.{Run}
use Rattle.retro_search.specs.declared.unrefuted.OpenLine.{OpenLine}
use Rattle.retro_search.specs.declared.unrefuted.Unrefuted.{Unrefuted}
use Rattle.retro_search.proofs.Bound.Goods.{visited}
use Rattle.retro_search.proofs.Lines.OpenLines.{stop_open}

-- the game of no moves doesn't reach what flat prices support
pub elsewhere : (q : Asked) → FlatPricesSupport q → Reaches [] q → ⊥
elsewhere q e here = balance-unreached q e.set (flat_prices e.payers) e.supports [] here

-- a run goes on over two steps
pub further : (a b c : Run) → GoesOn a b → GoesOn b c → GoesOn a c
further a b c first second = record {
  sound = second.sound;
  mode = second.mode ∙ first.mode;
  fewer = omega (arith, first.fewer, second.fewer);
  reasons = second.reasons ∙ first.reasons;
}

-- and over a look for prices
pub over_balance : (run priced new : Run) → IsSameButDesk (visited run) priced → GoesOn priced new → GoesOn run new
over_balance run priced new same on = record {
  sound = on.sound;
  mode = on.mode ∙ ap (λ (m : Memo). m.on) same.memo;
  fewer = omega (arith, on.fewer, same.left);
  reasons = on.reasons ∙ same.reasons;
}

-- a line without an unmove
pub leaf_unpriced : (back : List Unmove) (q : Asked) → back ≡ [] → (FlatPricesSupport q → ⊥) → IsUnpriced q (reverse back)
leaf_unpriced back q empty new = subst (IsUnpriced q) (ap reverse (sym empty)) new

-- a line of a predecessor, with one unmove more
longer_unpriced : (kid line : OpenLine) (q : Asked) (u : Unmove) → (FlatPricesSupport q → ⊥) → line.back.items ≡ kid.back.items ++ u ∷ [] → IsUnpriced (predecessor q u) (reverse kid.back.items) → IsUnpriced q (reverse line.back.items)
longer_unpriced kid line q u new grown rest =
    subst (IsUnpriced q) (sym (pushed kid.back.items line.back.items u grown)) (new, rest)

-- what stops the search of a predecessor
pub stop_unpriced : (s t : Unrefuted) (q p : Asked) (u : Unmove) → p ≡ predecessor q u → (FlatPricesSupport q → ⊥) → IsLengthened s u t → IfOpen s (λ line. IsUnpriced p (reverse line.back.items)) → IfOpen t (λ line. IsUnpriced q (reverse line.back.items))
stop_unpriced s t q p u here new longer h =
    stop_open s t u (λ line. IsUnpriced p (reverse line.back.items)) (λ line. IsUnpriced q (reverse line.back.items)) (λ kid line grown same rest.
    longer_unpriced kid line q u new grown (subst (λ (a : Asked). IsUnpriced a (reverse kid.back.items)) here rest)) longer h
