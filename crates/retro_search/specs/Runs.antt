-- Inner: no public clause cites this file.
-- Searches on their way.
use Rattle.std.specs.Prelude.{◌≡◌, ◌≤◌, true}
use Rattle.retro_search.specs.Kept.{IsSound, KeepsRuleLines}
use Rattle.retro_search.specs.declared.runs.Reasons.TheVariants.{RuleLines}
use Rattle.retro_search.specs.declared.runs.Run.{Run as ARun}

-- what is kept is sound, and by rule lines alone where the run is
pub record IsReady (run : ARun) : Type 0 where
  pub sound : IsSound run.memo
  pub lined : run.reasons ≡ RuleLines → KeepsRuleLines run.memo

-- what is kept is sound as before, no more queries may be visited, the memo is on where it was on, and the reasons stay
pub record GoesOn (old new : ARun) : Type 0 where
  pub sound : IsSound new.memo
  pub mode : new.memo.on ≡ old.memo.on
  pub fewer : new.left ≤ old.left
  pub reasons : new.reasons ≡ old.reasons

-- sketches are sought: trees are kept, and a search for one may find nothing
pub record IsSeeking (run : ARun) : Type 0 where
  pub on : run.memo.on ≡ true
  pub some : 1 ≤ run.quest.left

-- the run is the same but for what is kept while prices and sketches are sought
pub record IsSameButDesk (old new : ARun) : Type 0 where
  pub left : new.left ≡ old.left
  pub reasons : new.reasons ≡ old.reasons
  pub memo : new.memo ≡ old.memo
