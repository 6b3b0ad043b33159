-- The least set of men that a reason needs.
use Rattle.std.specs.Prelude.{ℕ, zero, suc, ◌≡◌, ◌⊎◌, Bool, false, IsTrue, List, length, Option, Some, None, slice_set}
use Rattle.board_base.specs.Board.{is_in}
use Rattle.cage_rules.specs.Frozen.{IsFrozen}
use Rattle.cert_checker.specs.Reasons.{ReasonSupports}
use Rattle.play_rules.specs.Reach.{IsWithin}
use Rattle.query_base.specs.Asked.{Asked}
use Rattle.query_base.specs.declared.rule_lines.RuleLine.{RuleLine}
use Rattle.query_base.specs.declared.rule_lines.RuleLine.TheVariants.{Kings, Ranks, Check, Rights, Count, Frozen, Caps, Promo}
use Rattle.cert_text.specs.declared.reasons.Reason.{Reason}
use Rattle.cert_text.specs.declared.reasons.Reason.TheVariants.{Line, Balance}

-- the set of a rule line that has one
abbrev pub line_set : RuleLine → Option (List Bool)
line_set Kings = None
line_set Ranks = None
line_set Check = None
line_set Rights = None
line_set (Count side) = None
line_set (Frozen s) = Some s
line_set (Caps side s p) = Some s
line_set (Promo side s) = Some s

-- the set of a reason that has one
abbrev pub set_of : Reason → Option (List Bool)
set_of (Line rule) = line_set rule
set_of (Balance s p) = Some s

-- the rule line with this set, where it has one
abbrev pub line_with : RuleLine → List Bool → RuleLine
line_with Kings set = Kings
line_with Ranks set = Ranks
line_with Check set = Check
line_with Rights set = Rights
line_with (Count side) set = Count side
line_with (Frozen s) set = Frozen set
line_with (Caps side s p) set = Caps side set p
line_with (Promo side s) set = Promo side set

-- the reason with this set, where it has one
abbrev pub with_set : Reason → List Bool → Reason
with_set (Line rule) set = Line (line_with rule set)
with_set (Balance s p) set = Balance set p

-- the greatest frozen set of the query within a set
pub record IsGreatestWithin (q : Asked) (set part : List Bool) : Type 0 where
  pub whole : length part ≡ 64
  pub frozen : IsFrozen q part
  pub within : IsWithin part set
  pub greatest : (other : List Bool) → IsFrozen q other → IsWithin other set → IsWithin other part

-- the reason stands without this square of the set: with the men whom those that are left shut in
abbrev pub StandsWith : Asked → Reason → List Bool → ℕ → List Bool → Type 0
StandsWith q r set s part =
    IsTrue (is_in set s) × IsGreatestWithin q (slice_set set s false) part × ReasonSupports q (with_set r part)

-- what is left where a square is to be taken out: the set, where the reason doesn't stand without it
abbrev pub IsLeft : Asked → Reason → List Bool → ℕ → List Bool → Type 0
IsLeft q r set s left = StandsWith q r set s left ⊎ (((part : List Bool) → StandsWith q r set s part → ⊥) × (left ≡ set))

-- what is left where the squares below this one are to be taken out one after another, from a1 on
abbrev pub IsLeftBelow : Asked → Reason → List Bool → ℕ → List Bool → Type 0
IsLeftBelow q r set zero left = left ≡ set
IsLeftBelow q r set (suc s) left = (before : List Bool) × IsLeftBelow q r set s before × IsLeft q r before s left

-- the same of all squares
unfoldable pub IsLessened : Asked → Reason → List Bool → List Bool → Type 0
IsLessened q r set left = IsLeftBelow q r set 64 left

-- the reason with what is left of this set, if it has one
abbrev pub IsLeastWith : Asked → Reason → Option (List Bool) → Reason → Type 0
IsLeastWith q r None least = least ≡ r
IsLeastWith q r (Some set) least = (left : List Bool) × IsLessened q r set left × (least ≡ with_set r left)

-- the reason with what is left of its set
abbrev pub IsLeast : Asked → Reason → Reason → Type 0
IsLeast q r least = IsLeastWith q r (set_of r) least
