-- Steps and cases that can't have been, in words, by what they meet.
use Rattle.std.specs.Prelude.{ℕ, ◌==◌, Bool, true, false, cond, ◌&&◌, ◌||◌, not, List, [], ◌∷◌, ◌++◌, codes, Option, Some, None}
use Rattle.std.specs.List.{list_all, list_any}
use Rattle.board_base.specs.Board.{array_of, at as man_at}
use Rattle.board_base.specs.Texts.{square_text}
use Rattle.prose_words.specs.Words.{man_words}
use Rattle.sketch_words.specs.Phrases.{Spot}
use Rattle.sketch_words.specs.Words.{is_same_move, shown_words}
use Rattle.sketch_words.specs.declared.spots.Child.{Child}
use Rattle.sketch_words.specs.declared.spots.Flaw.{Flaw}
use Rattle.sketch_words.specs.declared.spots.Flaw.TheVariants.{Unbalanced, Foreign}

-- these are the same: the captures don't balance, or the man who never moved stands on the same square
abbrev pub is_same_flaw : Flaw → Flaw → Bool
is_same_flaw Unbalanced Unbalanced = true
is_same_flaw Unbalanced (Foreign t) = false
is_same_flaw (Foreign s) Unbalanced = false
is_same_flaw (Foreign s) (Foreign t) = s == t

-- this is why it can't have been, if anything is
abbrev pub is_flaw : Flaw → Option Flaw → Bool
is_flaw w None = false
is_flaw w (Some v) = is_same_flaw w v

-- it can't have been, for this
abbrev pub has_flaw : Flaw → Child → Bool
has_flaw w c = is_flaw w c.flaw

-- all of these to which the same move leads can't have been, for this
abbrev pub is_whole : List Child → Flaw → Child → Bool
is_whole all w c = list_all (λ x. not (is_same_move x.label c.label) || has_flaw w x) all

-- one of these to which the same move leads can't have been, for this
abbrev pub is_named : List Child → Flaw → Child → Bool
is_named before w c = list_any (λ x. has_flaw w x && is_same_move x.label c.label) before

-- one of these can't have been, for this
abbrev pub is_told : List Child → Flaw → Bool
is_told before w = list_any (λ x. has_flaw w x) before

-- what leads to it, behind another one or not; whoever fell, or with who fell
abbrev pub shown_once : Bool → Bool → Child → List ℕ
shown_once follows whole c = cond follows (codes ", nor ") [] ++ shown_words whole c.label

-- A child behind these, if it can't have been for this. If that is so of all to which a move leads, it is named once.
abbrev pub one_denied : List Child → Flaw → List Child → Child → List ℕ
one_denied all w before c =
    cond ((is_whole all w c && is_named before w c) || not (has_flaw w c)) [] (shown_once (is_told before w) (is_whole all w c) c)

-- each of these that can't have been for this, behind others
abbrev pub denied_each : List Child → Flaw → List Child → List Child → List ℕ
denied_each all w before [] = []
denied_each all w before (c ∷ cs) = one_denied all w before c ++ denied_each all w (before ++ c ∷ []) cs

-- why they can't have been
abbrev pub cause_words : List Bool → Flaw → List ℕ
cause_words odds Unbalanced = codes ": the captures by pawns wouldn't balance."
cause_words odds (Foreign s) =
    codes ": then the man on " ++ square_text s ++ codes " never moved, but " ++ man_words (man_at (array_of odds) s) ++ codes " began there."

-- all children that can't have been for this
abbrev pub denied_words : List Bool → Spot → List Child → Flaw → List ℕ
denied_words odds at all w = at.lead ++ codes "It wasn't " ++ denied_each all w [] all ++ cause_words odds w

-- all children with the flaw of one, if none of these behind which it stands has it
abbrev pub first_denied : List Bool → Spot → List Child → List Child → Option Flaw → List ℕ
first_denied odds at all before None = []
first_denied odds at all before (Some w) = cond (is_told before w) [] (denied_words odds at all w)

-- the children that can't have been, those with one flaw in one line, behind others
abbrev pub denials_words : List Bool → Spot → List Child → List Child → List Child → List ℕ
denials_words odds at all before [] = []
denials_words odds at all before (c ∷ cs) = first_denied odds at all before c.flaw ++ denials_words odds at all (before ++ c ∷ []) cs
