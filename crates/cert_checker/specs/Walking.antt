-- Inner: no public clause cites this file.
-- What the functions of the walk answer.
use Rattle.std.specs.Prelude.{ℕ, ◌≡◌, ◌+◌, suc, length, IsTrue, Option, Some, None, Result, Ok, Err}
use Rattle.board_base.specs.Texts.{unmove_order}
use Rattle.board_base.specs.declared.unmoves.Unmove.{Unmove}
use Rattle.sketch_body.specs.Whole.{is_body}
use Rattle.cert_text.specs.Tree.{Tree, Forest, rule, back, expand, sketch, none, more}
use Rattle.cert_checker.specs.declared.refusals.Why.TheVariants as why
use Rattle.cert_checker.specs.declared.refusals.Refused.{Refused}
use Rattle.cert_checker.specs.declared.refusals.Refused.TheVariants as refused
use Rattle.cert_checker.specs.Walk.{ByLabel, Walked, fault_at, next_line, unlisted, unsupported}

-- the fault of a child on line n by its label, where this is the first unmove that no child had
abbrev pub IsLabelFault : Option Unmove → Unmove → ℕ → Walked → Type 0
IsLabelFault None label n walked = walked ≡ fault_at n (unsupported why.Stray)
IsLabelFault (Some u) label n walked = ByLabel (unmove_order label u) u n walked ⊥

-- what a function answers is such a fault, unless memory ran out
abbrev pub IsFault : Refused → (Walked → Type 0) → Type 0
IsFault (refused.BadText n) P = ⊥
IsFault (refused.Unlisted n u) P = P (fault_at n (unlisted u))
IsFault (refused.Unsupported n w) P = P (fault_at n (unsupported w))
IsFault refused.Memory P = Unit {0}

-- what a function answers is what a walk comes to, unless memory ran out
abbrev pub IsWalked : Result ℕ Refused → (Walked → Type 0) → Type 0
IsWalked (Ok n) P = P (next_line n)
IsWalked (Err f) P = IsFault f P

abbrev mutual
  -- how many lines a tree has
  pub lines_in : Tree → ℕ
  lines_in (rule r) = 1
  lines_in (back k) = 1
  lines_in (expand kids) = suc (lines_in_all kids)
  lines_in (sketch b) = suc (length b.prices + length b.lines)

  pub lines_in_all : Forest → ℕ
  lines_in_all none = 0
  lines_in_all (more label tree rest) = lines_in tree + lines_in_all rest

abbrev mutual
  -- each sketch in the tree has texts
  pub HasSketches : Tree → Type 0
  HasSketches (rule r) = Unit {0}
  HasSketches (back k) = Unit {0}
  HasSketches (expand kids) = HaveSketches kids
  HasSketches (sketch b) = IsTrue (is_body b)

  pub HaveSketches : Forest → Type 0
  HaveSketches none = Unit {0}
  HaveSketches (more label tree rest) = HasSketches tree × HaveSketches rest
