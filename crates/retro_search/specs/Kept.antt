-- Inner: no public clause cites this file.
-- Refutations that lean on few ancestors, or none, and those that are kept.
use Rattle.std.specs.Prelude.{ℕ, ◌≡◌, ◌≤◌, List, [], length, take}
use Rattle.std.specs.List.{All}
use Rattle.indexmap.specs.IndexMap.{values}
use Rattle.query_base.specs.Asked.{Asked}
use Rattle.cert_text.specs.Tree.{Tree}
use Rattle.cert_text.specs.Seen.{tree_of}
use Rattle.sketch_findings.specs.Proving.{Proves}
use Rattle.retro_search.specs.Heights.{height}
use Rattle.retro_search.specs.LineCounts.{lines_in}
use Rattle.retro_search.specs.RuleLines.{IsByRuleLines}
use Rattle.retro_search.specs.SketchTexts.{HasSketchTexts}
use Rattle.retro_search.specs.declared.refutations.Refutation.{Refutation}
use Rattle.retro_search.specs.declared.memos.Kept.{Kept as AKept}
use Rattle.retro_search.specs.declared.memos.Memo.{Memo as AMemo}

-- the tree proves the query below the nearest of these ancestors on which it leans, and has the height and the lines that are noted; its
-- sketches have texts
pub record IsRefutation (r : Refutation) (q : Asked) (depth : ℕ) (ancestors : List Asked) : Type 0 where
  pub proves : Proves (tree_of r.node) q (take r.lean ancestors)
  pub high : height (tree_of r.node) ≡ r.height
  pub low : r.height ≤ depth
  pub counted : lines_in (tree_of r.node) ≡ r.lines
  pub few : r.lines ≤ 500000
  pub texts : HasSketchTexts (tree_of r.node)

-- the tree proves the query, and leans on no ancestor; its sketches have texts
pub record StandsAlone (t : Tree) (q : Asked) (h n : ℕ) : Type 0 where
  pub proves : Proves t q []
  pub high : height t ≡ h
  pub counted : lines_in t ≡ n
  pub few : n ≤ 500000
  pub texts : HasSketchTexts t

abbrev pub IsKept : AKept → Type 0
IsKept k = StandsAlone (tree_of k.node) k.query k.height k.lines

-- what is kept stands alone, and there are few trees, with few lines together
pub record IsSound (m : AMemo) : Type 0 where
  pub each : All IsKept (values m.trees)
  pub trees : length m.trees.entries ≤ 65536
  pub few : m.lines ≤ 2000000

-- the reasons of all trees that are kept are rule lines
abbrev pub KeepsRuleLines : AMemo → Type 0
KeepsRuleLines m = All (λ k. IsByRuleLines (tree_of k.node)) (values m.trees)
