-- Inner: no public clause cites this file.
-- Trees whose sketches have texts.
use Rattle.std.specs.Prelude.{◌≡◌, true}
use Rattle.cert_text.specs.Tree.{Tree, Forest, rule, back, expand, sketch, none, more}
use Rattle.sketch_body.specs.Whole.{is_body}

abbrev mutual
  -- each sketch of the tree has a text
  pub HasSketchTexts : Tree → Type 0
  HasSketchTexts (rule r) = Unit {0}
  HasSketchTexts (back k) = Unit {0}
  HasSketchTexts (expand kids) = HaveSketchTexts kids
  HasSketchTexts (sketch b) = is_body b ≡ true

  pub HaveSketchTexts : Forest → Type 0
  HaveSketchTexts none = Unit {0}
  HaveSketchTexts (more label tree rest) = HasSketchTexts tree × HaveSketchTexts rest
