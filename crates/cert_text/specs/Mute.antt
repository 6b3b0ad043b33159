-- Lines that no certificate has.
use Rattle.std.specs.Prelude.{ℕ, ◌≡◌, ◌≤◌, List, None}
use Rattle.sketch_body.specs.Due.{Reading}
use Rattle.sketch_body.specs.Due as sketches
use Rattle.cert_text.specs.Lines.{said}
use Rattle.cert_text.specs.NodeLines.{root_body, kid_body}
use Rattle.cert_text.specs.Heads.{head_step}
use Rattle.cert_text.specs.declared.heads.Head.{Head}

-- the line says nothing, wherever it stands
pub record IsMute (line : List ℕ) : Type 0 where
  pub head : (due : Head) → head_step due line ≡ None
  pub root : said root_body line ≡ None
  pub kid : (depth : ℕ) → said (kid_body depth) line ≡ None
  pub sketch : (r : Reading) → r.due.prices ≤ 64 → said (sketches.step r) line ≡ None
