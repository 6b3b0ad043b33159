-- Inner: no public clause cites this file.
-- What the search of one part answers.
use Rattle.std.specs.Prelude.{ℕ, ◌≤◌, List, length, Vec}
use Rattle.std.specs.declared.alloc.Global.{Global}
use Rattle.query_base.specs.Asked.{Asked}
use Rattle.query_base.specs.declared.claims.Claim.{Claim}
use Rattle.dossier_text.specs.Proving.{ProvesPart}
use Rattle.dossier_search.specs.ReachedParts.{IsPartAfforded, IsPartProved}
use Rattle.dossier_search.specs.declared.parts.PartAnswer.{PartAnswer}
use Rattle.dossier_search.specs.declared.parts.PartAnswer.TheVariants as part

-- the bytes prove the part within the depth, its proof is afforded, and a dossier may have so many bytes
pub record IsPartProof (depth nodes : ℕ) (bytes : List ℕ) (due : Claim × Asked) : Type 0 where
  pub proves : ProvesPart bytes due
  pub some : 1 ≤ length bytes
  pub few : length bytes ≤ 67108864
  pub proved : IsPartProved depth due
  pub afforded : IsPartAfforded depth nodes due

-- the bytes prove the part within the depth, and a dossier may have so many
pub record IsPartText (depth : ℕ) (bytes : List ℕ) (due : Claim × Asked) : Type 0 where
  pub proves : ProvesPart bytes due
  pub some : 1 ≤ length bytes
  pub few : length bytes ≤ 67108864
  pub proved : IsPartProved depth due

abbrev pub IfProof : PartAnswer → (Vec ℕ Global → Type 0) → Type 0
IfProof (part.Proved text) P = P text
IfProof part.Open P = Unit {0}
IfProof part.Dear P = Unit {0}

abbrev pub IfOpen : PartAnswer → Type 0 → Type 0
IfOpen (part.Proved text) P = Unit {0}
IfOpen part.Open P = P
IfOpen part.Dear P = Unit {0}

abbrev pub IfDear : PartAnswer → Type 0 → Type 0
IfDear (part.Proved text) P = Unit {0}
IfDear part.Open P = Unit {0}
IfDear part.Dear P = P
