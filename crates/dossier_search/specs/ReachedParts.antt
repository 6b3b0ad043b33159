-- A part that a search comes to, since each part before it is proved.
use Rattle.std.specs.Prelude.{ℕ, ◌+◌, ◌≡◌, ◌⊎◌, List, [], ◌∷◌, ◌++◌, length}
use Rattle.std.specs.List.{All}
use Rattle.query_base.specs.Asked.{Asked}
use Rattle.query_base.specs.Targets.{target}
use Rattle.query_base.specs.declared.claims.Claim.{Claim}
use Rattle.cert_text.specs.Certificate.{Certificate}
use Rattle.line_claims.specs.Due.{parts_due}
use Rattle.line_claims.specs.Listing.{HasParts}
use Rattle.line_claims.specs.declared.claims.LineClaim.{LineClaim}
use Rattle.price_search.specs.FlatPrices.{FlatPricesSupport}
use Rattle.retro_search.specs.Answers.{IsProofOf}
use Rattle.retro_search.specs.Lone.{IsAfforded, IsDear}
use Rattle.retro_search.specs.Plain.{HasPlainSketch}
use Rattle.retro_search.specs.Refutable.{IsRefutable}

-- what a game reaches if and only if it contradicts the part
abbrev pub part_target : Claim × Asked → Asked
part_target part = target part.1 part.0

-- the part's target is refutable at the depth by rule lines
abbrev pub IsPartRefutable : ℕ → Claim × Asked → Type 0
IsPartRefutable depth part = IsRefutable (part_target part) depth []

-- flat prices support the part's target
abbrev pub IsPartPriced : Claim × Asked → Type 0
IsPartPriced part = FlatPricesSupport (part_target part)

-- one node of a sketch shows that no game comes to the part's target, without exact files, prices and marks
abbrev pub IsPartSketched : Claim × Asked → Type 0
IsPartSketched part = HasPlainSketch (part_target part)

-- a certificate of at most 500,000 nodes, which goes back no further than the depth, proves the part
abbrev pub IsPartProved : ℕ → Claim × Asked → Type 0
IsPartProved depth part = (cert : Certificate) × IsProofOf depth cert part.0 part.1

-- the proof of the part by rule lines is afforded by so many nodes, or one takes nothing back
abbrev pub IsPartAfforded : ℕ → ℕ → Claim × Asked → Type 0
IsPartAfforded depth nodes part = IsAfforded depth nodes part.0 part.1 ⊎ IsPartProved 0 part

-- rule lines don't refute the part's target at the depth, nor does one node of a sketch, and flat prices don't support it
pub record IsPartOpen (depth : ℕ) (part : Claim × Asked) : Type 0 where
  pub unrefuted : IsPartRefutable depth part → ⊥
  pub unpriced : IsPartPriced part → ⊥
  pub unsketched : IsPartSketched part → ⊥

-- the part's target costs more than the nodes, one node of a sketch doesn't refute it, and flat prices don't support it
pub record IsPartDear (depth nodes : ℕ) (part : Claim × Asked) : Type 0 where
  pub dear : IsDear depth nodes part.0 part.1
  pub unpriced : IsPartPriced part → ⊥
  pub unsketched : IsPartSketched part → ⊥

-- The part with this number, counted from 1, is as P says, and each part before it is proved.
pub record IsReachedPart (depth : ℕ) (P : Claim × Asked → Type 0) (claim : LineClaim) (q : Asked) (number : ℕ) : Type 0 where
  pub before : List (Claim × Asked)
  pub part : Claim × Asked
  pub after : List (Claim × Asked)
  pub listed : HasParts claim q
  pub whole : parts_due claim q ≡ before ++ part ∷ after
  pub place : number ≡ length before + 1
  pub proved : All (IsPartProved depth) before
  pub here : P part

-- the part with this number is open at the depth, and each part before it is proved
abbrev pub IsFirstOpenPart : ℕ → LineClaim → Asked → ℕ → Type 0
IsFirstOpenPart depth claim q number = IsReachedPart depth (IsPartOpen depth) claim q number

-- the part with this number is dear, and each part before it is proved
abbrev pub IsDearPart : ℕ → ℕ → LineClaim → Asked → ℕ → Type 0
IsDearPart depth nodes claim q number = IsReachedPart depth (IsPartDear depth nodes) claim q number
