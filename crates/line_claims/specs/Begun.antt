-- Inner: no public clause cites this file.
-- A part that stands alone.
use Rattle.std.specs.Prelude.{List, [], ◌∷◌, Option, Some, None}
use Rattle.query_base.specs.Asked.{Asked}
use Rattle.query_base.specs.declared.claims.Claim.{Claim}
use Rattle.query_base.specs.declared.claims.Claim.TheVariants.{Illegal}

-- that no game reaches the query, if one is given
abbrev pub alone_part : Option Asked → List (Claim × Asked)
alone_part None = []
alone_part (Some q) = (Illegal, q) ∷ []
