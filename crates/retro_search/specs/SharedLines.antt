-- Inner: no public clause cites this file.
-- What a search came to, with lines of prices that serve several siblings.
use Rattle.std.specs.Prelude.{◌≡◌, Result, Ok, Err}
use Rattle.query_base.specs.Asked.{Asked}
use Rattle.cert_text.specs.Seen.{tree_of}
use Rattle.price_sharing.specs.Repriced.{IsRepriced}
use Rattle.retro_search.specs.declared.refutations.Refutation.{Refutation}
use Rattle.retro_search.specs.declared.unrefuted.Unrefuted.{Unrefuted}
use Rattle.retro_search.specs.declared.unrefuted.Unrefuted.TheVariants.{Memory}

-- the second refutation of the query is the first but for lines of prices
pub record IsSameButLines (r : Refutation) (q : Asked) (s : Refutation) : Type 0 where
  pub tree : IsRepriced (tree_of r.node) (tree_of s.node) q
  pub lean : s.lean ≡ r.lean
  pub height : s.height ≡ r.height
  pub lines : s.lines ≡ r.lines

-- the search of the query came to the same but for lines of prices, or memory is wanting
abbrev pub IsShared : Result Refutation Unrefuted → Asked → Result Refutation Unrefuted → Type 0
IsShared (Ok r) q (Ok s) = IsSameButLines r q s
IsShared (Ok r) q (Err why) = why ≡ Memory
IsShared (Err why) q new = new ≡ Err why
