-- What is told of a search that leaves a claim open.
use Rattle.std.specs.Prelude.{ℕ, suc, ◌≡◌, ◌<◌, ◌≤◌, Bool, true, false, ◌||◌, is_some, List, length, take, Option, Some, None, slice_get}
use Rattle.board_base.specs.declared.unmoves.Unmove.{Unmove}
use Rattle.castle_history.specs.TakenBack.{castling_back}
use Rattle.query_base.specs.Asked.{Asked}
use Rattle.query_base.specs.Targets.{target}
use Rattle.query_base.specs.declared.claims.Claim.{Claim}
use Rattle.unmove_gen.specs.Listed.{resets}
use Rattle.unmove_gen.specs.Predecessor.{left_by}
use Rattle.retro_search.specs.SearchSizes.{IsLargeSearch}
use Rattle.retro_search.specs.Unsettled.{StaysUnsettled}
use Rattle.claim_findings.specs.declared.findings.Finding.{Finding}
use Rattle.claim_findings.specs.declared.findings.Finding.TheVariants.{Open}

-- the move that is taken back was a pawn's, a capture or a castling
abbrev pub is_telling : Asked → Unmove → Bool
is_telling q u = resets q.board u || is_some (castling_back q.board u.mv)

-- of the retraction with so many before it on the line, if there is one, this is so
abbrev pub IsTellingAt : Asked → List Unmove → Bool → ℕ → Type 0
IsTellingAt q line telling i = (u : Unmove) → slice_get line i ≡ Some u → is_telling (left_by q (take i line)) u ≡ telling

-- So many retractions of the line are told: up to the last of a pawn's move, a capture or a castling among its first eight; none, if there
-- is none among them.
pub record IsCut (q : Asked) (line : List Unmove) (number : ℕ) : Type 0 where
  pub few : number ≤ 8
  pub within : number ≤ length line
  pub ends : (i : ℕ) → suc i ≡ number → IsTellingAt q line true i
  pub quiet : (i : ℕ) → number ≤ i → i < 8 → IsTellingAt q line false i

-- the retractions that are told of a line that stays open
pub record IsFront (q : Asked) (depth : ℕ) (front : List Unmove) : Type 0 where
  pub line : List Unmove
  pub open_line : StaysUnsettled line q depth
  pub number : ℕ
  pub cut : IsCut q line number
  pub front_is : front ≡ take number line

-- What is told of why a claim is open: the retractions of a line of its target's that stays open; nothing only if the whole search is
-- larger than the nodes. Of a claim that isn't open nothing is told.
abbrev pub IsStuck : Asked → Claim → ℕ → ℕ → Finding → Option (List Unmove) → Type 0
IsStuck q claim most nodes finding None = finding ≡ Open → IsLargeSearch (target q claim) most nodes
IsStuck q claim most nodes finding (Some front) = (finding ≡ Open) × IsFront (target q claim) most front
