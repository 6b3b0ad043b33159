-- What a search for a certificate answers.
use Rattle.std.specs.Prelude.{ℕ, ◌≡◌, ◌<◌, ◌≤◌, IsTrue, List, [], length}
use Rattle.board_base.specs.declared.moves.Move.{Move}
use Rattle.board_base.specs.declared.unmoves.Unmove.{Unmove}
use Rattle.query_base.specs.Asked.{Asked}
use Rattle.query_base.specs.Reach.{Contradicts, Holds}
use Rattle.query_base.specs.Targets.{target}
use Rattle.query_base.specs.declared.claims.Claim.{Claim}
use Rattle.cert_text.specs.Certificate.{Certificate, HasText, IsTextOf}
use Rattle.cert_text.specs.ClaimLines.{promotes_well}
use Rattle.cert_text.specs.SeenCert.{cert_of}
use Rattle.cert_text.specs.declared.certificates.Cert.{Cert}
use Rattle.sketch_findings.specs.Proving.{ProvesClaim}
use Rattle.retro_search.specs.Refutable.{IsRefutable}
use Rattle.retro_search.specs.Heights.{height}
use Rattle.retro_search.specs.Lines.{EndsAtArray, IsFirstOpen, forwards}
use Rattle.retro_search.specs.Sizes.{nodes_in}
use Rattle.retro_search.specs.declared.answers.Found.{Found}
use Rattle.retro_search.specs.declared.answers.Found.TheVariants as found

-- the certificate proves this claim about this query, goes back no further than the depth, and has few nodes
pub record IsProofOf (depth : ℕ) (cert : Certificate) (claim : Claim) (q : Asked) : Type 0 where
  pub claim_is : cert.claim ≡ claim
  pub query_is : cert.query ≡ q
  pub proves : ProvesClaim cert
  pub low : height cert.root ≤ depth
  pub few : nodes_in cert.root ≤ 500000

-- the query isn't refutable at the depth, and this is its first open line
pub record StaysOpen (line : List Unmove) (q : Asked) (depth : ℕ) : Type 0 where
  pub unrefuted : IsRefutable q depth [] → ⊥
  pub first : IsFirstOpen q depth [] line

-- the line is as long as the depth, and ends elsewhere than at the array
pub record IsUndecided (line : List Unmove) (q : Asked) (depth : ℕ) : Type 0 where
  pub open_line : StaysOpen line q depth
  pub long : length line ≡ depth
  pub elsewhere : EndsAtArray q line → ⊥

-- the first open line of the claim's target ends at the array, and this game is that line forwards; it contradicts the claim
pub record IsCounter (game : List Move) (claim : Claim) (q : Asked) (depth : ℕ) : Type 0 where
  pub line : List Unmove
  pub open_line : StaysOpen line (target q claim) depth
  pub at_array : EndsAtArray (target q claim) line
  pub forwards_is : game ≡ forwards line
  pub contradicts : Contradicts game claim q

abbrev pub IfProved : Found → (Cert → Type 0) → Type 0
IfProved (found.Proved cert) P = P cert
IfProved (found.Undecided line) P = Unit {0}
IfProved (found.Countered game) P = Unit {0}
IfProved (found.Spent n) P = Unit {0}

abbrev pub IfUndecided : Found → (List Unmove → Type 0) → Type 0
IfUndecided (found.Proved cert) P = Unit {0}
IfUndecided (found.Undecided line) P = P line
IfUndecided (found.Countered game) P = Unit {0}
IfUndecided (found.Spent n) P = Unit {0}

abbrev pub IfCountered : Found → (List Move → Type 0) → Type 0
IfCountered (found.Proved cert) P = Unit {0}
IfCountered (found.Undecided line) P = Unit {0}
IfCountered (found.Countered game) P = P game
IfCountered (found.Spent n) P = Unit {0}

abbrev pub IfSpentAt : Found → (ℕ → Type 0) → Type 0
IfSpentAt (found.Proved cert) P = Unit {0}
IfSpentAt (found.Undecided line) P = Unit {0}
IfSpentAt (found.Countered game) P = Unit {0}
IfSpentAt (found.Spent n) P = P n

-- it is a certificate
abbrev pub IsProved : Found → Type 0
IsProved (found.Proved cert) = Unit {0}
IsProved (found.Undecided line) = ⊥
IsProved (found.Countered game) = ⊥
IsProved (found.Spent n) = ⊥

abbrev pub IfUnspent : Found → Type 0 → Type 0
IfUnspent (found.Proved cert) P = P
IfUnspent (found.Undecided line) P = P
IfUnspent (found.Countered game) P = P
IfUnspent (found.Spent n) P = Unit {0}

-- each text of the certificate has at most 64 MiB, as a check takes them
abbrev pub IsShort : Certificate → Type 0
IsShort cert = (bytes : List ℕ) → IsTextOf bytes cert → length bytes ≤ 67108864

-- What each answer about a claim says with so many nodes. A certificate proves the claim, so that no game contradicts it, and has a text
-- where the claim has one; an open line or a game has fewer moves than the nodes; and if the search was spent, it visited all of them.
pub record IsAnswer (depth nodes : ℕ) (claim : Claim) (q : Asked) (answer : Found) : Type 0 where
  pub proved : IfProved answer (λ cert. IsProofOf depth (cert_of cert) claim q)
  pub holds : IfProved answer (λ cert. Holds claim q)
  pub written : IsTrue (promotes_well claim) → IfProved answer (λ cert. HasText (cert_of cert))
  pub short_line : IfUndecided answer (λ line. length line < nodes)
  pub short_game : IfCountered answer (λ game. length game < nodes)
  pub visited : IfSpentAt answer (λ visited. visited ≡ nodes)
