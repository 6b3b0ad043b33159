-- Inner: no public clause cites this file.
-- Certificates that have lines, unmoves that a line can tell, what a search found, and rights whose searches are spent.
use Rattle.std.specs.Prelude.{ℕ, suc, ◌≡◌, IsTrue, List}
use Rattle.std.specs.List.{Contains, concat}
use Rattle.board_base.specs.Texts.{can_capture, can_promote}
use Rattle.codex_verdict.specs.Rights.{claim_of}
use Rattle.codex_verdict.specs.declared.kinds.Right.{Right}
use Rattle.query_base.specs.Asked.{Asked}
use Rattle.board_base.specs.declared.unmoves.Unmove.{Unmove}
use Rattle.cert_text.specs.Tree.{Forest, Tree}
use Rattle.cert_text.specs.Certificate.{AreBelow, AreKids, Lines, body_of}
use Rattle.cert_text.specs.SeenCert.{cert_of}
use Rattle.cert_text.specs.Written.{IsSketchLine, cert_lines}
use Rattle.position_report.specs.Lone.{IsDear}
use Rattle.position_report.specs.Found.{Found}
use Rattle.position_report.specs.Found.TheVariants as found
use Rattle.command_answers.specs.Solves.{countered_line, spent_line, undecided_line}
use Rattle.command_answers.specs.declared.statuses.Status.{Status}
use Rattle.command_answers.specs.declared.statuses.Status.TheVariants as status

-- at some depth the grammar has lines for what stands below the node, and for its own line, if that begins a sketch
abbrev pub HasLinesBelow : Tree → Type 0
HasLinesBelow tree = (depth : ℕ) × (lines : Lines) × AreBelow tree depth lines × IsSketchLine (body_of tree)

-- below a node at some depth the grammar has lines for these children
abbrev pub HaveLines : Forest → Type 0
HaveLines kids = (depth : ℕ) × (lines : Lines) × AreKids kids (suc depth) lines

-- the unmove has a text
pub record IsSpelled (u : Unmove) : Type 0 where
  pub promotion : IsTrue (can_promote u.mv.promo)
  pub capture : IsTrue (can_capture u.mv.promo u.captured u.ep)

-- the target of the claim of one of these rights has a cost above the nodes
abbrev pub HasDearRight : ℕ → ℕ → Asked → List Right → Type 0
HasDearRight depth nodes q rights = (right : Right) × Contains rights right × IsDear depth nodes (claim_of right) q

-- the status and the text that tell what a search found
abbrev pub TellsFound : Found → Status → List ℕ → Type 0
TellsFound (found.Proved cert) ending text = (ending ≡ status.Done) × (text ≡ concat (cert_lines (cert_of cert)))
TellsFound (found.Undecided line) ending text = (ending ≡ status.Undecided) × (text ≡ undecided_line line)
TellsFound (found.Countered game) ending text = (ending ≡ status.Countered) × (text ≡ countered_line game)
TellsFound (found.Spent n) ending text = (ending ≡ status.Spent) × (text ≡ spent_line n)
