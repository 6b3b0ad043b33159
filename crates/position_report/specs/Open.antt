-- What stays open, and where the search gets stuck.
use Rattle.std.specs.Prelude.{ℕ, ◌==◌, Bool, false, cond, codes, length, List, [], ◌∷◌, ◌++◌, Option, Some, None}
use Rattle.std.specs.List.{flat_map}
use Rattle.board_base.specs.declared.unmoves.Unmove.{Unmove}
use Rattle.query_base.specs.Asked.{Asked}
use Rattle.query_base.specs.Targets.{target}
use Rattle.line_claims.specs.Due.{with_both}
use Rattle.unmove_gen.specs.Predecessor.{left_by}
use Rattle.codex_verdict.specs.Rights.{claim_of}
use Rattle.diagram_study.specs.declared.findings.Found.{Found}
use Rattle.diagram_study.specs.declared.pairs.PairFound.{PairFound}
use Rattle.diagram_study.specs.declared.rights.RightFound.{RightFound}
use Rattle.proof_prose.specs.Heads.{drawn_text}
use Rattle.verdict_prose.specs.Moves.{open_line_text}
use Rattle.verdict_prose.specs.Sentences.{verdict_text}
use Rattle.verdict_prose.specs.declared.verdicts.Verdict.{Verdict}
use Rattle.verdict_prose.specs.declared.verdicts.Verdict.TheVariants.{Unsettled, UnsettledBoth}
use Rattle.diagram_study.specs.Finding.{Finding}
use Rattle.diagram_study.specs.Held.{is_open}
use Rattle.position_report.specs.declared.runs.Run.{Run}
use Rattle.position_report.specs.declared.runs.Run.TheVariants.{Empty, One, Several}

-- a claim that isn't settled: its sentence, its target, and where the search gets stuck there, if it is known
pub record OpenClaim : Type 0 where
  pub said : Verdict
  pub aim : Asked
  pub stuck : Option (List Unmove)

-- the claim with this sentence and this target
abbrev pub open_as : Verdict → Asked → Option (List Unmove) → OpenClaim
open_as said aim stuck = record { said = said; aim = aim; stuck = stuck }

-- the search gets lost in quiet moves: it gets stuck, and no line is shown
abbrev pub is_lost : Option (List Unmove) → Bool
is_lost None = false
is_lost (Some front) = length front == 0

-- a run with one claim more
abbrev pub longer : Run → Run
longer Empty = One
longer One = Several
longer Several = Several

-- the run behind a claim, by whether its search gets lost
abbrev pub run_behind : Bool → Run → Run
run_behind lost run = cond lost (longer run) Empty

-- that the searches of a run get lost
abbrev pub run_text : Run → List ℕ
run_text Empty = []
run_text One = codes "The search for a proof gets lost in quiet moves.\n"
run_text Several = codes "The searches for these proofs get lost in quiet moves.\n"

-- the same before a claim that isn't of the run
abbrev pub run_before : Bool → Run → List ℕ
run_before lost run = cond lost [] (run_text run)

-- with which moves a line ends that stays open, and what was before them, if there are any
abbrev pub front_text : Asked → List Unmove → List ℕ
front_text q [] = []
front_text q (u ∷ us) = open_line_text q (u ∷ us) ++ drawn_text (left_by q (u ∷ us))

-- where the search gets stuck, if it is known
abbrev pub stuck_text : Asked → Option (List Unmove) → List ℕ
stuck_text q None = []
stuck_text q (Some front) = front_text q front

-- a claim behind a run: its sentence, and where the search gets stuck
abbrev pub claim_text : Asked → Run → OpenClaim → List ℕ
claim_text q run c = run_before (is_lost c.stuck) run ++ verdict_text q c.said ++ stuck_text c.aim c.stuck

-- claims behind a run, in order: that searches get lost is said once, behind the last of those that follow one another
abbrev pub open_text : Asked → Run → List OpenClaim → List ℕ
open_text q run [] = run_text run
open_text q run (c ∷ cs) = claim_text q run c ++ open_text q (run_behind (is_lost c.stuck) run) cs

-- a claim, if it isn't settled
abbrev pub if_open : Finding → OpenClaim → List OpenClaim
if_open found c = cond (is_open found) (c ∷ []) []

-- a right that isn't settled
abbrev pub open_right : Asked → RightFound → List OpenClaim
open_right q f =
    if_open f.finding (open_as (Unsettled (claim_of f.right)) (target q (claim_of f.right)) f.stuck)

-- two castlings of which it isn't settled whether both can be kept
abbrev pub open_pair : Asked → PairFound → List OpenClaim
open_pair q f =
    if_open f.finding (open_as (UnsettledBoth f.first f.second) (with_both q f.first f.second) f.stuck)

-- the rights that aren't settled, in the order of a study
unfoldable pub open_claims : Asked → Found → List OpenClaim
open_claims q f = flat_map (open_right q) f.rights.items ++ flat_map (open_pair q) f.pairs.items

-- the same in sentences
abbrev pub all_open : Asked → Found → List ℕ
all_open q f = open_text q Empty (open_claims q f)
