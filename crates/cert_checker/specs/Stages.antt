-- How far a check of lines that come one after another has come, and what it still answers.
use Rattle.std.specs.Prelude.{ℕ, ◌+◌, ◌≡◌, cond, List, [], ◌∷◌, length, Option, Some, None}
use Rattle.query_base.specs.Asked.{Asked}
use Rattle.query_base.specs.Targets.{target}
use Rattle.query_base.specs.declared.claims.Claim.{Claim}
use Rattle.cert_text.specs.Lines.{said}
use Rattle.cert_text.specs.NodeLines.{root_body}
use Rattle.cert_text.specs.Certificate.{Lines}
use Rattle.cert_text.specs.Heads.{head_step}
use Rattle.cert_text.specs.declared.heads.Head.{Head}
use Rattle.cert_text.specs.declared.heads.Head.TheVariants.{FormatDue, RootDue}
use Rattle.cert_text.specs.Due.{Due, put_due, step, is_done}
use Rattle.cert_text.specs.declared.node_lines.BodyLine.{BodyLine}
use Rattle.cert_checker.specs.Answers.{Answer, bad_text, fault, accepted}
use Rattle.cert_checker.specs.Frames.{Walking, going, sketching, stopped, go_on, ended, OnBody, OnLine, WalksOn}

-- Bad text was met, or this line of the head comes next, or the root's, or a later one. In the last case there are a walk and what is due.
pub data Stage : Type 0 where
  in_head : Head → Stage
  nodes : Claim → Asked → Walking → Due → Stage
  bad : ℕ → Stage

-- the first line comes next
abbrev pub heading : Stage
heading = in_head FormatDue

-- the stage after a line of the head, number n
abbrev pub headed : Option Head → ℕ → Stage
headed None n = bad n
headed (Some due) n = in_head due

-- the stage after the root's line, number n, with this body, if its sketch doesn't have too many units
abbrev pub Begun : Option Due → BodyLine → Claim → Asked → ℕ → Stage → Type 0
Begun None body claim q n next = next ≡ bad n
Begun (Some due) body claim q n next = (walk : Walking) × OnBody body (target q claim) [] n walk × (next ≡ nodes claim q walk due)

-- the stage after the root's line, number n
abbrev pub Rooted : Option BodyLine → Claim → Asked → ℕ → Stage → Type 0
Rooted None claim q n next = next ≡ bad n
Rooted (Some body) claim q n next = Begun (put_due 0 body []) body claim q n next

-- the stage after a line below the root's, number n
abbrev pub Stepped : Option Due → Claim → Asked → Walking → ℕ → List ℕ → Stage → Type 0
Stepped None claim q walk n line next = next ≡ bad n
Stepped (Some due) claim q walk n line next = (after : Walking) × OnLine walk n line after × (next ≡ nodes claim q after due)

-- the stage after line n, where this line of the head is due, or the root's
abbrev pub OnHead : Head → ℕ → List ℕ → Stage → Type 0
OnHead (RootDue claim q) n line next = Rooted (said root_body line) claim q n next
OnHead due n line next = next ≡ headed (head_step due line) n

-- the stage after line n
abbrev pub NextStage : Stage → ℕ → List ℕ → Stage → Type 0
NextStage (in_head due) n line next = OnHead due n line next
NextStage (nodes claim q walk due) n line next = Stepped (step due line) claim q walk n line next
NextStage (bad k) n line next = next ≡ bad k

-- what the end of a walk answers, before line n; where nothing is due no sketch is read
abbrev pub answer_by : Claim → Asked → ℕ → Walking → Answer
answer_by claim q n (going frames) = accepted claim q
answer_by claim q n (sketching s frames) = bad_text n
answer_by claim q n (stopped m f) = fault m f

-- the answer where the lines end before line n
abbrev pub answer_at : Stage → ℕ → Answer
answer_at (nodes claim q walk due) n = cond (is_done due) (answer_by claim q n (go_on walk ended)) (bad_text n)
answer_at (bad k) n = bad_text k
answer_at _ n = bad_text n

-- what is answered from a stage on with these lines, the first of which has number n
abbrev pub Rest : Stage → ℕ → Lines → Answer → Type 0
Rest stage n [] answer = answer ≡ answer_at stage n
Rest stage n (line ∷ lines) answer = (next : Stage) × NextStage stage n line next × Rest next (n + 1) lines answer

-- Below the root's line, and before these lines: the number of the first that isn't due, or that is due and missing, is answered as
-- bad text; where there is none, what the walk comes to over all of them.
abbrev pub BadTextFirst : Option ℕ → Claim → Asked → Walking → ℕ → Lines → Answer → Type 0
BadTextFirst (Some k) claim q walk n lines answer = answer ≡ bad_text k
BadTextFirst None claim q walk n lines answer = (last : Walking) × WalksOn walk n lines last × (answer ≡ answer_by claim q (n + length lines) last)
