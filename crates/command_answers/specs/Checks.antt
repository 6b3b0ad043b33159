-- What `check` answers.
use Rattle.std.specs.Prelude.{ℕ, ◌≡◌, Bool, false, cond, List, [], ◌∷◌, ◌++◌, codes, replicate, Option, Some, None}
use Rattle.std.specs.Bool.{beq}
use Rattle.std.specs.Cmp.Lexicographic.{pointwise}
use Rattle.std.specs.Fmt.{decimal}
use Rattle.board_base.specs.Texts.{unmove_text}
use Rattle.query_base.specs.Asked.{Asked}
use Rattle.query_base.specs.declared.claims.Claim.{Claim}
use Rattle.fen_text.specs.Sets.{set_text}
use Rattle.fen_text.specs.Spelling.{spelling}
use Rattle.cert_text.specs.ClaimLines.{claim_words}
use Rattle.cert_text.specs.Lines.{cut, ended}
use Rattle.cert_text.specs.Certificate.{Lines}
use Rattle.cert_checker.specs.Walk.{Fault, unlisted, unsupported}
use Rattle.cert_checker.specs.Answers.{Answer, Answers, bad_text, fault, accepted}
use Rattle.cert_checker.specs.declared.refusals.Why.{Why}
use Rattle.cert_checker.specs.declared.refusals.Why.TheVariants as why
use Rattle.command_answers.specs.declared.statuses.Status.{Status}
use Rattle.command_answers.specs.declared.statuses.Status.TheVariants.{Done}
use Rattle.command_answers.specs.declared.statuses.Status.TheVariants as status

-- after a FEN, the odds, if there are any
abbrev pub odds_words : List Bool → List ℕ
odds_words o = cond (pointwise beq o (replicate 64 false)) [] (32 ∷ (codes "odds " ++ set_text o))

-- after these, the clock, if one is demanded
abbrev pub clock_words : Option ℕ → List ℕ
clock_words None = []
clock_words (Some n) = 32 ∷ (codes "clock " ++ decimal n)

-- the line `accepted` with the words of a claim, the FEN, the odds and the clock
abbrev pub accepted_words_line : List ℕ → Asked → List ℕ
accepted_words_line claim q = ended (codes "accepted " ++ claim ++ 32 ∷ (spelling q ++ odds_words q.odds ++ clock_words q.clock))

-- the line `accepted` with the claim, the FEN, the odds and the clock
abbrev pub accepted_line : Claim → Asked → List ℕ
accepted_line claim q = (codes "accepted " ++ claim_words claim ++ 32 ∷ (spelling q ++ odds_words q.odds ++ clock_words q.clock)) ++ 10 ∷ []

-- why a node does not prove its query, in a word
abbrev pub why_word : Why → List ℕ
why_word why.Rule = codes "rule"
why_word why.Back = codes "back"
why_word why.Array = codes "array"
why_word why.Stray = codes "stray"

-- what a refusal says of a line
abbrev pub refusal_line : ℕ → List ℕ → List ℕ
refusal_line n what = ended (codes "refused line " ++ decimal n ++ 32 ∷ what)

-- what a refusal says of a fault of the walk
abbrev pub fault_words : Fault → List ℕ
fault_words (unlisted u) = codes "unlisted " ++ unmove_text u
fault_words (unsupported w) = codes "unsupported " ++ why_word w

-- the status and the text that tell an answer to these lines
abbrev pub Tells : Lines → Answer → Status → List ℕ → Type 0
Tells lines (accepted claim query) ending text = (ending ≡ Done) × (text ≡ accepted_line claim query)
Tells lines (bad_text n) ending text = (ending ≡ status.Refused) × (text ≡ refusal_line n (codes "text"))
Tells lines (fault n f) ending text = (ending ≡ status.Refused) × (text ≡ refusal_line n (fault_words f))

-- the status and the text with which `check` answers these bytes
abbrev pub AnswersCheck : List ℕ → Status → List ℕ → Type 0
AnswersCheck input ending text = (answer : Answer) × Answers (cut input) answer × Tells (cut input) answer ending text
