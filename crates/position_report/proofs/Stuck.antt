-- The retractions of a line that stays open are listed.
use Rattle.std.proofs.Common.{◌≡◌, ℕ, ◌≤◌, List, [], ◌∷◌, ◌++◌, length, get_or, take, drop, sym, ap, subst, ◌∙◌, append_assoc, arith}
use Rattle.std.specs.Prelude.{IfSome, Option, Some, None}
use Rattle.std.specs.List.{All, Contains}
use Rattle.std.proofs.lemmas.List.{take-append-drop}
use Rattle.std.proofs.lemmas.List.Elements.{All-weaker}
use Rattle.board_base.specs.declared.moves.Move.{Move}
use Rattle.board_base.specs.declared.unmoves.Unmove.{Unmove}
use Rattle.query_base.specs.Asked.{Asked}
use Rattle.query_base.specs.Targets.{target}
use Rattle.query_base.specs.declared.claims.Claim.{Claim}
use Rattle.query_base.specs.declared.claims.Claim.TheVariants.{Illegal}
use Rattle.unmove_gen.specs.Listed.{unmoves}
use Rattle.unmove_gen.specs.Predecessor.{left_by, predecessor}
use Rattle.line_claims.specs.Due.{with_both}
use Rattle.line_claims.specs.Listing.{AreListed}
use Rattle.codex_verdict.specs.Rights.{claim_of}
use Rattle.prose_words.proofs.Squares.{thence}
use Rattle.proof_prose.specs.Heads.{drawn_text}
use Rattle.verdict_prose.specs.Moves.{open_line_text}
use Rattle.verdict_prose.specs.declared.verdicts.Verdict.TheVariants.{Unsettled}
use Rattle.diagram_study.specs.Ends.{IsFront, IsStuck}
use Rattle.diagram_study.specs.Finding.{Finding}
use Rattle.diagram_study.proofs.OpenFronts.{open_listed}
use Rattle.diagram_study.specs.Pairs.{IsPairFound}
use Rattle.diagram_study.specs.Rights.{IsRightFound}
use Rattle.diagram_study.specs.declared.pairs.PairFound.{PairFound}
use Rattle.diagram_study.specs.declared.rights.RightFound.{RightFound}
use Rattle.position_report.specs.Open.{front_text, if_open, open_as, open_right}
use Rattle.position_report.proofs.Joining.{first-others, first-rest, others_of}

-- the first of listed retractions, and those behind it
pub listed-first : (q : Asked) (us : List Unmove) (u : Unmove) → 1 ≤ length us → u ≡ get_or us 0 u → AreListed q us → Contains (unmoves q) u
listed-first q us u some is listed = listed [] (drop 1 us) u (sym (first-rest us u some is))

pub listed-rest : (q at : Asked) (us : List Unmove) (u : Unmove) → 1 ≤ length us → u ≡ get_or us 0 u → at ≡ predecessor q u → AreListed q us → AreListed at (others_of us)
listed-rest q at us u some is moved listed =
    let rest : AreListed (predecessor q u) (others_of us) =
    λ before after v e. listed (u ∷ before) after v (sym (first-others us u some is) ∙ ap (λ (l : List Unmove). u ∷ l) e) in
    subst (λ (a : Asked). AreListed a (others_of us)) (sym moved) rest

-- what is to be reached before all of them
pub left-first : (q at : Asked) (us : List Unmove) (u : Unmove) → 1 ≤ length us → u ≡ get_or us 0 u → at ≡ predecessor q u → left_by at (others_of us) ≡ left_by q us
left-first q at us u some is moved = ap (λ (a : Asked). left_by a (others_of us)) moved ∙ ap (left_by q) (first-others us u some is)

-- with which moves a line ends, and what was before them
pub front-told : (q at : Asked) (us : List Unmove) (o p r : List ℕ) → 1 ≤ length us → at ≡ left_by q us → p ≡ o ++ open_line_text q us → r ≡ p ++ drawn_text at → r ≡ o ++ front_text q us
front-told q at [] o p r some is first last = absurd (omega (arith, some))
front-told q at (u ∷ us) o p r some is first last =
    thence o p r (open_line_text q (u ∷ us)) (drawn_text (left_by q (u ∷ us))) first (last ∙ ap (λ (a : Asked). p ++ drawn_text a) is)

listed-some : (q : Asked) (us front rest : List Unmove) → AreListed q us → us ≡ front ++ rest → AreListed q front
listed-some q us front rest listed whole = λ before after u e.
    listed before (after ++ rest) u (whole ∙ ap (λ (l : List Unmove). l ++ rest) e ∙ append_assoc before (u ∷ after) rest)

front-listed : (q : Asked) (depth : ℕ) (front : List Unmove) → IsFront q depth front → AreListed q front
front-listed q depth front is =
    let line : AreListed q is.line = open_listed q depth [] is.line is.open_line.open_line in
    subst (AreListed q) (sym is.front_is) (listed-some q is.line (take is.number is.line) (drop is.number is.line) line (sym (take-append-drop is.number is.line)))

pub stuck-listed : (q : Asked) (claim : Claim) (most nodes : ℕ) (finding : Finding) (stuck : Option (List Unmove)) → IsStuck q claim most nodes finding stuck → IfSome stuck (AreListed (target q claim))
stuck-listed q claim most nodes finding None is = tt
stuck-listed q claim most nodes finding (Some front) is = front-listed (target q claim) most front is.1

-- those of all rights, and of two castlings each
pub rights-listed : (q : Asked) (most nodes : ℕ) (by : List (List Move)) (rights : List RightFound) → All (IsRightFound q most nodes by) rights → All (λ f. IfSome f.stuck (AreListed (target q (claim_of f.right)))) rights
rights-listed q most nodes by rights each =
    All-weaker (IsRightFound q most nodes by) (λ (f : RightFound). IfSome f.stuck (AreListed (target q (claim_of f.right)))) (λ f found. stuck-listed q (claim_of f.right) most nodes f.finding f.stuck found.stuck) rights each

pub pairs-listed : (q : Asked) (most nodes : ℕ) (by : List (List Move)) (pairs : List PairFound) → All (IsPairFound q most nodes by) pairs → All (λ f. IfSome f.stuck (AreListed (with_both q f.first f.second))) pairs
pairs-listed q most nodes by pairs each =
    All-weaker (IsPairFound q most nodes by) (λ (f : PairFound). IfSome f.stuck (AreListed (with_both q f.first f.second))) (λ f found. stuck-listed (with_both q f.first f.second) Illegal most nodes f.finding f.stuck found.stuck) pairs each

-- a right that isn't settled, by its claim and its target
pub right-open : (q at : Asked) (claim : Claim) (f : RightFound) → claim ≡ claim_of f.right → at ≡ target q claim → if_open f.finding (open_as (Unsettled claim) at f.stuck) ≡ open_right q f
right-open q at claim f is aims =
    ap (λ (a : Asked). if_open f.finding (open_as (Unsettled claim) a f.stuck)) aims ∙ ap (λ (x : Claim). if_open f.finding (open_as (Unsettled x) (target q x) f.stuck)) is
