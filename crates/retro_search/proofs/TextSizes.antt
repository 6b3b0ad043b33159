-- The text of a certificate that fills few lines has few bytes.
use Rattle.std.proofs.Common.{◌≡◌, ℕ, suc, ◌+◌, ◌*◌, ◌≤◌, Bool, true, false, cond, List, [], ◌∷◌, ◌++◌, length, map, Option, Some, None, inl, inr, ap, arith, length-append}
use Rattle.std.specs.List.{concat}
use Rattle.std.proofs.lemmas.Bool.{cases_lt}
use Rattle.std.proofs.lemmas.List.Folds.{concat-append}
use Rattle.board_base.specs.declared.unmoves.Unmove.{Unmove}
use Rattle.query_base.specs.Asked.{Asked}
use Rattle.query_base.specs.declared.claims.Claim.{Claim}
use Rattle.fen_text.specs.OddsLines.{is_no_odds, odds_text}
use Rattle.cert_text.specs.Certificate.{AreBelow, AreHeadLines, AreKids, AreLinesOf, Certificate, IsTextOf, Lines, body_of, demand_lines, lines_of_clock, lines_of_odds}
use Rattle.cert_text.specs.Heads.{Leads, head_step}
use Rattle.cert_text.specs.Lines.{cut, ended, said}
use Rattle.cert_text.specs.Mute.{IsMute}
use Rattle.cert_text.specs.NodeLines.{kid_body, root_body}
use Rattle.cert_text.specs.Tree.{Forest, Tree, back, expand, more, none, rule, sketch}
use Rattle.cert_text.specs.declared.heads.Head.{Head}
use Rattle.cert_text.specs.declared.heads.Head.TheVariants.{FormatDue, RootDue}
use Rattle.cert_text.proofs.CertTexts.{concat_cut}
use Rattle.cert_text.proofs.HeadSteps.{head_leads}
use Rattle.cert_text.proofs.HeadTexts.{head_count}
use Rattle.cert_text.proofs.Short.{kid_line_brief, long_mute, root_line_brief}
use Rattle.cert_text.specs.declared.reasons.Reason.TheVariants.{Line, Balance}
use Rattle.sketch_body.specs.Bodies.{units_of}
use Rattle.retro_search.specs.LineCounts.{lines_in, lines_in_all, lines_of_reason}
use Rattle.retro_search.specs.SketchTexts.{HasSketchTexts, HaveSketchTexts}
use Rattle.retro_search.proofs.SketchLines.{sketch_short}

-- a line that says something is short
not_long : (line : List ℕ) → (IsMute line → ⊥) → length line ≤ 234
not_long line speaks = elim (cases_lt 234 (length line)) [
  | inl long ↦ absurd (speaks (long_mute line long))
  | inr few ↦ few
]

head_line_short : (h next : Head) (line : List ℕ) → head_step h line ≡ Some next → length line ≤ 234
head_line_short h next line says = not_long line (λ mute. let nothing = mute.head h in cc)

-- so are those of a head together
leads_short : (lines : Lines) (h last : Head) → Leads h lines last → length (concat lines) ≤ 234 * length lines
leads_short [] h last leads = omega arith
leads_short (line ∷ lines) h last leads =
    let first : length line ≤ 234 = head_line_short h leads.0 line leads.1 in
    let others : length (concat lines) ≤ 234 * length lines = leads_short lines leads.0 last leads.2 in
    omega (arith, length-append line (concat lines))

one_at_most : (b : Bool) (line : List ℕ) → length (cond b [] (line ∷ [])) ≤ 1
one_at_most true line = omega arith
one_at_most false line = omega arith

clock_lines_few : (clock : Option ℕ) → length (lines_of_clock clock) ≤ 1
clock_lines_few None = omega arith
clock_lines_few (Some n) = omega arith

demands_few : (q : Asked) → length (demand_lines q) ≤ 2
demands_few q =
    omega (arith, one_at_most (is_no_odds q.odds) (ended (odds_text q.odds)), clock_lines_few q.clock, length-append (lines_of_odds q.odds) (lines_of_clock q.clock))

head_short : (lines : Lines) (claim : Claim) (q : Asked) → AreHeadLines lines claim q → length (concat lines) ≤ 1280
head_short lines claim q h =
    omega (arith, leads_short lines FormatDue (RootDue claim q) (head_leads lines claim q h), head_count lines claim q h, demands_few q)

-- how many lines a node's own line fills
abbrev own_lines : Tree → ℕ
own_lines (rule r) = lines_of_reason r
own_lines (back k) = 1
own_lines (expand kids) = 1
own_lines (sketch b) = 1

root_short : (t : Tree) (line : List ℕ) → said root_body line ≡ Some (body_of t) → length line ≤ 128 * own_lines t
root_short (rule (Line r)) line e = omega (arith, root_line_brief line (body_of (rule (Line r))) tt e)
root_short (rule (Balance set p)) line e = omega (arith, not_long line (λ mute. let nothing = mute.root in cc))
root_short (back k) line e = omega (arith, root_line_brief line (body_of (back k)) tt e)
root_short (expand kids) line e = omega (arith, root_line_brief line (body_of (expand kids)) tt e)
root_short (sketch b) line e = omega (arith, root_line_brief line (body_of (sketch b)) tt e)

kid_short : (depth : ℕ) (t : Tree) (line : List ℕ) (u : Unmove) → said (kid_body depth) line ≡ Some (u, body_of t) → length line ≤ 128 * own_lines t
kid_short depth (rule (Line r)) line u e = omega (arith, kid_line_brief depth line u (body_of (rule (Line r))) tt e)
kid_short depth (rule (Balance set p)) line u e = omega (arith, not_long line (λ mute. let nothing = mute.kid depth in cc))
kid_short depth (back k) line u e = omega (arith, kid_line_brief depth line u (body_of (back k)) tt e)
kid_short depth (expand kids) line u e = omega (arith, kid_line_brief depth line u (body_of (expand kids)) tt e)
kid_short depth (sketch b) line u e = omega (arith, kid_line_brief depth line u (body_of (sketch b)) tt e)

-- what is below a node fits into the lines that it doesn't fill itself
mutual
  below_short : (t : Tree) (depth : ℕ) (lines : Lines) → AreBelow t depth lines → HasSketchTexts t → length (concat lines) + 128 * own_lines t ≤ 128 * lines_in t
  below_short (rule r) depth lines e fit = omega (arith, ap (λ (ls : Lines). length (concat ls)) e)
  below_short (back k) depth lines e fit = omega (arith, ap (λ (ls : Lines). length (concat ls)) e)
  below_short (sketch b) depth lines (texts, e, are) fit =
      let short : length (concat (map ended texts)) ≤ 256 * units_of b = sketch_short b texts are fit in
      omega (arith, ap (λ (ls : Lines). length (concat ls)) e)
  below_short (expand kids) depth lines are fit =
      let short : length (concat lines) ≤ 128 * lines_in_all kids = kids_short kids (suc depth) lines are fit in
      omega arith

  kids_short : (f : Forest) (depth : ℕ) (lines : Lines) → AreKids f depth lines → HaveSketchTexts f → length (concat lines) ≤ 128 * lines_in_all f
  kids_short none depth lines e fit = omega (arith, ap (λ (ls : Lines). length (concat ls)) e)
  kids_short (more label tree rest) depth lines are fit =
      let own : length are.0 ≤ 128 * own_lines tree = kid_short depth tree are.0 label are.4 in
      let below : length (concat are.1) + 128 * own_lines tree ≤ 128 * lines_in tree = below_short tree depth are.1 are.5 fit.0 in
      let others : length (concat are.2) ≤ 128 * lines_in_all rest = kids_short rest depth are.2 are.6 fit.1 in
      let whole : length (concat lines) ≡ length (are.0 ++ concat (are.1 ++ are.2)) = ap (λ (ls : Lines). length (concat ls)) are.3 in
      let both : length (concat (are.1 ++ are.2)) ≡ length (concat are.1 ++ concat are.2) = ap length (concat-append are.1 are.2) in
      omega (arith, length-append are.0 (concat (are.1 ++ are.2)), length-append (concat are.1) (concat are.2))

lines_few : (lines : Lines) (cert : Certificate) → AreLinesOf lines cert → HasSketchTexts cert.root → length (concat lines) ≤ 1280 + 128 * lines_in cert.root
lines_few lines cert a fit =
    let head : length (concat a.head) ≤ 1280 = head_short a.head cert.claim cert.query a.heading in
    let root : length a.root_line ≤ 128 * own_lines cert.root = root_short cert.root a.root_line a.root in
    let below : length (concat a.below) + 128 * own_lines cert.root ≤ 128 * lines_in cert.root = below_short cert.root 0 a.below a.nodes fit in
    let whole : length (concat lines) ≡ length (concat (a.head ++ a.root_line ∷ a.below)) = ap (λ (ls : Lines). length (concat ls)) a.parts in
    let both : length (concat (a.head ++ a.root_line ∷ a.below)) ≡ length (concat a.head ++ (a.root_line ++ concat a.below)) = ap length (concat-append a.head (a.root_line ∷ a.below)) in
    omega (arith, length-append (concat a.head) (a.root_line ++ concat a.below), length-append a.root_line (concat a.below))

-- a certificate that fills at most 500,000 lines has no text of more than 64 MiB
pub few_bytes : (bytes : List ℕ) (cert : Certificate) → IsTextOf bytes cert → HasSketchTexts cert.root → lines_in cert.root ≤ 500000 → length bytes ≤ 67108864
few_bytes bytes cert text fit few =
    let all : length (concat (cut bytes)) ≤ 1280 + 128 * lines_in cert.root = lines_few (cut bytes) cert text fit in
    omega (arith, ap length (concat_cut bytes))
