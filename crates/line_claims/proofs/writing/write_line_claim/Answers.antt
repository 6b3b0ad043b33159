use Rattle.std.proofs.Common.{◌≡◌, ℕ, List, ◌++◌, sym, subst, ap, ◌∙◌, rules, Some}
use Rattle.std.specs.Prelude.{codes}
use Rattle.std.specs.List.{All}
use Rattle.board_base.specs.declared.unmoves.Unmove.{Unmove}
use Rattle.line_claims.specs.declared.claims.LineClaim.{LineClaim}
use Rattle.line_claims.specs.declared.claims.LineClaim.TheVariants.{NotBoth, Line}
use Rattle.line_claims.specs.Lines.{HasLine, line_claim_of, line_claim_text, steps_text}
use Rattle.line_claims.specs.Readable.{IsReadable}
use Rattle.line_claims.proofs.LineTexts.{line_back, notboth_back}
use Rattle.line_claims.proofs.writing.write_line_claim.Goals as goal

read : (claim x : LineClaim) (text : List ℕ) → claim ≡ x → text ≡ line_claim_text x → line_claim_of (line_claim_text x) ≡ Some x → line_claim_of text ≡ Some claim
read claim x text is there back = ap line_claim_of there ∙ back ∙ sym (ap Some is)

pub returns-in-NotBoth-clause-read : goal.returns-in-NotBoth-clause-read
returns-in-NotBoth-clause-read c =
    read c.args.claim.now (NotBoth c.in-NotBoth.first c.in-NotBoth.second) c.push-in-NotBoth-2.new.self.items c.in-NotBoth.is (search rules) (notboth_back c.in-NotBoth.first c.in-NotBoth.second (subst HasLine c.in-NotBoth.is c.requires.grammar))

pub returns-in-Line-clause-read : goal.returns-in-Line-clause-read
returns-in-Line-clause-read c =
    let front = c.push_text-in-Line.ensures.text ∙ ap (λ (l : List ℕ). l ++ codes "claim line ") c.requires.empty in
    let text = c.push_steps.ensures.text ∙ ap (λ (l : List ℕ). l ++ steps_text c.items.result.now) front ∙ ap (λ (us : List Unmove). codes "claim line " ++ steps_text us) c.items.ensures.items in
    read c.args.claim.now (Line c.in-Line.steps) c.push_steps.new.out.items c.in-Line.is text
    (line_back c.in-Line.steps (subst (λ (us : List Unmove). All IsReadable us) c.items.ensures.items c.push_steps.ensures.read) c.items.ensures.some c.items.ensures.few)
