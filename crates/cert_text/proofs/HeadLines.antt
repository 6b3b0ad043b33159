-- How far a head was read.
use Rattle.std.proofs.Common.{◌≡◌, ℕ, ◌+◌, ◌≤◌, List, [], ◌∷◌, ◌++◌, length, refl, sym, ap, ◌∙◌, subst, arith, append_assoc, length-append}
use Rattle.std.specs.Prelude.{Some, None}
use Rattle.std.proofs.lemmas.List.{append-nil}
use Rattle.query_base.specs.Asked.{Asked}
use Rattle.query_base.specs.declared.claims.Claim.{Claim}
use Rattle.cert_text.specs.Lines.{cut, said}
use Rattle.cert_text.specs.NodeLines.{root_body}
use Rattle.cert_text.specs.Texts.{IsBadAt}
use Rattle.cert_text.specs.Certificate.{AreLinesOf, Lines}
use Rattle.cert_text.specs.Heads.{Leads, head_step}
use Rattle.cert_text.specs.Reading.{HasHeader}
use Rattle.cert_text.specs.declared.heads.Head.{Head}
use Rattle.cert_text.specs.declared.heads.Head.TheVariants.{FormatDue, RootDue}
use Rattle.cert_text.specs.declared.node_lines.BodyLine.{BodyLine}
use Rattle.cert_text.proofs.Bad.{bad_end, bad_line, bad_root}
use Rattle.cert_text.proofs.Cuts.{few_lines}
use Rattle.cert_text.proofs.HeadSteps.{leads_more}

-- the lines before this one lead to the one that is due
pub record HeadSoFar (bytes rest : List ℕ) (due : Head) (number : ℕ) : Type 0 where
  pub front : Lines
  pub parts : cut bytes ≡ front ++ cut rest
  pub leads : Leads FormatDue front due
  pub counted : number ≡ length front + 1

pub head_begun : (bytes : List ℕ) → HeadSoFar bytes bytes FormatDue 1
head_begun bytes = record { front = []; parts = refl; leads = refl; counted = refl }

pub head_next : (bytes rest line after : List ℕ) (due next : Head) (number : ℕ) → HeadSoFar bytes rest due number → cut rest ≡ line ∷ cut after → head_step due line ≡ Some next → HeadSoFar bytes after next (number + 1)
head_next bytes rest line after due next number s first e =
    let counted = s.counted in
    record {
      front = s.front ++ line ∷ [];
      parts = s.parts ∙ ap (λ (l : Lines). s.front ++ l) first ∙ sym (append_assoc s.front (line ∷ []) (cut after));
      leads = leads_more s.front line FormatDue due next s.leads e;
      counted = omega (arith, length-append s.front (line ∷ []));
    }

-- there are no more lines than bytes
pub head_few : (bytes rest : List ℕ) (due : Head) (number : ℕ) → HeadSoFar bytes rest due number → number ≤ length bytes + 1
head_few bytes rest due number s = let counted = s.counted in omega (arith, few_lines bytes, ap length s.parts, length-append s.front (cut rest))

pub head_ends : (bytes rest : List ℕ) (due : Head) (number : ℕ) → HeadSoFar bytes rest due number → cut rest ≡ [] → IsBadAt AreLinesOf (cut bytes) number
head_ends bytes rest due number s none =
    subst (λ (l : Lines). IsBadAt AreLinesOf l number) (sym (s.parts ∙ ap (λ (l : Lines). s.front ++ l) none ∙ append-nil s.front)) (bad_end s.front due number s.counted s.leads)

pub head_bad : (bytes rest line after : List ℕ) (due : Head) (number : ℕ) → HeadSoFar bytes rest due number → cut rest ≡ line ∷ cut after → ((claim : Claim) (q : Asked) → due ≡ RootDue claim q → ⊥) → head_step due line ≡ None → IsBadAt AreLinesOf (cut bytes) number
head_bad bytes rest line after due number s first other none =
    subst (λ (l : Lines). IsBadAt AreLinesOf l number) (sym (s.parts ∙ ap (λ (l : Lines). s.front ++ l) first)) (bad_line s.front line (cut after) due number s.counted s.leads other none)

pub root_bad : (bytes rest line after : List ℕ) (due : Head) (claim : Claim) (q : Asked) (number : ℕ) → HeadSoFar bytes rest due number → due ≡ RootDue claim q → cut rest ≡ line ∷ cut after → said root_body line ≡ None → IsBadAt AreLinesOf (cut bytes) number
root_bad bytes rest line after due claim q number s is first none =
    subst (λ (l : Lines). IsBadAt AreLinesOf l number) (sym (s.parts ∙ ap (λ (l : Lines). s.front ++ l) first))
    (bad_root s.front line (cut after) claim q number s.counted (subst (λ (h : Head). Leads FormatDue s.front h) is s.leads) none)

pub root_read : (bytes rest line after : List ℕ) (due : Head) (claim : Claim) (q : Asked) (body : BodyLine) (number : ℕ) → HeadSoFar bytes rest due number → due ≡ RootDue claim q → cut rest ≡ line ∷ cut after → said root_body line ≡ Some body → HasHeader (cut bytes) claim q body (number + 1) (cut after)
root_read bytes rest line after due claim q body number s is first here =
    let counted = s.counted in
    record {
      front = s.front;
      root_line = line;
      parts = s.parts ∙ ap (λ (l : Lines). s.front ++ l) first;
      leads = subst (λ (h : Head). Leads FormatDue s.front h) is s.leads;
      body_is = here;
      counted = omega arith;
    }
