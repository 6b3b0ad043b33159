-- Bytes begin with one head at most, and a head has one text.
use Rattle.std.proofs.Common.{◌≡◌, ℕ, List, ◌++◌, sym, ap, ◌∙◌}
use Rattle.std.specs.List.{concat}
use Rattle.std.proofs.lemmas.Option.{same_Some}
use Rattle.query_base.specs.Asked.{Asked}
use Rattle.cert_text.specs.Certificate.{Lines}
use Rattle.cert_text.specs.Lines.{cut}
use Rattle.cert_text.proofs.CertTexts.{concat_cut}
use Rattle.line_claims.specs.declared.claims.LineClaim.{LineClaim}
use Rattle.dossier_text.specs.Dossiers.{IsHead}
use Rattle.dossier_text.specs.HeadReading.{head_first}
use Rattle.dossier_text.proofs.HeadReads.{head_goes}
use Rattle.dossier_text.proofs.HeadTexts.{head_bytes, head_lines}

abbrev Read : Type 0
Read = LineClaim × Asked × Lines

pub one_head : (a b rest more : List ℕ) (c d : LineClaim) (q r : Asked) → a ++ rest ≡ b ++ more → IsHead a c q → IsHead b d r → (a ≡ b) × (rest ≡ more) × (c ≡ d) × (q ≡ r)
one_head a b rest more c d q r same first second =
    let one : ◌≡◌ {A = Read} (c, q, cut rest) (d, r, cut more) = same_Some {A = Read} (c, q, cut rest) (d, r, cut more) (sym (head_goes a rest c q first) ∙ ap (λ (l : List ℕ). head_first (cut l)) same ∙ head_goes b more d r second) in
    let claim : c ≡ d = ap (λ (x : Read). x.0) one in
    let query : q ≡ r = ap (λ (x : Read). x.1) one in
    let left : cut rest ≡ cut more = ap (λ (x : Read). x.2) one in (
      head_bytes a c q first ∙ ap (λ (x : LineClaim). concat (head_lines x q)) claim ∙ ap (λ (x : Asked). concat (head_lines d x)) query ∙ sym (head_bytes b d r second),
      sym (concat_cut rest) ∙ ap concat left ∙ concat_cut more,
      claim,
      query,
    )

-- a head has one text
pub one_text : (a b : List ℕ) (claim : LineClaim) (q : Asked) → IsHead a claim q → IsHead b claim q → a ≡ b
one_text a b claim q first second = head_bytes a claim q first ∙ sym (head_bytes b claim q second)
