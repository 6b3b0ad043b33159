-- What the first line of a proof says that it is.
use Rattle.std.proofs.Common.{◌≡◌, ℕ, List, ◌∷◌, ◌++◌, refl, sym, ap, ◌∙◌}
use Rattle.std.specs.List.{concat}
use Rattle.query_base.specs.Asked.{Asked}
use Rattle.cert_text.specs.Certificate.{Certificate, IsTextOf, Lines, demand_lines, format_for}
use Rattle.cert_text.specs.Lines.{cut, ended}
use Rattle.cert_text.specs.Written.{format_text}
use Rattle.cert_text.specs.declared.heads.Format.{Format}
use Rattle.cert_text.specs.declared.heads.Format.TheVariants.{One, Two}
use Rattle.cert_text.proofs.CertTexts.{concat_cut, text_is}
use Rattle.dossier_text.specs.Dossiers.{format_line}
use Rattle.dossier_text.specs.Proving.{IsDossier}
use Rattle.length_bound.specs.LengthText.{AreLengthLines, length_head}
use Rattle.length_bound.specs.declared.texts.LengthText.{LengthText}
use Rattle.line_claims.specs.declared.claims.LineClaim.{LineClaim}
use Rattle.command_answers.specs.Explains.{format_of}
use Rattle.command_answers.specs.declared.explains.ProofFormat.{ProofFormat}
use Rattle.command_answers.specs.declared.explains.ProofFormat.TheVariants as format

-- neither format of certificates is taken for another
begun : (f : Format) (rest : List ℕ) → format_of (ended (format_text f) ++ rest) ≡ format.Certificate
unfolding format_of
begun One rest = refl
begun Two rest = refl

pub certificate_format : (input : List ℕ) (cert : Certificate) → IsTextOf input cert → format_of input ≡ format.Certificate
certificate_format input cert text = ap format_of (text_is input cert text) ∙ begun (format_for (demand_lines cert.query)) _

-- the bytes of lines of which this is the first
first_of : (input first : List ℕ) (others : Lines) → cut input ≡ first ∷ others → input ≡ first ++ concat others
first_of input first others lines = sym (concat_cut input) ∙ ap concat lines

dossier_begun : (more rest : List ℕ) → format_of ((format_line ++ more) ++ rest) ≡ format.Dossier
unfolding format_of
dossier_begun more rest = refl

pub dossier_format : (input : List ℕ) (claim : LineClaim) (q : Asked) → IsDossier input claim q → format_of input ≡ format.Dossier
dossier_format input claim q d =
    ap format_of (d.parts ∙ ap (λ (l : List ℕ). l ++ d.rest) (first_of d.head format_line _ d.heading.parts)) ∙ dossier_begun _ d.rest

length_begun : (more : List ℕ) → format_of (length_head ++ more) ≡ format.Length
unfolding format_of
length_begun more = refl

pub length_format : (input : List ℕ) (said : LengthText) → AreLengthLines (cut input) said → format_of input ≡ format.Length
length_format input said lines = ap format_of (first_of input length_head _ lines.parts) ∙ length_begun _
