-- Certificates and their texts.
use Rattle.std.proofs.Common.{◌≡◌, ℕ, ◌≤◌, ◌==◌, Bool, true, false, cond, List, [], ◌∷◌, ◌++◌, None, refl, sym, ap, ◌∙◌, subst, arith}
use Rattle.std.specs.List.{concat, onto_first}
use Rattle.query_base.specs.Asked.{Asked}
use Rattle.query_base.specs.declared.claims.Claim.{Claim}
use Rattle.sketch_body.specs.Bodies.{most_units}
use Rattle.cert_text.specs.Tree.{units_in}
use Rattle.cert_text.specs.Lines.{cut, ended}
use Rattle.cert_text.specs.Certificate.{Lines, Certificate, AreHeadLines, AreLinesOf, IsTextOf, HasText, body_of}
use Rattle.cert_text.specs.Writable.{is_written, IsQuery, fits}
use Rattle.cert_text.specs.NodeLines.{root_text}
use Rattle.cert_text.specs.Written.{cert_lines, head_lines}
use Rattle.cert_text.proofs.Frees.{body_free}
use Rattle.cert_text.proofs.HeadTexts.{head_back, head_is, head_plain, head_whole, head_written}
use Rattle.cert_text.proofs.SpelledLines.{root_back, root_read}
use Rattle.cert_text.proofs.TreeTexts.{AreWhole, cut_back, fits_own, below_back, below_fits, below_is, whole_both}

-- a certificate that the grammar admits
pub record IsWritable (cert : Certificate) : Type 0 where
  pub claim : is_written cert.claim ≡ true
  pub plain : cert.query.barred ≡ None
  pub root : fits 0 cert.root ≡ true
  pub few : units_in cert.root ≤ most_units

pub has_text : (cert : Certificate) → IsQuery cert.query → IsWritable cert → HasText cert
has_text cert known writable =
    let own = fits_own cert.root 0 writable.root in
    let below = below_back cert.root 0 (omega arith) writable.root in
    let body : List ℕ = root_text (body_of cert.root) in
    let head : Lines = head_lines cert.claim cert.query in
    let lines : Lines = head ++ ended body ∷ below.lines in
    let whole-below : AreWhole (ended body ∷ below.lines) = (record { text = body; line_is = refl; free = body_free 0 (body_of cert.root) (omega arith) own }, below.whole) in (
      concat lines,
      subst (λ (l : Lines). AreLinesOf l cert) (sym (cut_back lines (whole_both head (ended body ∷ below.lines) (head_whole cert.claim cert.query known.clock) whole-below))) (record {
        head = head;
        root_line = ended body;
        below = below.lines;
        parts = refl;
        heading = head_back cert.claim cert.query writable.claim known writable.plain;
        root = root_back (body_of cert.root) own;
        nodes = below.are;
        few = writable.few;
      }),
    )

pub writable : (lines : Lines) (cert : Certificate) → AreLinesOf lines cert → IsWritable cert
writable lines cert a =
    let root = root_read a.root_line (body_of cert.root) a.root in
    record {
      claim = head_written a.head cert.claim cert.query a.heading;
      plain = head_plain a.head cert.claim cert.query a.heading;
      root = below_fits cert.root 0 a.below root.fits a.nodes;
      few = a.few;
    }

-- the lines of a certificate are the ones that are written of it
lines_are : (lines : Lines) (cert : Certificate) → AreLinesOf lines cert → lines ≡ cert_lines cert
lines_are lines cert a =
    let own : List ℕ = ended (root_text (body_of cert.root)) in
    a.parts ∙ ap (λ (l : Lines). l ++ a.root_line ∷ a.below) (head_is a.head cert.claim cert.query a.heading)
    ∙ ap (λ (l : List ℕ). head_lines cert.claim cert.query ++ l ∷ a.below) (root_read a.root_line (body_of cert.root) a.root).line_is
    ∙ ap (λ (ls : Lines). head_lines cert.claim cert.query ++ own ∷ ls) (below_is cert.root 0 a.below a.nodes)

onto : (b : ℕ) (lines : Lines) → concat (onto_first b lines) ≡ b ∷ concat lines
onto b [] = refl
onto b (line ∷ lines) = refl

step : (t : Bool) (b : ℕ) (lines : Lines) → concat (cond t ((b ∷ []) ∷ lines) (onto_first b lines)) ≡ b ∷ concat lines
step true b lines = refl
step false b lines = onto b lines

-- the lines of bytes are these bytes
pub concat_cut : (bytes : List ℕ) → concat (cut bytes) ≡ bytes
concat_cut [] = refl
concat_cut (b ∷ bytes) = step (b == 10) b (cut bytes) ∙ ap (λ (l : List ℕ). b ∷ l) (concat_cut bytes)

-- the bytes of a head are what is written of its claim and query
pub head_bytes : (bytes : List ℕ) (claim : Claim) (q : Asked) → AreHeadLines (cut bytes) claim q → bytes ≡ concat (head_lines claim q)
head_bytes bytes claim q h = sym (concat_cut bytes) ∙ ap concat (head_is (cut bytes) claim q h)

-- a text of a certificate is what is written of it
pub text_is : (bytes : List ℕ) (cert : Certificate) → IsTextOf bytes cert → bytes ≡ concat (cert_lines cert)
text_is bytes cert text = sym (concat_cut bytes) ∙ ap concat (lines_are (cut bytes) cert text)

-- a certificate has one text
pub text_one : (a b : List ℕ) (cert : Certificate) → IsTextOf a cert → IsTextOf b cert → a ≡ b
text_one a b cert p q = text_is a cert p ∙ sym (text_is b cert q)

-- what is written of a certificate that has a text is its text
pub text_written : (cert : Certificate) (bytes : List ℕ) → HasText cert → bytes ≡ concat (cert_lines cert) → IsTextOf bytes cert
text_written cert bytes (text, stands) e = subst (λ (l : List ℕ). IsTextOf l cert) (text_is text cert stands ∙ sym e) stands
