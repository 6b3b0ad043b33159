use Rattle.std.proofs.Common.{Bool, subst, sym, true≢false, ◌∙◌}
use Rattle.std.specs.Prelude.{◌↔◌, IsTrue}
use Rattle.cert_text.specs.Certificate.{HasText}
use Rattle.std.proofs.lemmas.Bool.{both_ways}
use Rattle.cert_text.specs.SeenCert.{cert_of}
use Rattle.cert_text.proofs.Admitted.{unwritten, barred, by_units, unfit}
use Rattle.cert_text.proofs.formats.fits_format.Goals as goal

pub returns-then-not-is_written : goal.returns-then-not-is_written
returns-then-not-is_written c = (
  λ f. absurd (true≢false (sym f)),
  λ h. absurd (unwritten (cert_of c.args.cert.now) (λ e. both_ways _ c.if-not-is_written.true (c.is_written.ensures ∙ e)) h),
)

pub returns-then-not-is_plain : goal.returns-then-not-is_plain
returns-then-not-is_plain c = (
  λ f. absurd (true≢false (sym f)),
  λ h. absurd (barred (cert_of c.args.cert.now) (λ e. both_ways _ c.if-not-is_plain.true (c.is_plain.ensures.plain.1 e)) h),
)

pub returns-then-not-fits_node : goal.returns-then-not-fits_node
returns-then-not-fits_node c = (
  λ f. absurd (true≢false (sym f)),
  λ h. absurd (unfit (cert_of c.args.cert.now) (sym c.fits_node.ensures ∙ c.if-not-fits_node.true) h),
)

pub returns : goal.returns
returns c =
    subst (λ (b : Bool). (IsTrue b) ↔ HasText (cert_of c.args.cert.now)) (sym c.is_some.ensures)
    (by_units (cert_of c.args.cert.now) c.units_left.result c.is_plain.ensures.known (sym c.is_written.ensures ∙ c.if-not-is_written.false) (c.is_plain.ensures.plain.0 c.if-not-is_plain.false) (sym c.fits_node.ensures ∙ c.if-not-fits_node.false) c.units_left.ensures)
