use Rattle.std.proofs.Common.{◌++◌, ℕ, List, sym, ap, ◌∙◌, map, subst}
use Rattle.std.proofs.lemmas.List.{length-map}
use Rattle.std.specs.Prelude.{None}
use Rattle.std.specs.List.{All}
use Rattle.cert_checker.specs.Proving.{ProvesClaim}
use Rattle.cert_text.specs.SeenCert.{cert_of}
use Rattle.cert_text.specs.declared.certificates.Cert.{Cert}
use Rattle.dossier_prose.specs.Claims.{closing_text, opening_text}
use Rattle.dossier_prose.specs.Parts.{TellParts}
use Rattle.dossier_prose.proofs.dossiers.explain_dossier.Goals as goal

pub push_parts-requires : goal.push_parts-requires
push_parts-requires c = subst (λ (l : List Cert). All ProvesClaim (map cert_of l)) (sym c.as_slice.ensures.value) c.requires.proves

pub returns : goal.returns
returns c =
    let told = rw c.as_slice.ensures.value at c.in_ok-push_parts.ensures in
    let claim = c.args.line.now.claim in
    let q = c.args.line.now.query in
    record {
      middle = told.0;
      parts = subst (λ (n : ℕ). TellParts claim q n 1 None (map cert_of c.args.line.now.proofs.items) told.0) (sym (length-map c.args.line.now.proofs.items cert_of)) told.1;
      whole =
          c.in_ok-push_closing.ensures
          ∙ ap (λ (l : List ℕ). l ++ closing_text claim q) (told.2 ∙ ap (λ (l : List ℕ). l ++ told.0) (c.in_ok-push_opening.ensures ∙ ap (λ (l : List ℕ). l ++ opening_text claim q) c.new-out.ensures.items));
    }
