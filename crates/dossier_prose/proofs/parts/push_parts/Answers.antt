use Rattle.std.proofs.Common.{◌≡◌, ◌<◌, ◌+◌, ◌++◌, [], ◌∷◌, ℕ, suc, List, refl, sym, ap, ◌∙◌, append_assoc, append-nil, drop, get_or, length, map, subst, arith}
use Rattle.std.proofs.lemmas.List.{drop_all, drop_more}
use Rattle.std.proofs.lemmas.List.Elements.{All-contains, Contains-get_or}
use Rattle.std.specs.List.{All, Contains}
use Rattle.general_lemmas.proofs.Lists.{contains-map}
use Rattle.std.specs.Prelude.{Option}
use Rattle.board_base.specs.declared.moves.Move.{Move}
use Rattle.query_base.specs.Asked.{Asked}
use Rattle.cert_checker.specs.Proving.{ProvesClaim}
use Rattle.cert_text.specs.SeenCert.{cert_of}
use Rattle.cert_text.specs.declared.certificates.Cert.{Cert}
use Rattle.line_claims.specs.declared.claims.LineClaim.{LineClaim}
use Rattle.dossier_prose.specs.Parts.{TellParts, TellsPart, named_by}
use Rattle.dossier_prose.proofs.parts.push_parts.Goals as goal

-- each certificate proves its claim
at_proves : (certs : List Cert) (i : ℕ) (cert : Cert) → i < length certs → cert ≡ get_or certs i cert → All ProvesClaim (map cert_of certs) → ProvesClaim (cert_of cert)
at_proves certs i cert inside is all =
    All-contains ProvesClaim (map cert_of certs) (cert_of cert) all (contains-map cert_of certs cert (subst (Contains certs) (sym is) (Contains-get_or certs i cert inside)))

-- one more part is told
one_more : (line : LineClaim) (q : Asked) (n i : ℕ) (named next_named : Option Move) (certs : List Cert) (cert : Cert) (part rest : List ℕ) → i < length certs → cert ≡ get_or certs i cert → next_named ≡ named_by named (cert_of cert).claim → TellsPart line q n (i + 1) named (cert_of cert) part → TellParts line q n (i + 1 + 1) next_named (map cert_of (drop (i + 1) certs)) rest → TellParts line q n (i + 1) named (map cert_of (drop i certs)) (part ++ rest)
one_more line q n i named next_named certs cert part rest inside is names here later =
    let next : drop i certs ≡ cert ∷ drop (i + 1) certs = drop_more certs i cert inside ∙ ap (λ (c : Cert). c ∷ drop (i + 1) certs) (sym is) in
    let one : i + 1 + 1 ≡ suc (i + 1) = omega arith in
    let named_later = subst (λ (m : Option Move). TellParts line q n (i + 1 + 1) m (map cert_of (drop (i + 1) certs)) rest) names later in
    subst (λ (l : List Cert). TellParts line q n (i + 1) named (map cert_of l) (part ++ rest)) (sym next)
    (part, rest, here, subst (λ (k : ℕ). TellParts line q n k (named_by named (cert_of cert).claim) (map cert_of (drop (i + 1) certs)) rest) one named_later, refl)

pub loop-i-init : goal.loop-i-init
loop-i-init c = λ rest told. (rest, told, refl)

pub push_part-requires : goal.push_part-requires
push_part-requires c = at_proves c.args.certs.now c.loop-i.i c.index-certs-i.result (omega arith) c.index-certs-i.is c.requires

pub loop-i-preserved : goal.loop-i-preserved
loop-i-preserved c = λ rest told.
    let part = c.in_ok-push_part.ensures in
    let whole = c.loop-i.invariant (part.0 ++ rest) (one_more c.args.line.now c.args.query.now (length c.args.certs.now) c.loop-i.i c.loop-i.named _ c.args.certs.now c.index-certs-i.result part.0 rest (omega arith) c.index-certs-i.is c.named_by-named.ensures part.1 told) in
    (whole.0, whole.1, ap (λ (l : List ℕ). l ++ rest) part.2 ∙ append_assoc c.loop-i.out.items part.0 rest ∙ whole.2)

pub returns : goal.returns
returns c =
    let none : drop c.loop-i.i c.args.certs.now ≡ [] = drop_all c.loop-i.i c.args.certs.now (omega arith) in
    let told : TellParts c.args.line.now c.args.query.now (length c.args.certs.now) (c.loop-i.i + 1) c.loop-i.named (map cert_of (drop c.loop-i.i c.args.certs.now)) [] =
    subst (λ (l : List Cert). TellParts c.args.line.now c.args.query.now (length c.args.certs.now) (c.loop-i.i + 1) c.loop-i.named (map cert_of l) []) (sym none) refl in
    let whole = c.loop-i.invariant [] told in
    (whole.0, whole.1, sym (append-nil c.loop-i.out.items) ∙ whole.2)
