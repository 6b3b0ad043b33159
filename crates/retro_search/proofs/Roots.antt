-- What the search of a target says of a claim.
use Rattle.std.proofs.Common.{◌≡◌, ℕ, ◌≤◌, [], refl, arith}
use Rattle.std.specs.Prelude.{IfOk, IsTrue, None, Result, Ok, Err}
use Rattle.std.proofs.lemmas.Bool.{and_from}
use Rattle.query_base.specs.Asked.{Asked}
use Rattle.query_base.specs.Reach.{Holds}
use Rattle.query_base.specs.Targets.{target}
use Rattle.query_base.specs.declared.claims.Claim.{Claim}
use Rattle.cert_text.specs.Tree.{Tree}
use Rattle.cert_text.specs.Certificate.{Certificate, HasText}
use Rattle.cert_text.specs.ClaimLines.{promotes_well}
use Rattle.cert_text.specs.Writable.{stays_on_board, IsQuery}
use Rattle.cert_text.proofs.CertTexts as texts
use Rattle.sketch_findings.proofs.Contradicted.{contradiction-reaches}
use Rattle.sketch_findings.proofs.Sound.{sound}
use Rattle.retro_search.specs.Refutable.{IsRefutable}
use Rattle.retro_search.specs.RuleLines.{IsByRuleLines}
use Rattle.retro_search.specs.Searched.{Refutes}
use Rattle.retro_search.specs.LineCounts.{lines_in}
use Rattle.retro_search.specs.Sizes.{nodes_in}
use Rattle.retro_search.specs.SketchTexts.{HasSketchTexts}
use Rattle.retro_search.specs.Answers.{IsProofOf}
use Rattle.retro_search.proofs.Trees.Fitting.{tree_fits}
use Rattle.retro_search.proofs.Trees.LineCounts.{nodes_few, units_few}
use Rattle.retro_search.proofs.Trees.Heights.{refutable_by}

-- the certificate of this tree
abbrev pub certified : Claim → Asked → Tree → Certificate
certified claim q t = record { claim = claim; query = q; root = t }

pub proof_of : (t : Tree) (claim : Claim) (q : Asked) (depth : ℕ) → Refutes t (target q claim) depth [] → nodes_in t ≤ 500000 → IsProofOf depth (certified claim q t) claim q
proof_of t claim q depth r few = record { claim_is = refl; query_is = refl; proves = r.proves; low = r.low; few = few }

pub refutable_root : (t : Tree) (q : Asked) (depth : ℕ) → Refutes t q depth [] → IsByRuleLines t → IsRefutable q depth []
refutable_root t q depth r lined = refutable_by t q depth [] r.proves lined r.low

pub written : (t : Tree) (claim : Claim) (q : Asked) (depth : ℕ) → IsQuery q → IsTrue (stays_on_board claim) → IsTrue (promotes_well claim) → q.barred ≡ None → depth ≤ 64 → lines_in t ≤ 500000 → HasSketchTexts t → Refutes t (target q claim) depth [] → HasText (certified claim q t)
written t claim q depth known on_board well plain shallow few sketches r =
    texts.has_text (certified claim q t) known (record {
      claim = and_from (stays_on_board claim) (promotes_well claim) on_board well;
      plain = plain;
      root = tree_fits t (target q claim) [] 0 r.proves refl (omega (arith, r.low)) (omega (arith, nodes_few t)) sketches;
      few = omega (arith, units_few t);
    })

-- no game contradicts the claim
pub held : (t : Tree) (claim : Claim) (q : Asked) (depth : ℕ) → Refutes t (target q claim) depth [] → Holds claim q
held t claim q depth r g contradicts = sound t (target q claim) r.proves g (contradiction-reaches g claim q contradicts)

pub if_ok : {A E : Type 0} (r : Result A E) (P Q : A → Type 0) → ((a : A) → P a → Q a) → IfOk r P → IfOk r Q
if_ok {A} {E} (Ok a) P Q f h = f a h
if_ok {A} {E} (Err e) P Q f h = h
