-- What is found of a claim that stays open.
use Rattle.std.proofs.Common.{◌≡◌, ℕ, List, [], take, refl, sym, subst}
use Rattle.std.specs.Prelude.{IsTrue, Some}
use Rattle.std.specs.List.{Contains}
use Rattle.board_base.specs.Texts.{can_capture, can_promote}
use Rattle.board_base.specs.declared.moves.Move.{Move}
use Rattle.board_base.specs.declared.unmoves.Unmove.{Unmove}
use Rattle.query_base.specs.Asked.{Asked}
use Rattle.query_base.specs.Targets.{target}
use Rattle.query_base.specs.declared.claims.Claim.{Claim}
use Rattle.unmove_gen.specs.Listed.{unmoves}
use Rattle.line_claims.specs.Listing.{AreListed}
use Rattle.retro_search.specs.Unsettled.{StaysUnsettled}
use Rattle.claim_findings.specs.Decisions.{IsDecided}
use Rattle.claim_findings.specs.Ends.{IsCut}
use Rattle.claim_findings.specs.Findings.{IsFound}
use Rattle.claim_findings.specs.declared.findings.Finding.TheVariants.{Open}
use Rattle.claim_findings.proofs.OpenFronts.{front_texts, open_listed}

-- each retraction of the line is listed
pub stays_listed : (asked q : Asked) (claim : Claim) (most : ℕ) (line : List Unmove) → asked ≡ target q claim → StaysUnsettled line (target q claim) most → AreListed asked line
stays_listed asked q claim most line is stays = subst (λ (a : Asked). AreListed a line) (sym is) (open_listed (target q claim) most [] line stays.open_line)

-- what is told of the line
pub stays_told : (games : List (List Move)) → ((q : Asked) (u : Unmove) → Contains (unmoves q) u → IsTrue (can_promote u.mv.promo)) → ((q : Asked) (u : Unmove) → Contains (unmoves q) u → IsTrue (can_capture u.mv.promo u.captured u.ep)) → (asked q : Asked) (claim : Claim) (most nodes : ℕ) (line front : List Unmove) → asked ≡ target q claim → IsFound q claim most nodes Open → StaysUnsettled line (target q claim) most → ((number : ℕ) × IsCut asked line number × (front ≡ take number line)) → IsDecided q claim most nodes games (record { finding = Open; stuck = Some front })
stays_told games promotion capture asked q claim most nodes line front is found stays told = record {
  found = found;
  stuck = (refl, record { line = line; open_line = stays; number = told.0; cut = subst (λ (a : Asked). IsCut a line told.0) is told.1; front_is = told.2 });
  texts = front_texts promotion capture asked line front told.0 (stays_listed asked q claim most line is stays) told.2;
  countered = λ e. cc;
}
