-- What is found of a claim by searches and by games.
use Rattle.std.proofs.Common.{◌≡◌, ℕ, ◌⊎◌, inl, inr, true, false, List, ap, sym, subst, ◌∙◌}
use Rattle.std.specs.Prelude.{◌↔◌, None, Option}
use Rattle.std.specs.List.{Contains}
use Rattle.board_base.specs.declared.moves.Move.{Move}
use Rattle.board_base.specs.declared.unmoves.Unmove.{Unmove}
use Rattle.query_base.specs.Asked.{Asked}
use Rattle.query_base.specs.Reach.{Contradicts, Reaches}
use Rattle.query_base.specs.Targets.{target}
use Rattle.query_base.specs.declared.claims.Claim.{Claim}
use Rattle.retro_search.specs.SearchSizes.{IsLargeSearch}
use Rattle.claim_findings.specs.Decisions.{Grows, IsAgreed, IsDecided}
use Rattle.claim_findings.specs.SearchEnds.{IsReachedIn}
use Rattle.claim_findings.specs.Findings.{IsFound, is_proved}
use Rattle.claim_findings.specs.Games.{IsCounteredIn}
use Rattle.claim_findings.specs.declared.deciding.Decided.{Decided}
use Rattle.claim_findings.specs.declared.findings.Finding.{Finding}
use Rattle.claim_findings.specs.declared.findings.Finding.TheVariants.{Countered, Open}
use Rattle.claim_findings.proofs.Together.{proved_holds}

-- there are more games, or as many
pub grown_none : (old new : List (List Move)) → new ≡ old → Grows old new
grown_none old new same = record { keeps = λ g there. subst (λ (l : List (List Move)). Contains l g) (sym same) there }

pub grown_on : {a b c : List (List Move)} → Grows a b → Grows b c → Grows a c
grown_on first second = record { keeps = λ g there. second.keeps g (first.keeps g there) }

pub countered_grown : (a b : List (List Move)) (claim : Claim) (q : Asked) → Grows a b → IsCounteredIn a claim q → IsCounteredIn b claim q
countered_grown a b claim q grows one = (one.0, grows.keeps one.0 one.1, one.2)

pub decided_grown : (q : Asked) (claim : Claim) (most nodes : ℕ) (a b : List (List Move)) (d : Decided) → Grows a b → IsDecided q claim most nodes a d → IsDecided q claim most nodes b d
decided_grown q claim most nodes a b d grows is =
    record { found = is.found; stuck = is.stuck; texts = is.texts; countered = λ e. countered_grown a b claim q grows (is.countered e) }

-- a game that reaches the target contradicts the claim
pub against : (q asked : Asked) (claim : Claim) (games : List (List Move)) → ((g : List Move) → Reaches g asked ↔ Contradicts g claim q) → IsReachedIn games asked → IsCounteredIn games claim q
against q asked claim games law one = (one.0, one.1, (law one.0).0 one.2)

plain_is : (d : Decided) (finding : Finding) → d.finding ≡ finding → d.stuck ≡ None → d ≡ record { finding = finding; stuck = None }
plain_is d finding found none =
    ap (λ (f : Finding). let e : Decided = record { finding = f; stuck = d.stuck } in e) found ∙ ap (λ (s : Option (List Unmove)). let e : Decided = record { finding = finding; stuck = s } in e) none

-- what is found where nothing is told of an open line
pub plainly : (q : Asked) (claim : Claim) (most nodes : ℕ) (games : List (List Move)) (finding : Finding) (d : Decided) → d.finding ≡ finding → d.stuck ≡ None → IsFound q claim most nodes finding → (finding ≡ Open → IsLargeSearch (target q claim) most nodes) → (finding ≡ Countered → IsCounteredIn games claim q) → IsDecided q claim most nodes games d
plainly q claim most nodes games finding d is none found large countered =
    subst (IsDecided q claim most nodes games) (sym (plain_is d finding is none)) (record { found = found; stuck = large; texts = tt; countered = countered })

pub plainly_countered : (q : Asked) (claim : Claim) (most nodes : ℕ) (games : List (List Move)) (d : Decided) → d.finding ≡ Countered → d.stuck ≡ None → IsCounteredIn games claim q → IsDecided q claim most nodes games d
plainly_countered q claim most nodes games d is none one = plainly q claim most nodes games Countered d is none (one.0, one.2) (λ e. cc) (λ e. one)

pub countered_unproved : (finding : Finding) → finding ≡ Countered → is_proved finding ≡ false
countered_unproved finding is = ap is_proved is

-- by these games too
pub agreed_countered : (q asked : Asked) (claim : Claim) (games : List (List Move)) (d : Decided) → ((g : List Move) → Reaches g asked ↔ Contradicts g claim q) → IsReachedIn games asked → d.finding ≡ Countered → d.stuck ≡ None → (most nodes : ℕ) → IsAgreed q claim most nodes games d
agreed_countered q asked claim games d law one is none most nodes =
    let countered = against q asked claim games law one in
    record { decided = plainly_countered q claim most nodes games d is none countered; agrees = (λ e. countered, λ e. is) }

pub agreed_else : (q asked : Asked) (claim : Claim) (games : List (List Move)) (d : Decided) → ((g : List Move) → Reaches g asked ↔ Contradicts g claim q) → (is_proved d.finding ≡ true) ⊎ (IsReachedIn games asked → ⊥) → (most nodes : ℕ) → IsDecided q claim most nodes games d → IsAgreed q claim most nodes games d
agreed_else q asked claim games d law which most nodes is = record {
  decided = is;
  agrees = (
    is.countered,
    λ one. absurd (elim which [
      | inl proved ↦ proved_holds q claim most nodes d.finding is.found proved one.0 one.2
      | inr none ↦ none (one.0, one.1, (law one.0).1 one.2)
    ]),
  );
}
