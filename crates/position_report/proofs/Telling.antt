-- What is told one after another.
use Rattle.std.proofs.Common.{◌≡◌, ℕ, ◌+◌, ◌≤◌, List, [], ◌∷◌, ◌++◌, length, get_or, drop, refl, sym, subst, inl, inr, arith}
use Rattle.std.specs.Prelude.{MatchOption, Option, Some, None, is_some}
use Rattle.std.proofs.lemmas.Bool.{cases_lt}
use Rattle.std.specs.List.{Contains}
use Rattle.general_lemmas.proofs.Lists.{contains-cases, contains-first, contains-later, contains-none}
use Rattle.board_base.specs.declared.moves.Move.{Move}
use Rattle.query_base.specs.Asked.{Asked}
use Rattle.query_base.specs.Targets.{target}
use Rattle.prose_words.proofs.Squares.{thence}
use Rattle.proof_story.specs.Rows.{rows_of}
use Rattle.san_text.specs.FromArray.{Tells}
use Rattle.cert_text.specs.Certificate.{Certificate}
use Rattle.cert_text.specs.SeenCert.{cert_of}
use Rattle.cert_text.specs.declared.certificates.Cert.{Cert}
use Rattle.claim_search.specs.Answers.{IsProofOf, IsProved}
use Rattle.claim_search.specs.Plain.{HasPlainSketch}
use Rattle.claim_search.specs.Found.{Found as Answer}
use Rattle.claim_search.specs.Found.TheVariants as answer
use Rattle.claim_search.specs.Settlements.{IsSettlement}
use Rattle.position_report.specs.Lengths.{LeadsHere, ShowsGame, TellsGame, game_words}
use Rattle.position_report.specs.Proofs.{IsUntold, TellsCertificate, TellsProof, TellsProofs, aim_text, check_text, title_text}
use Rattle.position_report.specs.declared.shown.Shown.{Shown}
use Rattle.position_report.proofs.Joining.{first-others, first-rest, others_of}

-- no game is among none
pub no-game : (q : Asked) (whose : List ℕ) → TellsGame q whose [] []
no-game q whose = record {
  told = λ g among here. absurd (contains-none g among);
  untold = λ none. refl;
}

-- the first game leads here, and is shown
pub first-game : (q : Asked) (whose : List ℕ) (g : List Move) (gs : List (List Move)) (text : List ℕ) → LeadsHere g q → ((among : Contains (g ∷ gs) g) → ShowsGame q whose (g ∷ gs) text) → TellsGame q whose (g ∷ gs) text
first-game q whose g gs text here shows = record {
  told = λ h among there. shows (contains-first g gs);
  untold = λ none. absurd (none g (contains-first g gs) here);
}

more-games : (q : Asked) (whose : List ℕ) (g : List Move) (gs : List (List Move)) (text : List ℕ) → ShowsGame q whose gs text → ShowsGame q whose (g ∷ gs) text
more-games q whose g gs text shows = record {
  game = shows.game;
  among = contains-later g gs shows.game shows.among;
  here = shows.here;
  own = shows.own;
  told = shows.told;
  text_is = shows.text_is;
}

-- it doesn't, and the others are looked at
pub later-game : (q : Asked) (whose : List ℕ) (g : List Move) (gs : List (List Move)) (text : List ℕ) → (LeadsHere g q → ⊥) → TellsGame q whose gs text → TellsGame q whose (g ∷ gs) text
later-game q whose g gs text elsewhere tells = record {
  told = λ h among here. elim (contains-cases g gs h among) [
    | inl same ↦ absurd (elsewhere (subst (λ (m : List Move). LeadsHere m q) (sym same) here))
    | inr later ↦ more-games q whose g gs text (tells.told h later here)
  ];
  untold = λ none. tells.untold (λ h later here. none h (contains-later g gs h later) here);
}

-- what a search that settles a claim comes to, by whether it is a certificate
pub settled-by : (depth nodes : ℕ) (s : Shown) (a : Answer) (found : Option Cert) → IsSettlement depth nodes s.claim s.query a → (HasPlainSketch (target s.query s.claim) → IsProved a) → MatchOption found (IsProved a → ⊥) (λ cert. a ≡ answer.Proved cert) → MatchOption found (IsUntold depth nodes s) (λ cert. IsProofOf depth (cert_of cert) s.claim s.query)
settled-by depth nodes s a None settlement sketched unproved = record {
  dear = λ k n low refutable cost. elim (cases_lt nodes n) [ inl dear ↦ dear | inr cheap ↦ absurd (unproved (settlement.never_weaker k n low refutable cost (omega (arith, cheap)))) ];
  unpriced = λ some flat. unproved (settlement.priced some flat);
  unsketched = λ plain. unproved (sketched plain);
}
settled-by depth nodes s a (Some cert) settlement sketched is =
    let there : IsSettlement depth nodes s.claim s.query (answer.Proved cert) = subst (IsSettlement depth nodes s.claim s.query) is settlement in
    there.proved

-- a proof that is told: its number, what it is for, its text and how to check it
pub proof-told : (depth nodes number : ℕ) (s : Shown) (cert : Certificate) (o p m r new own : List ℕ) → IsProofOf depth cert s.claim s.query → TellsCertificate (is_some s.pair) cert own → p ≡ o ++ title_text number → m ≡ p ++ aim_text s.query s.pair → r ≡ m ++ own → new ≡ r ++ check_text depth nodes s → (text : List ℕ) × TellsProof depth nodes number s text × (new ≡ o ++ text)
proof-told depth nodes number s cert o p m r new own proof told titled aimed said checked =
    let title : List ℕ = title_text number in
    let aim : List ℕ = aim_text s.query s.pair in
    let last : List ℕ = check_text depth nodes s in (
      ((title ++ aim) ++ own) ++ last,
      record { cert = cert; proof = proof; own = own; told = told; text_is = refl },
      thence o r new ((title ++ aim) ++ own) last (thence o m r (title ++ aim) own (thence o p m title aim titled aimed) said) checked,
    )

-- the first proof is told, and then the others
pub proofs-first : (depth nodes number : ℕ) (all : List Shown) (s : Shown) (o p r : List ℕ) → 1 ≤ length all → s ≡ get_or all 0 s → (own : List ℕ) × TellsProof depth nodes number s own × (p ≡ o ++ own) → (own : List ℕ) × TellsProofs depth nodes (number + 1) (others_of all) own × (r ≡ p ++ own) → (own : List ℕ) × TellsProofs depth nodes number all own × (r ≡ o ++ own)
proofs-first depth nodes number all s o p r some is (own, told, first) (others, behind, last) = (
  own ++ others,
  subst (λ (l : List Shown). TellsProofs depth nodes number l (own ++ others)) (first-others all s some is) (inl (own, others, told, behind, refl)),
  thence o p r own others first last,
)

-- it is left out, and the others are told
pub proofs-later : (depth nodes number : ℕ) (all : List Shown) (s : Shown) (o r : List ℕ) → 1 ≤ length all → s ≡ get_or all 0 s → IsUntold depth nodes s → (own : List ℕ) × TellsProofs depth nodes number (others_of all) own × (r ≡ o ++ own) → (own : List ℕ) × TellsProofs depth nodes number all own × (r ≡ o ++ own)
proofs-later depth nodes number all s o r some is untold (others, behind, last) = (
  others,
  subst (λ (l : List Shown). TellsProofs depth nodes number l others) (first-others all s some is) (inr (untold, behind)),
  last,
)

-- the first of some games doesn't lead here, and the others are told
pub games-later : (q : Asked) (whose : List ℕ) (games : List (List Move)) (g : List Move) (o r : List ℕ) → 1 ≤ length games → g ≡ get_or games 0 g → (LeadsHere g q → ⊥) → (own : List ℕ) × TellsGame q whose (drop 1 games) own × (r ≡ o ++ own) → (own : List ℕ) × TellsGame q whose games own × (r ≡ o ++ own)
games-later q whose games g o r some is elsewhere (own, told, e) =
    (own, subst (λ (gs : List (List Move)). TellsGame q whose gs own) (first-rest games g some is) (later-game q whose g (drop 1 games) own elsewhere told), e)

-- it does, and is told
pub games-first : (q : Asked) (whose : List ℕ) (games : List (List Move)) (g : List Move) (text o r : List ℕ) → 1 ≤ length games → g ≡ get_or games 0 g → LeadsHere g q → Tells q.odds text g → r ≡ o ++ rows_of (game_words whose text) → (own : List ℕ) × TellsGame q whose games own × (r ≡ o ++ own)
games-first q whose games g text o r some is here told e =
    let first : TellsGame q whose (g ∷ drop 1 games) (rows_of (game_words whose text)) =
    first-game q whose g (drop 1 games) (rows_of (game_words whose text)) here (λ among. record { game = g; among = among; here = here; own = text; told = told; text_is = refl }) in
    (rows_of (game_words whose text), subst (λ (gs : List (List Move)). TellsGame q whose gs (rows_of (game_words whose text))) (first-rest games g some is) first, e)
