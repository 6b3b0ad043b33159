-- A head that is read from its first line on.
use Rattle.std.proofs.Common.{◌≡◌, ℕ, true, false, List, [], ◌∷◌, ◌++◌, Option, Some, None, refl, sym, ap, ◌∙◌, subst, append_assoc}
use Rattle.std.specs.Prelude.{MatchOption}
use Rattle.std.specs.List.{concat}
use Rattle.std.specs.Option.{option_and_then}
use Rattle.std.specs.Str.{bytes_eq}
use Rattle.std.proofs.lemmas.Bool.{cond-false, cond-true}
use Rattle.std.proofs.lemmas.List.Folds.{concat-append}
use Rattle.std.proofs.lemmas.Option.{option_and_then_some}
use Rattle.std.proofs.lemmas.Slice.Eq.{bytes_eq-Decides}
use Rattle.general_lemmas.proofs.Options.{when}
use Rattle.query_base.specs.Asked.{Asked}
use Rattle.cert_text.specs.Certificate.{Lines}
use Rattle.cert_text.specs.Lines.{cut, said}
use Rattle.cert_text.specs.QueryReading.{query_first}
use Rattle.cert_text.proofs.CertTexts.{concat_cut}
use Rattle.cert_text.proofs.QueryReads.{query_goes, query_read_first}
use Rattle.cert_text.proofs.TreeTexts.{cut_back}
use Rattle.line_claims.specs.Lines.{line_claim_of}
use Rattle.line_claims.specs.declared.claims.LineClaim.{LineClaim}
use Rattle.dossier_text.specs.Dossiers.{AreHeadLines, BeginsWithHead, HasNoHead, IsHead, format_line}
use Rattle.dossier_text.specs.declared.heads.DossierHead.{DossierHead}
use Rattle.dossier_text.specs.HeadReading.{claim_first, claimed_of, head_first}
use Rattle.dossier_text.proofs.HeadTexts.{cut_head, head_is, head_lines, head_wholly}
use Rattle.board_base.proofs.TextLemmas.{mapped_some}

-- a head that begins lines is read

claim_goes : (line : List ℕ) (claim : LineClaim) (q : Asked) (lines rest : Lines) → said line_claim_of line ≡ Some claim → query_first lines ≡ Some (q, rest) → claim_first (line ∷ lines) ≡ Some (claim, q, rest)
claim_goes line claim q lines rest e query =
    ap (λ (o : Option LineClaim). option_and_then (λ claim. claimed_of claim (query_first lines)) o) e ∙ ap (λ (o : Option (Asked × Lines)). claimed_of claim o) query

lines_go : (lines rest : Lines) (claim : LineClaim) (q : Asked) → AreHeadLines lines claim q → head_first (lines ++ rest) ≡ Some (claim, q, rest)
lines_go lines rest claim q h =
    let demands : Lines = h.odds_lines ++ h.clock_lines in
    let below : (demands ++ h.fen_line ∷ []) ++ rest ≡ h.odds_lines ++ (h.clock_lines ++ h.fen_line ∷ rest) = append_assoc demands (h.fen_line ∷ []) rest ∙ append_assoc h.odds_lines h.clock_lines (h.fen_line ∷ rest) in
    let query : query_first ((demands ++ h.fen_line ∷ []) ++ rest) ≡ Some (q, rest) = ap query_first below ∙ query_goes h.odds_lines h.clock_lines q h.fen_line rest h.odds_are h.clock_is h.query_is in
    ap (λ (ls : Lines). head_first (ls ++ rest)) h.parts ∙ claim_goes h.claim_line claim q ((demands ++ h.fen_line ∷ []) ++ rest) rest h.claim_is query

pub head_goes : (head rest : List ℕ) (claim : LineClaim) (q : Asked) → IsHead head claim q → head_first (cut (head ++ rest)) ≡ Some (claim, q, cut rest)
head_goes head rest claim q h = ap head_first (cut_head head rest claim q h) ∙ lines_go (cut head) (cut rest) claim q h

-- what is read is a head that begins the lines

-- lines that begin with a head
record HeadLines (lines : Lines) (claim : LineClaim) (q : Asked) (rest : Lines) : Type 0 where
  front : Lines
  parts : lines ≡ front ++ rest
  are : AreHeadLines front claim q

below_claim : (line : List ℕ) (lines : Lines) (claim : LineClaim) (q : Asked) (rest : Lines) → said line_claim_of line ≡ Some claim → query_first lines ≡ Some (q, rest) → HeadLines (format_line ∷ line ∷ lines) claim q rest
below_claim line lines claim q rest claimed e =
    let k = query_read_first lines q rest e in
    record {
      front = format_line ∷ line ∷ ((k.odds_lines ++ k.clock_lines) ++ k.fen_line ∷ []);
      parts = ap (λ (ls : Lines). format_line ∷ line ∷ ls) k.parts;
      are = record {
        claim_line = line;
        odds_lines = k.odds_lines;
        clock_lines = k.clock_lines;
        fen_line = k.fen_line;
        parts = refl;
        claim_is = claimed;
        odds_are = k.odds_are;
        clock_is = k.clock_is;
        query_is = k.query_is;
      };
    }

below_format : (lines : Lines) (claim : LineClaim) (q : Asked) (rest : Lines) → claim_first lines ≡ Some (claim, q, rest) → HeadLines (format_line ∷ lines) claim q rest
below_format [] claim q rest e = absurd cc
below_format (line ∷ lines) claim q rest e =
    option_and_then_some (λ claim. claimed_of claim (query_first lines)) (said line_claim_of line) (claim, q, rest) e (λ c claimed more.
    let m = mapped_some (λ (p : Asked × Lines). (c, p.0, p.1)) (query_first lines) (claim, q, rest) more in
    let same : c ≡ claim = ap (λ (p : LineClaim × Asked × Lines). p.0) m.2 in
    let query : m.0 ≡ (q, rest) = ap (λ (p : LineClaim × Asked × Lines). (p.1, p.2)) m.2 in
    below_claim line lines claim q rest (claimed ∙ ap (λ (x : LineClaim). Some x) same) (m.1 ∙ ap (λ (p : Asked × Lines). Some p) query))

lines_of : (lines : Lines) (claim : LineClaim) (q : Asked) (rest : Lines) → head_first lines ≡ Some (claim, q, rest) → HeadLines lines claim q rest
lines_of [] claim q rest e = absurd cc
lines_of (line ∷ lines) claim q rest e =
    let parts = when (bytes_eq line format_line) (claim_first lines) (claim, q, rest) e in
    subst (λ (l : List ℕ). HeadLines (l ∷ lines) claim q rest) (sym ((bytes_eq-Decides line format_line).0 parts.0)) (below_format lines claim q rest parts.1)

-- as bytes
pub head_read : (bytes : List ℕ) (claim : LineClaim) (q : Asked) (rest : List ℕ) → head_first (cut bytes) ≡ Some (claim, q, cut rest) → BeginsWithHead bytes claim q rest
head_read bytes claim q rest e =
    let h = lines_of (cut bytes) claim q (cut rest) e in
    let written : h.front ≡ head_lines claim q = head_is h.front claim q h.are in
    let again : cut (concat h.front) ≡ h.front = ap (λ (ls : Lines). cut (concat ls)) written ∙ cut_back (head_lines claim q) (head_wholly h.front claim q h.are) ∙ sym written in
    record {
      head = concat h.front;
      parts = sym (concat_cut bytes) ∙ ap concat h.parts ∙ concat-append h.front (cut rest) ∙ ap (λ (l : List ℕ). concat h.front ++ l) (concat_cut rest);
      heading = subst (λ (ls : Lines). AreHeadLines ls claim q) (sym again) h.are;
    }

pub nothing_read : (bytes : List ℕ) → head_first (cut bytes) ≡ None → HasNoHead bytes
nothing_read bytes none = λ head rest claim q whole h.
    let read : ◌≡◌ {A = Option (LineClaim × Asked × Lines)} (Some (claim, q, cut rest)) None = sym (head_goes head rest claim q h) ∙ ap (λ (l : List ℕ). head_first (cut l)) (sym whole) ∙ none in
    absurd cc

pub no_lines : (bytes : List ℕ) → cut bytes ≡ [] → HasNoHead bytes
no_lines bytes none = nothing_read bytes (ap head_first none)

pub other_format : (bytes line : List ℕ) (after : Lines) → cut bytes ≡ line ∷ after → bytes_eq line format_line ≡ false → HasNoHead bytes
other_format bytes line after first other = nothing_read bytes (ap head_first first ∙ cond-false (bytes_eq line format_line) (claim_first after) None other)

-- what the lines behind the first say, where the first of them is a claim's
pub claimed : (lines : Lines) (line : List ℕ) (after : Lines) (claim : LineClaim) (query : Asked) (rest : Lines) → lines ≡ line ∷ after → said line_claim_of line ≡ Some claim → query_first after ≡ Some (query, rest) → claim_first lines ≡ Some (claim, query, rest)
claimed lines line after claim query rest first e read = ap claim_first first ∙ claim_goes line claim query after rest e read

pub no_query : (lines : Lines) (line : List ℕ) (after : Lines) (claim : LineClaim) → lines ≡ line ∷ after → said line_claim_of line ≡ Some claim → query_first after ≡ None → claim_first lines ≡ None
no_query lines line after claim first e none =
    ap claim_first first ∙ ap (λ (o : Option LineClaim). option_and_then (λ claim. claimed_of claim (query_first after)) o) e ∙ ap (λ (o : Option (Asked × Lines)). claimed_of claim o) none

behind_format : (line : List ℕ) (lines : Lines) → bytes_eq line format_line ≡ true → head_first (line ∷ lines) ≡ claim_first lines
behind_format line lines is = cond-true (bytes_eq line format_line) (claim_first lines) None is

pub answered : (bytes line : List ℕ) (after : Lines) (o : Option DossierHead) → cut bytes ≡ line ∷ after → bytes_eq line format_line ≡ true → MatchOption o (claim_first after ≡ None) (λ h. claim_first after ≡ Some (h.claim, h.query, cut h.rest.now)) → MatchOption o (HasNoHead bytes) (λ h. BeginsWithHead bytes h.claim h.query h.rest.now)
answered bytes line after None first is e = nothing_read bytes (ap head_first first ∙ behind_format line after is ∙ e)
answered bytes line after (Some h) first is e = head_read bytes h.claim h.query h.rest.now (ap head_first first ∙ behind_format line after is ∙ e)
