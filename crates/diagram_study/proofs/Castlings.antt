-- What is found of two castlings together.
use Rattle.std.proofs.Common.{◌≡◌, ℕ, Bool, false, List, [], ◌∷◌, map, refl, ap, ◌∙◌, subst}
use Rattle.std.specs.Prelude.{IsTrue}
use Rattle.std.specs.List.{All, filter}
use Rattle.std.proofs.lemmas.List.Elements.{All-cons, All-filter, All-head, All-nil, All-same, All-tail}
use Rattle.board_base.specs.Rights.{Rights, holds, no_rights, with_castling}
use Rattle.board_base.specs.declared.castles.Castle.{Castle}
use Rattle.board_base.specs.declared.castles.Castle.TheVariants.{WhiteShort, WhiteLong, BlackShort, BlackLong}
use Rattle.board_base.specs.declared.moves.Move.{Move}
use Rattle.query_base.specs.Asked.{Asked}
use Rattle.query_base.specs.Reach.{Holds, Reaches}
use Rattle.query_base.specs.declared.claims.Claim.{Claim}
use Rattle.query_base.specs.declared.claims.Claim.TheVariants.{Illegal}
use Rattle.line_claims.specs.Due.{with_both}
use Rattle.line_claims.specs.Lines.{in_order}
use Rattle.line_claims.specs.declared.claims.LineClaim.TheVariants.{NotBoth}
use Rattle.diagram_study.specs.Decisions.{IsPairAgreed}
use Rattle.claim_findings.specs.Findings.{IsContradicted, IsFound}
use Rattle.claim_findings.specs.Joined.{IsLineContradicted}
use Rattle.diagram_study.specs.Pairs.{IsPairFound, are_both_in, castle_pairs, pair_of}
use Rattle.diagram_study.specs.declared.pairs.PairFound.{PairFound}
use Rattle.claim_findings.proofs.Together.{PartsMakeLines, proved_holds}

-- a set without any castling
pub holds-none : (set : Rights) → ((x : Castle) → holds set x ≡ false) → set ≡ no_rights
holds-none set none =
    ap (λ (b : Bool). let s : Rights = record { white_short = b; white_long = set.white_long; black_short = set.black_short; black_long = set.black_long } in s) (none WhiteShort)
    ∙ ap (λ (b : Bool). let s : Rights = record { white_short = false; white_long = b; black_short = set.black_short; black_long = set.black_long } in s) (none WhiteLong)
    ∙ ap (λ (b : Bool). let s : Rights = record { white_short = false; white_long = false; black_short = b; black_long = set.black_long } in s) (none BlackShort)
    ∙ ap (λ (b : Bool). let s : Rights = record { white_short = false; white_long = false; black_short = false; black_long = b } in s) (none BlackLong)

-- a castling that is added is held, and so is what was held
added : (s : Rights) (x : Castle) → IsTrue (holds (with_castling s x) x)
added s WhiteShort = refl
added s WhiteLong = refl
added s BlackShort = refl
added s BlackLong = refl

kept : (s : Rights) (x y : Castle) → IsTrue (holds s y) → IsTrue (holds (with_castling s x) y)
kept s WhiteShort WhiteShort held = refl
kept s WhiteShort WhiteLong held = held
kept s WhiteShort BlackShort held = held
kept s WhiteShort BlackLong held = held
kept s WhiteLong WhiteShort held = held
kept s WhiteLong WhiteLong held = refl
kept s WhiteLong BlackShort held = held
kept s WhiteLong BlackLong held = held
kept s BlackShort WhiteShort held = held
kept s BlackShort WhiteLong held = held
kept s BlackShort BlackShort held = refl
kept s BlackShort BlackLong held = held
kept s BlackLong WhiteShort held = held
kept s BlackLong WhiteLong held = held
kept s BlackLong BlackShort held = held
kept s BlackLong BlackLong held = refl

-- a game that reaches the query with both held leaves both unmoved
both_kept : (q : Asked) (x y : Castle) → IsContradicted Illegal (with_both q x y) → IsLineContradicted (NotBoth x y) q
both_kept q x y (g, r) =
    let here : Reaches g q = record { odds = r.odds; game = r.game; board = r.board; turn = r.turn; held = λ z held. r.held z (kept (with_castling q.held x) y z (kept q.held x z held)); only = r.only; barred = r.barred; clock = r.clock } in
    (g, here, r.held x (kept (with_castling q.held x) y x (added q.held x)), r.held y (added (with_castling q.held x) y))

-- what was found of two castlings by searches and by games
pub pair_agreed : PartsMakeLines → (q : Asked) (most nodes : ℕ) (games : List (List Move)) (f : PairFound) → IsPairAgreed q most nodes games f → IsPairFound q most nodes games f
pair_agreed law q most nodes games f is =
    let d = is.agreed.decided in
    record {
      found = d.found;
      agrees = is.agreed.agrees;
      holds = λ proved. law (NotBoth f.first f.second) q (All-cons (λ (part : Claim × Asked). Holds part.0 part.1) (Illegal, with_both q f.first f.second) [] (proved_holds (with_both q f.first f.second) Illegal most nodes f.finding d.found proved) (All-nil (λ (part : Claim × Asked). Holds part.0 part.1)));
      countered = λ e. both_kept q f.first f.second (subst (IsFound (with_both q f.first f.second) Illegal most nodes) e d.found);
      stuck = d.stuck;
    }

-- each two castlings that are told of stand in order
abbrev IsOrdered : Castle × Castle → Type 0
IsOrdered pair = IsTrue (in_order pair.0 pair.1)

all_ordered : All IsOrdered castle_pairs
all_ordered =
    let last : List (Castle × Castle) = (BlackShort, BlackLong) ∷ [] in
    let two : List (Castle × Castle) = (WhiteLong, BlackLong) ∷ last in
    let three : List (Castle × Castle) = (WhiteLong, BlackShort) ∷ two in
    let four : List (Castle × Castle) = (WhiteShort, BlackLong) ∷ three in
    let five : List (Castle × Castle) = (WhiteShort, BlackShort) ∷ four in
    All-cons IsOrdered (WhiteShort, WhiteLong) five refl
    (All-cons IsOrdered (WhiteShort, BlackShort) four refl
    (All-cons IsOrdered (WhiteShort, BlackLong) three refl (All-cons IsOrdered (WhiteLong, BlackShort) two refl (All-cons IsOrdered (WhiteLong, BlackLong) last refl (All-cons IsOrdered (BlackShort, BlackLong) [] refl (All-nil IsOrdered))))))

unmapped : (found : List PairFound) → All IsOrdered (map pair_of found) → All (λ f. IsTrue (in_order f.first f.second)) found
unmapped [] all = All-nil (λ f. IsTrue (in_order f.first f.second))
unmapped (f ∷ found) all =
    All-cons (λ g. IsTrue (in_order g.first g.second)) f found (All-head IsOrdered (pair_of f) (map pair_of found) all) (unmapped found (All-tail IsOrdered (pair_of f) (map pair_of found) all))

pub pairs_ordered : (kept : Rights) (found : List PairFound) → map pair_of found ≡ filter (are_both_in kept) castle_pairs → All (λ f. IsTrue (in_order f.first f.second)) found
pairs_ordered kept found are = unmapped found (All-same IsOrdered _ _ are (All-filter (are_both_in kept) IsOrdered castle_pairs all_ordered))
