use Rattle.std.proofs.Common.{◌≡◌, ◌++◌, [], ◌∷◌, List, ℕ, Some, sym, ap, ◌∙◌}
use Rattle.std.specs.Prelude.{codes}
use Rattle.board_base.specs.Texts.{move_text}
use Rattle.query_base.specs.declared.claims.Claim.{Claim}
use Rattle.query_base.specs.declared.claims.Claim.TheVariants.{Illegal, Last, Lost, Ep}
use Rattle.cert_text.specs.ClaimLines.{claim_of, claim_text, promotes_well}
use Rattle.cert_text.proofs.ClaimTexts.{illegal_back, last_back, lost_back, ep_back}
use Rattle.cert_text.proofs.claims.write_claim.Goals as goal
use Rattle.fen_text.specs.Fen.{castle_letter}

-- what was put behind a front, which was put into an empty text
behind : (before front out rest text : List ℕ) → before ≡ [] → front ≡ before ++ text → out ≡ front ++ rest → out ≡ text ++ rest
behind before front out rest text empty first last = last ∙ ap (λ (l : List ℕ). l ++ rest) (first ∙ ap (λ (l : List ℕ). l ++ text) empty)

read : (claim x : Claim) (text : List ℕ) → claim ≡ x → text ≡ claim_text x → claim_of (claim_text x) ≡ Some x → claim_of text ≡ Some claim
read claim x text is there back = ap claim_of there ∙ back ∙ sym (ap Some is)

pub returns-in-Illegal-clause-read : goal.returns-in-Illegal-clause-read
returns-in-Illegal-clause-read c = read c.args.claim.now Illegal _ c.in-Illegal.is (c.push_text.ensures.text ∙ ap (λ (l : List ℕ). l ++ codes "claim illegal") c.requires.empty) illegal_back

pub returns-in-Last-clause-read : goal.returns-in-Last-clause-read
returns-in-Last-clause-read c =
    read c.args.claim.now (Last c.in-Last.m) _ c.in-Last.is
    (behind c.args.out.now.items _ c.push_move.new.out.items (move_text c.in-Last.m) (codes "claim last ") c.requires.empty c.push_text-in-Last.ensures.text c.push_move.ensures.text) (last_back c.in-Last.m c.push_move.ensures.read)

pub returns-in-Lost-clause-read : goal.returns-in-Lost-clause-read
returns-in-Lost-clause-read c =
    read c.args.claim.now (Lost c.in-Lost.castle) _ c.in-Lost.is
    (behind c.args.out.now.items _ c.push.new.self.items (castle_letter c.in-Lost.castle ∷ []) (codes "claim lost ") c.requires.empty c.push_text-in-Lost.ensures.text (c.push.ensures.items ∙ ap (λ (n : ℕ). c.push_text-in-Lost.new.out.items ++ n ∷ []) c.castle_letter.ensures)) (lost_back c.in-Lost.castle)

pub returns-in-Ep-clause-read : goal.returns-in-Ep-clause-read
returns-in-Ep-clause-read c =
    read c.args.claim.now (Ep c.in-Ep.m) _ c.in-Ep.is
    (behind c.args.out.now.items _ c.push_move-in-Ep.new.out.items (move_text c.in-Ep.m) (codes "claim ep ") c.requires.empty c.push_text-in-Ep.ensures.text c.push_move-in-Ep.ensures.text) (ep_back c.in-Ep.m c.push_move-in-Ep.ensures.read (sym (ap promotes_well c.in-Ep.is) ∙ c.requires.promotion))
